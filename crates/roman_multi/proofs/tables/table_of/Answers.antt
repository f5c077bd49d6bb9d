use Rattle.roman_multi.proofs.Common.{sym, subst, IsTrue, is_name}
use Rattle.roman_multi.proofs.TableLemmas.{read_is_name, made_name}
use Rattle.roman_multi.proofs.tables.table_of.Goals as goal

pub unwrap-name-requires : goal.unwrap-name-requires
unwrap-name-requires c =
    made_name c.new.result c.deref.result.now c.new.ensures.name (subst (λ bytes. IsTrue (is_name bytes)) (sym c.deref.ensures.value)
    (read_is_name (λ word. word.items) c.args.words.now c.loop-word.word-index c.word-item.result c.requires.words c.requires.short c.loop-word-test.true c.word-item.is))
