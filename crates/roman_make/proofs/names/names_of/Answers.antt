use Rattle.roman_make.proofs.Common.{◌∷◌, ◌++◌, [], ap, ◌∙◌, arith, length, List, ℕ, length-append, length-map}
use Rattle.roman_make.proofs.NameLemmas.{next_numbered, numbers_next, all_numbered}
use Rattle.roman_make.proofs.names.names_of.Goals as goal

pub name_of-requires : goal.name_of-requires
name_of-requires c = (next_numbered c.args.words.now (record { ref_ptr = (0, 0); now = [] }) c.loop-word.word-index c.loop-word.names c.loop-word-test.true c.loop-word.invariant).name

pub add_new-requires-clause-few : goal.add_new-requires-clause-few
add_new-requires-clause-few c = omega (arith, ap length c.loop-word.invariant.all, length-append {A = List ℕ}, length-map c.args.words.now (λ word. word.now))

pub add_new-requires-clause-new : goal.add_new-requires-clause-new
add_new-requires-clause-new c = grind (arith, next_numbered)

pub loop-word-preserved : goal.loop-word-preserved
loop-word-preserved c =
    numbers_next _ _ _ _ _ c.loop-word-test.true c.loop-word.invariant (c.in_ok-add_new.ensures ∙ ap (λ x. c.loop-word.names ++ x ∷ []) c.name_of.ensures)

pub returns : goal.returns
returns c = all_numbered c.args.words.now c.loop-word.word-index c.loop-word.names c.loop-word-test.false c.loop-word.invariant
