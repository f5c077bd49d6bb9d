use Rattle.roman_top.proofs.Common.{ap}
use Rattle.roman_top.proofs.OpeningLemmas.{text_source}
use Rattle.roman_top.proofs.RunLemmas.{text_heard}
use Rattle.roman_top.proofs.run.run_text.Goals as goal

pub returns-clause-hears : goal.returns-clause-hears
returns-clause-hears g c =
    text_heard c.args.session.now c.hear.new.session _ _ _ _ _ c.hear.result
    (text_source (g.F.Shelf.texts c.args.shelf.now) _ c.args.name.now _ _ (ap g.F.Shelf.texts c.new-source.ensures.shelf) c.new-source.ensures.name c.new-source.ensures.at)
    c.hear.ensures.ok c.hear.ensures.too_long c.hear.ensures.read_fault c.hear.ensures.prefix
