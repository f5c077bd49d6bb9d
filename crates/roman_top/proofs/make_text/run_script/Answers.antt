use Rattle.roman_top.proofs.MakeStageLemmas.{script_passes}
use Rattle.roman_top.proofs.make_text.run_script.Goals as goal

pub returns : goal.returns
returns g c =
    script_passes c.args.session.now c.play.new.session c.play-2.new.session c.play-3.new.session c.play-4.new.session c.play-5.new.session
    c.stand-start.result c.stand-freeze.result c.stand-thaw.result c.stand-die.result c.stand-join.result c.stand-round.result
    c.stand-start.ensures.line c.play.ensures c.stand-freeze.ensures.line c.play-2.ensures c.stand-thaw.ensures.line c.play-3.ensures c.stand-die.ensures.line c.play-4.ensures c.stand-join.ensures.line c.play-5.ensures c.stand-round.ensures.line
