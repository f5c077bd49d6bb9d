use Rattle.roman_top.proofs.Common.{Some}
use Rattle.roman_top.proofs.ServedLemmas.{away_served}
use Rattle.roman_top.proofs.RunLemmas.{shelf_served}
use Rattle.roman_top.proofs.run.run_shelf.Goals as goal

pub returns-in-Err : goal.returns-in-Err
returns-in-Err g c = away_served c.args.system.now (Some c.args.name.now) _ _ c.in-Err.status c.in-Err.ensures.opens

pub returns : goal.returns
returns g c =
    shelf_served c.args.system.now c.args.name.now c.in-Ok.session c.run_text.new.session _ _ _ c.run_text.result c.run_status.result
    c.in-Ok.ensures.opens c.in-Ok.ensures.behaviours c.run_text.ensures.hears c.run_text.ensures.reads c.run_text.ensures.writes c.run_text.ensures.texts c.run_status.ensures
