use Rattle.roman_top.proofs.Common.{Some, ap, Run, On, Make, command_as}
use Rattle.roman_top.proofs.ServedLemmas.{served_as, made_served}
use Rattle.roman_top.proofs.serving.obey.Goals as goal

pub returns-in-RunOnShelf-clause-served : goal.returns-in-RunOnShelf-clause-served
returns-in-RunOnShelf-clause-served g c =
    served_as _ (Some (On c.in-RunOnShelf.system.now (Run (Some c.in-RunOnShelf.session.now)))) _ _ c.run_shelf.result (ap (λ command. Some (command_as command)) c.in-RunOnShelf.is)
    (c.run_shelf.ensures.served (g.I.Source.rest c.args.input.now) (g.I.Source.faults c.args.input.now))

pub returns-in-Make-clause-served : goal.returns-in-Make-clause-served
returns-in-Make-clause-served g c =
    served_as _ (Some (Make c.in-Make.workers.count)) _ _ c.make_summary.result (ap (λ command. Some (command_as command)) c.in-Make.is)
    (made_served c.in-Make.workers.count _ _ _ _ _ _ _ _ c.make_summary.result c.make_summary.ensures)
