use Rattle.roman_top.proofs.Common.{refl, None, inr, outputs}
use Rattle.roman_top.proofs.ServedLemmas.{away_served}
use Rattle.roman_top.proofs.RunLemmas.{input_done}
use Rattle.roman_top.proofs.run.run_input.Goals as goal

pub returns-in-Err-clause-served : goal.returns-in-Err-clause-served
returns-in-Err-clause-served g c =
    (away_served c.args.system.now None _ _ c.in-Err.status c.in-Err.ensures.opens).served (g.I.Source.rest c.args.input.now) (g.I.Source.faults c.args.input.now)

pub returns : goal.returns
returns g c =
    let (served, took) =
    input_done c.args.system.now c.in-Ok.session c.hear.new.session _ _ (outputs _ _ (g.O.Sink.written c.hear.new.out) (g.O.Sink.faults c.hear.new.out)) (g.I.Source.rest c.args.input.now) (g.I.Source.rest c.hear.new.source)
    (g.I.Source.faults c.args.input.now) (g.I.Source.faults c.hear.new.source) c.hear.result c.run_status.result c.in-Ok.ensures.opens c.in-Ok.ensures.behaviours
    (record {
      ok = c.hear.ensures.ok;
      too_long = c.hear.ensures.too_long;
      read_fault = c.hear.ensures.read_fault;
      write_fault = c.hear.ensures.write_fault;
      prefix = c.hear.ensures.prefix;
      taken = c.hear.ensures.taken;
      past = c.hear.ensures.past;
    }) c.hear.ensures.reads c.hear.ensures.writes c.run_status.ensures refl refl in
    record { served = served; input = inr took }
