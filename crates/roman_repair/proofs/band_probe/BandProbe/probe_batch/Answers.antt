use Rattle.roman_repair.proofs.Common.{not-not, refl, ap, not, ◌∙◌, arith, ◌+◌, ◌*◌, ◌<◌, on_not}
use Rattle.roman_repair.proofs.BandAnswers.{none_known}
use Rattle.roman_repair.proofs.band_probe.BandProbe.probe_batch.Goals as goal

pub returns-in-Some : goal.returns-in-Some
returns-in-Some g c = record {
  holds = λ gone words lane l. rw c.in-Some.is
      (on_not c.probe_row_alone.result lane c.probe_row_alone.type_inv (omega (arith, l, c.known.ensures.lanes.1)) ∙ ap not (c.probe_row_alone.ensures.served gone words lane l) ∙ not-not _);
  known = λ gone words known. record { row = none_known _ _ gone _ _ _; rows = known.rows };
  alone = refl;
  cost = λ lane l possible. rw c.in-Some.is (c.probe_row_alone.ensures.cost (c.args.batch.row * g.J.Rules.lanes c.args.joint.now + lane));
}
