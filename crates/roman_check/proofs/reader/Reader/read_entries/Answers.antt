use Rattle.roman_check.proofs.Common.{◌+◌, Some, refl, arith}
use Rattle.roman_check.proofs.AuditLemmas.{reason_given}
use Rattle.roman_check.proofs.ReaderLemmas.{entry_read, reads_then}
use Rattle.roman_check.proofs.reader.Reader.read_entries.Goals as goal

pub take_entry-requires-clause-entry : goal.take_entry-requires-clause-entry
take_entry-requires-clause-entry g c =
    let has = rw (c.pairs-pairs.ensures, c.actions-actions.ensures) at c.in-Some.ensures.read in
    (has.inside, reason_given (g.J.Rules.arena c.args.joint.now) c.in-Some.reason has.given)

pub returns-in-Some-take_entry-clause-fault : goal.returns-in-Some-take_entry-clause-fault
returns-in-Some-take_entry-clause-fault g c =
    let has = rw (c.pairs-pairs.ensures, c.actions-actions.ensures) at c.in-Some.ensures.read in
    let why = c.in-Some-take_entry.why in (
      c.loop-pair.start + c.in-Some.len + 1,
      reads_then _ _ _ _ _ _ _ _ _ _ c.loop-pair.invariant.read
          (entry_read _ _ _ _ _ _ _ c.known.ensures.numbered _ (Some why) c.loop-pair.invariant.read.high c.loop-pair.invariant.between has c.in-Some-take_entry.ensures refl (omega arith)),
    )

pub loop-pair-preserved : goal.loop-pair-preserved
loop-pair-preserved g c =
    let has = rw (c.pairs-pairs.ensures, c.actions-actions.ensures) at c.in-Some.ensures.read in
    record {
      pattern = c.read.ensures.pattern;
      reason = c.read.ensures.reason;
      read = reads_then _ _ _ _ _ _ _ _ _ _ c.loop-pair.invariant.read (reads_then _ _ _ _ _ _ _ _ _ _
          (entry_read _ _ _ _ _ _ _ c.known.ensures.numbered _ _ c.loop-pair.invariant.read.high c.loop-pair.invariant.between has (rw c.in_default-take_entry.is at c.take_entry.ensures) refl refl)
          c.read_alike-start.ensures.read);
      between = c.read_alike-start.ensures.between;
    }
