use Rattle.roman_cert.proofs.Common.{IsFilling, as_entry, lost_text, ◌++◌, ◌∷◌, ◌≡◌}
use Rattle.roman_cert.proofs.Rests.{rest_of}
use Rattle.roman_cert.proofs.LineTexts.{lost_states, why_text}
use Rattle.roman_cert.proofs.lines.push_lost.Given as goal

-- the states of the services so far are pushed
abbrev pub invariant-loop-k : goal.invariant-loop-k
invariant-loop-k g l =
    let x = as_entry (l.p, l.reason) in
    record {
      filling : IsFilling (g.O.Sink.written l.fn.out) (g.O.Sink.written l.out) l.page (rest_of (λ name. 32 ∷ name) (lost_states l.joint x) (why_text l.joint l.reason) l.k) (l.fn.page ++ lost_text l.joint x);
      cause : g.O.Sink.faults l.out ≡ g.O.Sink.faults l.fn.out;
    }
