use Rattle.roman_top.proofs.Common.{◌≡◌, ℕ, ◌+◌, [], ◌∷◌, ◌++◌, map, length, drop, flat_map, below, sizes_of, pair_at, system_of, IsFilling, lines_without, twos}
use Rattle.roman_top.proofs.resilience_text.push_twos.Given as goal

-- the lines of the services so far, each with those after it, were pushed
abbrev pub invariant-loop-k : goal.invariant-loop-k
invariant-loop-k g l = record {
  filling : IsFilling (g.O.Sink.written l.fn.out) (g.O.Sink.written l.out) l.page
      (flat_map (lines_without l.joint (pair_at (sizes_of (system_of l.joint)) l.losses.pair))
      (flat_map (λ (k : ℕ). map (λ (j : ℕ). k ∷ j ∷ []) (drop (k + 1) (below (length l.joint.seats)))) (drop l.k (below (length l.joint.seats)))))
      (l.fn.page ++ flat_map (lines_without l.joint (pair_at (sizes_of (system_of l.joint)) l.losses.pair)) (twos (length l.joint.seats)));
  cause : g.O.Sink.faults l.out ≡ g.O.Sink.faults l.fn.out;
}
