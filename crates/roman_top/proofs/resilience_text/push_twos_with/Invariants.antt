use Rattle.roman_top.proofs.Common.{◌≡◌, ℕ, [], ◌∷◌, ◌++◌, ◌+◌, map, length, drop, flat_map, below, sizes_of, pair_at, system_of, IsFilling, lines_without}
use Rattle.roman_top.proofs.resilience_text.push_twos_with.Given as goal

-- the lines of the later services so far were pushed
abbrev pub invariant-loop-j : goal.invariant-loop-j
invariant-loop-j g l = record {
  filling : IsFilling (g.O.Sink.written l.fn.out) (g.O.Sink.written l.out) l.page
      (flat_map (lines_without l.joint (pair_at (sizes_of (system_of l.joint)) l.losses.pair)) (map (λ (j : ℕ). l.k ∷ j ∷ []) (drop l.j (below (length l.joint.seats)))))
      (l.fn.page ++ flat_map (lines_without l.joint (pair_at (sizes_of (system_of l.joint)) l.losses.pair)) (map (λ (j : ℕ). l.k ∷ j ∷ []) (drop (l.k + 1) (below (length l.joint.seats)))));
  cause : g.O.Sink.faults l.out ≡ g.O.Sink.faults l.fn.out;
}
