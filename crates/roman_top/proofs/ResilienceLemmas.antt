-- The system and the pair that remain after one or two services fail, and the text of `resilience` about them.
use Rattle.roman_top.proofs.Common.{◌∙◌, ◌≡◌, ℕ, suc, ◌+◌, ◌<◌, ◌≤◌, true, List, [], ◌∷◌, map, length, drop, Some, slice_get, inl, inr, refl, sym, subst, arith, remove, get_or, length-map, length-drop, get_or-drop, IsIn, below, Sys, Pair, IsSys, IsPair, Seat, outlook, system_without, pair_without, Way, from_map, from_flat_map, there_is, from_below, IsPair-turned, IsPair-without, length-set_frozen, length-remove, without_changes, in_contains, length-below, get_or-below, NamedSys, seat_of, system_of, TellsLosses, AreFailing, lines_without, outlook_text, Freeze, after, without, Die, IsSys-after}
use Rattle.roman_model.specs.declared.way.Way.TheVariants as way
use Rattle.roman_top.proofs.ServingLemmas.{outlook_right}

-- the system is well formed, and the pair is a pair of the system
record IsWhole (s : Sys) (p : Pair) : Type 0 where
  system : IsSys s
  pair : IsPair s p

-- a place from k on isn't below k
later_place : (n k j : ℕ) → IsIn j (drop k (below n)) → (k ≤ j) × (j < n)
later_place n k j i =
    let (m, l, e) = in_contains (drop k (below n)) j i in
    let within : k + m < n = omega (arith, l, length-drop k (below n), length-below n) in
    let is : get_or (drop k (below n)) m j ≡ k + m = get_or-drop k (below n) m j ∙ get_or-below n (k + m) j within in
    (omega (arith, e, is), omega (arith, e, is))

frozen_once : (s : Sys) (p : Pair) (k : ℕ) → IsSys s → IsPair s p → k < length s.seats → IsWhole (after (Freeze k) s) p
frozen_once s p k ok pair l = record { system = IsSys-after (Freeze k) s ok l; pair = IsPair-turned s k true p pair }

gone_once : (s : Sys) (p : Pair) (k : ℕ) (seat : Seat) → IsSys s → IsPair s p → slice_get s.seats k ≡ Some seat → IsWhole (after (Die k seat) s) (without k p)
gone_once s p k seat ok pair seated = record { system = IsSys-after (Die k seat) s ok seated; pair = IsPair-without s k p pair }

one_left : (how : Way) (k : ℕ) (s : Sys) (p : Pair) → IsSys s → IsPair s p → k < length s.seats → IsWhole (system_without how (k ∷ []) s) (pair_without how (k ∷ []) p)
one_left way.Freeze k s p ok pair l = subst (λ r. IsWhole r p) ((without_changes s p).one_frozen k) (frozen_once s p k ok pair l)
one_left way.Die k s p ok pair l =
    let (seat, seated) = there_is s.seats k l in
    let (system, left) = (without_changes s p).one_gone k seat in
    subst (λ r. IsWhole r (pair_without way.Die (k ∷ []) p)) system (subst (IsWhole (after (Die k seat) s)) left (gone_once s p k seat ok pair seated))

two_left : (how : Way) (k j : ℕ) (s : Sys) (p : Pair) → IsSys s → IsPair s p → k < j → j < length s.seats → IsWhole (system_without how (k ∷ j ∷ []) s) (pair_without how (k ∷ j ∷ []) p)
two_left way.Freeze k j s p ok pair l h =
    let first = frozen_once _ _ _ ok pair (omega arith) in
    subst (λ r. IsWhole r p) ((without_changes s p).two_frozen k j) (frozen_once _ _ _ first.system first.pair (subst (λ n. j < n) (sym (length-set_frozen _ _ _)) h))
two_left way.Die k j s p ok pair l h =
    let (other, seated) = there_is s.seats j h in
    let first = gone_once s p j other ok pair seated in
    let shorter : suc (length (remove s.seats j)) ≡ length s.seats = length-remove s.seats j h in
    let (seat, still) = there_is (remove s.seats j) k (omega arith) in
    let (system, left) = (without_changes s p).two_gone k j seat other l in
    subst (λ r. IsWhole r (pair_without way.Die (k ∷ j ∷ []) p)) system
    (subst (IsWhole (after (Die k seat) (after (Die j other) s))) left (gone_once (after (Die j other) s) (without j p) k seat first.system first.pair still))

failing_left : (how : Way) (K : List ℕ) (s : Sys) (p : Pair) → IsSys s → IsPair s p → AreFailing (length s.seats) K → IsWhole (system_without how K s) (pair_without how K p)
failing_left how K s p ok pair (inl one) =
    let (k, i, e) = from_map (λ k. k ∷ []) K (below (length s.seats)) one in
    subst (λ J. IsWhole (system_without how J s) (pair_without how J p)) (sym e) (one_left how k s p ok pair (from_below (length s.seats) k i))
failing_left how K s p ok pair (inr two) =
    let (k, i, rest) = from_flat_map (λ k. map (λ j. k ∷ j ∷ []) (drop (k + 1) (below (length s.seats)))) K (below (length s.seats)) two in
    let (j, later, e) = from_map (λ j. k ∷ j ∷ []) K (drop (k + 1) (below (length s.seats))) rest in
    let (m, h) = later_place (length s.seats) (k + 1) j later in
    subst (λ J. IsWhole (system_without how J s) (pair_without how J p)) (sym e) (two_left how k j s p ok pair (omega arith) h)

-- The text.

pub tells_losses : (parts : NamedSys) (p : Pair) → IsSys (system_of parts) → IsPair (system_of parts) p → TellsLosses parts (system_of parts) p (outlook_text parts p)
unfolding outlook_text lines_without
tells_losses parts p ok pair = record {
  now = outlook (system_of parts) p;
  whole = outlook_right (system_of parts) p ok pair;
  left = λ how K. outlook (system_without how K (system_of parts)) (pair_without how K p);
  reduced = λ how K failing.
      let left = failing_left how K (system_of parts) p ok pair (subst (λ n. AreFailing n K) (sym (length-map parts.seats (seat_of parts.catalogue))) failing) in
      outlook_right (system_without how K (system_of parts)) (pair_without how K p) left.system left.pair;
  says = refl;
}
