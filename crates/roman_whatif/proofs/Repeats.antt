-- The outlooks of failures of services that are alike.
use Rattle.roman_whatif.proofs.Common.{◌≡◌, ℕ, zero, suc, ◌+◌, ◌-◌, ◌*◌, ◌<◌, true, false, List, [], ◌∷◌, map, length, Some, slice_get, slice_index, refl, sym, ap, ap₂, ◌∙◌, subst, inl, inr, arith, ◌%◌, length-map, cases_lt, has, Sizes, sizes_of, pair_at, Way, NamedSys, seat_of, system_of, beh_at, left_of, told_at, IsToldOf, nat_tests, slice_get-get_or, product_of, length-states_at, AreAlike, seat_read}
use Rattle.roman_joint.specs.declared.seat.Seat as joint
use Rattle.roman_whatif.specs.declared.outlook.Outlook as declared
use Rattle.roman_whatif.proofs.Swaps.{other, moved_on}

other_here : (k : ℕ) → other k k ≡ suc k
other_here zero = refl
other_here (suc k) = ap suc (other_here k)

other_before : (k i : ℕ) → i < k → other k i ≡ i
other_before zero i l = absurd (omega arith)
other_before (suc k) zero l = refl
other_before (suc k) (suc i) l = ap suc (other_before k i (omega arith))

other_past : (k j : ℕ) → suc k < j → other k j ≡ j
other_past k zero l = absurd (omega arith)
other_past zero (suc zero) l = absurd (omega arith)
other_past zero (suc (suc j)) l = refl
other_past (suc k) (suc j) l = ap suc (other_past k j (omega arith))

-- the later of two services that are alike fails in place of the earlier
alike_moved : (parts : NamedSys) (p k : ℕ) (way : Way) (K L : List ℕ) → AreAlike parts p k → has K k ≡ true → has K (suc k) ≡ false → map (other k) K ≡ L →
    left_of parts p way L ≡ left_of parts p way K
alike_moved parts p k way K L alike gone left is =
    let s = system_of parts in
    let bs = (pair_at (sizes_of s) p).bs in
    let seats : length s.seats ≡ length parts.seats = length-map parts.seats (seat_of parts.catalogue) in
    let states : length bs ≡ length s.seats = length-states_at (sizes_of s).seats (p % product_of (sizes_of s).seats) ∙ length-map s.seats (λ seat. seat.beh.states) in
    let within = alike.within in
    sym (ap (left_of parts p way) is) ∙ moved_on way k K s (pair_at (sizes_of s) p) (omega arith) (omega arith) alike.seats
    (slice_get-get_or bs k 0 (omega arith) ∙ ap Some alike.states ∙ sym (slice_get-get_or bs (suc k) 0 (omega arith))) gone left

-- two neighbours with the same behaviour and the same marks, in the same state
pub repeated_when : (n : NamedSys) (p i k x y : ℕ) (before own : joint.Seat) (shape : Sizes) → k ≡ suc i → k < length n.seats → slice_get n.seats i ≡ Some before → slice_get n.seats k ≡ Some own →
    own.behaviour ≡ before.behaviour → own.frozen ≡ before.frozen → own.rests ≡ before.rests → shape ≡ sizes_of (system_of n) →
    y ≡ slice_index (pair_at shape p).bs i → x ≡ slice_index (pair_at shape p).bs k → x ≡ y → AreAlike n p i
repeated_when n p i k x y before own shape next within there here behaviours frozens rest sizes is_before is_own same =
    let seats : seat_of n.catalogue own ≡ seat_of n.catalogue before = λ j. record { beh = beh_at n.catalogue (behaviours j); frozen = frozens j; rests = rest j } in record {
      within = subst (λ m. m < length n.seats) next within;
      seats = seat_read n i before there ∙ ap Some (sym seats) ∙ sym (seat_read n k own here) ∙ ap (slice_get (system_of n).seats) next;
      states = sym (is_before ∙ ap (λ m. slice_index (pair_at m p).bs i) sizes) ∙ sym same ∙ is_own ∙ ap₂ (λ m j. slice_index (pair_at m p).bs j) sizes next;
    }

pub alike_alone : (parts : NamedSys) (p k : ℕ) (way : Way) → AreAlike parts p k → left_of parts p way (suc k ∷ []) ≡ left_of parts p way (k ∷ [])
alike_alone parts p k way alike =
    alike_moved parts p k way (k ∷ []) (suc k ∷ []) alike (grind (arith, nat_tests)) (grind (arith, nat_tests)) (ap (λ n. n ∷ []) (other_here k))

pub alike_first : (parts : NamedSys) (p k j : ℕ) (way : Way) → AreAlike parts p k → suc k < j → left_of parts p way (suc k ∷ j ∷ []) ≡ left_of parts p way (k ∷ j ∷ [])
alike_first parts p k j way alike l =
    alike_moved parts p k way (k ∷ j ∷ []) (suc k ∷ j ∷ []) alike (grind (arith, nat_tests)) (grind (arith, nat_tests)) (λ i. other_here k i ∷ other_past k j l i ∷ [])

pub alike_second : (parts : NamedSys) (p k i : ℕ) (way : Way) → AreAlike parts p k → i < k → left_of parts p way (i ∷ suc k ∷ []) ≡ left_of parts p way (i ∷ k ∷ [])
alike_second parts p k i way alike l =
    alike_moved parts p k way (i ∷ k ∷ []) (i ∷ suc k ∷ []) alike (grind (arith, nat_tests)) (grind (arith, nat_tests)) (λ j. other_before k i l j ∷ other_here k j ∷ [])

-- Tables.

-- the outlooks of a service are copies of those of the service before, if the two services and the one before are alike
pub outlooks_repeat : (parts : NamedSys) (p b c : ℕ) (way : Way) (old new : List declared.Outlook) → b ≡ suc c → AreAlike parts p c → AreAlike parts p b → IsToldOf parts p way b old →
    ((k : ℕ) → k < b → told_at new (32 * b + 32 + k) ≡ told_at old (32 * b + k)) → ((k : ℕ) → k + 1 ≡ b → told_at new (32 * b + 32 + b) ≡ told_at old (32 * b + k)) →
    told_at new (32 * b + 33 + b) ≡ told_at old (32 * b + b) → IsToldOf parts p way (suc b) new
outlooks_repeat parts p b c way old new next before here own two last alone = record {
  alone = ap (told_at new) (omega arith) ∙ alone ∙ own.alone ∙ sym (alike_alone parts p b way here);
  two = λ k l. elim (cases_lt k b) [
    | inl less ↦ ap (told_at new) (omega arith) ∙ two k less ∙ own.two k less ∙ sym (alike_second parts p b k way here less)
    | inr most ↦
        let same : k ≡ b = omega arith in
        ap (told_at new) (omega arith) ∙ last c (omega arith) ∙ own.two c (omega arith) ∙ sym (alike_second parts p b c way here (omega arith))
        ∙ sym (alike_first parts p c (suc b) way before (omega arith)) ∙ ap (λ i. left_of parts p way (i ∷ suc b ∷ [])) (sym next ∙ sym same)
  ];
}
