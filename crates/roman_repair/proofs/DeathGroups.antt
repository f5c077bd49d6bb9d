-- The groups of pairs that stay together when a service dies.
use Rattle.roman_repair.proofs.Common.{in_sizes, on_below, on_shl, Behaves, behaves, seat_read, on_in, in_lanes, ◌≡◌, ℕ, zero, suc, ◌+◌, ◌-◌, ◌*◌, ◌/◌, ◌%◌, ◌^◌, ◌<◌, ◌≤◌, Bool, true, ◌&&◌, List, [], ◌∷◌, map, length, drop, filter, remove, slice_index, inl, inr, refl, sym, ap, ◌∙◌, subst, arith, bit_and, not, ◌||◌, IsTrue, IsFalse, slice_get, Some, mul-le-mul_left, cases_lt, div-add-mod', below, product_of, IsIn, Sizes, count, pair_at, sizes_of, number_without, is_on, on_and, AreSizes, low_of, lanes_of, row_mod, lanes_few, tails_from, row_div, row_below, lanes_positive, set_lanes, as_entry, IsGroup, IsWithin, AreInGroup, by_test, in_map, part_at, size_at, there_is, Sys, Seat, is_final, Batch, lanes_in, IsFirstGroup, NamedSys, system_of, IsNamedSys, seat_of, length-map, Die, CanChange, same_Some, NamedBeh, IsSeatBehaviour}
use Rattle.roman_repair.proofs.Joined.{positive, grown_within, whole_row, shorter_row, few_behind, group_of_more}
use Rattle.roman_repair.proofs.Fronts.{some_in, moved_so_far, only_so_far}
use Rattle.roman_joint.specs.declared.seat.Seat as joint

-- ---- the service that dies, and the states that it may leave behind

pub seat_there : (n : NamedSys) (k : ℕ) → k < length n.seats → (seat : Seat) × CanChange (Die k seat) (system_of n)
seat_there n k l = there_is (system_of n).seats k (omega (arith, length-map n.seats (seat_of n.catalogue)))

-- the service at a place is the seat of the system there
pub seat_is : (n : NamedSys) (k : ℕ) (here : joint.Seat) (seat : Seat) → slice_get n.seats k ≡ Some here → CanChange (Die k seat) (system_of n) → seat_of n.catalogue here ≡ seat
seat_is n k here seat there seated = same_Some (seat_of n.catalogue here) seat (sym (seat_read n k here there) ∙ seated)

-- a loose service may leave any state behind
pub loose_goes : (n : NamedSys) (k b : ℕ) (here : joint.Seat) (seat : Seat) → slice_get n.seats k ≡ Some here → CanChange (Die k seat) (system_of n) → IsFalse here.rests →
    not here.rests ≡ (not seat.rests || is_final seat.beh b)
loose_goes n k b here seat there seated loose = grind (arith, (ap (λ (x : Seat). x.rests) (seat_is n k here seat there seated)))

-- a service that isn't loose may leave its final states behind
pub final_goes : (n : NamedSys) (k b : ℕ) (here : joint.Seat) (beh : NamedBeh) (final : Bool) (seat : Seat) → IsNamedSys n → slice_get n.seats k ≡ Some here → IsSeatBehaviour n k beh →
    IsTrue here.rests → final ≡ is_final beh.beh b → CanChange (Die k seat) (system_of n) → final ≡ (not seat.rests || is_final seat.beh b)
final_goes n k b here beh final seat known there of rest is seated =
    let at : Behaves n k beh = behaves n k beh known of in
    grind (arith, at.is, (ap (λ (x : Seat). x.rests) (seat_is n k here seat there seated)), (ap (λ (x : Seat). x.beh) (same_Some at.seat seat (sym at.seated ∙ seated))))

-- the size of a service is its number of states
pub size_is : (n : NamedSys) (k : ℕ) (beh : NamedBeh) → IsNamedSys n → IsSeatBehaviour n k beh → slice_index (sizes_of (system_of n)).seats k ≡ beh.beh.states
size_is n k beh known of =
    let at : Behaves n k beh = behaves n k beh known of in
    size_at (system_of n).seats k at.seat at.seated ∙ ap (λ x. x.states) at.is

-- ---- the width of the groups

group_first_seat : (n : ℕ) (ns : List ℕ) (w : ℕ) → 0 < n → (c : ℕ) × (product_of ns ≡ c * w) → (c : ℕ) × (lanes_of ns ≡ c * w) → IsGroup (n ∷ ns) 0 w
group_first_seat n ns w some stride lanes = record { stride = stride; lanes = group_of_more n ns w some lanes; left = lanes }

group_later_seat : (n : ℕ) (ns : List ℕ) (k w : ℕ) → 0 < n → IsGroup ns k w → IsGroup (n ∷ ns) (suc k) w
group_later_seat n ns k w some is = grind (arith, group_of_more)

-- without the first component the lanes begin no later
low_behind : (n : ℕ) (ns : List ℕ) (m : ℕ) → 0 < n → low_of (n ∷ ns) ≤ suc m → low_of ns ≤ m
low_behind n ns m some low = elim (cases_lt 64 (product_of (n ∷ ns))) [
  | inl more ↦ omega (arith, low, (shorter_row n ns more).0)
  | inr few ↦ omega (arith, (whole_row ns (few_behind n ns some few)).0)
]

-- the pairs of a group differ only in components that are within the lanes and after the one that is removed
pub group_from : (ns : List ℕ) (k m : ℕ) → AreSizes ns → k < m → k < length ns → low_of ns ≤ m → IsGroup ns k (product_of (drop m ns))
group_from [] k m h l seat low = absurd (omega arith)
group_from (n ∷ ns) k zero h l seat low = absurd (omega arith)
group_from (n ∷ ns) zero (suc m) h l seat low = group_first_seat n ns _ h.0 (tails_from ns 0 m (omega arith)) (tails_from ns (low_of ns) m (low_behind n ns m h.0 low))
group_from (n ∷ ns) (suc k) (suc m) h l seat low = group_later_seat n ns k _ h.0 (group_from ns k m h.2 (omega arith) (omega arith) (low_behind n ns m h.0 low))

pub group_few : (ns : List ℕ) (k w : ℕ) → AreSizes ns → IsGroup ns k w → (0 < w) × (w ≤ 64)
group_few ns k w h is = grind (arith, lanes_few, lanes_positive, mul-le-mul_left, positive)

-- ---- the pairs of a group

group_div : (n : Sizes) (k w j i : ℕ) → (group : IsGroup n.seats k w) → i < w → (j * w + i) / product_of (drop (k + 1) n.seats) ≡ j / group.stride.0
group_div n k w j i group l = ap (λ s. (j * w + i) / s) group.stride.1 ∙ row_div j w i group.stride.0 l

group_mod : (n : Sizes) (k w j i : ℕ) → (group : IsGroup n.seats k w) → i < w → (j * w + i) % product_of (drop (k + 1) n.seats) ≡ j % group.stride.0 * w + i
group_mod n k w j i group l = ap (λ s. (j * w + i) % s) group.stride.1 ∙ row_mod j w i group.stride.0 l

-- the pairs of a group are neighbours without the seat
pub group_number : (n : Sizes) (k w j i : ℕ) → IsGroup n.seats k w → i < w → number_without k n (j * w + i) ≡ number_without k n (j * w) + i
group_number n k w j i group l = grind (arith, (group_div n k w j i group l), (group_mod n k w j i group l), (group_div n k w j 0 group), (group_mod n k w j 0 group))

-- the pairs of a group have one state of the seat
pub group_state : (n : Sizes) (k w j i : ℕ) → IsGroup n.seats k w → i < w → j * w + i < count n → k < length n.seats → slice_index (pair_at n (j * w + i)).bs k ≡ slice_index (pair_at n (j * w)).bs k
group_state n k w j i group l pair seat = grind (arith, (part_at n (j * w + i) k pair seat), (part_at n (j * w) k), (group_div n k w j i group l), (group_div n k w j 0 group))

-- the pairs of a group lie in one row without the seat
pub group_place : (n : Sizes) (k w j lanes : ℕ) → IsGroup n.seats k w → 0 < w → lanes ≡ lanes_of (remove n.seats k) → 0 < lanes → number_without k n (j * w) % lanes + w ≤ lanes
group_place n k w j lanes group some is pos =
    let (c, e) = group.stride in
    let (d, f) = group.left in
    let place : ℕ = j / c / slice_index n.seats k * c + j % c in
    let split : place * w ≡ j / c / slice_index n.seats k * (c * w) + j % c * w = omega arith in
    let number : number_without k n (j * w) ≡ place * w = grind (arith, split, (group_div n k w j 0 group some), (group_mod n k w j 0 group some)) in
    subst (λ q. q % lanes + w ≤ lanes) (sym number) (grown_within lanes d w place (is ∙ f) pos)

pub row_of_left : (left lanes rows : ℕ) → left < rows * lanes → left / lanes < rows
row_of_left left lanes rows l = row_below (left / lanes) lanes (left % lanes) rows (omega (arith, div-add-mod' left lanes, l))

-- ---- the lanes of a group

-- the elements that pass both tests
both_tests : {X : Type 0} (f g : X → Bool) (xs : List X) → filter f (filter g xs) ≡ filter (λ x. g x && f x) xs
both_tests f g [] = refl
both_tests f g (x ∷ xs) = grind (arith, (both_tests f g xs))

-- the lanes of a group that pass a test, moved to their place in the row
pub moved_lanes : (word alive place : ℕ) (test : ℕ → Bool) → place < 64 → ((i : ℕ) → i < 64 → is_on word i ≡ true → (place + i < 64) × (is_on alive (place + i) ≡ test i)) →
    set_lanes (bit_and (word * 2 ^ place % 2 ^ 64) alive) ≡ map (λ i. place + i) (filter test (set_lanes word))
unfolding set_lanes
moved_lanes word alive place test few each =
    let whole : 64 ≡ place + (64 - place) = omega arith in
    let ends : 64 ≡ 64 - place + place = omega arith in
    ap (λ n. filter (is_on (bit_and (word * 2 ^ place % 2 ^ 64) alive)) (below n)) whole
    ∙ moved_so_far (λ i. is_on word i && test i) (is_on (bit_and (word * 2 ^ place % 2 ^ 64) alive)) place (64 - place) (λ i l. grind (arith, (on_and (word * 2 ^ place % 2 ^ 64) alive i), (on_below word place i l)))
    (λ i l. by_test (is_on word i) (λ on. grind (arith, (each i (omega arith) on), (on_and (word * 2 ^ place % 2 ^ 64) alive (place + i)), (on_shl word place (place + i) i))) (λ off. grind (arith, (on_and (word * 2 ^ place % 2 ^ 64) alive (place + i)), (on_shl word place (place + i) i))))
    ∙ ap (map (λ i. place + i)) (sym (both_tests test (is_on word) (below (64 - place)))
    ∙ ap (filter test) (sym (ap (λ n. filter (is_on word) (below n)) ends ∙ only_so_far (is_on word) (64 - place) place (λ i l. by_test (is_on word (64 - place + i)) (λ on. absurd (let (h, s) = each (64 - place + i) (omega arith) on in omega (arith, h))) (λ off. off)))))

-- a pair of the batch
pair_in : (s : Sys) (e : Batch) (lane : ℕ) → IsWithin s e → IsIn lane (set_lanes e.lanes) → e.row * lanes_in s + lane < count (sizes_of s)
pair_in s e lane is i = is.nodes (as_entry (e.row * lanes_in s + lane, e.reason)) (in_map (λ lane. as_entry (e.row * lanes_in s + lane, e.reason)) lane (set_lanes e.lanes) i)

-- the row of the batch is one of the system
pub row_in : (s : Sys) (e : Batch) → IsWithin s e → e.row * lanes_in s < count (sizes_of s)
row_in s e is = let (lane, i) = some_in (set_lanes e.lanes) is.batch.some in omega (arith, pair_in s e lane is i)

-- the pairs of the first group of a batch's remaining lanes
pub group_in : (n : NamedSys) (shape : Sizes) (e : Batch) (k first left w i group rest : ℕ) → IsWithin (system_of n) e → shape ≡ sizes_of (system_of n) → k < length n.seats → first ≡ e.row * lanes_in (system_of n) → IsGroup shape.seats k w →
    ((lane : ℕ) → is_on left lane ≡ true → is_on e.lanes lane ≡ true) → IsFirstGroup left w i group rest → AreInGroup (sizes_of (system_of n)) k (first + i * w) group
group_in n shape e k first left w i group rest is same there row wide within begins =
    let s : Sys = system_of n in
    let pair : (lane : ℕ) → is_on group lane ≡ true → e.row * lanes_in s + (i * w + lane) < count (sizes_of s) = λ lane on.
    let there = within (i * w + lane) (begins.in_group lane on).1 in
    pair_in s e (i * w + lane) is (on_in e.lanes (i * w + lane) (omega (arith, is.batch.within (i * w + lane) there, lanes_few (sizes_of s).seats)) there) in
    let parts = subst (λ (m : Sizes). IsGroup m.seats k w) same wide in
    let (c, whole) = parts.lanes in
    let slices : e.row * lanes_in s ≡ e.row * (c * w) = ap (λ m. e.row * m) whole in
    let (lane, j) = some_in (set_lanes group) begins.some in
    record {
      seat = in_sizes n k there;
      inside = omega (arith, row, pair lane (in_lanes group lane j).1);
      pair = λ lane on. omega (arith, row, pair lane on);
      group = (w, e.row * c + i, parts, omega (arith, row, slices), λ lane on. (begins.in_group lane on).0);
    }
