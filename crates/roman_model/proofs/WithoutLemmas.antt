-- A system without one or two seats equals the system after as many changes.
use Rattle.roman_model.proofs.Common.{◌≡◌, ℕ, zero, suc, ◌<◌, ◌==◌, Bool, true, false, cond, ◌||◌, List, [], ◌∷◌, Some, IsTrue, slice_get, remove, refl, ap, ap₂, ◌∙◌, arith, pred, or-false, or-true, false≢true, eq-eqb, eqb-true, same_Some, Seat, has, set_frozen, leave_out, freeze_at, WithoutByChanges}
use Rattle.roman_model.proofs.Lists.{same_test}

pub suc_same : (i k : ℕ) → (suc i == suc k) ≡ (i == k)
suc_same i k = grind (arith, eq-eqb, eqb-true, same_test)

-- tests of numbers, which compute only at numerals
pub zero_other : (i : ℕ) → (0 == suc i) ≡ false
zero_other i = same_test (0 == suc i) false (λ t. let e : 0 ≡ suc i = eqb-true 0 (suc i) t in absurd (omega arith)) (λ f. absurd (false≢true f))

pub other_zero : (k : ℕ) → (suc k == 0) ≡ false
other_zero k = same_test (suc k == 0) false (λ t. let e : suc k ≡ 0 = eqb-true (suc k) 0 t in absurd (omega arith)) (λ f. absurd (false≢true f))

pub leave_out_same : {X : Type 0} (at bt : ℕ → Bool) (xs : List X) → ((i : ℕ) → at i ≡ bt i) → leave_out at xs ≡ leave_out bt xs
leave_out_same at bt [] same = refl
leave_out_same at bt (x ∷ xs) same = ap₂ (λ b ys. cond b ys (x ∷ ys)) (same 0) (leave_out_same (λ i. at (suc i)) (λ i. bt (suc i)) xs (λ i. same (suc i)))

leave_none : {X : Type 0} (at : ℕ → Bool) (xs : List X) → ((i : ℕ) → at i ≡ false) → leave_out at xs ≡ xs
leave_none at [] none = refl
leave_none at (x ∷ xs) none = ap₂ (λ b ys. cond b ys (x ∷ ys)) (none 0) (leave_none (λ i. at (suc i)) xs (λ i. none (suc i)))

freeze_same : (at bt : ℕ → Bool) (seats : List Seat) → ((i : ℕ) → at i ≡ bt i) → freeze_at at seats ≡ freeze_at bt seats
freeze_same at bt [] same = refl
freeze_same at bt (x ∷ xs) same =
    ap₂ (λ b ys. record { beh = x.beh; frozen = x.frozen || b; rests = x.rests } ∷ ys) (same 0) (freeze_same (λ i. at (suc i)) (λ i. bt (suc i)) xs (λ i. same (suc i)))

freeze_none : (at : ℕ → Bool) (seats : List Seat) → ((i : ℕ) → at i ≡ false) → freeze_at at seats ≡ seats
freeze_none at [] none = refl
freeze_none at (x ∷ xs) none =
    ap₂ (λ b ys. record { beh = x.beh; frozen = b; rests = x.rests } ∷ ys) (ap (λ b. x.frozen || b) (none 0) ∙ or-false x.frozen) (freeze_none (λ i. at (suc i)) xs (λ i. none (suc i)))

-- One place.

pub leave_one : {X : Type 0} (k : ℕ) (xs : List X) → leave_out (has (k ∷ [])) xs ≡ remove xs k
leave_one zero (x ∷ xs) = grind (arith, leave_none, zero_other)
leave_one (suc k) (x ∷ xs) = grind (arith, leave_out_same, other_zero, suc_same, (leave_one k xs))
leave_one _ _ = refl

pub freeze_one : (k : ℕ) (seats : List Seat) → freeze_at (has (k ∷ [])) seats ≡ set_frozen seats k true
freeze_one k [] = refl
freeze_one zero (x ∷ xs) = grind (arith, freeze_none, or-true, zero_other)
freeze_one (suc k) (x ∷ xs) = grind (arith, freeze_same, or-false, other_zero, suc_same, (freeze_one k xs))

-- Two places.

-- two places are left out by removing the later one first
pub leave_two : {X : Type 0} (k j : ℕ) (xs : List X) → k < j → leave_out (has (k ∷ j ∷ [])) xs ≡ remove (remove xs j) k
leave_two zero (suc j) (x ∷ xs) l = grind (arith, (leave_one j xs), suc_same, zero_other)
leave_two (suc k) (suc j) (x ∷ xs) l = grind (arith, leave_out_same, other_zero, suc_same, (leave_two k j xs (omega arith)))
leave_two _ zero xs l = absurd (omega arith)
leave_two _ _ _ _ = refl

-- two places can also be removed with the earlier one first, after which the later one moves down
pub remove_in_turn : {X : Type 0} (k j : ℕ) (xs : List X) → k < j → remove (remove xs k) (pred j) ≡ remove (remove xs j) k
remove_in_turn zero zero xs l = absurd (omega arith)
remove_in_turn (suc k) zero xs l = absurd (omega arith)
remove_in_turn zero (suc zero) [] l = refl
remove_in_turn zero (suc (suc j)) [] l = refl
remove_in_turn (suc k) (suc zero) [] l = refl
remove_in_turn (suc k) (suc (suc j)) [] l = refl
remove_in_turn zero (suc j) (x ∷ xs) l = refl
remove_in_turn (suc k) (suc zero) (x ∷ xs) l = absurd (omega arith)
remove_in_turn (suc k) (suc (suc j)) (x ∷ xs) l = ap (λ ys. x ∷ ys) (remove_in_turn k (suc j) xs (omega arith))

or_swap : (f b c : Bool) → ((f || b) || c) ≡ (f || (b || c))
or_swap true b c = refl
or_swap false b c = refl

-- freezing by one test and then by another equals freezing by either
freeze_both : (at bt : ℕ → Bool) (seats : List Seat) → freeze_at bt (freeze_at at seats) ≡ freeze_at (λ i. at i || bt i) seats
freeze_both at bt [] = refl
freeze_both at bt (x ∷ xs) =
    ap₂ (λ b ys. record { beh = x.beh; frozen = b; rests = x.rests } ∷ ys) (or_swap x.frozen (at 0) (bt 0)) (freeze_both (λ i. at (suc i)) (λ i. bt (suc i)) xs)

pub freeze_two : (k j : ℕ) (seats : List Seat) → set_frozen (set_frozen seats k true) j true ≡ freeze_at (has (k ∷ j ∷ [])) seats
freeze_two k j seats = grind (arith, (freeze_one j (set_frozen seats k true)), (freeze_one k seats), (freeze_both (has (k ∷ [])) (has (j ∷ [])) seats), freeze_same, or_swap)

-- freezing a frozen seat again
pub freeze_again : (k : ℕ) (seats : List Seat) (seat : Seat) → slice_get seats k ≡ Some seat → IsTrue seat.frozen → set_frozen seats k true ≡ seats
freeze_again k [] seat at frozen = refl
freeze_again zero (x ∷ seats) seat at frozen = grind (arith, same_Some)
freeze_again (suc k) (x ∷ seats) seat at frozen = ap (λ ys. x ∷ ys) (freeze_again k seats seat at frozen)

pub without_changes : WithoutByChanges
without_changes s p = grind (arith, freeze_again, freeze_one, freeze_two, leave_one, leave_two, remove_in_turn)
