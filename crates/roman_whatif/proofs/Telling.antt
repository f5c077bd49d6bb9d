-- The outlooks in a table.
use Rattle.roman_whatif.proofs.Common.{◌≡◌, ℕ, ◌+◌, ◌*◌, ◌<◌, false, List, length, inl, inr, sym, ap, ◌∙◌, subst, arith, ◌≢◌, ◌++◌, take, drop, cases_lt, Outlook, Way, NamedSys, told, told_at, IsToldOf, set, take-append_seam, get_or-set_same, get_or-set_other}
use Rattle.roman_whatif.specs.declared.outlook.Outlook as declared

-- an outlook is written
pub told_there : (table : List declared.Outlook) (i j : ℕ) (o : declared.Outlook) → j ≡ i → i < length table → told_at (set table i o) j ≡ told o
told_there table i j o same l = ap (told_at (set table i o)) same ∙ ap told (get_or-set_same table i o (record { composes = false; related = 0; choices = 0 }) l)

-- the other outlooks stay
pub told_elsewhere : (table : List declared.Outlook) (i j : ℕ) (o : declared.Outlook) → j ≢ i → told_at (set table i o) j ≡ told_at table j
told_elsewhere table i j o other = ap told (get_or-set_other table i j o (record { composes = false; related = 0; choices = 0 }) other)

-- the earlier outlooks stay if the earlier places do
pub told_still : (parts : NamedSys) (p : ℕ) (way : Way) (i m : ℕ) (table new : List declared.Outlook) → i < 32 → i < m → ((x : ℕ) → x < 32 * m → told_at new x ≡ told_at table x) →
    IsToldOf parts p way i table → IsToldOf parts p way i new
told_still parts p way i m table new few l same told_of = grind arith

-- the table has one outlook more
pub told_one_more : (table : List declared.Outlook) (first k : ℕ) (o : declared.Outlook) (left : ℕ → Outlook) → first + k < length table → told o ≡ left k →
    ((i : ℕ) → i < k → told_at table (first + i) ≡ left i) → (i : ℕ) → i < k + 1 → told_at (set table (first + k) o) (first + i) ≡ left i
told_one_more table first k o left room is so_far i l = grind (arith, cases_lt, told_elsewhere, told_there)

-- the table has the outlooks of one service more
pub outlooks_more : (parts : NamedSys) (p : ℕ) (way : Way) (j : ℕ) (table new : List declared.Outlook) → j < 32 → ((x : ℕ) → x < 32 * j → told_at new x ≡ told_at table x) →
    ((i : ℕ) → i < j → IsToldOf parts p way i table) → IsToldOf parts p way j new → (i : ℕ) → i < j + 1 → IsToldOf parts p way i new
outlooks_more parts p way j table new few same so_far last i l = elim (cases_lt i j) [
  | inl less ↦ told_still parts p way i j table new (omega arith) less same (so_far i less)
  | inr most ↦ let here : j ≡ i = omega arith in subst (λ n. IsToldOf parts p way n new) here last
]

-- a whole slice that was lent, and comes back with its old length, is the vector
pub lent_back : {X : Type 0} (n : ℕ) (xs ys : List X) → n ≡ length xs → length ys ≡ length xs → take n (ys ++ drop (length ys) xs) ≡ ys
lent_back n xs ys long same = ap (λ m. take m (ys ++ drop (length ys) xs)) (long ∙ sym same) ∙ take-append_seam ys (drop (length ys) xs)
