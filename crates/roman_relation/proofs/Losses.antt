-- Entries of a batch that are noted together.
use Rattle.roman_relation.proofs.Common.{on_in, in_lanes, has_entry-batch, some_lane, ◌≡◌, ◌≢◌, ℕ, ◌+◌, ◌*◌, ◌<◌, ◌≤◌, true, ◌&&◌, List, [], ◌∷◌, ◌++◌, length, take, drop, IsTrue, inl, inr, refl, sym, ap, ◌∙◌, subst, arith, take-append-drop, ◌==◌, ◌^◌, bit_and, and_parts, or_left, or_right, eq-eqb, in_map, sum_by_within, list_any-append, IsIn, Arena, Entry, is_listed, fall, back, is_on, IsNumbered, as_entry, entries_in, set_lanes, has_entry, Reason, IsBatch, entries_at, Batch, and_le_l, on_and}
use Rattle.roman_relation.proofs.Beginnings.{listed_is}

-- ---- words that meet

-- a word with some lane
pub first_lane : (word : ℕ) → 0 < length (set_lanes word) → (lane : ℕ) × (lane < 64) × (is_on word lane ≡ true)
first_lane word some = first (set_lanes word) some (λ lane i. in_lanes word lane i)
  where
    first : (ls : List ℕ) → 0 < length ls → ((lane : ℕ) → IsIn lane ls → (lane < 64) × (is_on word lane ≡ true)) → (lane : ℕ) × (lane < 64) × (is_on word lane ≡ true)
    first [] long each = absurd (omega arith)
    first (lane ∷ ls) long each = let (low, on) = each lane (inl refl) in (lane, low, on)

pub meeting_words : (word other : ℕ) → word < 2 ^ 64 → bit_and word other ≢ 0 → (lane : ℕ) × (is_on word lane ≡ true) × (is_on other lane ≡ true)
meeting_words word other fits some =
    let (lane, low, on) = first_lane (bit_and word other) (some_lane (bit_and word other) some (omega (arith, and_le_l word other))) in
    let (one, two) = and_parts (is_on word lane) (is_on other lane) (sym (on_and word other lane) ∙ on) in
    (lane, one, two)

-- ---- the entries of a batch

-- the entry of a lane
pub in_entries : (lanes row word lane : ℕ) (reason : Reason) → lane < 64 → is_on word lane ≡ true → IsIn (as_entry (row * lanes + lane, reason)) (entries_in lanes row word reason)
in_entries lanes row word lane reason low on = in_map (λ lane. as_entry (row * lanes + lane, reason)) lane (set_lanes word) (on_in word lane low on)

-- at most as many delegations lead to one pair of a batch as to all
pub fall_one : (A : Arena ℕ) (n : ℕ) (e : Batch) (lane : ℕ) → lane < 64 → is_on e.lanes lane ≡ true → length (back A (e.row * n + lane)) ≤ fall A (entries_at n e)
fall_one A n e lane low on =
    let f = λ (l : ℕ). as_entry (e.row * n + l, e.reason) in
    let inside : IsIn (f lane) (entries_at n e) = in_entries n e.row e.lanes lane e.reason low on in
    let sum = sum_by_within (λ (x : Entry ℕ). length (back A x.node)) (f lane ∷ []) (entries_at n e) ((λ i. i), tt) (λ x i. one (f lane) x (entries_at n e) inside i) in
    omega (arith, sum)
  where
    one : (y x : Entry ℕ) (xs : List (Entry ℕ)) → IsIn y xs → IsIn x (y ∷ []) → IsIn x xs
    one y x xs inside (inl s) = subst (λ z. IsIn z xs) (sym s) inside
    one y x xs inside (inr never) = absurd never

-- the pairs of a batch are listed
pub batch_listed : (A : Arena ℕ) → IsNumbered A → (n : ℕ) (L R : List (Entry ℕ)) (i : ℕ) (e : Batch) (lane : ℕ) → n ≤ 64 → IsBatch n e → drop i L ≡ entries_at n e ++ R → is_on e.lanes lane ≡ true →
    IsTrue (is_listed A L (e.row * n + lane))
batch_listed A ok n L R i e lane few is rest on =
    let p : ℕ = e.row * n + lane in
    let inside : has_entry (entries_at n e) p ≡ true = has_entry-batch _ _ _ _ few (is.within lane on) is ∙ (ap (λ b. b && is_on e.lanes lane) (eq-eqb e.row e.row refl) ∙ on) in
    listed_is _ ok _ _ ∙ (ap (λ M. has_entry M p) (sym (take-append-drop i L) ∙ ap (λ M. take i L ++ M) rest)
    ∙ (list_any-append (λ (x : Entry ℕ). p == x.node) (take i L) (entries_at n e ++ R)
    ∙ or_right _ _ (list_any-append (λ (x : Entry ℕ). p == x.node) (entries_at n e) R ∙ or_left _ _ inside)))
