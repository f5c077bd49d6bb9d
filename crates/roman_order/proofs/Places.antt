-- Lists with one more entry.
use Rattle.roman_order.proofs.Common.{◌≡◌, ◌≢◌, ℕ, ◌+◌, ◌-◌, ◌^◌, ◌<◌, Bool, false, List, [], ◌∷◌, ◌++◌, length, Some, None, refl, ap, ◌∙◌, inl, inr, arith, eqb, ◌||◌, is_some, list_any, position_from, IsDistinct, or-false, cases_eq, ne_eqb, cases_Bool, false≢true, map_push, list_any-append, Entry, list_any-map, nodes_of, has_entry, place_in_list, IsPlaced, stamp_of, nat_eq_equiv, IsDistinct-push}

-- ---- places

-- a found place is within the list
pub position_from-bound : {X : Type 0} (test : X → Bool) (i : ℕ) (xs : List X) (j : ℕ) → position_from test i xs ≡ Some j → j < i + length xs
position_from-bound test i [] j e = cc
position_from-bound test i (x ∷ xs) j e = grind (arith, cases_Bool, (position_from-bound test (i + 1) xs j))

-- ---- entries

-- a pair is listed exactly if it is among the pairs of the list
pub has_entry-nodes : (L : List (Entry ℕ)) (p : ℕ) → list_any (eqb p) (nodes_of L) ≡ has_entry L p
has_entry-nodes L p = list_any-map (λ (x : Entry ℕ). x.node) (eqb p) L

-- after a push of x, the listed pairs are those before and that of x
pub has_entry-push : (L : List (Entry ℕ)) (x : Entry ℕ) (p : ℕ) → has_entry (L ++ x ∷ []) p ≡ (has_entry L p || eqb p x.node)
has_entry-push L x p = list_any-append (λ (y : Entry ℕ). eqb p y.node) L (x ∷ []) ∙ ap (λ b. has_entry L p || b) (or-false (eqb p x.node))

pub has_entry-push_other : (L : List (Entry ℕ)) (x : Entry ℕ) (p : ℕ) → p ≢ x.node → has_entry (L ++ x ∷ []) p ≡ has_entry L p
has_entry-push_other L x p ne = rw (has_entry-push, ne_eqb p x.node ne) (or-false (has_entry L p))

-- ---- a list of distinct pairs in range

pub IsPlaced-nil : (n : ℕ) → IsPlaced n []
unfolding IsDistinct
IsPlaced-nil n = record { apart = tt; in_range = λ p h. absurd (false≢true h) }

pub IsPlaced-push : (n : ℕ) (L : List (Entry ℕ)) (x : Entry ℕ) → IsPlaced n L → x.node < n → has_entry L x.node ≡ false → IsPlaced n (L ++ x ∷ [])
IsPlaced-push n L x placed here new = grind (arith, IsDistinct-push, cases_eq, has_entry-nodes, has_entry-push_other, map_push, nat_eq_equiv)

-- ---- stamps

-- a pair with the greatest stamp isn't listed
pub place_in_list-from_greatest : (L : List (Entry ℕ)) (p : ℕ) → length L < 2 ^ 32 → stamp_of L p ≡ 2 ^ 32 - 1 → None ≡ place_in_list L p
place_in_list-from_greatest L p few e = grind (arith, position_from-bound)

-- ---- places and listed pairs

-- an element has a place exactly if it is in the list
position_from-is_some : {X : Type 0} (test : X → Bool) (i : ℕ) (xs : List X) → is_some (position_from test i xs) ≡ list_any test xs
position_from-is_some test i [] = refl
position_from-is_some test i (x ∷ xs) = elim (cases_Bool (test x)) [ inl t ↦ rw t | inr f ↦ rw f (position_from-is_some test (i + 1) xs) ]

pub is_some-place_in_list : (L : List (Entry ℕ)) (p : ℕ) → is_some (place_in_list L p) ≡ has_entry L p
is_some-place_in_list L p = position_from-is_some (λ (x : Entry ℕ). eqb p x.node) 0 L
