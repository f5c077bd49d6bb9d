-- The room of a name, and the place of a name in a list of names.
use Rattle.std.proofs.Common.{◌≡◌, ℕ, zero, suc, ◌+◌, ◌-◌, ◌<◌, ◌≤◌, List, [], ◌∷◌, ◌++◌, length, replicate, take, drop, Bool, true, false, ◌&&◌, ◌||◌, Some, None, IsTrue, slice_get, true≢false, refl, sym, ap, ◌∙◌, arith, get_or}
use Rattle.std.specs.List.{list_all, list_any, position, position_or_len, AllByRecursion, IsDistinct}
use Rattle.std.specs.Str.{bytes_eq}
use Rattle.std.proofs.Math.Seq.{drop-cons}
use Rattle.std.proofs.lemmas.Bool.{cond-false, cond-true, le-ltb, lt-ltb, or_from}
use Rattle.std.proofs.lemmas.Option.{none-some, same_Some, slice_get_within, get_or_from_slice_get}
use Rattle.std.proofs.lemmas.List.{drop-replicate, drop_all, take_more}
use Rattle.std.proofs.lemmas.Map.Keys.{IsDistinct-head, IsDistinct-tail}
use Rattle.std.proofs.lemmas.Slice.Eq.{bytes_eq-Decides}
use Rattle.roman_read.specs.Names.{is_name, place_of}

-- a room of zeros has zeros after its first n bytes
pub zeros_after : (n : ℕ) → n ≤ 32 → drop {A = ℕ} n (replicate 32 0) ≡ replicate (32 - n) 0
zeros_after n h = drop-replicate n 32 0

-- ---- in any list

-- if no element passes the test, the search ends at the end of the list
position_or_len-none : {X : Type 0} (p : X → Bool) (xs : List X) → list_any p xs ≡ false → position_or_len p xs ≡ length xs
position_or_len-none p [] h = refl
position_or_len-none p (x ∷ xs) h = grind (arith, (position_or_len-none p xs))

-- if some element passes the test, the search ends within the list
position_or_len-some : {X : Type 0} (p : X → Bool) (xs : List X) → list_any p xs ≡ true → position_or_len p xs < length xs
position_or_len-some p [] h = absurd (true≢false (sym h))
position_or_len-some p (x ∷ xs) h = grind (arith, (position_or_len-some p xs))

pub position-none : {X : Type 0} (p : X → Bool) (xs : List X) → list_any p xs ≡ false → position p xs ≡ None
position-none p xs h = grind (arith, le-ltb, position_or_len-none)

pub position-some : {X : Type 0} (p : X → Bool) (xs : List X) → list_any p xs ≡ true → position p xs ≡ Some (position_or_len p xs)
position-some p xs h = rw (lt-ltb (position_or_len p xs) (length xs) (position_or_len-some p xs h))

-- ---- in a list of names

-- a name that the list doesn't have has no place
pub place_of-absent : (names : List (List ℕ)) (bytes : List ℕ) → list_any (bytes_eq bytes) names ≡ false → place_of names bytes ≡ None
place_of-absent names bytes h = position-none (bytes_eq bytes) names h

-- a name that the list has has the place of its first occurrence
pub place_of-present : (names : List (List ℕ)) (bytes : List ℕ) → list_any (bytes_eq bytes) names ≡ true → place_of names bytes ≡ Some (position_or_len (bytes_eq bytes) names)
place_of-present names bytes h = position-some (bytes_eq bytes) names h

-- a new name is at the end
pub place_is_length : (names : List (List ℕ)) (bytes : List ℕ) → list_any (bytes_eq bytes) names ≡ false → position_or_len (bytes_eq bytes) names ≡ length names
place_is_length names bytes h = position_or_len-none (bytes_eq bytes) names h

-- bytes that fail a test which all names of a list pass aren't one of the names
pub list_any-failing : (q : List ℕ → Bool) (names : List (List ℕ)) (bytes : List ℕ) → list_all q names ≡ true → q bytes ≡ false → list_any (bytes_eq bytes) names ≡ false
list_any-failing q [] bytes h k = refl
list_any-failing q (name ∷ names) bytes h k = grind (arith, bytes_eq-Decides, (list_any-failing q names bytes))

-- bytes that aren't a name have no place among names
pub place_of-no_name : (names : List (List ℕ)) (bytes : List ℕ) → IsTrue (list_all is_name names) → (IsTrue (is_name bytes) → ⊥) → place_of names bytes ≡ None
place_of-no_name names bytes h k = grind (arith, place_of-absent, (list_any-failing is_name names bytes))

later_differs : (x : List ℕ) (names : List (List ℕ)) (i : ℕ) (name : List ℕ) → AllByRecursion (λ y. bytes_eq x y ≡ false) names → slice_get names i ≡ Some name → bytes_eq name x ≡ false
later_differs x [] i name apart at = absurd (none-some name at)
later_differs x (y ∷ names) zero name apart at = grind (arith, bytes_eq-Decides, same_Some)
later_differs x (y ∷ names) (suc i) name apart at = later_differs x names i name apart.1 at

-- in a list of distinct names no name occurs before its place
pub none_before : (names : List (List ℕ)) (i : ℕ) (name : List ℕ) → IsDistinct bytes_eq names → slice_get names i ≡ Some name → list_any (bytes_eq name) (take i names) ≡ false
none_before [] i name apart at = absurd (none-some name at)
none_before (x ∷ names) zero name apart at = refl
none_before (x ∷ names) (suc i) name apart at =
    or_from _ _ (later_differs _ _ _ _ (IsDistinct-head bytes_eq x names apart) at) (none_before _ _ _ (IsDistinct-tail bytes_eq x names apart) at)

-- the first names with one more name, in order
pub take_name : (names : List (List ℕ)) (i : ℕ) (name : List ℕ) → slice_get names i ≡ Some name → take (i + 1) names ≡ take i names ++ name ∷ []
take_name names i name at =
    take_more names i [] (slice_get_within names i name at) ∙ ap (λ n. take i names ++ n ∷ []) (get_or_from_slice_get names i name [] at)

-- the names before place k are others
pub record IsPast (names : List (List ℕ)) (name : List ℕ) (k : ℕ) : Type 0 where
  pub place : position_or_len (bytes_eq name) names ≡ k + position_or_len (bytes_eq name) (drop k names)

pub past_next : (names : List (List ℕ)) (name : List ℕ) (k : ℕ) → IsPast names name k → k < length names → bytes_eq name (get_or names k []) ≡ false → IsPast names name (k + 1)
past_next names name k past l other = grind (arith, cond-false, drop-cons)

-- the name at place k is the first that is the same
pub past_found : (names : List (List ℕ)) (name : List ℕ) (k : ℕ) → IsPast names name k → k < length names → bytes_eq name (get_or names k []) ≡ true → place_of names name ≡ Some k
past_found names name k past l same = grind (arith, cond-true, drop-cons, lt-ltb)

-- all names are others
pub past_none : (names : List (List ℕ)) (name : List ℕ) (k : ℕ) → IsPast names name k → length names ≤ k → place_of names name ≡ None
past_none names name k past l = grind (arith, drop_all, le-ltb)

-- the rules for adding and finding names
pub ruleset places = (place_of-absent, place_of-present, place_is_length, place_of-no_name)

-- the rules for copying names one by one
pub ruleset copies = (none_before, place_of-absent, take_name)
