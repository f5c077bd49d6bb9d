-- Lists of entries that begin with other lists.
use Rattle.roman_relation.proofs.Common.{◌≡◌, ℕ, ◌≤◌, ◌==◌, List, length, take, drop, IsTrue, IsFalse, sym, ap, ◌∙◌, subst, arith, take-append-drop, ◌++◌, ◌+◌, take-append_seam, take-length, both_ways, or_left, false_from_ne_true, take-take, length-take, Arena, Entry, is_listed, fall, any_same, listed_append, fall_append, IsNumbered, has_entry, Board, Begins, SettlesOn, IsShaped}

-- a node is listed exactly if the order has an entry for it
pub listed_is : (A : Arena ℕ) → IsNumbered A → (L : List (Entry ℕ)) (p : ℕ) → is_listed A L p ≡ has_entry L p
listed_is A ok L p = any_same (λ (x : Entry ℕ). A.same p x.node) (λ (x : Entry ℕ). p == x.node) L (λ x i. ok.same p x.node)

pub begins_length : (L M : List (Entry ℕ)) → Begins L M → length L ≤ length M
begins_length L M b = let same : length (take (length L) M) ≡ length L = ap length b in omega (arith, length-take (length L) M)

pub begins_append : (L M : List (Entry ℕ)) → Begins L (L ++ M)
begins_append L M = take-append_seam L M

-- a list and its prefix have the same shorter prefixes
pub begins_same : (L M : List (Entry ℕ)) (i : ℕ) → Begins L M → i ≤ length L → take i M ≡ take i L
begins_same L M i b l = sym (take-take i (length L) M l) ∙ ap (take i) b

pub begins_on : (L M N : List (Entry ℕ)) → Begins L M → Begins M N → Begins L N
begins_on L M N b c = begins_same M N (length L) c (begins_length L M b) ∙ b

-- a node that a prefix of a list lists is listed in the list
pub take_listed : (A : Arena ℕ) (i : ℕ) (L : List (Entry ℕ)) (p : ℕ) → IsTrue (is_listed A (take i L) p) → IsTrue (is_listed A L p)
take_listed A i L p t =
    subst (λ M. IsTrue (is_listed A M p)) (take-append-drop i L)
    (listed_append A (take i L) (drop i L) p ∙ or_left (is_listed A (take i L) p) (is_listed A (drop i L) p) t)

pub begins_listed : (A : Arena ℕ) (L M : List (Entry ℕ)) (p : ℕ) → Begins L M → IsTrue (is_listed A L p) → IsTrue (is_listed A M p)
begins_listed A L M p b t = take_listed A (length L) M p (subst (λ N. IsTrue (is_listed A N p)) (sym b) t)

pub begins_unlisted : (A : Arena ℕ) (L M : List (Entry ℕ)) (p : ℕ) → Begins L M → IsFalse (is_listed A M p) → IsFalse (is_listed A L p)
begins_unlisted A L M p b f = false_from_ne_true (is_listed A L p) (λ t. both_ways (is_listed A M p) f (begins_listed A L M p b t))

-- Orders that extend others.

pub goes_on_on : (A : Arena ℕ) (a b c : Board) → SettlesOn A a b → SettlesOn A b c → SettlesOn A a c
goes_on_on A a b c p q = grind (arith, begins_on)

-- an order that extends another keeps its shape
pub shaped_on : (A : Arena ℕ) (lanes : ℕ) (b c : Board) → IsShaped A lanes b → SettlesOn A b c → IsShaped A lanes c
shaped_on A lanes b c s g = rw g.rest (record { pairs = s.pairs; lanes = s.lanes })

-- the fall of a longer list is that of its prefix and that of the rest
pub fall_added : (A : Arena ℕ) (L M : List (Entry ℕ)) → Begins L M → fall A M ≡ fall A L + fall A (drop (length L) M)
fall_added A L M b = ap (fall A) (sym (take-append-drop (length L) M) ∙ ap (λ N. N ++ drop (length L) M) b) ∙ fall_append A L (drop (length L) M)

-- a list that begins with a list of the same length is that list
pub same_list : (L M : List (Entry ℕ)) → Begins L M → length M ≡ length L → M ≡ L
same_list L M b e = sym (take-length M) ∙ (ap (λ n. take n M) e ∙ b)
