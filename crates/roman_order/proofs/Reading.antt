-- The entries from a place of the list on.
use Rattle.roman_order.proofs.Common.{◌≡◌, ◌≢◌, ℕ, zero, suc, ◌+◌, ◌-◌, ◌*◌, ◌%◌, ◌^◌, ◌<◌, ◌≤◌, true, List, [], ◌∷◌, ◌++◌, map, length, get_or, take, drop, Some, inl, inr, refl, sym, ap, ◌∙◌, subst, arith, eqb, length-append, slice_get, add-one, AllByRecursion, cases_lt, eq-eqb, or_right, or_left, length-drop, take-append-drop, get_or_past, drop-set, length-set, drop-append-le, drop-drop, drop-map, get_or_default, list_any-append, flat_map-append, Entry, Board, as_entry, set_lanes, has_entry, is_on, IsBatch, entries_at, entries_of, board_of, firsts_of, AreCounted, CanWait, IsSound, places_of, Batch, Inside, lt_of_mul-lt-mul_right, drop-append_seam, take-add, drop-cons, slice_get-get_or, IsIn, in_append_right, IsBatchOf}
use Rattle.std.proofs.lemmas.List.{get_or-drop}
use Rattle.roman_order.proofs.Tables.{few}
use Rattle.roman_order.proofs.Lanes.{no_lane, set_lanes-zero}
use Rattle.roman_order.proofs.Batches.{entries_of-push, length-firsts_of, fewer, later, length-entries_at, rest_waits}

-- ---- lists

-- the rest of a list after a part of its rest
drop_past : {X : Type 0} (xs ys zs : List X) (i : ℕ) → drop i xs ≡ ys ++ zs → drop (i + length ys) xs ≡ zs
drop_past xs ys zs i e = sym (drop-drop (length ys) i xs) ∙ (ap (drop (length ys)) e ∙ drop-append_seam ys zs)

-- the rest of a list after an element
pub drop_next : {X : Type 0} (xs : List X) (i : ℕ) (x : X) (ys : List X) → drop i xs ≡ x ∷ ys → drop (i + 1) xs ≡ ys
drop_next xs i x ys e = drop_past xs (x ∷ []) ys i e

pub get_first : {X : Type 0} (xs : List X) (i : ℕ) (x : X) (ys : List X) → drop i xs ≡ x ∷ ys → slice_get xs i ≡ Some x
get_first xs i x ys e = grind (arith, (slice_get-get_or xs i x), (get_or-drop i xs 0 x), (length-drop i xs))

pub all_in : {X : Type 0} (P : X → Type 0) (xs : List X) (x : X) → AllByRecursion P xs → IsIn x xs → P x
all_in P [] x all i = absurd i
all_in P (y ∷ ys) x all (inl same) = subst P (sym same) all.0
all_in P (y ∷ ys) x all (inr i) = all_in P ys x all.1 i

all_at : {X : Type 0} (P : X → Type 0) (xs : List X) (i : ℕ) (x : X) (ys : List X) → AllByRecursion P xs → drop i xs ≡ x ∷ ys → P x
all_at P xs i x ys all e = all_in P xs x all (subst (IsIn x) (take-append-drop i xs) (in_append_right x (take i xs) (drop i xs) (rw e (inl refl))))

-- the next batch
pub ruleset one_batch = (add-one, drop-cons)

-- ---- the batches of a list

firsts_at : (lanes n : ℕ) (es : List Batch) (j : ℕ) → get_or (firsts_of n es) j (n + length (entries_of lanes es)) ≡ n + length (entries_of lanes (take j es))
firsts_at lanes n [] zero = refl
firsts_at lanes n [] (suc j) = refl
firsts_at lanes n (e ∷ es) zero = omega arith
firsts_at lanes n (e ∷ es) (suc j) = grind (arith, length-entries_at, length-append, (firsts_at lanes (n + length (set_lanes e.lanes)) es j))

-- the place where the batch at place j begins, or the length of the list
pub begins_at : (lanes n : ℕ) (places : List ℕ) (es : List Batch) (j : ℕ) → AreCounted lanes n places es → get_or places j n ≡ length (entries_of lanes (take j es))
begins_at lanes n places es j are = grind (arith, (firsts_at lanes 0 es j))

-- the entries of the batches before place j, and of those from it on
pub entries_split : (lanes : ℕ) (es : List Batch) (j : ℕ) → entries_of lanes es ≡ entries_of lanes (take j es) ++ entries_of lanes (drop j es)
entries_split lanes es j = ap (entries_of lanes) (sym (take-append-drop j es)) ∙ flat_map-append (entries_at lanes) (take j es) (drop j es)

-- the list from the batch at place j on
pub from_batch : (lanes : ℕ) (es : List Batch) (j : ℕ) → drop (length (entries_of lanes (take j es))) (entries_of lanes es) ≡ entries_of lanes (drop j es)
from_batch lanes es j = ap (drop (length (entries_of lanes (take j es)))) (entries_split lanes es j) ∙ drop-append_seam (entries_of lanes (take j es)) (entries_of lanes (drop j es))

-- the first entry of a batch
first_listed : (lanes : ℕ) (e : Batch) (after : List (Entry ℕ)) (ls : List ℕ) → 0 < length ls →
    (lane : ℕ) × (has_entry (map (λ lane. as_entry (e.row * lanes + lane, e.reason)) ls ++ after) (e.row * lanes + lane) ≡ true)
first_listed lanes e after [] some = absurd (omega arith)
first_listed lanes e after (lane ∷ ls) some = (lane, or_left (eqb (e.row * lanes + lane) (e.row * lanes + lane)) _ (eq-eqb _ _ refl))

-- the rows of batches are those of their pairs
pub rows_within : (rows lanes : ℕ) (es : List Batch) → ((p : ℕ) → has_entry (entries_of lanes es) p ≡ true → p < rows * lanes) → AllByRecursion (IsBatch lanes) es → AllByRecursion (λ e. e.row < rows) es
rows_within rows lanes [] in_range all = tt
rows_within rows lanes (e ∷ es) in_range all =
    let (lane, listed) = first_listed lanes e (entries_of lanes es) (set_lanes e.lanes) all.0.some in
    let low = in_range (e.row * lanes + lane) listed in
    let rest = rows_within rows lanes es (λ p h. in_range p (grind (arith, list_any-append, or_right))) all.1 in
    (lt_of_mul-lt-mul_right lanes {m = e.row} {n = rows} (omega arith), rest)

-- the entries from place i on begin with those of the lanes that are left of the batch
pub batch_rest : (rows lanes : ℕ) (L : List (Entry ℕ)) (i first : ℕ) (e : Batch) (left : ℕ) → IsBatchOf rows lanes L i first e → set_lanes left ≡ drop (i - first) (set_lanes e.lanes) →
    drop i L ≡ entries_at lanes (later e left) ++ drop (i + length (set_lanes left)) L
batch_rest rows lanes L i first e left is rest =
    let front = drop-append-le (i - first) (entries_at lanes e) (drop (first + length (set_lanes e.lanes)) L) (omega (arith, length-entries_at lanes e, is.within)) in
    let same : drop (i - first) (entries_at lanes e) ≡ entries_at lanes (later e left) = grind (arith, drop-map, later) in
    let ends : first + length (set_lanes e.lanes) ≡ i + length (set_lanes left) = omega (arith, ap length rest, length-drop (i - first) (set_lanes e.lanes), is.from, is.within) in
    grind (arith, drop-drop)

-- ---- the tables of an order

-- each batch begins after the one before it
rising : (lanes n : ℕ) (es : List Batch) (j : ℕ) → AllByRecursion (IsBatch lanes) es → j + 1 < length (firsts_of n es) → get_or (firsts_of n es) j 0 < get_or (firsts_of n es) (j + 1) 0
rising lanes n [] j all low = absurd (omega (arith, low))
rising lanes n (e ∷ []) j all low = absurd (omega (arith, low))
rising lanes n (e ∷ f ∷ es) zero all low = omega (arith, all.0.some)
rising lanes n (e ∷ f ∷ es) (suc j) all low = grind (arith, (rising lanes (n + length (set_lanes e.lanes)) (f ∷ es) j))

pub rises : (a : Inside) (j : ℕ) → IsSound a → j + 1 < length a.batches.items →
    get_or (places_of (length a.batches.items) a.firsts.items) j 0 < get_or (places_of (length a.batches.items) a.firsts.items) (j + 1) 0
rises a j sound low = rw sound.counted.firsts (rising a.lanes 0 a.batches.items j sound.counted.each (rw (length-firsts_of 0 a.batches.items) low))

-- in a list with entries, the first batch begins at place 0
first_begins : (lanes : ℕ) (es : List Batch) → 0 < length (entries_of lanes es) → (0 < length (firsts_of 0 es)) × (get_or (firsts_of 0 es) 0 0 ≡ 0)
first_begins lanes [] some = absurd (omega arith)
first_begins lanes (e ∷ es) some = (omega arith, refl)

pub begins : (a : Inside) (b : Board) (i : ℕ) → board_of a ≡ b → IsSound a → i < length b.list → (0 < length a.batches.items) × (get_or (places_of (length a.batches.items) a.firsts.items) 0 0 ≡ 0)
begins a b i is sound low = grind (arith, first_begins, length-firsts_of)

-- the batch at place j has the entry at place i, if no later batch begins at place i or before
pub found : (a : Inside) (b : Board) (j i first : ℕ) (e : Batch) → board_of a ≡ b → IsSound a → i < length b.list → j < length a.batches.items → drop j a.batches.items ≡ e ∷ drop (j + 1) a.batches.items →
    first ≡ get_or (places_of (length a.batches.items) a.firsts.items) j 0 → first ≤ i → (j + 1 < length a.batches.items → i < get_or (places_of (length a.batches.items) a.firsts.items) (j + 1) 0) → IsBatchOf b.rows b.lanes b.list i first e
found a b j i first e is sound low h split read from to =
    let es = a.batches.items in
    let n = a.lanes in
    let F = places_of (length es) a.firsts.items in
    let whole : length F ≡ length es = ap length sound.counted.firsts ∙ length-firsts_of 0 es in
    let start : first ≡ length (entries_of n (take j es)) = read ∙ (get_or_default F j 0 a.count (omega (arith, h, whole)) ∙ begins_at n a.count F es j sound.counted) in
    let next : i < length (entries_of n (take (j + 1) es)) = grind (arith, cases_lt, whole, (get_or_past F (j + 1) a.count), (get_or_default F (j + 1) 0 a.count), (begins_at n a.count F es (j + 1) sound.counted)) in
    let rest : drop first (entries_of n es) ≡ entries_at n e ++ entries_of n (drop (j + 1) es) = rw start (from_batch n es j ∙ ap (entries_of n) split) in
    let long = length-entries_at n e in
    let front : take (j + 1) es ≡ take j es ++ e ∷ [] = take-add j 1 es ∙ ap (λ ys. take j es ++ take 1 ys) split in
    let more : length (entries_of n (take (j + 1) es)) ≡ first + length (set_lanes e.lanes) = grind (arith, entries_of-push, length-append, length-entries_at) in
    rw (← is) (record {
      parts = rw (← long, drop_past (entries_of n es) (entries_at n e) _ first rest) rest;
      from = from;
      within = omega (arith, next, more);
      to = omega (arith, more, ap length (entries_split n es (j + 1)), length-append (entries_of n (take (j + 1) es)) (entries_of n (drop (j + 1) es)));
      batch = all_at (IsBatch n) es j e _ sound.counted.each split;
      row = all_at (λ (x : Batch). x.row < a.rows) es j e _ (rows_within a.rows n es sound.placed.in_range sound.counted.each) split;
    })

-- the batch of a place of the list, and the rest of it from that place on
pub ruleset batch_rules = (few, fewer, length-drop)

-- ---- the first waiting entry

-- the first waiting batch e begins with the entry of the lane, and its other lanes are those of `left`
pub record IsFirst (a : Inside) (e : Batch) (lane left : ℕ) : Type 0 where
  pub fits : e.row * a.waiting_lanes + lane < 2 ^ 32
  pub first : entries_of a.waiting_lanes (drop a.next a.waiting.items) ≡ as_entry (e.row * a.waiting_lanes + lane, e.reason) ∷ entries_of a.waiting_lanes (later e left ∷ drop (a.next + 1) a.waiting.items)
  pub more : left ≢ 0 → CanWait a.waiting_lanes (later e left ∷ drop (a.next + 1) a.waiting.items)
  pub only : left ≡ 0 → entries_of a.waiting_lanes (later e left ∷ drop (a.next + 1) a.waiting.items) ≡ entries_of a.waiting_lanes (drop (a.next + 1) a.waiting.items)
  pub rest : CanWait a.waiting_lanes (drop (a.next + 1) a.waiting.items)

pub first_waits : (a : Inside) (es : List Batch) (e : Batch) (lane left : ℕ) → IsSound a → es ≡ a.waiting.items → drop a.next es ≡ e ∷ drop (a.next + 1) es →
    set_lanes e.lanes ≡ lane ∷ set_lanes left → (left ≢ 0 → 0 < length (set_lanes left)) → ((bit : ℕ) → is_on left bit ≡ true → is_on e.lanes bit ≡ true) → IsFirst a e lane left
first_waits a es e lane left sound same read split some on =
    let can = rw (rw same at read) at sound.waits in
    let p : ℕ = e.row * a.waiting_lanes + lane in
    let first : entries_of a.waiting_lanes (drop a.next a.waiting.items) ≡ as_entry (p, e.reason) ∷ entries_of a.waiting_lanes (later e left ∷ drop (a.next + 1) a.waiting.items) = grind (arith, later) in
    let listed = rw first at sound.waits.in_range in
    record {
      fits = listed p (or_left (eqb p p) _ (eq-eqb p p refl));
      first = first;
      more = λ more. record { each = (fewer a.waiting_lanes e left can.each.0 (some more) on, can.each.1); in_range = λ q h. listed q (or_right (eqb q p) _ h) };
      only = λ none. grind (arith, set_lanes-zero, later);
      rest = rest_waits a.waiting_lanes e _ can;
    }

-- the first waiting entry is taken
pub ruleset waiting_rules = (drop-set, first_waits, length-set, no_lane)
