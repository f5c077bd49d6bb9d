-- Batches whose pairs have no bits in the kept words.
use Rattle.roman_order.proofs.Common.{◌≡◌, ℕ, suc, ◌+◌, ◌-◌, ◌*◌, ◌/◌, ◌%◌, ◌<◌, ◌≤◌, true, false, List, ◌++◌, length, get_or, take, drop, bit_and, sym, ap, ◌∙◌, subst, arith, length-append, ap₂, length-drop, take-append-drop, both_ways, and_from, false_from_ne_true, flat_map-append, on_zero, on_and, Entry, IsIn, is_on, as_entry, set_lanes, entries_at, entries_of, IsBatch, IsApart, IsSound, board_of, places_of, Batch, Inside, take-append_seam, take-add, take-suc, get_or-drop, AreUnkept, slice_index, from_flat_map, from_map, from_push, in_append_left, in_append_right}
use Rattle.roman_order.proofs.Lanes.{in_lanes, lane_place}
use Rattle.roman_order.proofs.Reading.{all_in, begins_at, entries_split, from_batch}

-- words without a common bit have no lane in common
pub apart_words : (word other lane : ℕ) → bit_and word other ≡ 0 → is_on other lane ≡ true → is_on word lane ≡ false
apart_words word other lane none on =
    false_from_ne_true (is_on word lane) (λ t. both_ways (is_on (bit_and word other) lane) (ap (λ w. is_on w lane) none ∙ on_zero lane) (on_and word other lane ∙ and_from (is_on word lane) (is_on other lane) t on))

-- the entries of a batch whose row's kept word has none of its lanes
entry_unkept : (lanes : ℕ) (words : List ℕ) (e : Batch) (x : Entry ℕ) → IsBatch lanes e → IsApart words e → IsIn x (entries_at lanes e) → is_on (slice_index words (x.node / lanes)) (x.node % lanes) ≡ false
entry_unkept lanes words e x is apart i =
    let (lane, among, same) = from_map (λ (l : ℕ). as_entry (e.row * lanes + l, e.reason)) x (set_lanes e.lanes) i in
    let on = (in_lanes e.lanes lane among).1 in
    let node : x.node ≡ e.row * lanes + lane = ap (λ (y : Entry ℕ). y.node) same in
    let place = lane_place lanes e.row lane (is.within lane on) in
    ap₂ (λ y k. is_on (slice_index words y) k) (ap (λ q. q / lanes) node ∙ place.0) (ap (λ q. q % lanes) node ∙ place.1) ∙ apart lane on

-- one more batch
pub apart_more : (words : List ℕ) (es : List Batch) (from j : ℕ) (d : Batch) → from ≤ j → j < length es → IsApart words (get_or es j d) →
    ((x : Batch) → IsIn x (take (j - from) (drop from es)) → IsApart words x) → (x : Batch) → IsIn x (take (j + 1 - from) (drop from es)) → IsApart words x
apart_more words es from j d l h own rest x i lane on =
    let one : j + 1 - from ≡ suc (j - from) = omega (arith, l) in
    let place : from + (j - from) ≡ j = omega (arith, l) in
    grind (arith, (from_push x (get_or es j d) (take (j - from) (drop from es))), (get_or-drop from es (j - from) d), (take-suc (drop from es) (j - from) d), (length-drop from es))

-- the entries from place i to place m of the list have no bits in the kept words, once their batches are passed over
pub passed_over : (a : Inside) (near j i m : ℕ) → IsSound a → near ≤ j → j ≤ length a.batches.items → i ≡ get_or (places_of (length a.batches.items) a.firsts.items) near a.count → m ≡ get_or (places_of (length a.batches.items) a.firsts.items) j a.count →
    ((e : Batch) → IsIn e (take (j - near) (drop near a.batches.items)) → IsApart a.before.items e) → AreUnkept (board_of a) i m
passed_over a near j i m sound l h start end apart =
    let es = a.batches.items in
    let n = a.lanes in
    let batches = take (j - near) (drop near es) in
    let F = entries_of n batches in
    let G = entries_of n (drop (j - near) (drop near es)) in
    let place : near + (j - near) ≡ j = omega (arith, l) in
    let front : entries_of n (take j es) ≡ entries_of n (take near es) ++ F =
    ap (λ q. entries_of n (take q es)) (sym place) ∙ (ap (entries_of n) (take-add near (j - near) es) ∙ flat_map-append (entries_at n) (take near es) batches) in
    let first : i ≡ length (entries_of n (take near es)) = start ∙ begins_at n a.count (places_of (length es) a.firsts.items) es near sound.counted in
    let last : m ≡ length (entries_of n (take j es)) = end ∙ begins_at n a.count (places_of (length es) a.firsts.items) es j sound.counted in
    let long : m ≡ i + length F = omega (arith, last, ap length front, length-append (entries_of n (take near es)) F, first) in
    let rest : drop i (entries_of n es) ≡ F ++ G = rw first (from_batch n es near ∙ entries_split n (drop near es) (j - near)) in
    let between : take (m - i) (drop i (entries_of n es)) ≡ F = rw rest (ap (λ q. take q (F ++ G)) (omega (arith, long)) ∙ take-append_seam F G) in
    record {
      from = omega (arith, long);
      to = omega (arith, last, ap length (entries_split n es j), length-append (entries_of n (take j es)) (entries_of n (drop j es)));
      unkept = λ x inside.
          let (e, among, own) = from_flat_map (entries_at n) x batches (subst (IsIn x) between inside) in
          let later : IsIn e (drop near es) = subst (IsIn e) (take-append-drop (j - near) (drop near es)) (in_append_left e batches (drop (j - near) (drop near es)) among) in
          let all : IsIn e es = subst (IsIn e) (take-append-drop near es) (in_append_right e (take near es) (drop near es) later) in
          entry_unkept n a.before.items e x (all_in (IsBatch n) es e sound.counted.each all) (apart e among) own;
    }
