-- The contents of an order's tables, and the room in them.
use Rattle.roman_order.proofs.Common.{◌≡◌, ◌≢◌, ℕ, ◌+◌, ◌-◌, ◌*◌, ◌/◌, ◌^◌, ◌<◌, ◌≤◌, true, false, not, [], ◌∷◌, ◌++◌, length, drop, get_or, replicate, sym, ◌∙◌, subst, arith, bit_and, length-append, ap, w64, bit_not, set, length-replicate, get_or-replicate, length-take-le, replicate-append-replicate, take_all, is_on, AreRows, full_word, Board, set_lanes, has_entry, entries_at, IsBatch, board_of, IsPlaced, CanWait, IsSound, IsSized, removal_list, Batch, Inside, take-add}
use Rattle.roman_order.proofs.Lanes.{AreRows-full, AreRows-pushed, in_lanes, lanes_once, some_lane}
use Rattle.roman_order.proofs.Places.{IsPlaced-nil, place_in_list-from_greatest}
use Rattle.roman_order.proofs.Counts.{counted_unlisted}
use Rattle.roman_order.proofs.Firsts.{few_firsts}
use Rattle.roman_order.proofs.Batches.{CanWait-nil, few_batches, length-entries_at, AreCounted-nil}
use Rattle.roman_order.proofs.Pushes.{pair_below, IsPlaced-lanes}

-- the list has at most as many entries as there are pairs
pub few_listed : (a : Inside) → IsSound a → length (removal_list a) ≤ a.rows * a.lanes
few_listed a sound = omega (arith, counted_unlisted (a.rows * a.lanes) (removal_list a) sound.placed.apart sound.placed.in_range)

-- the count is the length of the list, and there are at most as many batches
pub record IsFew (a : Inside) : Type 0 where
  pub count : length (removal_list a) ≡ a.count
  pub count_fits : a.count < 2 ^ 32
  pub listed : a.count ≤ a.rows * a.lanes
  pub batches : length a.batches.items ≤ a.count
  pub firsts : length a.firsts.items ≤ length a.batches.items

pub few : (a : Inside) → IsSound a → IsFew a
few a sound = grind (arith, few_batches, few_listed, few_firsts)

-- the entries of the list can wait
pub list_waits : (a : Inside) → IsSound a → CanWait a.lanes a.batches.items
list_waits a sound = grind arith

-- an order without entries and with full words is sound
pub blank_sound : (a : Inside) → IsSized a → CanWait a.waiting_lanes (drop a.next a.waiting.items) → a.batches.items ≡ [] → a.firsts.items ≡ [] → a.count ≡ 0 → a.stamps.items ≡ [] →
    a.words.items ≡ replicate a.rows ((2 ^ 64 - 1) / 2 ^ (64 - a.lanes)) → IsSound a
blank_sound a sized waits batches firsts count stamps words =
    let full : ℕ = (2 ^ 64 - 1) / 2 ^ (64 - a.lanes) in
    record {
      placed = rw batches (IsPlaced-nil (a.rows * a.lanes));
      counted = rw (batches, firsts, count) (AreCounted-nil a.lanes);
      waits = waits;
      stamped = rw stamps (λ p h. absurd (omega arith));
      alive = rw (batches, words)
          (AreRows-full a.lanes (replicate a.rows full) (λ y h. get_or-replicate a.rows y full 0 (omega (arith, h, length-replicate a.rows full)) ∙ full_word a.lanes sized.few_lanes.1));
      sized = sized;
    }

-- a table that is written piece by piece
pub ruleset piece_rules = (length-replicate, length-take-le, replicate-append-replicate, take-add, take_all)

-- an order that is made equal to another one
pub ruleset reset_rules = (CanWait-nil, few)

-- the stamps of the pairs
pub ruleset stamp_rules = (few, few_listed, place_in_list-from_greatest)

-- ---- the entries of a batch

-- the facts after the pairs of a batch are listed
pub record IsPushed (a : Inside) (e : Batch) : Type 0 where
  pub placed : IsPlaced (a.rows * a.lanes) (removal_list a ++ entries_at a.lanes e)
  pub batch : IsBatch a.lanes e
  pub alive : AreRows a.lanes (λ p. not (has_entry (removal_list a ++ entries_at a.lanes e) p)) (set a.words.items e.row (bit_and (get_or a.words.items e.row 0) (bit_not w64 e.lanes)))
  pub room : a.count + length (set_lanes e.lanes) ≤ a.room
  pub row : e.row < a.rows

pub pushed : (a : Inside) (b : Board) (e : Batch) → board_of a ≡ b → IsSound a → e.row < b.rows → ((lane : ℕ) → is_on e.lanes lane ≡ true → lane < b.lanes) →
    ((lane : ℕ) → is_on e.lanes lane ≡ true → has_entry b.list (e.row * b.lanes + lane) ≡ false) → e.lanes < 2 ^ 64 → e.lanes ≢ 0 → IsPushed a e
pushed a b e is sound row within alive fits some =
    let r : e.row < a.rows = rw (ap (λ (d : Board). d.rows) is) row in
    let w : (lane : ℕ) → is_on e.lanes lane ≡ true → lane < a.lanes = rw (ap (λ (d : Board). d.lanes) is) within in
    let f : (lane : ℕ) → is_on e.lanes lane ≡ true → has_entry (removal_list a) (e.row * a.lanes + lane) ≡ false =
    subst (λ (d : Board). (lane : ℕ) → is_on e.lanes lane ≡ true → has_entry d.list (e.row * d.lanes + lane) ≡ false) (sym is) alive in
    let placed = IsPlaced-lanes (a.rows * a.lanes) (e.row * a.lanes) e.reason (set_lanes e.lanes) (removal_list a) (lanes_once e.lanes)
    (λ lane i. let on = (in_lanes e.lanes lane i).1 in (pair_below a.rows a.lanes e.row lane r (w lane on), f lane on)) sound.placed in
    record {
      placed = placed;
      batch = record { some = some_lane e.lanes some fits; within = w };
      alive = AreRows-pushed _ _ _ _ _ _ sound.sized.few_lanes.1 (omega (arith, r, sound.sized.words_long)) fits w sound.alive;
      room = omega (arith, counted_unlisted _ _ placed.apart placed.in_range, length-append (removal_list a) (entries_at a.lanes e), length-entries_at a.lanes e, sound.counted.count, sound.sized.room);
      row = r;
    }
