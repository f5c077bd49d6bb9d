-- Moves of services within the lanes.
use Rattle.roman_joint.proofs.Common.{same_Some, slice_get-get_or, slice_get_within, IsServiceAt, AreMovesOf, AreSeatsIn, AreShifts, HoldsMoves, HoldsSpans, IsAdded, IsKept, IsSpan, SuitsEnv, lane_move, lane_moves_from, span_place, system_in, shifts_room, within_in, AreSizes, IsSizes, stride_of, AreSizes-drop, AreSizes-index, lanes_few, product_positive, Beh, Env, Seat, Sys, Bool, List, Some, [], ap, ap₂, arith, cond, drop, eqb, get_or, inl, inr, length, not, refl, slice_get, slice_index, slice_index_or, slice_range, subst, suc, sym, true, zero, ℕ, ◌%◌, ◌&&◌, ◌*◌, ◌++◌, ◌+◌, ◌-◌, ◌/◌, ◌<◌, ◌==◌, ◌∙◌, ◌∷◌, ◌≡◌, ◌≢◌, ◌≤◌, IsIn, below, product_of, Move, Moves, NamedBeh, NamedSys, seat_of, system_of, Parts, Sizes, count, sizes_of, Span, Shifts, and_parts, cases_eq, cases_lt, eq-eqb, eqb-true, false≢true, ne_eqb, not_from_false, any_from, any_true, filter_below_more, filter_in, from_below, from_map, in_below, in_filter, in_map, length-below, same_test, append_assoc, drop-append-le, drop_all, drop_more, get_or_append_left, length-append, length-map, map-append, take_all, beh_next, count_by-le-length, length-filter, div-add-mod', div_below, mod_below, mul-add-lt, same_from_place, filter, list_any, get_or-append_seam, is_on, lane_state_of, low_in, lanes_of, low_of, mul-le-mul_right, named_in, on_zero, with_frozen, slice_range-append, length-drop}
use Rattle.roman_joint.specs.declared.seat.Seat as declared
use Rattle.roman_joint.proofs.SeatChanges.{with_seats, frozen_sizes, frozen_at}
use Rattle.roman_joint.proofs.BehaviourLemmas.{service_read}
use Rattle.roman_joint.proofs.LeadLemmas.{lane_state}
use Rattle.roman_joint.proofs.GoodLemmas.{state_below}

-- next states are in range
pub next_below : (beh : Beh) (b e a c : ℕ) → IsIn c (beh_next beh b e a) → c < beh.states
next_below beh b e a c i = from_below beh.states c (filter_in _ c (below beh.states) i).0

-- an upper bound on the number of shifts
pub room_fits : (ns : List ℕ) → AreSizes ns → shifts_room ns ≤ 2 * product_of ns + length ns
room_fits [] h = omega arith
room_fits (n ∷ ns) h =
    let rest : shifts_room ns ≤ 2 * product_of ns + length ns = room_fits ns h.2 in
    let both : n + product_of ns ≤ n * product_of ns + 1 = more n (product_of ns) h.0 (product_positive ns h.2) in
    omega arith
  where
    more : (a b : ℕ) → 0 < a → 0 < b → a + b ≤ a * b + 1
    more zero b x y = absurd (omega arith)
    more (suc a) zero x y = absurd (omega arith)
    more (suc a) (suc b) x y = omega arith

pub lanes_room : (n : Sizes) → IsSizes n → shifts_room (drop (low_of n.seats) n.seats) ≤ 160
lanes_room n h = grind (arith, AreSizes-drop, lanes_few, length-drop, room_fits)

-- one more shift
pub shift_more : (lanes : List ℕ) (last stride j : ℕ) → lane_moves_from lanes last stride (j + 1) ≡ lane_moves_from lanes last stride j ++ cond (eqb (slice_index lanes j) 0) [] (lane_move lanes last stride j ∷ [])
shift_more lanes last stride j = grind (arith, filter_below_more, map-append)

pub shifts_few : (lanes : List ℕ) (last stride count : ℕ) → length (lane_moves_from lanes last stride count) ≤ count
shifts_few lanes last stride count = grind (arith, count_by-le-length, length-below, length-filter, length-map)

-- the lane to which a shift leads
shift_goes : (lane st last j digit b : ℕ) → b + (last + 1) ≡ j + 1 + digit → digit * st ≤ lane → ((last - j) * st ≤ lane) × (lane + (j - last) * st - (last - j) * st ≡ lane + b * st - digit * st)
shift_goes lane st last j digit b e taken = grind (arith, cases_lt)

-- the moves of the shifts are those of the service
pub moves_made : (n : Sizes) (k last e a : ℕ) (beh : Beh) (shifts : Shifts) → IsSizes n → low_of n.seats ≤ k → k < length n.seats → beh.states ≡ slice_index n.seats k → last + 1 ≡ slice_index n.seats k →
    AreShifts n k beh e a shifts → AreMovesOf n k beh e a shifts.some (lane_moves_from shifts.lanes last (stride_of n k) (last + last + 1))
moves_made n k last e a beh shifts h within seat states size ok = assumption (ok, small_move, within_move, lead)
  where
    st : ℕ
    st = stride_of n k

    all : ℕ → Bool
    all j = not (slice_index shifts.lanes j == 0)

    moves : List Move
    moves = lane_moves_from shifts.lanes last st (last + last + 1)

    digit : ℕ → ℕ
    digit lane = lane_state_of n k lane

    nexts : ℕ → List ℕ
    nexts lane = beh_next beh (digit lane) e a

    less : (x : ℕ) → x ≤ last → x * st < 64
    less x l = let product : x * st ≤ last * st = mul-le-mul_right st l in omega (arith, product, state_below n k last h within seat (omega arith))

    small_move : (move : Move) → IsIn move moves → (move.from < 64) × (move.to < 64)
    small_move move i =
        let (j, in_all, is) = from_map (lane_move shifts.lanes last st) move (filter all (below (last + last + 1))) i in
        let l : j < last + last + 1 = from_below (last + last + 1) j (filter_in all j (below (last + last + 1)) in_all).0 in
        (subst (λ (m : Move). m.from < 64) (sym is) (less (last - j) (omega arith)), subst (λ (m : Move). m.to < 64) (sym is) (less (j - last) (omega arith)))

    sound : (move : Move) (lane : ℕ) → IsIn move moves → lane < lanes_of n.seats → is_on move.lanes lane ≡ true → (b : ℕ) × IsIn b (nexts lane) × (move.from ≤ lane) × (lane + move.to - move.from ≡ lane + b * st - digit lane * st)
    sound move lane i l on =
        let (j, in_all, is) = from_map (lane_move shifts.lanes last st) move (filter all (below (last + last + 1))) i in
        let test = λ (b : ℕ). b + slice_index n.seats k == j + 1 + digit lane in
        let (b, in_states, t) = any_true test (nexts lane) (sym (ok.goes j lane l) ∙ (ap (λ (m : Move). is_on m.lanes lane) (sym is) ∙ on)) in
        let sum : b + (last + 1) ≡ j + 1 + digit lane = ap (λ m. b + m) size ∙ eqb-true (b + slice_index n.seats k) (j + 1 + digit lane) t in
        let (taken, there) = shift_goes lane st last j (digit lane) b sum (lane_state n k lane h within seat l).taken in
        (b, in_states, subst (λ (m : Move). m.from ≤ lane) (sym is) taken, subst (λ (m : Move). lane + m.to - m.from ≡ lane + b * st - digit lane * st) (sym is) there)

    state_of : (b lane : ℕ) → IsIn b (nexts lane) → b < slice_index n.seats k
    state_of b lane i = subst (λ m. b < m) states (next_below beh (digit lane) e a b i)

    within_move : (move : Move) (lane : ℕ) → IsIn move moves → lane < lanes_of n.seats → is_on move.lanes lane ≡ true → (move.from ≤ lane) × (lane + move.to - move.from < lanes_of n.seats)
    within_move move lane i l on = let (b, in_states, taken, there) = sound move lane i l on in (taken, rw there ((lane_state n k lane h within seat l).moves b (state_of b lane in_states)))

    lead : (test : ℕ → Bool) (lane : ℕ) → lane < lanes_of n.seats → list_any (λ move. is_on move.lanes lane && test (lane + move.to - move.from)) moves ≡ list_any (λ b. test (lane + b * st - digit lane * st)) (nexts lane)
    lead test lane l = same_test _ _
        (λ t.
        let (move, i, u) = any_true (λ move. is_on move.lanes lane && test (lane + move.to - move.from)) moves t in
        let (on, passes) = and_parts (is_on move.lanes lane) (test (lane + move.to - move.from)) u in
        let (b, in_states, taken, there) = sound move lane i l on in
        any_from (λ b. test (lane + b * st - digit lane * st)) b (nexts lane) in_states (ap test (sym there) ∙ passes))
        (λ t.
        let (b, i, u) = any_true (λ b. test (lane + b * st - digit lane * st)) (nexts lane) t in
        let j : ℕ = b + last - digit lane in
        let in_size : b < slice_index n.seats k = state_of b lane i in
        let digit_below : digit lane < slice_index n.seats k = mod_below (lane / st) (slice_index n.seats k) (AreSizes-index n.seats k h.seats seat).0 in
        let sum : b + slice_index n.seats k ≡ j + 1 + digit lane = omega (arith, size, digit_below) in
        let on : is_on (slice_index shifts.lanes j) lane ≡ true = ok.goes j lane l ∙ any_from (λ c. c + slice_index n.seats k == j + 1 + digit lane) b (nexts lane) i (eq-eqb (b + slice_index n.seats k) (j + 1 + digit lane) sum) in
        let some : slice_index shifts.lanes j ≢ 0 = λ none. false≢true (sym (on_zero lane) ∙ (ap (λ w. is_on w lane) (sym none) ∙ on)) in
        let in_all = in_filter all j (below (last + last + 1)) (in_below (last + last + 1) j (omega (arith, size, in_size))) (not_from_false (eqb (slice_index shifts.lanes j) 0) (ne_eqb (slice_index shifts.lanes j) 0 some)) in
        let to = shift_goes lane st last j (digit lane) b (ap (λ m. b + m) size ∙ sum) (lane_state n k lane h within seat l).taken in
        any_from (λ move. is_on move.lanes lane && test (lane + move.to - move.from)) (lane_move shifts.lanes last st j) moves (in_map (lane_move shifts.lanes last st) j (filter all (below (last + last + 1))) in_all)
        (ap₂ (λ y z. y && z) on (ap test to.1 ∙ u)))

-- The table of moves.

range_new : {X : Type 0} (xs ys : List X) (a b : ℕ) → a ≡ length xs → b ≡ length (xs ++ ys) → slice_range (xs ++ ys) a b ≡ ys
range_new xs ys a b first end = grind (arith, drop-append-le, drop_all, length-append, take_all)

-- a seat, an action and a state of the environment have a place of their own
own_place : (s : Sys) (e a k f b j : ℕ) → k < length s.seats → j < length s.seats → low_in s ≤ k → low_in s ≤ j → a < s.env.actions → b < s.env.actions → span_place s e a k ≡ span_place s f b j → (e ≡ f) × (a ≡ b) × (k ≡ j)
own_place s e a k f b j seat other low low_other action action_other is =
    let (columns, places) = same_from_place (e * s.env.actions + a) (k - low_in s) (f * s.env.actions + b) (j - low_in s) (within_in s) (omega (arith, seat, low)) (omega (arith, other, low_other)) is in
    let (envs, actions) = same_from_place e a f b s.env.actions action action_other columns in
    (envs, actions, omega (arith, places, low, low_other))

-- one more span
pub spans_more : (s : Sys) (k e a : ℕ) (seat : Seat) (beh : Beh) (old new : Moves) → slice_get s.seats k ≡ Some seat → beh ≡ seat.beh → low_in s ≤ k → a < s.env.actions →
    length old.spans.items ≡ span_place s e a k → HoldsSpans s old.spans.items old.moves.items → IsAdded (sizes_of s) k beh e a old new → HoldsSpans s new.spans.items new.moves.items
spans_more s k e a seat beh old new seated is_beh within action long held added = record { each = λ i span l at. each i span l at }
  where
    moves_long : length new.moves.items ≡ length old.moves.items + length added.more
    moves_long = ap length added.moves ∙ length-append old.moves.items added.more

    here : (i : ℕ) → i ≡ length old.spans.items → IsSpan s i added.span new.moves.items
    here i at = record {
      first = omega (arith, added.first, added.end, moves_long);
      last = omega (arith, added.end);
      moves_of = λ f b j other is action_other low_other seated_there.
          let (envs, actions, seats) = own_place s e a k f b j (slice_get_within s.seats k seat seated) (slice_get_within s.seats j other seated_there) within low_other action action_other (sym (at ∙ long) ∙ is) in
          let same : seat ≡ other = same_Some seat other (sym seated ∙ (ap (slice_get s.seats) seats ∙ seated_there)) in
          let range : slice_range new.moves.items added.span.first added.span.end ≡ added.more =
          ap (λ ms. slice_range ms added.span.first added.span.end) added.moves ∙ range_new old.moves.items added.more added.span.first added.span.end added.first (added.end ∙ ap length added.moves) in
          rw (← envs, ← actions, ← seats, ← same, ← is_beh, range) added.moves_of;
    }

    each : (i : ℕ) (span : Span) → i < length new.spans.items → span ≡ slice_index_or new.spans.items i span → IsSpan s i span new.moves.items
    each i span l at = elim (cases_eq i (length old.spans.items)) [
      | inl same ↦
          let is : added.span ≡ span = sym (at ∙ ap (λ xs. get_or xs i span) added.spans ∙ ap (λ j. get_or (old.spans.items ++ added.span ∷ []) j span) same ∙ get_or-append_seam old.spans.items added.span [] span) in
          subst (λ x. IsSpan s i x new.moves.items) is (here i same)
      | inr other ↦
          let before : i < length old.spans.items = omega (arith, l, other, ap length added.spans, length-append old.spans.items (added.span ∷ [])) in
          let there : IsSpan s i span old.moves.items = held.each i span before (at ∙ ap (λ xs. get_or xs i span) added.spans ∙ get_or_append_left old.spans.items (added.span ∷ []) span i before) in
          let range : slice_range new.moves.items span.first span.end ≡ slice_range old.moves.items span.first span.end =
          ap (λ ms. slice_range ms span.first span.end) added.moves ∙ slice_range-append old.moves.items added.more span.first span.end there.last in
          record { first = there.first; last = omega (arith, there.last, moves_long); moves_of = λ f b j other is action_other low_other seated_there. rw range (there.moves_of f b j other is action_other low_other seated_there) }
    ]

-- a seat's span has a place in the table
pub place_within : (s : Sys) (e a k : ℕ) → low_in s ≤ k → k < length s.seats → e < s.env.states → a < s.env.actions → span_place s e a k < s.env.states * s.env.actions * within_in s
place_within s e a k within seat env action =
    let column : e * s.env.actions + a < s.env.actions * s.env.states = mul-add-lt e s.env.actions a s.env.states env action in
    omega (arith, mul-add-lt (e * s.env.actions + a) (within_in s) (k - low_in s) (s.env.actions * s.env.states) column (omega (arith, within, seat)))

pub suits_kept : (env : Env) (old new : Moves) → IsKept old new → SuitsEnv env old → SuitsEnv env new
suits_kept env old new kept suits = grind arith

-- the action and the environment's state of a column
pub record ColumnAt (env : Env) (actions column : ℕ) : Type 0 where
  pub env_state : column / actions < env.states
  pub action : column % actions < env.actions
  pub whole : column ≡ column / actions * env.actions + column % actions

pub column_at : (env : Env) (table : Moves) (column : ℕ) → SuitsEnv env table → column < env.states * env.actions → 0 < env.actions → ColumnAt env table.actions column
column_at env table column suits l some = rw suits.actions (record { env_state = div_below column env.actions env.states some l; action = mod_below column env.actions some; whole = sym (div-add-mod' column env.actions) })

-- there are as many sizes as services
pub sizes_long : (parts : Parts) (sizes : Sizes) → AreSeatsIn parts sizes → length sizes.seats ≡ length parts.seats.now
sizes_long parts sizes of = ap (λ (m : Sizes). length m.seats) of.sizes_are ∙ (length-map (system_in parts).seats (λ (y : Seat). y.beh.states) ∙ length-map parts.seats.now (seat_of parts.catalogue.now))

-- a service and its behaviour, as they are read from the parts of a joint
pub seat_here : (parts : Parts) (sizes : Sizes) (k : ℕ) (x : declared.Seat) (y : NamedBeh) → (of : AreSeatsIn parts sizes) → k < length parts.seats.now → x ≡ get_or parts.seats.now k x →
    y ≡ get_or parts.catalogue.now x.behaviour y → IsServiceAt (named_in parts of.limit) k x y
seat_here parts sizes k x y of l at_seat at_beh = service_read (named_in parts of.limit) k x parts.catalogue.now y of.known (slice_get-get_or parts.seats.now k x l ∙ ap Some (sym at_seat)) refl at_beh

pub room_more : (ns : List ℕ) (k : ℕ) → k < length ns → shifts_room (drop k ns) ≡ 2 * get_or ns k 0 - 1 + shifts_room (drop (k + 1) ns)
room_more ns k l = ap shifts_room (drop_more ns k 0 l)

-- A service that is frozen or thawed keeps its moves.

pub moves_frozen : (n : NamedSys) (k : ℕ) (frozen : Bool) (table : Moves) → HoldsMoves (system_of n) table → HoldsMoves (system_of (with_seats n (with_frozen n.seats k frozen))) table
moves_frozen n k frozen table held =
    let s = system_of n in
    let t = system_of (with_seats n (with_frozen n.seats k frozen)) in
    let sizes : sizes_of t ≡ sizes_of s = frozen_sizes n k frozen in
    let low : low_in t ≡ low_in s = ap (λ (m : Sizes). low_of m.seats) sizes in
    let within : within_in t ≡ within_in s = grind (arith, length-map) in
    let span : (i : ℕ) (span : Span) → IsSpan s i span table.moves.items → IsSpan t i span table.moves.items = λ i span ok. record {
      first = ok.first;
      last = ok.last;
      moves_of = λ e a j x is action lanes seated.
          let (y, seated_y, same) = frozen_at n.catalogue n.seats k frozen j x seated in
          rw (sizes, ← same) (ok.moves_of e a j y (rw (within, low) at is) action (rw low at lanes) seated_y);
    } in
    let spans_at : HoldsSpans t table.spans.items table.moves.items = record { each = λ i x l at. span i x (held.columns.spans_at.each i x l at) } in
    record { suits = held.suits; columns = record { long = rw within held.columns.long; few = held.columns.few; spans_at = spans_at } }

-- the shifts so far, with one more
pub ruleset shift_steps = (shift_more, shifts_few, append_assoc, length-append)
