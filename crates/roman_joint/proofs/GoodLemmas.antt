-- The pairs of a row at which a seat serves an action.
use Rattle.roman_joint.proofs.Common.{not-not, and-false, or-false, IsSizes-rows, product_positive, low_of-le, lanes_few, lanes_positive, row_least, row_below, env_rows_are, row_sizes, low_of, lanes_of, env_rows_of, target_rows_of, AreWithin, SuitsRows, outcome_number, Move, AreLaneMoves, same_test, length-below, any_same, not_empty_in, triple_in_range, from_env_next, move_in_range, from_seat_next, get_in, cases_lt, ne_eqb, eqb-true, lt-ltb, le-ltb, eq-eqb, cases_eq, ◌∷◌, ◌≡◌, ◌⊎◌, ℕ, ◌+◌, ◌-◌, ◌*◌, ◌/◌, ◌%◌, ◌<◌, ◌≤◌, ◌^◌, Bool, true, false, not, ◌&&◌, ◌||◌, eqb, ltb, inl, inr, List, [], length, get_or, slice_get, slice_index, IsFalse, refl, sym, ap, ap₂, ◌∙◌, subst, arith, cond, list_any, length-map, get_or-set_other, get_or-set_same, length-set, mul-add-lt, mul-le, mod_below, div_below, div-add-mod', nat_tests, IsIn, is_empty, Sys, Seat, IsSys, seat_next, is_beaten, Sizes, sizes_of, count, numbered, IsSizes, stride_of, is_on, HasLanes, AreRows, IsNumbered, NamedSys, system_of, seat_of, IsNamedSys, lanes_in, low_in, lane_has_state, lane_state_of, IsLayoutOf, IsRow, IsTargetMove, AreAlive, Layout, Row, TargetMove, on_and, on_zero, mul-add-div_right, add-mod-mod, mod-eq_of_lt, mul-mod_left, AreRowsBefore, Outcomes, in_at, mul_cancel, size_at}
use Rattle.roman_joint.proofs.ArenaFacts.{joint_numbered}
use Rattle.roman_joint.proofs.OutcomeLemmas.{target_in_range}
use Rattle.roman_joint.proofs.WordLemmas.{on_shl, on_below}
use Rattle.roman_joint.proofs.SplitLemmas.{joint_sizes}
use Rattle.roman_joint.proofs.LeadLemmas.{Leads, leads_within, leads_served, leads_beaten, leads_nothing, start_before, leads_before, lane_state, leads_lanes}

-- Facts about a row.
pub record Known (s : Sys) (x : ℕ) (row : Row) : Type 0 where
  pub nodes : IsNumbered (numbered s)
  pub sys : IsSys s
  pub sizes : IsSizes (sizes_of s)
  pub looked : IsRow s x row

pub known : (n : NamedSys) (x : ℕ) (row : Row) → IsNamedSys n → IsRow (system_of n) x row → Known (system_of n) x row
known n x row ok looked = record { nodes = joint_numbered n ok; sys = ok.system; sizes = joint_sizes n ok; looked = looked }

pub width_positive : (s : Sys) → IsSizes (sizes_of s) → 0 < lanes_in s
width_positive s sizes = lanes_positive (sizes_of s).seats sizes.seats

pub env_rows_positive : (n : Sizes) → IsSizes n → 0 < env_rows_of n
env_rows_positive n sizes = product_positive (row_sizes n).seats (IsSizes-rows n sizes).seats

-- the number of rows times the lanes is the number of pairs
rows_whole : (s : Sys) → s.target.states * s.env.states * env_rows_of (sizes_of s) * lanes_in s ≡ count (sizes_of s)
rows_whole s =
    let whole : s.target.states * s.env.states * (env_rows_of (sizes_of s) * lanes_in s) ≡ count (sizes_of s) = ap (λ m. s.target.states * s.env.states * m) (env_rows_are (sizes_of s)) in
    omega arith ∙ whole

pub rows_all : (s : Sys) (long : ℕ) → IsSizes (sizes_of s) → long * lanes_in s ≡ count (sizes_of s) → long ≡ s.target.states * s.env.states * env_rows_of (sizes_of s)
rows_all s long sizes room = mul_cancel long (s.target.states * s.env.states * env_rows_of (sizes_of s)) (lanes_in s) (width_positive s sizes) (room ∙ sym (rows_whole s))

-- a row at other states of the target and the environment is in range
pub row_there : (target env r to e part : ℕ) → to < target → e < env → part < r → to * (env * r) + part + e * r < target * env * r
row_there target env r to e part a b c = grind (arith, mul-add-lt)

pub part_below : (s : Sys) (x : ℕ) (row : Row) → IsSizes (sizes_of s) → IsRow s x row → row.part < env_rows_of (sizes_of s)
part_below s x row sizes ok = subst (λ m. m < env_rows_of (sizes_of s)) (sym ok.part) (mod_below x (env_rows_of (sizes_of s)) (env_rows_positive (sizes_of s) sizes))

pub rows_few : (s : Sys) (long : ℕ) → IsSizes (sizes_of s) → long * lanes_in s ≡ count (sizes_of s) → long < 2 ^ 32
rows_few s long sizes room = grind (arith, mul-le, width_positive)

-- the first row of an attempt has a number of 32 bits
pub target_move_fits : (n : NamedSys) (r : Layout) (x : ℕ) (row : Row) (to : ℕ) → IsNamedSys n → IsLayoutOf (sizes_of (system_of n)) r → IsRow (system_of n) x row → to < (system_of n).target.states →
    (to * r.target_rows < 2 ^ 32) × (to * r.target_rows + row.part < 2 ^ 32)
target_move_fits n r x row to ok laid looked in_target =
    let s = system_of n in
    let sizes = joint_sizes n ok in
    let there = row_there s.target.states s.env.states (env_rows_of (sizes_of s)) to 0 row.part in_target ok.system.env.states.0 (part_below s x row sizes looked) in
    let few : s.target.states * s.env.states * env_rows_of (sizes_of s) < 2 ^ 32 = rows_few s (s.target.states * s.env.states * env_rows_of (sizes_of s)) sizes (rows_whole s) in
    let base : to * r.target_rows ≡ to * (s.env.states * env_rows_of (sizes_of s)) = ap (λ m. to * m) laid.target in
    (omega (arith, there, few, base), omega (arith, there, few, base))

-- the rows of an attempt
pub record RowsThere (r : Layout) (target_move : TargetMove) (long : ℕ) : Type 0 where
  pub inside : target_move.base < long
  pub there : (e : ℕ) → IsIn e target_move.envs.now → target_move.base + e * r.env_rows < long
  pub few : long < 2 ^ 32

pub rows_there : (s : Sys) (r : Layout) (x a long : ℕ) (row : Row) (target_move : TargetMove) → Known s x row → IsLayoutOf (sizes_of s) r → IsTargetMove s row a target_move → long * lanes_in s ≡ count (sizes_of s) → RowsThere r target_move long
rows_there s r x a long row target_move h laid ok room =
    let n = sizes_of s in
    let in_target : ok.to < s.target.states = target_in_range s row.target row.env a ok.to h.sys ok.target in
    let all = rows_all s long h.sizes room in
    let part = part_below s x row h.sizes h.looked in
    let begins : ok.to * (s.env.states * env_rows_of n) + row.part + 0 * env_rows_of n < s.target.states * s.env.states * env_rows_of n =
    row_there s.target.states s.env.states (env_rows_of n) ok.to 0 row.part in_target h.sys.env.states.0 part in
    record {
      inside = omega (arith, begins, all, ok.base);
      there = λ e i.
          let env : e < s.env.states = (triple_in_range s.env row.env a e h.sys.env (from_env_next s.env row.env a e (subst (λ es. IsIn e es) ok.worlds i))).2 in
          let at : ok.to * (s.env.states * env_rows_of n) + row.part + e * env_rows_of n < s.target.states * s.env.states * env_rows_of n =
          row_there s.target.states s.env.states (env_rows_of n) ok.to e row.part in_target env part in
          let rows : e * r.env_rows ≡ e * env_rows_of n = ap (λ m. e * m) laid.env in
          omega (arith, at, all, ok.base, rows);
      few = rows_few s long h.sizes room;
    }

pub are_within : (base stride many long : ℕ) (states : List ℕ) → long < 2 ^ 32 → ((b : ℕ) → IsIn b states → base + b * stride + many ≤ long) → AreWithin base stride many long states
are_within base stride many long states few there = record { fits = λ i d l. omega (arith, there _ (in_at states i d l)); within = λ i d l. there _ (in_at states i d l) }

pub full_on : (n : Sizes) (r : Layout) (lane : ℕ) → IsLayoutOf n r → lane < lanes_of n.seats → is_on r.full lane ≡ true
full_on n r lane laid l = laid.full lane ∙ lt-ltb lane (lanes_of n.seats) l

pub full_off : (n : Sizes) (r : Layout) (lane : ℕ) → IsLayoutOf n r → lanes_of n.seats ≤ lane → is_on r.full lane ≡ false
full_off n r lane laid l = laid.full lane ∙ le-ltb lane (lanes_of n.seats) l

-- the share of a seat's own state in the number of an attempt's first row
pub taken_before : (s : Sys) (r : Layout) (x a k : ℕ) (row : Row) (target_move : TargetMove) → Known s x row → IsLayoutOf (sizes_of s) r → IsTargetMove s row a target_move → k < low_in s →
    slice_index row.states k * slice_index r.strides k ≤ target_move.base
taken_before s r x a k row target_move h laid ok before =
    let n = sizes_of s in
    let w = lanes_in s in
    let u = slice_index r.strides k in
    let own = slice_index row.states k in
    let pos : 0 < w = width_positive s h.sizes in
    let in_target : ok.to < s.target.states = target_in_range s row.target row.env a ok.to h.sys ok.target in
    let start = start_before s row x 0 k ok.to u h.sys h.looked pos before in_target (laid.before k before) in
    let product : own * (u * w) ≡ own * u * w = omega arith in
    let sum : ok.to * target_rows_of n * w + (row.part * w + 0) ≡ (ok.to * target_rows_of n + row.part) * w + 0 = omega arith in
    let taken : own * u ≤ ok.to * target_rows_of n + row.part = row_least (own * u) (ok.to * target_rows_of n + row.part) w 0 pos (omega (arith, start.taken, product, sum)) in
    omega (arith, taken, ok.base)

-- a seat before the lanes that has no next state serves at no pair
pub beaten_before : (s : Sys) (r : Layout) (x a k lane : ℕ) (row : Row) (target_move : TargetMove) (gone : ℕ → Bool) → Known s x row → IsLayoutOf (sizes_of s) r → IsTargetMove s row a target_move → k < low_in s →
    seat_next (slice_get s.seats k) (slice_index row.states k) row.env a ≡ [] → lane < lanes_in s → is_beaten (numbered s) gone (x * lanes_in s + lane) a k ≡ true
beaten_before s r x a k lane row target_move gone h laid ok before none l =
    leads_nothing _ _ _ _ _ _ _ _ (leads_before _ _ _ _ _ _ _ _ _ _ _ h.sys h.looked l before (laid.before k before) ok.target ok.worlds refl refl) none

-- a word without lanes, if no pair is served
pub none_served : (w x : ℕ) (test : ℕ → Bool) → ((lane : ℕ) → lane < w → test (x * w + lane) ≡ true) → HasLanes w x (λ p. not (test p)) 0
none_served w x test all = record { each = λ lane l. on_zero lane ∙ sym (ap not (all lane l)); rest = λ lane l. on_zero lane }

-- rows of these numbers are in range if each is at least `many` before the end
pub suits_rows : (rows : Outcomes) (many long : ℕ) → 0 < many → long < 2 ^ 32 → IsFalse (is_empty rows.states.now) →
    ((e b : ℕ) → IsIn e rows.envs.now → IsIn b rows.states.now → outcome_number rows e b + many ≤ long) → SuitsRows rows many long
suits_rows rows many long pos few some there = record {
  envs = λ i d l. let (b, j) = not_empty_in rows.states.now some in omega (arith, there (get_or rows.envs.now i d) b (in_at rows.envs.now i d l) j);
  fits = λ i d l j e m. omega (arith, there (get_or rows.envs.now i d) (get_or rows.states.now j e) (in_at rows.envs.now i d l) (in_at rows.states.now j e m));
  within = λ i d l j e m. there (get_or rows.envs.now i d) (get_or rows.states.now j e) (in_at rows.envs.now i d l) (in_at rows.states.now j e m);
}

-- the rows to which a seat before the lanes leads from a row
module _ (s : Sys) (x a k : ℕ) (row : Row) (target_move : TargetMove) (to : Outcomes) (h : Known s x row) (ok : IsTargetMove s row a target_move) (before : k < low_in s) (of : AreRowsBefore s row target_move a k to) where
  before_leads : (lane : ℕ) → lane < lanes_in s → Leads (numbered s) (x * lanes_in s + lane) a k to.envs.now to.states.now (λ e b. outcome_number to e b * lanes_in s + lane)
  before_leads lane l =
      subst (λ m. Leads (numbered s) (x * lanes_in s + lane) a k to.envs.now to.states.now (λ e b. (to.base + e * m + b * to.stride) * lanes_in s + lane)) (sym of.env_stride)
      (leads_before s row x lane a k ok.to to.base to.stride to.envs.now to.states.now h.sys h.looked l before of.stride ok.target (of.worlds ∙ ok.worlds) of.states (omega (arith, of.base, ok.base)))

  pub before_there : (long e b : ℕ) → long * lanes_in s ≡ count (sizes_of s) → IsIn e to.envs.now → IsIn b to.states.now → outcome_number to e b < long
  before_there long e b room i j =
      let all = length-below (count (sizes_of s)) in
      let pos = width_positive s h.sizes in
      row_below (outcome_number to e b) (lanes_in s) 0 long (omega (
        arith,
        room,
        all,
        leads_within (numbered s) (x * lanes_in s + 0) a k e b to.envs.now to.states.now
            (λ c d. outcome_number to c d * lanes_in s + 0) h.nodes (omega (arith, h.looked.below 0 pos, all)) (before_leads 0 pos) i j,
      ))

  pub before_beaten : (lane : ℕ) (words : List ℕ) (gone : ℕ → Bool) → length words * lanes_in s ≡ count (sizes_of s) → AreRows (lanes_in s) (λ q. not (gone q)) words → lane < lanes_in s →
      list_any (λ e. list_any (λ b. not (is_on (slice_index words (outcome_number to e b)) lane)) to.states.now) to.envs.now ≡ is_beaten (numbered s) gone (x * lanes_in s + lane) a k
  before_beaten lane words gone room rows l =
      leads_served (numbered s) gone (x * lanes_in s + lane) a k to.envs.now to.states.now (λ e b. outcome_number to e b * lanes_in s + lane)
      (λ e b. not (is_on (slice_index words (outcome_number to e b)) lane)) (before_leads lane l) (rw of.worlds ok.some) of.some
      (λ e b i j. ap not ((rows.each (outcome_number to e b) (before_there (length words) e b room i j)).each lane l) ∙ not-not (gone (outcome_number to e b * lanes_in s + lane)))

-- the alive lanes of an attempt
pub alive_there : (s : Sys) (r : Layout) (x a alive : ℕ) (row : Row) (target_move : TargetMove) (words : List ℕ) (gone : ℕ → Bool) → Known s x row → IsLayoutOf (sizes_of s) r → IsTargetMove s row a target_move → length words * lanes_in s ≡ count (sizes_of s) →
    AreRows (lanes_in s) (λ q. not (gone q)) words →
    ((lane : ℕ) → lane < lanes_in s → is_on alive lane ≡ not (list_any (λ e. not (is_on (slice_index words (target_move.base + e * r.env_rows)) lane)) target_move.envs.now)) → AreAlive s gone target_move alive
alive_there s r x a alive row target_move words gone h laid ok room rows told = record {
  each = λ lane l. told lane l
      ∙ ap not (any_same (λ e. not (is_on (slice_index words (target_move.base + e * r.env_rows)) lane)) (λ e. gone ((target_move.base + e * env_rows_of (sizes_of s)) * lanes_in s + lane)) target_move.envs.now (λ e i. same lane e l i));
}
  where
    same : (lane e : ℕ) → lane < lanes_in s → IsIn e target_move.envs.now → not (is_on (slice_index words (target_move.base + e * r.env_rows)) lane) ≡ gone ((target_move.base + e * env_rows_of (sizes_of s)) * lanes_in s + lane)
    same lane e l i =
        let all = rows_there s r x a (length words) row target_move h laid ok room in
        let here : is_on (slice_index words (target_move.base + e * r.env_rows)) lane ≡ not (gone ((target_move.base + e * r.env_rows) * lanes_in s + lane)) = (rows.each (target_move.base + e * r.env_rows) (all.there e i)).each lane l in
        ap not here ∙ (not-not (gone ((target_move.base + e * r.env_rows) * lanes_in s + lane)) ∙ ap (λ m. gone ((target_move.base + e * m) * lanes_in s + lane)) laid.env)

-- the lanes of a state begin within the word
pub state_below : (n : Sizes) (k b : ℕ) → IsSizes n → low_of n.seats ≤ k → k < length n.seats → b < slice_index n.seats k → b * stride_of n k < 64
state_below n k b h within seat state =
    let first = lane_state n k 0 h within seat (lanes_positive n.seats h.seats) in
    omega (arith, first.taken, first.moves b state, lanes_few n.seats)

-- the lanes of state b, from those of state 0
pub state_shift : (first b st size lane : ℕ) → ((j : ℕ) → j < 64 → is_on first j ≡ lane_has_state st size 0 j) → 0 < st → b < size → lane < 64 →
    is_on (first * 2 ^ (b * st) % 2 ^ 64) lane ≡ lane_has_state st size b lane
unfolding lane_has_state
state_shift first b st size lane is pos l low = elim (cases_lt lane (b * st)) [
  | inl less ↦
      let high : lane / st < b = div_below lane st b pos less in
      let own : lane / st % size ≡ lane / st = mod-eq_of_lt (omega arith) in
      on_below first (b * st) lane less ∙ sym (ne_eqb (lane / st % size) b (omega (arith, own, high)))
  | inr more ↦
      let rest : lane ≡ b * st + (lane - b * st) = omega arith in
      let high : lane / st ≡ b + (lane - b * st) / st = ap (λ m. m / st) rest ∙ mul-add-div_right pos b (lane - b * st) in
      on_shl first (b * st) lane (lane - b * st) low rest ∙ (is (lane - b * st) (omega arith) ∙ (columns ((lane - b * st) / st) size b l ∙ ap (λ m. eqb (m % size) b) (sym high)))
]
  where
    columns : (h size b : ℕ) → b < size → eqb (h % size) 0 ≡ eqb ((b + h) % size) b
    columns h size b l = same_test (eqb (h % size) 0) (eqb ((b + h) % size) b)
        (λ t.
        let none : b + h % size ≡ b = omega (arith, eqb-true (h % size) 0 t) in
        let start : (b + h % size) % size ≡ b = ap (λ m. m % size) none ∙ mod-eq_of_lt l in
        eq-eqb ((b + h) % size) b (sym (add-mod-mod b h size) ∙ start))
        (λ t.
        let whole : h ≡ (b + h) / size * size = omega (arith, div-add-mod' (b + h) size, eqb-true ((b + h) % size) b t) in
        eq-eqb (h % size) 0 (ap (λ m. m % size) whole ∙ mul-mod_left ((b + h) / size) size))

-- the states to which a seat goes are its own
pub next_few : (s : Sys) (k b e a c : ℕ) → IsSys s → IsIn c (seat_next (slice_get s.seats k) b e a) → c < slice_index (sizes_of s).seats k
next_few s k b e a c sys i =
    let (y, seated, ready, moves) = from_seat_next (slice_get s.seats k) b e a c i in
    subst (λ m. c < m) (sym (size_at s.seats k y seated)) (move_in_range s.env y.beh b e a c (sys.seats y (get_in s.seats k y seated)) moves).3

-- the pairs at which a seat within the lanes serves
module _ (s : Sys) (x a k alive : ℕ) (row : Row) (target_move : TargetMove) (gone : ℕ → Bool) (h : Known s x row) (ok : IsTargetMove s row a target_move) (low : low_in s ≤ k) (seat : k < length s.seats) (living : AreAlive s gone target_move alive) where
  abbrev states_at : ℕ → List ℕ
  states_at lane = seat_next (slice_get s.seats k) (lane_state_of (sizes_of s) k lane) row.env a

  abbrev lane_to : ℕ → ℕ → ℕ
  lane_to lane b = lane + b * stride_of (sizes_of s) k - lane_state_of (sizes_of s) k lane * stride_of (sizes_of s) k

  lane_there : (lane b : ℕ) → lane < lanes_in s → IsIn b (states_at lane) → lane_to lane b < lanes_in s
  lane_there lane b l i =
      (lane_state (sizes_of s) k lane h.sizes low (omega (arith, length-map s.seats (λ (y : Seat). y.beh.states))) l).moves b (next_few s k (lane_state_of (sizes_of s) k lane) row.env a b h.sys i)

  beaten_within : (lane : ℕ) → lane < lanes_in s → (is_empty (states_at lane) || list_any (λ b. not (is_on alive (lane_to lane b))) (states_at lane)) ≡ is_beaten (numbered s) gone (x * lanes_in s + lane) a k
  beaten_within lane l =
      leads_beaten (numbered s) gone (x * lanes_in s + lane) a k target_move.envs.now (states_at lane) (λ e b. (target_move.base + e * env_rows_of (sizes_of s)) * lanes_in s + lane_to lane b) (λ b. not (is_on alive (lane_to lane b)))
      (leads_lanes s row x lane a k ok.to target_move.base (lane_state_of (sizes_of s) k lane) target_move.envs.now (states_at lane) h.sys h.sizes h.looked l low seat refl ok.target ok.worlds refl ok.base) ok.some
      (λ b i. ap not (living.each (lane_to lane b) (lane_there lane b l i)) ∙ not-not _)

  pub moves_beaten : (some : ℕ) (moves : List Move) → AreLaneMoves (sizes_of s) k (λ b. seat_next (slice_get s.seats k) b row.env a) some moves → (lane : ℕ) → lane < lanes_in s →
      not (is_on some lane && not (list_any (λ move. is_on move.lanes lane && not (is_on alive (lane + move.to - move.from))) moves)) ≡ is_beaten (numbered s) gone (x * lanes_in s + lane) a k
  moves_beaten some moves are lane l = let same = are.leads (λ y. not (is_on alive y)) lane l in let is = beaten_within lane l in grind (arith, are.each lane l)

-- the moves from a lane stay below 64 lanes
pub moves_few : (n : Sizes) (k some lane : ℕ) (next : ℕ → List ℕ) (moves : List Move) → AreLaneMoves n k next some moves → lane < lanes_of n.seats →
    (lane < 64) × ((move : Move) → IsIn move moves → is_on move.lanes lane ≡ true → (move.from ≤ lane) × (lane + move.to - move.from < 64))
moves_few n k some lane next moves are l =
    (omega (arith, lanes_few n.seats), λ move i on. let (taken, below) = are.within move lane i l on in (taken, omega (arith, below, lanes_few n.seats)))

any_all : (p : ℕ → Bool) (xs : List ℕ) → ((x : ℕ) → IsIn x xs → p x ≡ true) → (is_empty xs || list_any p xs) ≡ true
any_all p [] all = refl
any_all p (x ∷ xs) all = ap (λ b. b || list_any p xs) (all x (inl refl))

-- without an alive lane, a seat within the lanes serves at no pair
pub beaten_dead : (s : Sys) (x a k lane : ℕ) (row : Row) (target_move : TargetMove) (gone : ℕ → Bool) → Known s x row → IsTargetMove s row a target_move → low_in s ≤ k → k < length s.seats → AreAlive s gone target_move 0 → lane < lanes_in s →
    is_beaten (numbered s) gone (x * lanes_in s + lane) a k ≡ true
beaten_dead s x a k lane row target_move gone h ok low seat living l =
    sym (beaten_within s x a k 0 row target_move gone h ok low seat living lane l) ∙ any_all _ (states_at s x a k 0 row target_move gone h ok low seat living lane) (λ b i. ap not (on_zero _))

-- the lanes of the states so far, with one more
pub one_more : (m b : ℕ) (f : ℕ → Bool) → ((ltb m b && f m) || (eqb m b && f b)) ≡ (ltb m (b + 1) && f m)
one_more m b f = grind (arith, nat_tests)

pub state_is : (st size b lane : ℕ) → lane_has_state st size b lane ≡ eqb (lane / st % size) b
unfolding lane_has_state
state_is st size b lane = refl

-- a lane that wasn't set is set exactly if the test holds
pub set_by : (b old : Bool) → old ≡ false → cond b true old ≡ b
set_by b old off = grind (arith, or-false)

-- the lanes so far, with one more
pub ruleset lane_steps = (cases_eq, on_zero, set_by, state_is)

-- the seats before the lanes are services, of which there are few
pub seats_few : (n : NamedSys) → IsNamedSys n → (low_in (system_of n) ≤ length n.seats) × (length n.seats ≤ 32)
seats_few n ok = grind (arith, length-map, low_of-le)

-- the states so far, with one more
pub ruleset table_steps = (cases_eq, get_or-set_other, get_or-set_same, length-set, seats_few)

-- a service has a size
pub in_sizes : (n : NamedSys) (k : ℕ) → k < length n.seats → k < length (sizes_of (system_of n)).seats
in_sizes n k l = omega (arith, length-map n.seats (seat_of n.catalogue), length-map (system_of n).seats (λ (y : Seat). y.beh.states))

-- a service before the lanes is one of the services
pub ruleset seat_counts = (length-map, low_of-le)

-- the first lane of a state is within the word
pub begins : (n : Sizes) (r : Layout) (k b from : ℕ) → IsSizes n → IsLayoutOf n r → low_of n.seats ≤ k → k < length n.seats → b < slice_index n.seats k → from ≡ b → from * slice_index r.strides k < 64
begins n r k b from sizes laid within seat state is = subst (λ m. m < 64) (sym (ap₂ (λ m u. m * u) is (laid.within k within seat))) (state_below n k b sizes within seat state)

-- the bits past the lanes are off
pub ruleset off_rows = (and-false, full_off, on_and)
