-- Rows of a band.
use Rattle.roman_joint.proofs.Common.{AreLaneMoves, Move, not-not, length-below, any_same, part_at, AreWithin, SuitsRows, ◌||◌, ◌≡◌, ℕ, ◌+◌, ◌-◌, ◌*◌, ◌/◌, ◌%◌, ◌<◌, ◌≤◌, ◌^◌, Bool, true, false, not, ◌&&◌, List, [], length, slice_get, slice_index, refl, sym, ap, ap₂, ◌∙◌, subst, arith, list_any, set, cases_eq, cases_lt, mul-add-lt, mul-le, mod_below, get_or-set_same, get_or-set_other, get_or_past, IsIn, is_empty, product_of, all_below, Sys, seat_next, is_beaten, sizes_of, count, pair_at, numbered, IsSizes, stride_of, low_of, row_sizes, env_rows_of, exact, lanes_few, AreSizes-index, low_of-le, lanes_positive, row_div, row_mod, row_below, env_rows_are, count_rows, length_rows, row_size, row_stride_of, IsSizes-rows, rows_are, is_on, AreRows, Keeps, lanes_in, low_in, lane_state_of, IsLayoutOf, IsRow, IsTargetMove, mid_in, band_in, target_move_at, AllAlive, AreRowsBefore, Layout, Row, TargetMove, on_zero, Outcomes, mul_cancel}
use Rattle.roman_joint.proofs.AllowedLemmas.{cut_off, and_nothing}
use Rattle.roman_joint.proofs.WordLemmas.{all_pass}
use Rattle.roman_joint.proofs.SplitLemmas.{positive_of, stride_rows, row_number, row_made}
use Rattle.roman_joint.proofs.LeadLemmas.{lanes_parts, stride_positive, lane_state, lane_part, leads_before, leads_beaten}
use Rattle.roman_joint.proofs.GoodLemmas.{Known, are_within, next_few, rows_there, alive_there, beaten_before, rows_few, suits_rows, before_there, before_beaten, moves_beaten}

-- the i-th row of a band, from the first
abbrev pub row_in : Sys → ℕ → Row → Row
row_in s x first = record {
  part = x % env_rows_of (sizes_of s);
  allowed = first.allowed;
  leading = first.leading;
  target = first.target;
  env = first.env;
  states = (pair_at (row_sizes (sizes_of s)) x).bs;
}

pub record InBand (s : Sys) (y i : ℕ) (first : Row) : Type 0 where
  pub looked : IsRow s (y * band_in s + i) (row_in s (y * band_in s + i) first)
  pub part : (y * band_in s + i) % env_rows_of (sizes_of s) ≡ first.part + i
  pub before : (k : ℕ) → k < mid_in s → slice_index (pair_at (row_sizes (sizes_of s)) (y * band_in s + i)).bs k ≡ slice_index first.states k
  pub within : (k : ℕ) → mid_in s ≤ k → k < low_in s → slice_index (pair_at (row_sizes (sizes_of s)) (y * band_in s + i)).bs k ≡ lane_state_of (row_sizes (sizes_of s)) k i

pub in_band : (s : Sys) (y i : ℕ) (first : Row) → IsSizes (sizes_of s) → IsRow s (y * band_in s) first → i < band_in s → InBand s y i first
in_band s y i first sizes ok l =
    let n = sizes_of s in
    let m = row_sizes n in
    let w = lanes_in s in
    let v = band_in s in
    let g = env_rows_of m in
    let x = y * v in
    let msizes = IsSizes-rows n sizes in
    let pos : 0 < w = lanes_positive n.seats sizes.seats in
    let vpos : 0 < v = lanes_positive m.seats msizes.seats in
    let whole : g * v ≡ env_rows_of n = env_rows_are m in
    let rows : count m * w ≡ count n = count_rows n in
    let in_rows : x < count m = row_number x (count m) w (count n) pos rows (omega (arith, ok.below 0 pos)) in
    let bands : count m / v * v ≡ count m = rows_are m msizes in
    let top : y < count m / v = row_below y v 0 (count m / v) (omega (arith, bands, in_rows)) in
    let inside : x + i < count m = omega (arith, mul-add-lt y v i (count m / v) top l, bands) in
    let first_at : x ≡ x + 0 = omega arith in
    let front : (j p : ℕ) → j < v → p ≡ (x + j) * w + 0 → p / product_of n.seats ≡ y / g = λ j p less is.
    ap₂ (λ a b. a / b) is (sym (env_rows_are n)) ∙ (row_div (x + j) w 0 (env_rows_of n) pos ∙ (ap (λ b. (x + j) / b) (sym whole) ∙ row_div y v j g less)) in
    let same : (x + i) * w / product_of n.seats ≡ (x * w + 0) / product_of n.seats = front i ((x + i) * w) l (omega arith) ∙ sym (front 0 (x * w + 0) vpos (omega arith)) in
    let part_here : (x + i) % env_rows_of n ≡ y % g * v + i = ap (λ b. (x + i) % b) (sym whole) ∙ row_mod y v i g l in
    let part_first : x % env_rows_of n ≡ y % g * v + 0 = ap₂ (λ a b. a % b) first_at (sym whole) ∙ row_mod y v 0 g vpos in
    let long : length m.seats ≡ low_of n.seats = length_rows n in
    let state : (k : ℕ) → k < low_of n.seats → slice_index (pair_at m (x + i)).bs k ≡ lane_state_of m k (x + i) = λ k less. part_at m (x + i) k inside (omega (arith, less, long)) in
    record {
      looked = row_made s (x + i) (row_in s (x + i) first) sizes (omega (arith, mul-add-lt (x + i) w 0 (count m) inside pos, rows)) (count m) rows refl
          (sym (ap (λ b. b / n.env) same ∙ ok.targets 0 pos)) (sym (ap (λ b. b % n.env) same ∙ ok.envs 0 pos))
          state ok.allowed ok.leading;
      part = omega (arith, part_here, part_first, ok.part);
      before = λ k less.
          let low : k < low_of n.seats = omega (arith, less, low_of-le m.seats, long) in
          let q = stride_of m k / v in
          let is : q * v ≡ stride_of m k = stride_rows m k msizes less in
          let here : (x + i) / stride_of m k ≡ y / q = ap (λ b. (x + i) / b) (sym is) ∙ row_div y v i q l in
          let there : (x * w + 0) / stride_of n k ≡ y / q = ap (λ b. (x * w + 0) / b) (sym (row_stride_of n k low)) ∙ (row_div x w 0 (stride_of m k) pos
          ∙ (ap₂ (λ a b. a / b) first_at (sym is) ∙ row_div y v 0 q vpos)) in
          state k low ∙ (ap₂ (λ b z. b % z) (here ∙ sym there) (row_size n k low)
          ∙ (sym (part_at n (x * w + 0) k (ok.below 0 pos) (omega (arith, low, low_of-le n.seats))) ∙ ok.states k 0 low pos));
      within = λ k past less. lane_part m y i k msizes inside past (omega (arith, less, long));
    }

-- a seat before a band's own is before the lanes
pub mid_low_le : (s : Sys) → mid_in s ≤ low_in s
mid_low_le s = omega (arith, low_of-le (row_sizes (sizes_of s)).seats, length_rows (sizes_of s))

pub mid_low : (s : Sys) (k : ℕ) → k < mid_in s → k < low_in s
mid_low s k l = omega (arith, mid_low_le s)

pub first_in : (s : Sys) → IsSizes (sizes_of s) → 0 < band_in s
first_in s h = lanes_positive (row_sizes (sizes_of s)).seats (IsSizes-rows (sizes_of s) h).seats

-- the pairs lie in whole bands
pub bands_are : (s : Sys) → IsSizes (sizes_of s) → count (row_sizes (sizes_of s)) / band_in s * band_in s * lanes_in s ≡ length (numbered s).nodes
bands_are s sizes =
    let n = sizes_of s in
    ap (λ z. z * lanes_in s) (rows_are (row_sizes n) (IsSizes-rows n sizes)) ∙ (count_rows n ∙ sym (length-below (count n)))

pub bands_counted : (s : Sys) (r : Layout) → IsLayoutOf (sizes_of s) r → r.rows / r.band * band_in s * lanes_in s ≡ length (numbered s).nodes
bands_counted s r laid =
    let rows = mul_cancel r.rows (count (row_sizes (sizes_of s))) (lanes_in s) (lanes_positive (sizes_of s).seats laid.ok.seats) (laid.rows ∙ sym (count_rows (sizes_of s))) in
    ap₂ (λ x v. x / v * band_in s * lanes_in s) rows laid.band ∙ bands_are s laid.ok

-- the first row of a band has a number of 32 bits
pub first_fits : (s : Sys) (r : Layout) (y : ℕ) → IsLayoutOf (sizes_of s) r → y * band_in s * lanes_in s < length (numbered s).nodes → y * r.band < 2 ^ 32
first_fits s r y laid inside =
    let least = mul-le (y * band_in s) 1 (y * band_in s) (lanes_in s) (omega arith) (lanes_positive (sizes_of s).seats laid.ok.seats) in
    omega (arith, ap (λ m. y * m) laid.band, least, laid.ok.counted, length-below (count (sizes_of s)))

module _ (s : Sys) (r : Layout) (y a : ℕ) (first : Row) (target_move : TargetMove) (h : Known s (y * band_in s) first) (laid : IsLayoutOf (sizes_of s) r) (ok : IsTargetMove s first a target_move) where
  here : (i : ℕ) → i < band_in s → InBand s y i first
  here i l = in_band s y i first h.sizes h.looked l

  pub known_at : (i : ℕ) → i < band_in s → Known s (y * band_in s + i) (row_in s (y * band_in s + i) first)
  known_at i l = record { nodes = h.nodes; sys = h.sys; sizes = h.sizes; looked = (here i l).looked }

  pub turned : (i : ℕ) → i < band_in s → IsTargetMove s (row_in s (y * band_in s + i) first) a (target_move_at target_move i)
  turned i l = record { to = ok.to; target = ok.target; base = omega (arith, ok.base, (here i l).part); worlds = ok.worlds; some = ok.some }

  -- the rows to which an attempt leads from the rows of a band
  pub band_there : (long : ℕ) → long * lanes_in s ≡ count (sizes_of s) → AreWithin target_move.base r.env_rows (band_in s) long target_move.envs.now
  band_there long room =
      let some : 0 < band_in s = first_in s h.sizes in
      let last = band_in s - 1 in
      let l : last < band_in s = omega (arith, some) in
      let there = rows_there s r (y * band_in s + last) a long (row_in s (y * band_in s + last) first) (target_move_at target_move last) (known_at last l) laid (turned last l) room in
      are_within target_move.base r.env_rows (band_in s) long target_move.envs.now there.few (λ e i. omega (arith, some, there.there e i))

  pub alive_at : (alive words : List ℕ) (gone : ℕ → Bool) → length words * lanes_in s ≡ count (sizes_of s) → AreRows (lanes_in s) (λ q. not (gone q)) words →
      ((i lane : ℕ) → i < band_in s → lane < lanes_in s → is_on (slice_index alive i) lane ≡ not (list_any (λ e. not (is_on (slice_index words (target_move.base + i + e * r.env_rows)) lane)) target_move.envs.now)) → AllAlive s gone target_move alive
  alive_at alive words gone room rows told = record {
    each = λ i l. alive_there s r (y * band_in s + i) a (slice_index alive i) (row_in s (y * band_in s + i) first) (target_move_at target_move i) words gone (known_at i l) laid (turned i l) room rows (λ lane m. told i lane l m);
  }

  -- the rows to which a seat before the band's own leads from row i
  pub band_before : (i k : ℕ) (to : Outcomes) → i < band_in s → k < mid_in s → AreRowsBefore s first target_move a k to → AreRowsBefore s (row_in s (y * band_in s + i) first) (target_move_at target_move i) a k (record to { base = to.base + i })
  band_before i k to l before of =
      let same = (here i l).before k before in
      record {
        base = rw same (omega (arith, of.base));
        stride = of.stride;
        env_stride = of.env_stride;
        worlds = of.worlds;
        states = of.states ∙ ap (λ b. seat_next (slice_get s.seats k) b first.env a) (sym same);
        some = of.some;
      }

  pub suits_band : (k long : ℕ) (to : Outcomes) → k < mid_in s → long * lanes_in s ≡ count (sizes_of s) → AreRowsBefore s first target_move a k to → SuitsRows to (band_in s) long
  suits_band k long to before room of =
      let some : 0 < band_in s = first_in s h.sizes in
      let last = band_in s - 1 in
      let l : last < band_in s = omega (arith, some) in
      suits_rows to (band_in s) long some (rows_few s long h.sizes room) of.some (λ e b i j.
      omega (
        arith,
        some,
        before_there s (y * band_in s + last) a k (row_in s (y * band_in s + last) first) (target_move_at target_move last) (record to { base = to.base + last }) (known_at last l) (turned last l) (mid_low s k before)
            (band_before last k to l before of) long e b room i j,
      ))

  pub band_beaten : (i k lane : ℕ) (to : Outcomes) (words : List ℕ) (gone : ℕ → Bool) → i < band_in s → k < mid_in s → length words * lanes_in s ≡ count (sizes_of s) → AreRowsBefore s first target_move a k to → AreRows (lanes_in s) (λ q. not (gone q)) words → lane < lanes_in s →
      list_any (λ e. list_any (λ b. not (is_on (slice_index words (to.base + i + e * to.env_stride + b * to.stride)) lane)) to.states.now) to.envs.now ≡ is_beaten (numbered s) gone ((y * band_in s + i) * lanes_in s + lane) a k
  band_beaten i k lane to words gone l before room of rows m =
      before_beaten s (y * band_in s + i) a k (row_in s (y * band_in s + i) first) (target_move_at target_move i) (record to { base = to.base + i }) (known_at i l) (turned i l) (mid_low s k before) (band_before i k to l before of)
      lane words gone room rows m

  pub beaten_band : (i k lane : ℕ) (gone : ℕ → Bool) → i < band_in s → k < mid_in s → seat_next (slice_get s.seats k) (slice_index first.states k) first.env a ≡ [] → lane < lanes_in s →
      is_beaten (numbered s) gone ((y * band_in s + i) * lanes_in s + lane) a k ≡ true
  beaten_band i k lane gone l before none m =
      beaten_before s r (y * band_in s + i) a k lane (row_in s (y * band_in s + i) first) (target_move_at target_move i) gone (known_at i l) laid (turned i l) (mid_low s k before)
      (ap (λ b. seat_next (slice_get s.seats k) b first.env a) ((here i l).before k before) ∙ none) m

  pub beaten_moving : (i k some lane : ℕ) (moves : List Move) (alive : List ℕ) (gone : ℕ → Bool) → i < band_in s → low_in s ≤ k → k < length s.seats → AreLaneMoves (sizes_of s) k (λ b. seat_next (slice_get s.seats k) b first.env a) some moves → AllAlive s gone target_move alive → lane < lanes_in s →
      not (is_on some lane && not (list_any (λ move. is_on move.lanes lane && not (is_on (slice_index alive i) (lane + move.to - move.from))) moves)) ≡ is_beaten (numbered s) gone ((y * band_in s + i) * lanes_in s + lane) a k
  beaten_moving i k some lane moves alive gone l within seat are living m =
      moves_beaten s (y * band_in s + i) a k (slice_index alive i) (row_in s (y * band_in s + i) first) (target_move_at target_move i) gone (known_at i l) (turned i l) within seat (living.each i l) some moves are lane m

-- one more row is judged
pub keeps_more : (s : Sys) (x i good word : ℕ) (test : ℕ → Bool) (old now : List ℕ) → i < length now → Keeps (lanes_in s) x i test old now →
    ((lane : ℕ) → lane < lanes_in s → is_on good lane ≡ not (test ((x + i) * lanes_in s + lane))) →
    ((lane : ℕ) → is_on word lane ≡ (is_on (slice_index now i) lane && not (is_on good lane))) → Keeps (lanes_in s) x (i + 1) test old (set now i word)
keeps_more s x i good word test old now room before served told = grind (arith, cases_eq, get_or-set_other, get_or-set_same, not-not, set)

-- if all pairs pass, nothing is cleared
pub keeps_all : (s : Sys) (x many : ℕ) (test : ℕ → Bool) (now : List ℕ) → ((i lane : ℕ) → i < many → lane < lanes_in s → test ((x + i) * lanes_in s + lane) ≡ true) → Keeps (lanes_in s) x many test now now
keeps_all s x many test now all = record {
  each = λ i lane l m. all_pass (is_on (slice_index now i) lane) ∙ ap (λ b. is_on (slice_index now i) lane && b) (sym (all i lane l m));
  others = λ i l. refl;
  none = λ i lane off. off;
}

-- facts about a seat before the lanes, counted in rows
pub record OwnSeat (s : Sys) (r : Layout) (k : ℕ) : Type 0 where
  pub stride : slice_index r.strides k ≡ stride_of (row_sizes (sizes_of s)) k
  pub size : slice_index r.sizes k ≡ slice_index (row_sizes (sizes_of s)).seats k
  pub same : slice_index (row_sizes (sizes_of s)).seats k ≡ slice_index (sizes_of s).seats k
  pub stride_some : 0 < slice_index r.strides k
  pub size_some : 0 < slice_index r.sizes k
  pub byte : slice_index r.sizes k ≤ 2 ^ 8

pub own_seat : (s : Sys) (r : Layout) (k : ℕ) → IsLayoutOf (sizes_of s) r → k < low_in s → OwnSeat s r k
own_seat s r k laid low =
    let sizes = laid.ok in
    let n = sizes_of s in
    let m = row_sizes n in
    let msizes = IsSizes-rows n sizes in
    let seat : k < length n.seats = omega (arith, low, low_of-le n.seats) in
    let stride : slice_index r.strides k ≡ stride_of m k =
    mul_cancel (slice_index r.strides k) (stride_of m k) (lanes_in s) (lanes_positive n.seats sizes.seats) (laid.before k low ∙ sym (row_stride_of n k low)) in
    let same : slice_index m.seats k ≡ slice_index n.seats k = row_size n k low in
    let size : slice_index r.sizes k ≡ slice_index m.seats k = laid.sizes k seat ∙ sym same in
    record {
      stride = stride;
      size = size;
      same = same;
      stride_some = subst (λ u. 0 < u) (sym stride) (stride_positive m k msizes);
      size_some = subst (λ u. 0 < u) (sym (laid.sizes k seat)) (AreSizes-index n.seats k sizes.seats seat).0;
      byte = omega (arith, laid.sizes k seat, (AreSizes-index n.seats k sizes.seats seat).1);
    }

-- facts about one of a band's own seats: the band consists of blocks of all its states, and it moves within the band
pub record OwnRows (s : Sys) (r : Layout) (k : ℕ) : Type 0 where
  pub seat : OwnSeat s r k
  pub some : 0 < slice_index r.sizes k * slice_index r.strides k
  pub few : slice_index r.sizes k * slice_index r.strides k ≤ 64
  pub whole : band_in s / (slice_index r.sizes k * slice_index r.strides k) * (slice_index r.sizes k * slice_index r.strides k) ≡ band_in s
  pub state : (i : ℕ) → i / slice_index r.strides k % slice_index r.sizes k ≡ lane_state_of (row_sizes (sizes_of s)) k i
  pub below : (i : ℕ) → lane_state_of (row_sizes (sizes_of s)) k i < slice_index (sizes_of s).seats k
  pub taken : (i : ℕ) → i < band_in s → lane_state_of (row_sizes (sizes_of s)) k i * slice_index r.strides k ≤ i
  pub moves : (i b : ℕ) → i < band_in s → b < slice_index (sizes_of s).seats k → i + b * slice_index r.strides k - lane_state_of (row_sizes (sizes_of s)) k i * slice_index r.strides k < band_in s

pub own_rows : (s : Sys) (r : Layout) (k : ℕ) → IsLayoutOf (sizes_of s) r → mid_in s ≤ k → k < low_in s → OwnRows s r k
own_rows s r k laid within low =
    let sizes = laid.ok in
    let m = row_sizes (sizes_of s) in
    let msizes = IsSizes-rows (sizes_of s) sizes in
    let own = own_seat s r k laid low in
    let seats : k < length m.seats = omega (arith, low, length_rows (sizes_of s)) in
    let step = slice_index r.sizes k * slice_index r.strides k in
    let (many, e) = lanes_parts m k within seats in
    let same : step ≡ slice_index m.seats k * stride_of m k = ap₂ (λ z u. z * u) own.size own.stride in
    let times : many * step ≡ many * (slice_index m.seats k * stride_of m k) = ap (λ z. many * z) same in
    let is : band_in s ≡ many * step = e ∙ (omega arith ∙ sym times) in
    let pos : 1 * 1 ≤ slice_index r.sizes k * slice_index r.strides k = mul-le 1 1 (slice_index r.sizes k) (slice_index r.strides k) own.size_some own.stride_some in
    let all : 0 < many = positive_of many step (band_in s) (sym is) (first_in s sizes) in
    let most : 1 * step ≤ many * step = mul-le 1 step many step all (omega arith) in
    record {
      seat = own;
      some = omega (arith, pos);
      few = omega (arith, most, is, lanes_few m.seats);
      whole = exact (band_in s) many step (omega (arith, pos)) is;
      state = λ i. ap₂ (λ u z. i / u % z) own.stride own.size;
      below = λ i. omega (arith, own.same, mod_below (i / stride_of m k) (slice_index m.seats k) (AreSizes-index m.seats k msizes.seats seats).0);
      taken = λ i l. rw own.stride (lane_state m k i msizes within seats l).taken;
      moves = λ i b l less. rw own.stride ((lane_state m k i msizes within seats l).moves b (omega (arith, less, own.same)));
    }

module _ (s : Sys) (r : Layout) (y a : ℕ) (first : Row) (target_move : TargetMove) (h : Known s (y * band_in s) first) (laid : IsLayoutOf (sizes_of s) r) (ok : IsTargetMove s first a target_move) where
  -- one of a band's own seats
  pub beaten_own : (i k part lane : ℕ) (states alive : List ℕ) (gone : ℕ → Bool) → i < band_in s → mid_in s ≤ k → k < low_in s → lane_state_of (row_sizes (sizes_of s)) k i ≡ part →
      states ≡ seat_next (slice_get s.seats k) part first.env a → AllAlive s gone target_move alive → lane < lanes_in s →
      (is_empty states || list_any (λ b. not (is_on (slice_index alive (i - part * slice_index r.strides k + b * slice_index r.strides k)) lane)) states) ≡ is_beaten (numbered s) gone ((y * band_in s + i) * lanes_in s + lane) a k
  unfolding turned
  beaten_own i k part lane states alive gone l within low is_part is_states living m =
      let n = sizes_of s in
      let w = lanes_in s in
      let u = slice_index r.strides k in
      let R = env_rows_of n in
      let x = y * band_in s + i in
      let row = row_in s x first in
      let there = turned s r y a first target_move h laid ok i l in
      let own = own_rows s r k laid within low in
      let is : part ≡ slice_index row.states k = sym ((in_band s y i first h.sizes h.looked l).within k within low ∙ is_part) in
      let taken : part * u ≤ i = rw is_part at (own.taken i l) in
      let base = target_move.base + i - part * u in
      let to = λ (lane e b : ℕ). (base + e * R + b * u) * w + lane in
      let leads = leads_before s row x lane a k ok.to base u target_move.envs.now states h.sys (known_at s r y a first target_move h laid ok i l).looked m low (laid.before k low) ok.target ok.worlds
      (is_states ∙ ap (λ b. seat_next (slice_get s.seats k) b first.env a) is) (ap₂ (λ m d. m - d * u) there.base is) in
      leads_beaten (numbered s) gone (x * w + lane) a k target_move.envs.now states (to lane) (λ b. not (is_on (slice_index alive (i - part * u + b * u)) lane)) leads ok.some (λ b j.
      let inside : i - part * u + b * u < band_in s = omega (arith, taken, rw is_part at (own.moves i b l (next_few s k part first.env a b h.sys (subst (λ bs. IsIn b bs) is_states j)))) in
      ap not ((living.each (i - part * u + b * u) inside).each lane m) ∙ (not-not (list_any (λ e. gone ((target_move.base + (i - part * u + b * u) + e * R) * w + lane)) target_move.envs.now)
      ∙ any_same (λ e. gone ((target_move.base + (i - part * u + b * u) + e * R) * w + lane)) (λ e. gone (to lane e b)) target_move.envs.now
      (λ e v. let place : target_move.base + (i - part * u + b * u) + e * R ≡ base + e * R + b * u = omega (arith, taken) in ap (λ z. gone (z * w + lane)) place)))

-- a test can be replaced by one that agrees at the pairs
pub keeps_same : (s : Sys) (x many : ℕ) (p q : ℕ → Bool) (old new : List ℕ) → ((i lane : ℕ) → i < many → lane < lanes_in s → p ((x + i) * lanes_in s + lane) ≡ q ((x + i) * lanes_in s + lane)) → Keeps (lanes_in s) x many p old new → Keeps (lanes_in s) x many q old new
keeps_same s x many p q old new same h = grind arith

-- if nothing is left, further tests change nothing
pub keeps_cut : (s : Sys) (x many k n : ℕ) (p : ℕ → ℕ → Bool) (old now : List ℕ) → k ≤ n → ((i : ℕ) → i < many → slice_index now i ≡ 0) → Keeps (lanes_in s) x many (λ q. all_below (p q) k) old now → Keeps (lanes_in s) x many (λ q. all_below (p q) n) old now
keeps_cut s x many k n p old now l clear h = grind (arith, cut_off, on_zero)

-- a band of one row
pub keeps_one : (s : Sys) (x word : ℕ) (test : ℕ → Bool) (old : List ℕ) → length old ≡ 1 →
    ((lane : ℕ) → lane < lanes_in s → is_on word lane ≡ (is_on (slice_index old 0) lane && test (x * lanes_in s + lane))) →
    ((lane : ℕ) → is_on (slice_index old 0) lane ≡ false → is_on word lane ≡ false) → Keeps (lanes_in s) x 1 test old (set old 0 word)
keeps_one s x word test old one told off = grind (arith, cases_eq, get_or-set_other, get_or-set_same, set)

-- if no pair passes, all words are 0
pub keeps_nothing : (s : Sys) (x many : ℕ) (p : ℕ → Bool) (old now : List ℕ) → length old ≤ many → length now ≡ length old → ((i : ℕ) → i < length old → slice_index now i ≡ 0) →
    ((i lane : ℕ) → i < many → lane < lanes_in s → false ≡ p ((x + i) * lanes_in s + lane)) → Keeps (lanes_in s) x many p old now
keeps_nothing s x many p old now few long clear off = grind (arith, and_nothing, cases_lt, get_or_past, on_zero)

-- all rows are judged at once
pub keeps_by : (s : Sys) (x many : ℕ) (test : ℕ → Bool) (old new : List ℕ) → length old ≡ many → length new ≡ length old →
    ((i lane : ℕ) → i < many → lane < lanes_in s → is_on (slice_index new i) lane ≡ (is_on (slice_index old i) lane && test ((x + i) * lanes_in s + lane))) →
    ((i lane : ℕ) → i < many → is_on (slice_index old i) lane ≡ false → is_on (slice_index new i) lane ≡ false) → Keeps (lanes_in s) x many test old new
keeps_by s x many test old new few long each none = grind (arith, cases_lt, get_or_past, on_zero)
