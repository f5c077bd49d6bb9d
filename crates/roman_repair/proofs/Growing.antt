-- The replay of a row's entries that stand for several pairs each, group by group.
use Rattle.roman_repair.proofs.Common.{not-not, or-false, Bool, ◌≡◌, ℕ, zero, suc, ◌+◌, ◌-◌, ◌*◌, ◌/◌, ◌%◌, ◌<◌, ◌≤◌, true, false, ◌||◌, append-nil, List, [], ◌∷◌, ◌++◌, map, flat_map, filter, cond, sym, ap, ap₂, ◌∙◌, subst, arith, append_assoc, bit_or, not, ◌^◌, inl, inr, length, cases_lt, cases_eq, both_ways, filter_below_more, in_append_left, in_below, in_map, in_flat_map, from_below, bit_not, w64, on_not, on_or, mul-le-mul_left, below, IsIn, Arena, Entry, grown_numbers, Reason, is_on, as_entry, set_lanes, entries_in, Board, Batch, entries_at, IsBatch, AreSlices, candidates, with_replay, CanReplay, CanReplayBatch, GoesOnTo, Replays, flat_map-append, div-mul-add, CanGrow, HasReplayedAll, IsGrown, entries_grown, HasLanesBetween, IsFirstGroup, IsSpread, BandProbe, Newcomer}
use Rattle.roman_repair.proofs.Waiting.{grown_by_one}
use Rattle.roman_repair.proofs.Joined.{positive, grown_group}
use Rattle.roman_repair.proofs.Replayed.{replayed_on}
use Rattle.roman_repair.proofs.Fronts.{filter_alike, filter_split, group_entries, has_some, lanes_below, some_in}

-- ---- spread lanes

-- the lanes of a word below a bound, each spread
abbrev pub spread_below : ℕ → ℕ → ℕ → List ℕ
spread_below word lanes width = flat_map (λ lane. map (λ i. lane * width + i) (below width)) (filter (is_on word) (below lanes))

-- the lanes of a spread word
pub spread_list : (word spread lanes width : ℕ) → lanes * width ≤ 64 → IsSpread word spread lanes width → set_lanes spread ≡ spread_below word lanes width
spread_list word spread lanes width few is =
    sym (lanes_below spread (lanes * width) few (λ bit on. elim (cases_lt bit (lanes * width)) [ inl l ↦ l | inr past ↦ absurd (both_ways (is_on spread bit) (is.past bit past) on) ])) ∙ blocks lanes is.each
  where
    block : (m : ℕ) (b : Bool) → ((i : ℕ) → i < width → is_on spread (m * width + i) ≡ b) → map (λ i. m * width + i) (filter (λ i. is_on spread (m * width + i)) (below width)) ≡ flat_map (λ lane. map (λ i. lane * width + i) (below width)) (cond b (m ∷ []) [])
    block m b same = grind (arith, append-nil, (filter_alike (λ i. is_on spread (m * width + i)) b (below width) (λ i j. same i (from_below width i j))))

    blocks : (m : ℕ) → ((lane i : ℕ) → lane < m → i < width → is_on spread (lane * width + i) ≡ is_on word lane) → filter (is_on spread) (below (m * width)) ≡ spread_below word m width
    blocks zero each = (let none : 0 * width ≡ 0 = omega arith in ap (λ n. filter (is_on spread) (below n)) none)
    blocks (suc m) each =
        let next : suc m * width ≡ m * width + width = omega arith in
        grind (arith, filter_below_more, filter_split, flat_map-append, (ap (λ n. filter (is_on spread) (below n)) next), (blocks m (λ lane i l h. each lane i (omega (arith, l)) h)), (block m (is_on word m) (λ i h. each m i (omega arith) h)))

-- the first lane that isn't one of the word ends a stretch of neighbouring lanes of the word
pub stretch_lanes : (word lane end : ℕ) → word < 2 ^ 64 → end ≤ 64 → ((l : ℕ) → lane ≤ l → l < end → is_on (bit_not w64 word) l ≡ false) → (l : ℕ) → lane ≤ l → l < end → is_on word l ≡ true
stretch_lanes word lane end fits few off l past less = sym (not-not (is_on word l)) ∙ ap not (sym (on_not word l fits (omega (arith, less, few))) ∙ off l past less)

pub stretch_some : (word lane end lanes : ℕ) → word < 2 ^ 64 → lanes ≤ 64 → lane < lanes → lane ≤ end → is_on word lane ≡ true → (end < lanes → is_on (bit_not w64 word) end ≡ true) → lane < end
stretch_some word lane end lanes fits few less past here next = grind (arith, both_ways, cases_eq, (on_not word lane fits), next)

-- a stretch of neighbouring lanes is spread, together with the lanes after it that the word doesn't have
pub spread_more : (word spread block lane end next width : ℕ) → IsSpread word spread lane width → HasLanesBetween block (lane * width) (end * width) → lane ≤ end → end ≤ next → ((l : ℕ) → lane ≤ l → l < end → is_on word l ≡ true) → ((l : ℕ) → end ≤ l → l < next → is_on word l ≡ false) →
    IsSpread word (bit_or spread block) next width
spread_more word spread block lane end next width is run less more on off = record {
  each = λ l i h inner.
      let bit = l * width + i in
      let up = λ (a b : ℕ) (less : a ≤ b). mul-le-mul_left width less in
      grind (arith, cases_lt, (is.each l i), (is.past bit), (off l), (on l), (on_or spread block bit), (or-false (is_on word l)), (run.high bit), (run.low bit), (run.mid bit), (up (l + 1) lane), (up lane l), (up (l + 1) end), (up end l));
  past = λ bit far.
      let over : width * lane ≤ width * end = mul-le-mul_left width less in
      let above : width * end ≤ width * next = mul-le-mul_left width more in
      on_or spread block bit ∙ ap₂ (λ a b. a || b) (is.past bit (omega (arith, far, over, above))) (run.high bit (omega (arith, far, above)));
}

-- ---- groups of a row

pub record IsSliced (n lanes states slices many : ℕ) : Type 0 where
  pub whole : n ≡ slices * states
  pub parts : lanes ≡ many * slices
  pub some_states : 0 < states
  pub some : 0 < slices
  pub few : slices ≤ 64
  pub fits : slices * states ≤ 64

-- the groups of a row, as they are computed
pub sliced : (n lanes states row width : ℕ) → row ≡ n → width ≡ states → AreSlices n lanes states → 0 < n → n ≤ 64 → IsSliced n lanes states (row / width) (lanes / (row / width))
sliced n lanes states row width same wide is some few =
    let (m, whole, d, parts) = is.slices in
    let (pos, states_pos) = positive m states (omega (arith, some, whole)) in
    let less : m * 1 ≤ m * states = mul-le-mul_left m states_pos in
    let slices : row / width ≡ m = grind (arith, (div-mul-add m states 0 states_pos)) in
    let many : lanes / (row / width) ≡ d = grind (arith, slices, (div-mul-add d m 0 pos)) in
    subst (λ s. IsSliced n lanes states s (lanes / (row / width))) (sym slices) (subst (IsSliced n lanes states m) (sym many)
    (record { whole = whole; parts = parts; some_states = states_pos; some = pos; few = omega (arith, less, whole, few); fits = omega (arith, whole, few) }))

-- rows that stay as they are
pub same_slices : (row lanes : ℕ) → row ≡ lanes → lanes ≤ 64 → AreSlices row lanes 1
same_slices row lanes same few = record { few = few; slices = (row, omega arith, 1, omega arith) }

-- entries that stand for their own pairs
pub grown_itself : (states lanes n : ℕ) (e : Batch) → states ≡ 1 → lanes ≡ n → entries_at n e ≡ flat_map (grown_numbers states) (entries_at lanes e)
grown_itself states lanes n e one same = sym (ap (λ s. flat_map (grown_numbers s) (entries_at lanes e)) one ∙ grown_by_one (entries_at lanes e) ∙ ap (λ m. entries_at m e) same)

-- the entries for which those of the first group and of the others stand
pub grown_first : (n lanes states slices many x word i group rest spread : ℕ) (reason : Reason) → IsSliced n lanes states slices many → IsFirstGroup word slices i group rest → set_lanes spread ≡ spread_below group slices states →
    flat_map (grown_numbers states) (entries_in lanes x word reason) ≡ entries_in n (x * many + i) spread reason ++ flat_map (grown_numbers states) (entries_in lanes x rest reason)
grown_first n lanes states slices many x word i group rest spread reason is first wide =
    grind (
      arith,
      (group_entries lanes x word slices i group rest reason first),
      (flat_map-append (grown_numbers states)),
      (lanes_below group slices is.few (λ lane on. (first.in_group lane on).0)),
      (grown_group n slices many states lanes x i spread reason (set_lanes group) is.whole is.parts),
    )

-- a spread word has a lane if the word has one
pub spread_some : (word spread lanes width : ℕ) → 0 < width → lanes ≤ 64 → ((lane : ℕ) → is_on word lane ≡ true → lane < lanes) → 0 < length (set_lanes word) → set_lanes spread ≡ spread_below word lanes width → 0 < length (set_lanes spread)
spread_some word spread lanes width wide few within some is =
    let (lane, i) = some_in (set_lanes word) some in
    let f = λ (l : ℕ). map (λ i. l * width + i) (below width) in
    has_some (set_lanes spread) (lane * width + 0) (subst (IsIn (lane * width + 0)) (sym (is ∙ ap (flat_map f) (lanes_below word lanes few within)))
    (in_flat_map f lane (lane * width + 0) (set_lanes word) i (in_map (λ i. lane * width + i) 0 (below width) (in_below width 0 wide))))

-- the row of the first group is one of the system
pub grown_row : (nodes n lanes states slices many x word i group rest : ℕ) (reason : Reason) → IsSliced n lanes states slices many → IsFirstGroup word slices i group rest → 0 < n → ((y : Entry ℕ) → IsIn y (flat_map (grown_numbers states) (entries_in lanes x word reason)) → y.node < nodes) →
    x * many + i < nodes
grown_row nodes n lanes states slices many x word i group rest reason is first wide all =
    let (lane, j) = some_in (set_lanes group) first.some in
    let f = λ (lane : ℕ). as_entry (x * lanes + lane, reason) in
    let h = in_map f (i * slices + lane) (set_lanes word) (subst (IsIn (i * slices + lane)) (sym first.parts) (in_append_left (i * slices + lane) (map (λ lane. i * slices + lane) (set_lanes group)) (set_lanes rest) (in_map (λ lane. i * slices + lane) lane (set_lanes group) j))) in
    let old = x * lanes + (i * slices + lane) in
    let node = all (as_entry (old * states + 0, reason)) (in_flat_map (grown_numbers states) (f (i * slices + lane)) (as_entry (old * states + 0, reason)) (entries_in lanes x word reason) h (in_map (λ b. as_entry (old * states + b, reason)) 0 (below states) (in_below states 0 is.some_states))) in
    let row : (x * many + i) * n ≡ states * ((x * many + i) * slices) = ap (λ m. (x * many + i) * m) is.whole ∙ omega arith in
    let past : x * lanes ≡ x * (many * slices) = ap (λ m. x * m) is.parts in
    let less : states * ((x * many + i) * slices) ≤ states * old = mul-le-mul_left states (omega (arith, past)) in
    let whole : (x * many + i) * 1 ≤ (x * many + i) * n = mul-le-mul_left (x * many + i) wide in
    omega (arith, node, row, less, whole)

-- ---- the batches of grown rows

-- if each entry stands for its own pair, the batch stays unchanged
pub stays_batch : (A : Arena ℕ) (n : ℕ) (newcomer : Newcomer) (order : Board) (probe : BandProbe) (e : Batch) → newcomer.states ≡ 1 → newcomer.lanes ≡ n → CanReplayBatch A n newcomer.lanes (entries_grown newcomer) order probe e → CanReplayBatch A n n (entries_at n) order probe e
stays_batch A n newcomer order probe e one same can = record {
  shaped = can.shaped;
  batch = subst (λ m. IsBatch m e) same can.batch;
  ready = (let (N, ready) = can.ready in (N, subst (λ L. CanReplay A n order.list probe (L ++ N)) (sym (grown_itself newcomer.states newcomer.lanes n e one same)) ready));
}

-- a batch whose entries can be replayed can grow
pub can_grow : (A : Arena ℕ) (n : ℕ) (newcomer : Newcomer) (order : Board) (probe : BandProbe) (e : Batch) → AreSlices n newcomer.lanes newcomer.states → CanReplayBatch A n newcomer.lanes (entries_grown newcomer) order probe e → CanGrow A n newcomer e
can_grow A n newcomer order probe e slices can = record { slices = slices; batch = can.batch; nodes = λ x i. (let (N, ready) = can.ready in ready.candidates.nodes x (in_append_left x (entries_grown newcomer e) N i)) }

-- the first row can be replayed
pub grown_ready : (A : Arena ℕ) (n : ℕ) (newcomer : Newcomer) (order : Board) (probe : BandProbe) (e grown : Batch) (rest : ℕ) → CanReplayBatch A n newcomer.lanes (entries_grown newcomer) order probe e → IsGrown n newcomer e grown rest → CanReplayBatch A n n (entries_at n) order probe grown
grown_ready A n newcomer order probe e grown rest can is = record {
  shaped = can.shaped;
  batch = is.batch;
  ready = (
      let (N, ready) = can.ready in
      let left = entries_grown newcomer (record e { lanes = rest }) in
      (left ++ N, subst (CanReplay A n order.list probe) (ap (λ L. L ++ N) is.parts ∙ append_assoc (entries_at n grown) left N) ready));
}

-- ---- the waiting entries, batch by batch

-- the entries of the next batch come first, and those of the others after them
waiting_first : (newcomer : Newcomer) (now next : Board) (e : Batch) → now.waiting_lanes ≡ newcomer.lanes → now.waiting ≡ entries_at now.waiting_lanes e ++ next.waiting → candidates newcomer.states now ≡ entries_grown newcomer e ++ candidates newcomer.states next
waiting_first newcomer now next e same first =
    ap (flat_map (grown_numbers newcomer.states)) (first ∙ ap (λ m. entries_at m e ++ next.waiting) same) ∙ flat_map-append (grown_numbers newcomer.states) (entries_at newcomer.lanes e) next.waiting

-- the next batch can be replayed
pub next_ready : (A : Arena ℕ) (n : ℕ) (newcomer : Newcomer) (now next : Board) (on : BandProbe) (e : Batch) → now.waiting_lanes ≡ newcomer.lanes → now.waiting ≡ entries_at now.waiting_lanes e ++ next.waiting → next ≡ record now { waiting = next.waiting } →
    CanReplay A n now.list on (candidates newcomer.states now) → CanReplay A n next.list on (entries_grown newcomer e ++ candidates newcomer.states next)
next_ready A n newcomer now next on e same first rest can =
    subst (λ K. CanReplay A n K on (entries_grown newcomer e ++ candidates newcomer.states next)) (sym (ap (λ (b : Board). b.list) rest)) (subst (CanReplay A n now.list on) (waiting_first newcomer now next e same first) can)

-- the entries for which the next batch stands were replayed as well
pub replay_on : (A : Arena ℕ) (n : ℕ) (newcomer : Newcomer) (start now next new : Board) (on last : BandProbe) (e : Batch) (before between after : ℕ) → now.waiting_lanes ≡ newcomer.lanes → now.waiting ≡ entries_at now.waiting_lanes e ++ next.waiting → next ≡ record now { waiting = next.waiting } →
    Replays A n (entries_grown newcomer e) [] next.list new.list on last between after → new ≡ record next { list = new.list } → GoesOnTo A n (candidates newcomer.states start) (candidates newcomer.states now) start.list now.list on before between →
    GoesOnTo A n (candidates newcomer.states start) (candidates newcomer.states new) start.list new.list last before after
replay_on A n newcomer start now next new on last e before between after same first rest replayed kept goes =
    let those = waiting_first newcomer now next e same first ∙ ap (λ W. entries_grown newcomer e ++ flat_map (grown_numbers newcomer.states) W) (sym (ap (λ (b : Board). b.waiting) kept)) in
    replayed_on _ _ _ _ _ _ _ _ _ _ _ _ _ _ goes those (subst (λ K. Replays A n (entries_grown newcomer e) [] K new.list on last between after) (ap (λ (b : Board). b.list) rest) replayed)

-- when no batch waits, all entries were replayed
pub replayed_all : (A : Arena ℕ) (n : ℕ) (newcomer : Newcomer) (start now last : Board) (on : BandProbe) (before after : ℕ) → GoesOnTo A n (candidates newcomer.states start) (candidates newcomer.states now) start.list now.list on before after → now ≡ record start { list = now.list; waiting = now.waiting } →
    (now.waiting ≡ []) × (last ≡ now) → HasReplayedAll A (candidates newcomer.states start) start last before after
replayed_all A n newcomer start now last on before after goes rest (none, same) =
    let all : candidates newcomer.states now ≡ [] = ap (flat_map (grown_numbers newcomer.states)) none in
    subst (λ board. HasReplayedAll A (candidates newcomer.states start) start board before after) (sym same) (record {
      list = sym (append-nil now.list) ∙ ap (with_replay A now.list) (sym all) ∙ goes.list;
      rest = rest ∙ ap (λ W. record start { list = now.list; waiting = W }) none;
      cost = omega (arith, goes.cost);
    })
