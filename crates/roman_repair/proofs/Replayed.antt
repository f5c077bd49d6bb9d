-- Replays that are made in steps, and the replay of a batch lane by lane.
use Rattle.roman_repair.proofs.Common.{on_in, some_lane, set_lanes-zero, in_lanes, ◌≡◌, ◌≢◌, ℕ, zero, suc, ◌+◌, ◌*◌, ◌<◌, ◌≤◌, ◌==◌, Bool, true, false, if◌then◌else◌, ◌||◌, List, [], ◌∷◌, ◌++◌, map, length, Option, None, Some, IsTrue, IsFalse, count_by, inl, inr, refl, sym, ap, ◌∙◌, subst, arith, append-nil, append_assoc, add-one, length-append, both_ways, and_from, eqb-true, false_from_ne_true, cases_eq, cases_lt, false≢true, mul-le-mul_left, map-append, sum_by-cons, sum_by-append, IsIn, below, all_below, is_empty, list_any, Arena, Entry, is_listed, is_justified, is_beaten, Reason, Final, Act, all_below_from, by_test, justified_is, in_append_left, in_map, from_map, is_on, readings_of_reason, IsReasonOf, readings_of-allowed, count_below_more, IsNumbered, Board, as_entry, has_entry, set_lanes, entries_in, entries_at, Batch, IsShaped, HoldsInBand, is_possible, AreCandidates, with_replay, readings_of_entries, MayProbeAlone, passes, without_seat, IsSeatOf, probes_of, CanReplay, CanReplayBatch, GoesOnTo, Replays, HasJudged, HasJudgedFront, HasFront, BandProbe}
use Rattle.roman_repair.proofs.BandAnswers.{known_more, listed_more, passes_more}
use Rattle.roman_repair.proofs.Keeping.{candidates_step, possible_reason, with_one, with_replay_step}
use Rattle.roman_repair.proofs.Fronts.{some_in}

-- ---- one entry

-- a reason that holds without a seat's outcomes holds if the seat lets it
both_justified : (A : Arena ℕ) (gone : ℕ → Bool) (k p : ℕ) (reason : Reason) → IsTrue (is_justified (without_seat A k) gone p reason) → IsTrue (passes A gone (Some k) p reason) → IsTrue (is_justified A gone p reason)
both_justified A gone k p Final others lets = others
both_justified A gone k p (Act a) others lets =
    let (allowed, each) = justified_is (without_seat A k) gone p a others in
    and_from (A.allows p a) (all_below (is_beaten A gone p a) A.seats) allowed (all_below_from (is_beaten A gone p a) A.seats (λ j l. by_test (j == k)
    (λ t. subst (λ i. IsTrue (is_beaten A gone p a i)) (sym (eqb-true j k t)) lets)
    (λ f. subst (λ b. IsTrue (is_empty (if b then [] else A.outcomes p a j) || list_any gone (if b then [] else A.outcomes p a j))) f (each j l))))

justified : (A : Arena ℕ) (alone : Option ℕ) (kept : List (Entry ℕ)) (x : Entry ℕ) (L : List (Entry ℕ)) → MayProbeAlone A alone kept (x ∷ L) → IsTrue (passes A (is_listed A kept) alone x.node x.reason) → IsTrue (is_justified A (is_listed A kept) x.node x.reason)
justified A None kept x L may lets = lets
justified A (Some k) kept x L may lets = both_justified A (is_listed A kept) k x.node x.reason may.2.0 lets

-- if a seat keeps a reason from holding, it doesn't hold
unjustified : (A : Arena ℕ) (gone : ℕ → Bool) (alone : Option ℕ) (p : ℕ) (reason : Reason) → IsSeatOf A alone → IsFalse (passes A gone alone p reason) → IsFalse (is_justified A gone p reason)
unjustified A gone None p reason seat off = off
unjustified A gone (Some k) p Final l off = absurd (false≢true (sym off))
unjustified A gone (Some k) p (Act a) l off = false_from_ne_true (is_justified A gone p (Act a)) (λ t. both_ways (is_beaten A gone p a k) off ((justified_is A gone p a t).1 k l))

pub seat_in : (A : Arena ℕ) (alone : Option ℕ) (kept L : List (Entry ℕ)) → MayProbeAlone A alone kept L → IsSeatOf A alone
seat_in A None kept L may = tt
seat_in A (Some k) kept L may = may.0

may_step : (A : Arena ℕ) (alone : Option ℕ) (kept : List (Entry ℕ)) (x : Entry ℕ) (L : List (Entry ℕ)) → MayProbeAlone A alone kept (x ∷ L) → MayProbeAlone A alone (kept ++ x ∷ []) L
may_step A None kept x L may = tt
may_step A (Some k) kept x L may = (may.0, may.1, may.2.1)

some_counted : (f : ℕ → Bool) (n k : ℕ) → k < n → IsTrue (f k) → 0 < count_by f (below n)
some_counted f zero k l t = absurd (omega arith)
some_counted f (suc n) k l t = grind (arith, add-one, cases_eq, (count_below_more f n), (some_counted f n k))

-- the probes for an entry are at most its readings
few_probes : (A : Arena ℕ) (alone : Option ℕ) (kept L : List (Entry ℕ)) (p : ℕ) (reason : Reason) → MayProbeAlone A alone kept L → IsTrue (is_possible A p reason) → probes_of A alone p reason ≤ readings_of_reason A p reason
few_probes A None kept L p reason may possible = omega arith
few_probes A (Some k) kept L p Final may possible = omega arith
few_probes A (Some k) kept L p (Act a) may possible = omega (arith, some_counted A.ready A.seats k may.0 may.1, readings_of-allowed A p a possible)

-- ---- entries with equal results

-- a replay of entries that all pass keeps them
pub all_kept : (A : Arena ℕ) (alone : Option ℕ) (kept L N : List (Entry ℕ)) → AreCandidates A kept (L ++ N) → MayProbeAlone A alone kept (L ++ N) → ((x : Entry ℕ) → IsIn x L → IsTrue (passes A (is_listed A kept) alone x.node x.reason)) →
    (with_replay A (kept ++ L) N ≡ with_replay A kept (L ++ N)) × AreCandidates A (kept ++ L) N × MayProbeAlone A alone (kept ++ L) N
all_kept A alone kept [] N are may each = subst (λ K. (with_replay A K N ≡ with_replay A kept N) × AreCandidates A K N × MayProbeAlone A alone K N) (sym (append-nil kept)) (refl, are, may)
all_kept A alone kept (x ∷ L) N are may each =
    let first : with_one A kept x ≡ kept ++ x ∷ [] = ap (λ b. if b then kept ++ x ∷ [] else kept) (justified A alone kept x (L ++ N) may (each x (inl refl))) in
    grind (
      arith,
      (append_assoc kept (x ∷ []) L),
      (with_replay_step A kept x (L ++ N)),
      (all_kept A alone (kept ++ x ∷ []) L N (subst (λ K. AreCandidates A K (L ++ N)) first (candidates_step A kept x (L ++ N) are)) (may_step A alone kept x (L ++ N) may)
          (λ y i. passes_more A _ _ alone y.node y.reason (listed_more A kept (x ∷ [])) (each y (inr i)))),
    )

-- a replay of entries that aren't justified drops all of them
pub none_kept : (A : Arena ℕ) (kept L N : List (Entry ℕ)) → AreCandidates A kept (L ++ N) → ((x : Entry ℕ) → IsIn x L → IsFalse (is_justified A (is_listed A kept) x.node x.reason)) →
    (with_replay A kept N ≡ with_replay A kept (L ++ N)) × AreCandidates A kept N
none_kept A kept [] N are each = (refl, are)
none_kept A kept (x ∷ L) N are each =
    let first : with_one A kept x ≡ kept = ap (λ b. if b then kept ++ x ∷ [] else kept) (each x (inl refl)) in
    grind (arith, (none_kept A kept L N (subst (λ K. AreCandidates A K (L ++ N)) first (candidates_step A kept x (L ++ N) are)) (λ y i. each y (inr i))), (with_replay_step A kept x (L ++ N)))

-- ---- replays that follow one another

pub stays : (A : Arena ℕ) (n : ℕ) (L kept : List (Entry ℕ)) (probe : BandProbe) (steps : ℕ) → CanReplay A n kept probe L → GoesOnTo A n L L kept kept probe steps steps
stays A n L kept probe steps can = record { list = refl; can = can; cost = omega arith }

-- a replay that has gone on to X can go on past the front of X
pub replayed_on : (A : Arena ℕ) (n : ℕ) (L E M X kept mid now : List (Entry ℕ)) (on last : BandProbe) (before between after : ℕ) → GoesOnTo A n L X kept mid on before between → X ≡ E ++ M → Replays A n E [] mid now on last between after →
    GoesOnTo A n L M kept now last before after
replayed_on A n L E M X kept mid now on last before between after first parts second =
    let done = second.goes_on M (subst (CanReplay A n mid on) parts first.can) in
    record { list = done.list ∙ ap (with_replay A mid) (sym parts) ∙ first.list; can = done.can; cost = omega (arith, done.cost, first.cost, ap (readings_of_entries A) parts) }

pub replays_none : (A : Arena ℕ) (n : ℕ) (L kept : List (Entry ℕ)) (probe : BandProbe) (steps : ℕ) → Replays A n L L kept kept probe probe steps steps
replays_none A n L kept probe steps = record { goes_on = λ N can. stays A n (L ++ N) kept probe steps can }

pub replays_both : (A : Arena ℕ) (n : ℕ) (L M N kept mid now : List (Entry ℕ)) (probe on last : BandProbe) (before between after : ℕ) → Replays A n L M kept mid probe on before between → Replays A n M N mid now on last between after →
    Replays A n L N kept now probe last before after
replays_both A n L M N kept mid now probe on last before between after first second = record {
  goes_on = λ K can. (
      let done = first.goes_on K can in
      let more = second.goes_on K done.can in
      record { list = more.list ∙ done.list; can = more.can; cost = omega (arith, done.cost, more.cost) }
      );
}

-- ---- a batch

-- the entry for a lane of a batch
lane_in : (n : ℕ) (e : Batch) (lane : ℕ) (N : List (Entry ℕ)) → IsIn lane (set_lanes e.lanes) → IsIn (as_entry (e.row * n + lane, e.reason)) (entries_at n e ++ N)
lane_in n e lane N i = in_append_left (as_entry (e.row * n + lane, e.reason)) (entries_at n e) N (in_map (λ lane. as_entry (e.row * n + lane, e.reason)) lane (set_lanes e.lanes) i)

-- the row of a batch, and its reason, are in the system
pub record IsInRow (A : Arena ℕ) (rows n : ℕ) (e : Batch) : Type 0 where
  pub row : e.row < rows
  pub node : e.row * n < length A.nodes
  pub action : IsReasonOf A e.reason

pub in_row : (A : Arena ℕ) (n : ℕ) (order : Board) (probe : BandProbe) (e : Batch) → IsNumbered A → CanReplayBatch A n n (entries_at n) order probe e → IsInRow A order.rows n e
in_row A n order probe e ok can =
    let (N, ready) = can.ready in
    let (lane, j) = some_in (set_lanes e.lanes) can.batch.some in
    let i = lane_in n e lane N j in
    let node : e.row * n + lane < length A.nodes = ready.candidates.nodes (as_entry (e.row * n + lane, e.reason)) i in
    let pairs : order.rows * n ≡ length A.nodes = ap (λ m. order.rows * m) (sym can.shaped.lanes) ∙ can.shaped.pairs in
    record {
      row = elim (cases_lt e.row order.rows) [ inl l ↦ l | inr past ↦ absurd (let more : n * order.rows ≤ n * e.row = mul-le-mul_left n past in omega (arith, more, node, pairs)) ];
      node = omega (arith, node);
      action = possible_reason A ok (e.row * n + lane) e.reason (ready.candidates.possible (as_entry (e.row * n + lane, e.reason)) i);
    }

-- an entry of the batch isn't listed
pub lane_alive : (A : Arena ℕ) (n : ℕ) (order : Board) (probe : BandProbe) (e : Batch) (lane : ℕ) → CanReplayBatch A n n (entries_at n) order probe e → n ≤ 64 → is_on e.lanes lane ≡ true → has_entry order.list (e.row * order.lanes + lane) ≡ false
lane_alive A n order probe e lane can few on =
    let (N, ready) = can.ready in
    ap (λ m. has_entry order.list (e.row * m + lane)) can.shaped.lanes ∙ ready.candidates.new (as_entry (e.row * n + lane, e.reason)) (lane_in n e lane N (on_in e.lanes lane (omega (arith, can.batch.within lane on, few)) on))

-- entries for some lanes of a row
each_in : (n x : ℕ) (reason : Reason) (word : ℕ) (P : Entry ℕ → Type 0) → ((lane : ℕ) → is_on word lane ≡ true → P (as_entry (x * n + lane, reason))) → (y : Entry ℕ) → IsIn y (entries_in n x word reason) → P y
each_in n x reason word P each y i = let (lane, j, same) = from_map (λ lane. as_entry (x * n + lane, reason)) y (set_lanes word) i in subst P (sym same) (each lane (in_lanes word lane j).1)

paid : (A : Arena ℕ) (x : Entry ℕ) (L : List (Entry ℕ)) → IsIn x L → readings_of_reason A x.node x.reason ≤ readings_of_entries A L
paid A x [] i = absurd i
paid A x (y ∷ L) i = grind (arith, (paid A x L), (sum_by-cons (λ (z : Entry ℕ). readings_of_reason A z.node z.reason) y L))

-- the first entries were judged: the replay goes on with the others, and the probes for the first one pay for the steps
judged : (A : Arena ℕ) (n rest front held : ℕ) (holds : Bool) (e : Batch) (old new : Board) (probe now : BandProbe) (before after : ℕ) → HasFront e.lanes held front rest holds →
    ((N : List (Entry ℕ)) → CanReplay A n old.list probe (entries_in n e.row front e.reason ++ N) → (with_replay A new.list N ≡ with_replay A old.list (entries_in n e.row front e.reason ++ N)) × CanReplay A n new.list now N) →
    ((lane : ℕ) → is_on front lane ≡ true → IsTrue (is_possible A (e.row * n + lane) e.reason) → after ≤ before + probes_of A probe.alone (e.row * n + lane) e.reason) → new ≡ record old { list = new.list } →
    HasJudgedFront A n e rest old new probe now before after
judged A n rest front held holds e old new probe now before after split step cost is = record {
  fewer = omega (arith, ap length split.parts, length-append (set_lanes front) (set_lanes rest), split.some);
  judged = record {
    some = λ ne. some_lane rest ne split.fits;
    within = split.in_rest;
    rest = is;
    replayed = record {
      goes_on = λ N can. (
          let those = entries_in n e.row front e.reason in
          let left = entries_in n e.row rest e.reason ++ N in
          let f = λ (lane : ℕ). as_entry (e.row * n + lane, e.reason) in
          let whole : entries_at n e ++ N ≡ those ++ left = ap (λ L. L ++ N) (ap (map f) split.parts ∙ map-append f (set_lanes front) (set_lanes rest)) ∙ append_assoc those (entries_in n e.row rest e.reason) N in
          let ready : CanReplay A n old.list probe (those ++ left) = subst (CanReplay A n old.list probe) whole can in
          let (same, next) = step left ready in
          let (lane, i) = some_in (set_lanes front) split.some in
          let possible = ready.candidates.possible (f lane) (in_append_left (f lane) those left (in_map f lane (set_lanes front) i)) in
          record {
            list = same ∙ ap (with_replay A old.list) (sym whole);
            can = next;
            cost = omega (arith, cost lane (in_lanes front lane i).1 possible, few_probes A probe.alone old.list (those ++ left) (e.row * n + lane) e.reason ready.may possible, paid A (f lane) those (in_map f lane (set_lanes front) i), ap (readings_of_entries A) whole, sum_by-append (λ (z : Entry ℕ). readings_of_reason A z.node z.reason) those left);
          }
          );
    };
  };
}

-- entries that pass were listed
pub listed : (A : Arena ℕ) (n rest front held : ℕ) (e : Batch) (old new : Board) (probe now : BandProbe) (before after : ℕ) → CanReplayBatch A n n (entries_at n) old probe e → HasFront e.lanes held front rest true →
    ((lane : ℕ) → lane < n → is_on held lane ≡ true → IsTrue (passes A (is_listed A old.list) probe.alone (e.row * n + lane) e.reason)) → now.alone ≡ probe.alone → HoldsInBand A n (is_listed A old.list) now →
    ((lane : ℕ) → lane < n → IsTrue (is_possible A (e.row * n + lane) e.reason) → after ≤ before + probes_of A probe.alone (e.row * n + lane) e.reason) →
    new ≡ record old { list = old.list ++ entries_in old.lanes e.row front e.reason } → HasJudgedFront A n e rest old new probe now before after
listed A n rest front held e old new probe now before after can split each alone known cost is =
    let those = entries_in n e.row front e.reason in
    let list : new.list ≡ old.list ++ those = ap (λ (b : Board). b.list) is ∙ ap (λ m. old.list ++ entries_in m e.row front e.reason) can.shaped.lanes in
    let within = λ (lane : ℕ) (on : is_on front lane ≡ true). can.batch.within lane (split.in_front lane on) in
    judged A n rest front held true e old new probe now before after split (λ N ready.
    let (same, are, may) = all_kept A probe.alone old.list those N ready.candidates ready.may
    (each_in n e.row e.reason front (λ y. IsTrue (passes A (is_listed A old.list) probe.alone y.node y.reason)) (λ lane on. each lane (within lane on) (split.alike lane on))) in
    subst (λ K. (with_replay A K N ≡ with_replay A old.list (those ++ N)) × CanReplay A n K now N) (sym list)
    (same, record { candidates = are; may = subst (λ o. MayProbeAlone A o (old.list ++ those) N) (sym alone) may; known = known_more A n now old.list those known }))
    (λ lane on. cost lane (within lane on)) (is ∙ ap (λ K. record old { list = K }) (sym (ap (λ (b : Board). b.list) is)))

-- entries that don't pass were dropped, and from then on all seats are probed
pub dropped : (A : Arena ℕ) (n rest front held : ℕ) (e : Batch) (old : Board) (probe now : BandProbe) (before after : ℕ) → CanReplayBatch A n n (entries_at n) old probe e → HasFront e.lanes held front rest false →
    ((lane : ℕ) → lane < n → is_on held lane ≡ passes A (is_listed A old.list) probe.alone (e.row * n + lane) e.reason) → now.alone ≡ None → HoldsInBand A n (is_listed A old.list) now →
    ((lane : ℕ) → lane < n → IsTrue (is_possible A (e.row * n + lane) e.reason) → after ≤ before + probes_of A probe.alone (e.row * n + lane) e.reason) →
    HasJudgedFront A n e rest old old probe now before after
dropped A n rest front held e old probe now before after can split each all known cost =
    let within = λ (lane : ℕ) (on : is_on front lane ≡ true). can.batch.within lane (split.in_front lane on) in
    judged A n rest front held false e old old probe now before after split (λ N ready.
    let (same, are) = none_kept A old.list (entries_in n e.row front e.reason) N ready.candidates
    (each_in n e.row e.reason front (λ y. IsFalse (is_justified A (is_listed A old.list) y.node y.reason))
    (λ lane on. unjustified A (is_listed A old.list) probe.alone (e.row * n + lane) e.reason (seat_in A probe.alone old.list _ ready.may) (sym (each lane (within lane on)) ∙ split.alike lane on))) in
    (same, record { candidates = are; may = subst (λ o. MayProbeAlone A o old.list N) (sym all) tt; known = known }))
    (λ lane on. cost lane (within lane on)) refl

-- ---- the entries for which a batch stands, lane by lane

-- the entries for which the remaining lanes stand can be replayed
pub judge_rest : (A : Arena ℕ) (row lanes : ℕ) (entries : Batch → List (Entry ℕ)) (left : ℕ) (e : Batch) (old new : Board) (probe now : BandProbe) (before after : ℕ) → CanReplayBatch A row lanes entries old probe e → HasJudged A row entries e left old new probe now before after →
    left ≢ 0 → CanReplayBatch A row lanes entries new now (record e { lanes = left })
judge_rest A row lanes entries left e old new probe now before after can is ne = record {
  shaped = subst (IsShaped A row) (sym is.rest) (record { pairs = can.shaped.pairs; lanes = can.shaped.lanes });
  batch = record { some = is.some ne; within = λ lane on. can.batch.within lane (is.within lane on) };
  ready = (let (N, ready) = can.ready in (N, (is.replayed.goes_on N ready).can));
}

-- before the first lane, no entry was judged
pub judged_none : (A : Arena ℕ) (row : ℕ) (entries : Batch → List (Entry ℕ)) (e : Batch) (order : Board) (probe : BandProbe) (steps : ℕ) → 0 < length (set_lanes e.lanes) → HasJudged A row entries e e.lanes order order probe probe steps steps
judged_none A row entries e order probe steps some = record { some = λ ne. some; within = λ lane on. on; replayed = replays_none A row (entries e) order.list probe steps; rest = refl }

-- more lanes were judged
pub judged_on : (A : Arena ℕ) (row : ℕ) (entries : Batch → List (Entry ℕ)) (left rest : ℕ) (e : Batch) (old mid new : Board) (probe on now : BandProbe) (before between after : ℕ) → HasJudged A row entries e left old mid probe on before between →
    HasJudged A row entries (record e { lanes = left }) rest mid new on now between after → HasJudged A row entries e rest old new probe now before after
judged_on A row entries left rest e old mid new probe on now before between after first second = record {
  some = second.some;
  within = λ lane at. first.within lane (second.within lane at);
  replayed = replays_both A row _ _ _ old.list mid.list new.list probe on now before between after first.replayed second.replayed;
  rest = second.rest ∙ ap (λ (b : Board). record b { list = new.list }) first.rest;
}

-- after the last lane, all entries were judged
pub judged_all : (A : Arena ℕ) (row : ℕ) (entries : Batch → List (Entry ℕ)) (left : ℕ) (e : Batch) (old new : Board) (probe now : BandProbe) (before after : ℕ) → HasJudged A row entries e left old new probe now before after → left ≡ 0 → entries (record e { lanes = 0 }) ≡ [] →
    Replays A row (entries e) [] old.list new.list probe now before after
judged_all A row entries left e old new probe now before after is none empty =
    subst (λ M. Replays A row (entries e) M old.list new.list probe now before after) (ap (λ w. entries (record e { lanes = w })) none ∙ empty) is.replayed

-- a batch of no lanes has no entries
pub no_entries : (n x : ℕ) (reason : Reason) → entries_in n x 0 reason ≡ []
no_entries n x reason = ap (map (λ lane. as_entry (x * n + lane, reason))) set_lanes-zero

-- a replay of some entries, with other entries after them
pub replays_front : (A : Arena ℕ) (n : ℕ) (L M X kept now : List (Entry ℕ)) (probe on : BandProbe) (before after : ℕ) → X ≡ L ++ M → Replays A n L [] kept now probe on before after → Replays A n X M kept now probe on before after
replays_front A n L M X kept now probe on before after parts is = record {
  goes_on = λ N can. (
      let same : X ++ N ≡ L ++ (M ++ N) = ap (λ Y. Y ++ N) parts ∙ append_assoc L M N in
      subst (λ Y. GoesOnTo A n Y (M ++ N) kept now on before after) (sym same) (is.goes_on (M ++ N) (subst (CanReplay A n kept probe) same can)));
}
