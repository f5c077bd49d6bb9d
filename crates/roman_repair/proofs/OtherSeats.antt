-- After a thaw or a join each entry of the old list would be kept if the changed seat had no outcomes.
use Rattle.roman_repair.proofs.Common.{get_front, map_same_in, complete_order, turned, sizes-turned, in_map, from_map, AreNumbers, in_below, justified_more, listed_append, map-map, all_below_from, any_from, any_true, by_test, from_below, justified_is, number_allows-turned, pair_at-grown, sizes-joined, IsPairOf-from, is_fine-turned, length-set_frozen, length-states_at, number-grown, numbers_are_pairs, outcome_pair, moved_named, outcomes-turned, ◌≡◌, ℕ, zero, suc, ◌+◌, ◌*◌, ◌%◌, ◌<◌, ◌==◌, Bool, true, false, not, ◌&&◌, ◌||◌, List, [], ◌∷◌, ◌++◌, map, flat_map, length, Some, IsTrue, IsFalse, if◌then◌else◌, slice_get, slice_index, inl, inr, refl, sym, ap, ◌∙◌, subst, arith, append-nil, append_assoc, both_ways, eqb-true, or_left, and_from, and_parts, eq-eqb, or_cases, or_right, IsIn, below, product_of, all_below, is_empty, Arena, Entry, is_listed, is_justified, is_among, IsOrderFrom, IsOrder, replay, Reason, Final, Act, length-map, length_push, get_or_append_left, set-append_left, Sys, Seat, IsSys, is_final, Pair, all_final, Sizes, sizes_of, count, pair_at, numbered, number, grown_numbers, NamedSys, system_of, IsNamedSys, seat_of, Board, pairs_of, has_entry, IsRelation, listed_numbers, list_any, is_ready, is_fine, outcomes, outcomes_by, seat_next, without_seat, MayProbeAlone, AreKept, grown, set_frozen, Join, after, Thaw, AreSizes, lanes_of, lanes_few, lanes_in, AreCandidates, Newcomer}
use Rattle.roman_repair.proofs.Joined.{possible-joined, joined_can, joined_candidates, joined_lanes}
use Rattle.roman_repair.proofs.Repairing.{relation_replays}
use Rattle.roman_repair.proofs.Waiting.{IsReadmission, grown_by_one, relation_candidates, turned_candidates}
use Rattle.roman_repair.proofs.Growing.{same_slices}

-- ---- entries that are kept

kept_append : (A : Arena ℕ) (kept L M : List (Entry ℕ)) → AreKept A kept L → AreKept A (kept ++ L) M → AreKept A kept (L ++ M)
kept_append A kept [] M front rest = subst (λ K. AreKept A K M) (append-nil kept) rest
kept_append A kept (x ∷ L) M front rest = (front.0, kept_append A (kept ++ x ∷ []) L M front.1 (subst (λ K. AreKept A K M) (sym (append_assoc kept (x ∷ []) L)) rest))

kept_all : (A : Arena ℕ) (kept L : List (Entry ℕ)) → ((x : Entry ℕ) → IsIn x L → IsTrue (is_justified A (is_listed A kept) x.node x.reason)) → AreKept A kept L
kept_all A kept [] all = tt
kept_all A kept (x ∷ L) all = (
  all x (inl refl),
  kept_all A (kept ++ x ∷ []) L (λ y i. justified_more A (is_listed A kept) (is_listed A (kept ++ x ∷ [])) y.node y.reason
      (λ a k q j t. listed_append A kept (x ∷ []) q ∙ or_left (is_listed A kept q) (is_listed A (x ∷ []) q) t) (all y (inr i))),
)

-- ---- a system whose other seats have the outcomes of an old system, with a state of a new seat

-- pair p of the system s becomes the pairs p * m + b of the system t, and there the seats other than k have the outcomes that they had
pub record CarriesOver (s t : Sys) (k m : ℕ) : Type 0 where
  pub fine : (p b : ℕ) → p < count (sizes_of s) → b < m → IsTrue (not ((numbered s).fine p)) → IsTrue (not ((numbered t).fine (p * m + b)))
  pub allows : (p b a : ℕ) → p < count (sizes_of s) → b < m → IsTrue ((numbered s).allows p a) → IsTrue ((numbered t).allows (p * m + b) a)
  pub seat : (j : ℕ) → j < (numbered t).seats → (j ≡ k → ⊥) → j < (numbered s).seats
  pub outcomes : (p b a j : ℕ) → p < count (sizes_of s) → b < m → j < (numbered t).seats → (j ≡ k → ⊥) →
      (numbered t).outcomes (p * m + b) a j ≡ map (λ q. q * m + b) ((numbered s).outcomes p a j)

beaten_map : (f : ℕ → ℕ) (gone lost : ℕ → Bool) (qs : List ℕ) → ((q : ℕ) → IsTrue (gone q) → IsTrue (lost (f q))) → IsTrue (is_empty qs || list_any gone qs) →
    IsTrue (is_empty (map f qs) || list_any lost (map f qs))
beaten_map f gone lost [] carry h = refl
beaten_map f gone lost (x ∷ qs) carry h = let (q, i, t) = any_true gone (x ∷ qs) h in any_from lost (f q) (map f (x ∷ qs)) (in_map f q (x ∷ qs) i) (carry q t)

carried_justified : (s t : Sys) (k m : ℕ) → CarriesOver s t k m → (p b : ℕ) → p < count (sizes_of s) → b < m → (gone lost : ℕ → Bool) → ((q : ℕ) → IsTrue (gone q) → IsTrue (lost (q * m + b))) →
    (reason : Reason) → IsTrue (is_justified (numbered s) gone p reason) → IsTrue (is_justified (without_seat (numbered t) k) lost (p * m + b) reason)
carried_justified s t k m over p b l h gone lost carry Final j = over.fine p b l h j
carried_justified s t k m over p b l h gone lost carry (Act a) j =
    let (allowed, each) = justified_is (numbered s) gone p a j in
    let B = without_seat (numbered t) k in
    let blank : ℕ → Bool → Bool = λ i none. is_empty (if none then [] else (numbered t).outcomes (p * m + b) a i) || list_any lost (if none then [] else (numbered t).outcomes (p * m + b) a i) in
    and_from (B.allows (p * m + b) a) (all_below (λ i. blank i (i == k)) B.seats) (over.allows p b a l h allowed)
    (all_below_from (λ i. blank i (i == k)) B.seats (λ i inner. by_test (i == k) (λ same. grind (arith, same)) (λ other.
    let ne : i ≡ k → ⊥ = λ e. both_ways (i == k) other (eq-eqb i k e) in
    grind (arith, other, (over.outcomes p b a i l h inner ne), (beaten_map (λ q. q * m + b) gone lost ((numbered s).outcomes p a i) carry (each i (over.seat i inner ne)))))))

-- each entry for which a removal list of the old system stands would be kept
carried_kept : (s t : Sys) (k m : ℕ) → CarriesOver s t k m → (before : List ℕ) (kept L : List (Entry ℕ)) → ((x : Entry ℕ) → IsIn x L → x.node < count (sizes_of s)) →
    ((q b : ℕ) → b < m → IsTrue (is_among (numbered s) before q) → IsTrue (is_listed (numbered t) kept (q * m + b))) → IsOrderFrom (numbered s) before L →
    AreKept (without_seat (numbered t) k) kept (flat_map (grown_numbers m) L)
carried_kept s t k m over before kept [] are carry order = tt
carried_kept s t k m over before kept (x ∷ L) are carry order =
    let B : Arena ℕ = without_seat (numbered t) k in
    let next : (q b : ℕ) → b < m → IsTrue (is_among (numbered s) (x.node ∷ before) q) → IsTrue (is_listed (numbered t) (kept ++ grown_numbers m x) (q * m + b)) = λ q b h h_among. listed_append (numbered t) kept (grown_numbers m x) (q * m + b) ∙ elim (or_cases (q == x.node) (is_among (numbered s) before q) h_among) [
      | inl here ↦ or_right (is_listed (numbered t) kept (q * m + b)) (is_listed (numbered t) (grown_numbers m x) (q * m + b))
          (any_from (λ (y : Entry ℕ). q * m + b == y.node) (record { node = x.node * m + b; reason = x.reason }) (grown_numbers m x)
          (in_map (λ b. record { node = x.node * m + b; reason = x.reason }) b (below m) (in_below m b h)) (eq-eqb (q * m + b) (x.node * m + b) (ap (λ i. i * m + b) (eqb-true q x.node here))))
      | inr rest ↦ or_left (is_listed (numbered t) kept (q * m + b)) (is_listed (numbered t) (grown_numbers m x) (q * m + b)) (carry q b h rest)
    ] in
    kept_append B kept (grown_numbers m x) (flat_map (grown_numbers m) L)
    (kept_all B kept (grown_numbers m x) (λ y i.
    let (b, j, e) = from_map (λ b. record { node = x.node * m + b; reason = x.reason }) y (below m) i in
    let h : b < m = from_below m b j in
    subst (λ (z : Entry ℕ). IsTrue (is_justified B (is_listed B kept) z.node z.reason)) (sym e)
    (carried_justified s t k m over x.node b (are x (inl refl)) h (is_among (numbered s) before) (is_listed B kept) (λ q. carry q b h) x.reason order.1)))
    (carried_kept s t k m over (x.node ∷ before) (kept ++ grown_numbers m x) L (λ y i. are y (inr i)) next order.2)

-- each entry for which the list of a relation stands would be kept
relation_kept : (joint : NamedSys) (old : Board) (t : Sys) (k m : ℕ) → IsNamedSys joint → IsRelation joint old → ((p : ℕ) → has_entry old.list p ≡ true → p < pairs_of old) → CarriesOver (system_of joint) t k m →
    AreKept (without_seat (numbered t) k) [] (flat_map (grown_numbers m) old.list)
relation_kept joint old t k m known relation in_range over =
    let are : AreNumbers (system_of joint) old.list = listed_numbers (system_of joint) old relation.shaped.pairs in_range in
    carried_kept (system_of joint) t k m over [] [] old.list are (λ q b h none. none) (complete_order (system_of joint) old.list known.system are relation.complete.list)

-- ---- a thaw

-- a pair is its own only pair after a thaw
same_place : (p b : ℕ) → b < 1 → p * 1 + b ≡ p
same_place p b h = omega arith

map_itself : (b : ℕ) → b < 1 → (qs : List ℕ) → qs ≡ map (λ q. q * 1 + b) qs
map_itself b h [] = refl
map_itself b h (q ∷ qs) = λ i. sym (same_place q b h) i ∷ map_itself b h qs i

pub thaw_carries : (s : Sys) (k : ℕ) → CarriesOver s (turned s k false) k 1
thaw_carries s k =
    let t : Sys = turned s k false in
    record {
      fine = λ p b l h f. ap not (ap (λ i. is_fine t (pair_at (sizes_of t) i)) (same_place p b h) ∙ ap (λ n. is_fine t (pair_at n p)) (sizes-turned s k false) ∙ is_fine-turned s k false (pair_at (sizes_of s) p)) ∙ f;
      allows = λ p b a l h f. ap (λ i. (numbered t).allows i a) (same_place p b h) ∙ number_allows-turned s k false p a ∙ f;
      seat = λ j l ne. subst (λ n. j < n) (length-set_frozen s.seats k false) l;
      outcomes = λ p b a j l h below_j ne.
          ap (λ i. (numbered t).outcomes i a j) (same_place p b h)
          ∙ ap (λ n. map (number n) (outcomes t (pair_at n p) a j)) (sizes-turned s k false)
          ∙ ap (map (number (sizes_of s))) (outcomes-turned s k false (pair_at (sizes_of s) p) a j ne)
          ∙ map_itself b h ((numbered s).outcomes p a j);
    }

-- ---- a join

-- a pair that isn't final for the seats isn't final for one seat more
final_fewer : (seats : List Seat) (seat : Seat) (bs : List ℕ) (b : ℕ) → IsTrue (all_final (seats ++ seat ∷ []) (bs ++ b ∷ [])) → length bs ≡ length seats → IsTrue (all_final seats bs)
final_fewer [] seat bs b f long = refl
final_fewer (x ∷ seats) seat [] b f long = absurd (omega arith)
final_fewer (x ∷ seats) seat (c ∷ bs) b f long = grind (arith, and_from, and_parts, (final_fewer seats seat bs b))

-- the system with a new last seat
abbrev pub with_last : Sys → Seat → Sys
with_last s seat = record { env = s.env; target = s.target; seats = s.seats ++ seat ∷ [] }

-- the outcomes of the old seats
outcomes_grown : (s : Sys) (seat : Seat) (p : Pair) (b a j : ℕ) → length p.bs ≡ length s.seats → j < length s.seats → outcomes (with_last s seat) (grown p b) a j ≡ map (λ q. grown q b) (outcomes s p a j)
outcomes_grown s seat p b a j long l =
    ap (λ o. outcomes_by (with_last s seat) (grown p b) a j (seat_next o (slice_index (p.bs ++ b ∷ []) j) p.e a)) (get_front s.seats (seat ∷ []) j l)
    ∙ ap (λ c. outcomes_by (with_last s seat) (grown p b) a j (seat_next (slice_get s.seats j) c p.e a)) (get_or_append_left p.bs (b ∷ []) 0 j (omega (arith, l, long)))
    ∙ moved_named s (s.seats ++ seat ∷ []) p a j j (seat_next (slice_get s.seats j) (slice_index p.bs j) p.e a) (λ bs. bs ++ b ∷ []) (p.bs ++ b ∷ []) (λ c. set-append_left p.bs (b ∷ []) j c (omega (arith, l, long)))

pub join_carries : (s : Sys) (seat : Seat) → IsSys s → CarriesOver s (with_last s seat) (length s.seats) seat.beh.states
join_carries s seat ok =
    let t : Sys = with_last s seat in
    let n : Sizes = sizes_of s in
    let place : (p b : ℕ) → p < count n → b < seat.beh.states → pair_at (sizes_of t) (p * seat.beh.states + b) ≡ grown (pair_at n p) b = λ p b l h. ap (λ m. pair_at m (p * seat.beh.states + b)) (sizes-joined s seat) ∙ pair_at-grown n seat.beh.states p b l h in
    let long : (p : ℕ) → length (pair_at n p).bs ≡ length s.seats = λ p. length-states_at n.seats (p % product_of n.seats) ∙ length-map s.seats (λ (x : Seat). x.beh.states) in
    record {
      fine = λ p b l h f. ap (λ q. not (is_fine t q)) (place p b l h) ∙ still_unfine (is_final s.target (pair_at n p).t) (all_final s.seats (pair_at n p).bs) (all_final t.seats ((pair_at n p).bs ++ b ∷ []))
          (λ every. final_fewer s.seats seat (pair_at n p).bs b every (long p)) f;
      allows = λ p b a l h f. possible-joined s seat p b (Act a) l h ∙ f;
      seat = λ j l ne. (let total : length (s.seats ++ seat ∷ []) ≡ length s.seats + 1 = length_push s.seats seat in omega (arith, l, total, ne));
      outcomes = λ p b a j l h below_j ne.
          let inner : j < length s.seats = (let total : length (s.seats ++ seat ∷ []) ≡ length s.seats + 1 = length_push s.seats seat in omega (arith, below_j, total, ne)) in
          ap (λ q. map (number (sizes_of t)) (outcomes t q a j)) (place p b l h)
          ∙ ap (map (number (sizes_of t))) (outcomes_grown s seat (pair_at n p) b a j (long p) inner)
          ∙ map-map (number (sizes_of t)) (λ q. grown q b) (outcomes s (pair_at n p) a j)
          ∙ map_same_in (λ q. number (sizes_of t) (grown q b)) (λ q. number n q * seat.beh.states + b) (outcomes s (pair_at n p) a j)
          (λ q i. ap (λ m. number m (grown q b)) (sizes-joined s seat) ∙ number-grown n q seat.beh.states b (IsPairOf-from s q (outcome_pair s (pair_at n p) a j q ok ((numbers_are_pairs s).pair p l) i)))
          ∙ sym (map-map (λ q. q * seat.beh.states + b) (number n) (outcomes s (pair_at n p) a j));
    }
  where
    still_unfine : (final all more : Bool) → (IsTrue more → IsTrue all) → IsTrue (not (not final || all)) → IsTrue (not (not final || more))
    still_unfine final all true fewer f = grind (arith, (fewer refl))
    still_unfine final all false fewer f = grind arith

-- ---- the changed seat may be probed alone

thawed_ready : (seats : List Seat) (k : ℕ) → k < length seats → IsTrue (is_ready (slice_get (set_frozen seats k false) k))
thawed_ready [] k l = absurd (omega arith)
thawed_ready (seat ∷ seats) zero l = refl
thawed_ready (seat ∷ seats) (suc k) l = thawed_ready seats k (omega arith)

last_ready : (seats : List Seat) (seat : Seat) → IsFalse seat.frozen → IsTrue (is_ready (slice_get (seats ++ seat ∷ []) (length seats)))
last_ready [] seat thawed = ap not thawed
last_ready (x ∷ seats) seat thawed = last_ready seats seat thawed

pub thaw_alone : (joint : NamedSys) (old : Board) (k : ℕ) → IsNamedSys joint → IsRelation joint old → ((p : ℕ) → has_entry old.list p ≡ true → p < pairs_of old) → k < length (system_of joint).seats →
    MayProbeAlone (numbered (turned (system_of joint) k false)) (Some k) [] (flat_map (grown_numbers 1) old.list)
thaw_alone joint old k known relation in_range l =
    let s = system_of joint in
    (subst (λ n. k < n) (sym (length-set_frozen s.seats k false)) l, thawed_ready s.seats k l, relation_kept joint old (turned s k false) k 1 known relation in_range (thaw_carries s k))

pub join_alone : (joint : NamedSys) (old : Board) (seat : Seat) → IsNamedSys joint → IsRelation joint old → ((p : ℕ) → has_entry old.list p ≡ true → p < pairs_of old) → IsFalse seat.frozen →
    MayProbeAlone (numbered (with_last (system_of joint) seat)) (Some (length (system_of joint).seats)) [] (flat_map (grown_numbers seat.beh.states) old.list)
join_alone joint old seat known relation in_range thawed =
    let s = system_of joint in
    let more : length (s.seats ++ seat ∷ []) ≡ length s.seats + 1 = length_push s.seats seat in
    (omega (arith, more), last_ready s.seats seat thawed, relation_kept joint old (with_last s seat) (length s.seats) seat.beh.states known relation in_range (join_carries s seat known.system))

-- ---- the lists that are readmitted

pub thaw_readmits : (n joint : NamedSys) (order : Board) (k lanes : ℕ) → IsNamedSys n → IsRelation n order → ((p : ℕ) → has_entry order.list p ≡ true → p < pairs_of order) → k < length n.seats → system_of joint ≡ turned (system_of n) k false → lanes ≡ lanes_in (system_of n) →
    IsReadmission (Thaw k) n joint (record { k = k; states = 1; lanes = lanes }) order
thaw_readmits n joint order k lanes known relation in_range there system wide =
    let s = system_of n in
    let t = turned s k false in
    let place : k < length s.seats = omega (arith, there, length-map n.seats (seat_of n.catalogue)) in
    let same : lanes_in t ≡ lanes = ap (λ (m : Sizes). lanes_of m.seats) (sizes-turned s k false) ∙ sym wide in
    let replays = relation_replays (Thaw k) n order known relation in_range place in
    let itself = grown_by_one order.list in
    record {
      replays = replays;
      system = system;
      those = itself;
      can = record {
        idle = relation.complete.idle;
        lanes = relation.shaped.lanes ∙ sym wide;
        slices = same_slices _ _ same (omega (arith, wide, lanes_few (sizes_of s).seats));
        are = subst (AreCandidates (numbered t) []) (sym itself) (turned_candidates s k false order.list (relation_candidates n order known relation in_range));
        may = thaw_alone n order k known relation in_range place;
        valid = subst (λ L. IsOrder (numbered t) (replay (numbered t) L)) (sym itself) replays.order;
      };
    }

pub join_readmits : (n joint : NamedSys) (order : Board) (seat : Seat) (newcomer : Newcomer) → IsNamedSys n → IsRelation n order → ((p : ℕ) → has_entry order.list p ≡ true → p < pairs_of order) → IsNamedSys joint → system_of joint ≡ after (Join seat) (system_of n) → IsFalse seat.frozen →
    AreSizes (sizes_of (system_of n)).seats → newcomer ≡ record { k = length (system_of n).seats; states = seat.beh.states; lanes = lanes_in (system_of n) } → IsReadmission (Join seat) n joint newcomer order
join_readmits n joint order seat newcomer known relation in_range new_known system thawed sizes is =
    let can = joined_can joint (system_of n) seat new_known system in
    let replays = relation_replays (Join seat) n order known relation in_range can in
    subst (λ m. IsReadmission (Join seat) n joint m order) (sym is) (record {
      replays = replays;
      system = system;
      those = refl;
      can = record {
        idle = relation.complete.idle;
        lanes = relation.shaped.lanes;
        slices = joined_lanes (system_of n) seat can sizes;
        are = joined_candidates (system_of n) seat order.list (relation_candidates n order known relation in_range) replays;
        may = join_alone n order seat known relation in_range thawed;
        valid = replays.order;
      };
    })
