-- Orders that are reopened or kept whole for a changed system, and their replay.
use Rattle.roman_repair.proofs.Common.{complete_order, length-below, turned, AreNumbers, sizes-turned, NumbersReplay, justified_is, number_allows-turned, order_new, new_once, order_justified, numbered_is_same, ◌≡◌, ℕ, ◌*◌, ◌<◌, ◌≤◌, Bool, true, List, [], ◌∷◌, ◌++◌, flat_map, length, IsTrue, refl, ap, ap₂, ◌∙◌, arith, sym, subst, slice_get, below, Sys, Seat, Arena, Entry, is_justified, IsOrder, replay, Change, after, KeepsAll, sizes_of, count, numbered, Reason, Final, Act, grown_numbers, rename_numbers, NamedSys, system_of, IsNamedSys, Board, pairs_of, has_entry, arena_of, IsRelation, HasCaps, listed_numbers, Tally, IsRepaired, IsSettledOn, IsBegun, is_possible, AreCandidates, CanReadmit, list_grown, replay_grown, Newcomer, cases_lt, lanes_in, IsShaped, is_ready, slice_get_past}
use Rattle.roman_repair.proofs.Keeping.{grown_once}
use Rattle.roman_repair.proofs.Repairing.{repaired_from, numbers_replayed, caps_kept}
use Rattle.roman_joint.specs.declared.seat.Seat as declared

-- Candidates.

-- a reason that holds names an allowed action
possible_by : (A : Arena ℕ) (gone : ℕ → Bool) (p : ℕ) (reason : Reason) → IsTrue (is_justified A gone p reason) → IsTrue (is_possible A p reason)
possible_by A gone p Final j = refl
possible_by A gone p (Act a) j = (justified_is A gone p a j).0

-- the entries of a removal list are candidates
pub listed_candidates : (s : Sys) (L : List (Entry ℕ)) → AreNumbers s L → IsOrder (numbered s) L → AreCandidates (numbered s) [] L
listed_candidates s L are order = grind (arith, length-below, new_once, numbered_is_same, order_justified, order_new, possible_by)

pub nodes-turned : (s : Sys) (k : ℕ) (frozen : Bool) → length (numbered (turned s k frozen)).nodes ≡ length (numbered s).nodes
nodes-turned s k frozen = ap (λ n. length (below (count n))) (sizes-turned s k frozen)

possible-turned : (s : Sys) (k : ℕ) (frozen : Bool) (p : ℕ) (reason : Reason) → is_possible (numbered (turned s k frozen)) p reason ≡ is_possible (numbered s) p reason
possible-turned s k frozen p Final = refl
possible-turned s k frozen p (Act a) = number_allows-turned s k frozen p a

-- after a service freezes or thaws, the candidates are the same
pub turned_candidates : (s : Sys) (k : ℕ) (frozen : Bool) (L : List (Entry ℕ)) → AreCandidates (numbered s) [] L → AreCandidates (numbered (turned s k frozen)) [] L
turned_candidates s k frozen L are = grind (arith, nodes-turned, possible-turned)

pub relation_candidates : (joint : NamedSys) (order : Board) → IsNamedSys joint → IsRelation joint order → ((p : ℕ) → has_entry order.list p ≡ true → p < pairs_of order) →
    AreCandidates (arena_of joint) [] order.list
relation_candidates joint order known relation in_range =
    let are : AreNumbers (system_of joint) order.list = listed_numbers (system_of joint) order relation.shaped.pairs in_range in
    listed_candidates (system_of joint) order.list are (complete_order (system_of joint) order.list known.system are relation.complete.list)

-- Reopened orders.

-- the number of a system's pairs
pub ruleset counted = (length-below)

-- a system to which a list was readmitted, after a thaw or a join: the list grows to the renamed list, which can be replayed there
pub record IsReadmission (change : Change) (n joint : NamedSys) (newcomer : Newcomer) (order : Board) : Type 0 where
  pub replays : NumbersReplay change (system_of n) order.list
  pub system : system_of joint ≡ after change (system_of n)
  pub those : list_grown newcomer order ≡ rename_numbers change (sizes_of (system_of n)) order.list
  pub can : CanReadmit (after change (system_of n)) newcomer order

pub can_readmit : (change : Change) (n joint : NamedSys) (newcomer : Newcomer) (order : Board) → IsReadmission change n joint newcomer order → CanReadmit (system_of joint) newcomer order
can_readmit change n joint newcomer order is = subst (λ (t : Sys). CanReadmit t newcomer order) (sym is.system) is.can

-- the replayed and completed list is that of the repaired relation
pub readmitted : (change : Change) (n mid joint : NamedSys) (newcomer : Newcomer) (order new : Board) (tally : Tally) → IsReadmission change n mid newcomer order → IsSettledOn mid (replay_grown (system_of mid) newcomer order) joint new tally → IsRepaired change n order joint new tally
readmitted change n mid joint newcomer order new tally is settled =
    repaired_from _ _ _ _ _ _ _ _ is.replays (ap₂ (λ (t : Sys) L. replay (numbered t) L) is.system is.those) is.system settled

-- an entry grown by one state stands for its own pair
pub grown_by_one : (L : List (Entry ℕ)) → flat_map (grown_numbers 1) L ≡ L
grown_by_one [] = refl
grown_by_one (x ∷ L) = ap₂ (λ (M N : List (Entry ℕ)). M ++ N) (grown_once 1 x refl) (grown_by_one L)

-- Changes that keep the whole renamed list: a freeze or a death.

pub ready_there : (seats : List Seat) (k : ℕ) → IsTrue (is_ready (slice_get seats k)) → k < length seats
ready_there seats k ready = grind (arith, cases_lt, slice_get_past)

-- the replay keeps the whole renamed list
pub whole_replay : (change : Change) (s : Sys) (old new : List (Entry ℕ)) → NumbersReplay change s old → KeepsAll change → new ≡ rename_numbers change (sizes_of s) old → new ≡ numbers_replayed change s old
whole_replay change s old new replays all list = list ∙ sym (replays.whole all)

-- the repair can begin with the renamed list
pub whole_begun : (change : Change) (old_joint new_joint : NamedSys) (seats : List declared.Seat) (old new : Board) → NumbersReplay change (system_of old_joint) old.list → KeepsAll change → HasCaps old_joint old →
    new_joint ≡ record old_joint { seats = seats } → system_of new_joint ≡ after change (system_of old_joint) → new.list ≡ rename_numbers change (sizes_of (system_of old_joint)) old.list →
    IsShaped (arena_of new_joint) (lanes_in (system_of new_joint)) new → new.cap_pairs ≡ old.cap_pairs → new.waiting ≡ [] → IsBegun new_joint new
whole_begun change old_joint new_joint seats old new replays all caps joint system list shaped room idle = grind (arith, caps_kept, whole_replay)

-- a freeze keeps the pairs and their rows
pub shaped_turned : (s : Sys) (k : ℕ) (frozen : Bool) (board : Board) → IsShaped (numbered s) (lanes_in s) board → IsShaped (numbered (turned s k frozen)) (lanes_in (turned s k frozen)) board
shaped_turned s k frozen board shaped = grind (arith, nodes-turned, sizes-turned)
