-- The end of a repair, in numbers of pairs.
use Rattle.roman_repair.proofs.Common.{complete_order, NumbersReplay, AreNumbers, numbers_replay, ◌≡◌, ℕ, ◌+◌, ◌<◌, true, List, [], ap, ◌∙◌, arith, length-map, take-map, Sys, Entry, replay, Change, after, CanChange, sizes_of, numbered, rename_numbers, NamedSys, system_of, IsNamedSys, Board, pairs_of, has_entry, HasCaps, IsRelation, listed_numbers, Tally, IsRepaired, IsSettledOn}
use Rattle.roman_joint.specs.declared.seat.Seat.{Seat}

-- the replay of the renamed old list, in numbers
abbrev pub numbers_replayed : Change → Sys → List (Entry ℕ) → List (Entry ℕ)
numbers_replayed change s old = replay (numbered (after change s)) (rename_numbers change (sizes_of s) old)

-- the replay of a relation's renamed list
pub relation_replays : (change : Change) (joint : NamedSys) (order : Board) → IsNamedSys joint → IsRelation joint order → ((p : ℕ) → has_entry order.list p ≡ true → p < pairs_of order) →
    CanChange change (system_of joint) → NumbersReplay change (system_of joint) order.list
relation_replays change joint order known relation in_range can =
    let s = system_of joint in
    let are : AreNumbers s order.list = listed_numbers s order relation.shaped.pairs in_range in
    numbers_replay change s order.list known.system can are (complete_order s order.list known.system are relation.complete.list)

-- a relation that was completed from that replay is the repaired one
pub repaired_from : (change : Change) (old_joint : NamedSys) (old : Board) (start : List (Entry ℕ)) (mid joint : NamedSys) (new : Board) (tally : Tally) → NumbersReplay change (system_of old_joint) old.list →
    start ≡ numbers_replayed change (system_of old_joint) old.list → system_of mid ≡ after change (system_of old_joint) → IsSettledOn mid start joint new tally → IsRepaired change old_joint old joint new tally
repaired_from change old_joint old start mid joint new tally replays is system settled = record {
  system = ap system_of settled.joint ∙ system;
  relation = settled.relation;
  list = grind (arith, length-map, take-map);
}

-- if only the seats of the joint change, an order keeps its room
pub caps_kept : (old_joint new_joint : NamedSys) (seats : List Seat) (old new : Board) → new_joint ≡ record old_joint { seats = seats } → new.cap_pairs ≡ old.cap_pairs → HasCaps old_joint old →
    HasCaps new_joint new
caps_kept old_joint new_joint seats old new joint pairs caps = grind arith
