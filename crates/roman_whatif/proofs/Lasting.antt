-- What remains after a change, and after two.
use Rattle.roman_whatif.proofs.Common.{◌≡◌, ℕ, ◌<◌, Bool, true, false, not, List, [], ◌∷◌, length, Some, IsTrue, slice_get, refl, sym, ap, ap₂, ◌∙◌, subst, arith, ◌/◌, ◌↔◌, length-map, Seat, Sizes, sizes_of, count, pair_at, sizes_without, number, is_related, related_count, choice_count, Outlook, outlook, system_without, pair_without, Way, same_test, leave_one, freeze_one, number_without-is, pair_at-without, numbers_are_pairs, related_great, great_related, sizes-turned, sizes-left, length-remove, length-set_frozen, without_changes, NamedSys, system_of, IsNamedSys, IsLeft, left_of, is_ready, Great, after, without, HasSameParts, Board, IsRelation, seat_read}
use Rattle.roman_model.specs.Change.{Freeze, Die}
use Rattle.roman_model.specs.declared.way.Way.TheVariants as way
use Rattle.roman_joint.specs.declared.seat.Seat as joint
use Rattle.roman_whatif.proofs.LaterFirst.{system_later, pair_later}

-- Outlooks.

pub outlook_is : (n : NamedSys) (p : ℕ) (composes : Bool) (related choices : ℕ) → IsNamedSys n → p < count (sizes_of (system_of n)) →
    IsTrue composes ↔ Great (system_of n) (pair_at (sizes_of (system_of n)) p) → related ≡ related_count (system_of n) → choices ≡ choice_count (system_of n) →
    ◌≡◌ {A = Outlook} (record { composes = composes; related = related; choices = choices }) (outlook (system_of n) (pair_at (sizes_of (system_of n)) p))
outlook_is n p composes related choices known l great counted chosen =
    let s = system_of n in
    let q = pair_at (sizes_of s) p in
    let test : composes ≡ is_related s q =
    same_test composes (is_related s q) (λ t. great_related s q known.system (great.0 t)) (λ t. great.1 (related_great s q known.system ((numbers_are_pairs s).pair p l) t)) in
    λ i. record { composes = test i; related = counted i; choices = chosen i }

-- Parts that stay.

pub parts_themselves : (n : NamedSys) → HasSameParts n n
parts_themselves n = record { environment = refl; catalogue = refl; target = refl; limit = refl }

pub parts_with_seats : (m n : NamedSys) (seats : List joint.Seat) → m ≡ record n { seats = seats } → HasSameParts m n
parts_with_seats m n seats e = grind arith

pub parts_on : (m n o : NamedSys) → HasSameParts m n → HasSameParts n o → HasSameParts m o
parts_on m n o one two = grind arith

-- One seat.

pub is_ready_there : (n : NamedSys) (k : ℕ) (seat : joint.Seat) → slice_get n.seats k ≡ Some seat → seat.frozen ≡ false → IsTrue (is_ready (slice_get (system_of n).seats k))
is_ready_there n k seat there ready = ap is_ready (seat_read n k seat there) ∙ ap not ready

-- a frozen seat stays frozen
pub left_frozen : (n : NamedSys) (order : Board) (p k : ℕ) (seat : Seat) → IsRelation n order → p < count (sizes_of (system_of n)) →
    slice_get (system_of n).seats k ≡ Some seat → IsTrue seat.frozen → IsLeft way.Freeze (k ∷ []) n p n order p
left_frozen n order p k seat relation l there frozen = record {
  relation = relation;
  parts = parts_themselves n;
  system = sym ((without_changes (system_of n) (pair_at (sizes_of (system_of n)) p)).already k seat there frozen) ∙ (without_changes (system_of n) (pair_at (sizes_of (system_of n)) p)).one_frozen k;
  within = l;
  pair = refl;
}

pub left_freezing : (old new : NamedSys) (order : Board) (p k : ℕ) → IsRelation new order → HasSameParts new old → system_of new ≡ after (Freeze k) (system_of old) →
    p < count (sizes_of (system_of old)) → IsLeft way.Freeze (k ∷ []) old p new order p
left_freezing old new order p k relation parts system l =
    let s = system_of old in
    let sizes : sizes_of (system_of new) ≡ sizes_of s = ap sizes_of system ∙ sizes-turned s k true in
    record {
      relation = relation;
      parts = parts;
      system = system ∙ (without_changes s (pair_at (sizes_of s) p)).one_frozen k;
      within = subst (λ m. p < count m) (sym sizes) l;
      pair = ap (λ m. pair_at m p) sizes;
    }

pub left_dying : (old new : NamedSys) (order : Board) (p k q : ℕ) (seat : Seat) (n : Sizes) → IsRelation new order → HasSameParts new old → system_of new ≡ after (Die k seat) (system_of old) →
    n ≡ sizes_of (system_of old) → p < count n → k < length n.seats → q ≡ number (sizes_without k n) (without k (pair_at n p)) → q < count (sizes_without k n) →
    IsLeft way.Die (k ∷ []) old p new order q
left_dying old new order p k q seat n relation parts system same l within is below =
    let s = system_of old in
    let sizes : sizes_of (system_of new) ≡ sizes_without k n = ap sizes_of system ∙ sizes-left s k ∙ ap (sizes_without k) (sym same) in
    let changes = (without_changes s (pair_at (sizes_of s) p)).one_gone k seat in
    record {
      relation = relation;
      parts = parts;
      system = system ∙ changes.0;
      within = subst (λ m. q < count m) (sym sizes) below;
      pair = ap (λ m. pair_at m q) sizes ∙ ap (pair_at (sizes_without k n)) (is ∙ number_without-is n p k l within) ∙ pair_at-without n p k l within ∙ ap (λ m. without k (pair_at m p)) same ∙ changes.1;
    }

-- Two seats, the later one first.

pub left_again : (way : Way) (k j : ℕ) (old mid new : NamedSys) (board order : Board) (p q r : ℕ) → k < j → IsLeft way (j ∷ []) old p mid board q → IsLeft way (k ∷ []) mid q new order r →
    IsLeft way (k ∷ j ∷ []) old p new order r
left_again way k j old mid new board order p q r l one two = record {
  relation = two.relation;
  parts = parts_on new mid old two.parts one.parts;
  system = two.system ∙ ap (system_without way (k ∷ [])) one.system ∙ system_later way k j (system_of old) l;
  within = two.within;
  pair = two.pair ∙ ap (pair_without way (k ∷ [])) one.pair ∙ pair_later way k j (pair_at (sizes_of (system_of old)) p) l;
}

-- the earlier seat is still present
pub still_there : (way : Way) (k j : ℕ) (old mid : NamedSys) (order : Board) (p q : ℕ) → k < j → j < length old.seats → IsLeft way (j ∷ []) old p mid order q → k < length mid.seats
still_there way.Freeze k j old mid order p q l within left = grind (arith, freeze_one, length-map, length-set_frozen)
still_there way.Die k j old mid order p q l within left = grind (arith, leave_one, length-map, length-remove)

-- The outlooks of remaining systems, and further failures there.

-- the outlook in the system in which the seats failed is that of the remaining pair
pub told_left : (way : Way) (K L : List ℕ) (base old new : NamedSys) (order : Board) (p q : ℕ) (o : Outlook) → old ≡ base → K ≡ L → IsLeft way K old p new order q →
    o ≡ outlook (system_of new) (pair_at (sizes_of (system_of new)) q) → o ≡ left_of base p way L
told_left way K L base old new order p q o same these left is = rw (← same, ← these) (is ∙ ap₂ outlook left.system left.pair)

pub great_told : (way : Way) (K L : List ℕ) (base old new : NamedSys) (order : Board) (p q : ℕ) (composes : Bool) → old ≡ base → K ≡ L → IsLeft way K old p new order q →
    IsTrue composes ↔ Great (system_of new) (pair_at (sizes_of (system_of new)) q) →
    IsTrue composes ↔ Great (system_without way L (system_of base)) (pair_without way L (pair_at (sizes_of (system_of base)) p))
great_told way K L base old new order p q composes same these left great = rw (← same, ← these, ← left.system, ← left.pair) great
