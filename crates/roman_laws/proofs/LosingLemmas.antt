-- The loss of services never helps, and the least failing sets determine the sets that fail.
use Rattle.roman_laws.proofs.Common.{◌≡◌, ℕ, suc, ◌<◌, Bool, true, not, ◌&&◌, ◌||◌, List, [], ◌∷◌, length, Some, IsTrue, IsFalse, slice_get, slice_index, slice_set, remove, refl, sym, ap, ◌∙◌, subst, arith, zero, ◌==◌, cond, ◌++◌, inl, inr, filter, same_Some, slice_get_within, none-some, IsIn, Seat, Sys, Pair, has, IsSys, IsPair, SStep, is_final, all_final, Couple, Meets, GreatCouple, Great, couple, set_frozen, without, may_go, freeze_at, leave_out, system_without, pair_without, by_test, number_listed, listed_number, left, great_meets, states_long, all_final-remove, get-remove, index-remove, index_set_place, place_before, set-remove, freeze_one, in_append_left, in_append_right, from_append, leave_out_same, other_zero, suc_same, zero_other, same_test, filter_in, in_filter, GreatWithout, AreAmong, MayGoAt, LosingNeverHelps, MayAllGo, IsLeastFailing, LeastFailingSuffice, or_parts, or_from, both_ways, eqb-true, or_right, or_cases, eq-eqb, not-true, not_from_false, length-set, AllZip-right, AllZip, is_related, Way, ◌⊎◌, IsReduced}
use Rattle.roman_laws.proofs.GreatestLemmas.{closed_great}
use Rattle.roman_laws.proofs.ReducedLemmas.{IsSys-reduced, IsPair-reduced, reduced_are}
use Rattle.roman_laws.proofs.OutcomeLemmas.{final_at}
use Rattle.roman_model.specs.declared.way.Way.TheVariants as way

-- Seats that differ only in that some more of them are frozen.

-- the second seat is the first one, or the first one frozen
abbrev pub IsFrozenMore : Seat → Seat → Type 0
IsFrozenMore x y = (x.beh ≡ y.beh) × (x.rests ≡ y.rests) × (IsFalse y.frozen → IsFalse x.frozen)

abbrev pub AreFrozenMore : List Seat → List Seat → Type 0
AreFrozenMore xs ys = AllZip IsFrozenMore xs ys

-- the system with these seats
abbrev pub with_seats : Sys → List Seat → Sys
with_seats s seats = record { env = s.env; target = s.target; seats = seats }

get_frozen_more : (xs ys : List Seat) → AreFrozenMore xs ys → (k : ℕ) (y : Seat) → slice_get ys k ≡ Some y → (x : Seat) × (slice_get xs k ≡ Some x) × IsFrozenMore x y
get_frozen_more xs ys more k y e = grind (arith, (AllZip-right IsFrozenMore xs ys more k))

final_frozen_more : (xs ys : List Seat) (bs : List ℕ) → AreFrozenMore xs ys → all_final xs bs ≡ all_final ys bs
final_frozen_more [] (y ∷ ys) bs more = absurd more
final_frozen_more (x ∷ xs) [] bs more = absurd more
final_frozen_more (x ∷ xs) (y ∷ ys) (b ∷ bs) more = grind (arith, (final_frozen_more xs ys bs more.1))
final_frozen_more _ _ _ _ = refl

-- a step of a ready seat among the frozen seats is a step among the others
step_thawed : (s : Sys) (xs ys : List Seat) → AreFrozenMore xs ys → (bs : List ℕ) (e a k : ℕ) (bs' : List ℕ) (e' : ℕ) →
    SStep (with_seats s ys) bs e a k bs' e' → SStep (with_seats s xs) bs e a k bs' e'
step_thawed s xs ys more bs e a k bs' e' r = grind (arith, get_frozen_more)

-- the converse, if that seat is ready
step_frozen : (s : Sys) (xs ys : List Seat) → AreFrozenMore xs ys → (bs : List ℕ) (e a k : ℕ) (bs' : List ℕ) (e' : ℕ) (y : Seat) → slice_get ys k ≡ Some y → IsFalse y.frozen →
    SStep (with_seats s xs) bs e a k bs' e' → SStep (with_seats s ys) bs e a k bs' e'
step_frozen s xs ys more bs e a k bs' e' y seated ready r = grind (arith, get_frozen_more, same_Some)

pub meets_thawed : (s : Sys) (xs ys : List Seat) → AreFrozenMore xs ys → (Related : Couple → Type 0) (c : Couple) → Meets (with_seats s ys) Related c → Meets (with_seats s xs) Related c
meets_thawed s xs ys more Related c meets = record {
  shared = meets.shared;
  final = λ t. subst (λ (b : Bool). IsTrue b) (sym (final_frozen_more xs ys c.bs more)) (meets.final t);
  served = λ a allows.
      let (k, serves) = meets.served a allows in (
        k,
        λ t' e' step.
            let (some, all) = serves t' e' step in grind (arith, step_thawed, step_frozen),
      );
}

-- an ND-simulation stays one when seats are thawed
pub great_thawed : (s : Sys) (xs ys : List Seat) → AreFrozenMore xs ys → (p : Pair) → Great (with_seats s ys) p → Great (with_seats s xs) p
great_thawed s xs ys more p (R, sim, i) = (R, λ c j. meets_thawed s xs ys more (λ d. IsIn d R) c (sim c j), i)

freeze_at_more : (at bt : ℕ → Bool) (xs : List Seat) → ((i : ℕ) → IsTrue (at i) → IsTrue (bt i)) → AreFrozenMore (freeze_at at xs) (freeze_at bt xs)
freeze_at_more at bt [] more = tt
freeze_at_more at bt (x ∷ xs) more = ((refl, refl, grind (arith, or_parts, or_from, by_test, both_ways)), freeze_at_more (λ i. at (suc i)) (λ i. bt (suc i)) xs (λ i t. more (suc i) t))

pub freeze_at_besides : (at : ℕ → Bool) (xs : List Seat) → AreFrozenMore xs (freeze_at at xs)
freeze_at_besides at [] = tt
freeze_at_besides at (x ∷ xs) = ((refl, refl, λ f. (or_parts x.frozen (at 0) f).0), freeze_at_besides (λ i. at (suc i)) xs)

pub frozen_more : (s : Sys) (p : Pair) (K J : List ℕ) → AreAmong K J → GreatWithout way.Freeze s p J → GreatWithout way.Freeze s p K
frozen_more s p K J more great = great_thawed s (freeze_at (has K) s.seats) (freeze_at (has J) s.seats) (freeze_at_more (has K) (has J) s.seats (λ i t. listed_number J i (more i (number_listed K i t)))) p great

-- The loss of a seat that may go.

-- the couple without the state of seat k
abbrev pub couple_without : ℕ → Couple → Couple
couple_without k c = record { t = c.t; e = c.e; bs = remove c.bs k; e2 = c.e2 }

-- the couple without seat k is related, and the seat is in state b
pub record StandsBy (s : Sys) (k b : ℕ) (c : Couple) : Type 0 where
  pub great : GreatCouple (left s k) (couple_without k c)
  pub state : slice_index c.bs k ≡ b
  pub within : k < length c.bs

-- a step of another seat is a step that leaves seat k in its state
step_with : (s : Sys) (k : ℕ) (bs : List ℕ) (e a j : ℕ) (bs' : List ℕ) (e' : ℕ) → SStep (left s k) (remove bs k) e a j bs' e' →
    (cs : List ℕ) × SStep s bs e a (place_before k j) cs e'
step_with s k bs e a j bs' e' r = (
  slice_set bs (place_before k j) r.to,
  grind (arith, get-remove, index-remove),
)

stands_by_meets : (s : Sys) (k : ℕ) (seat : Seat) (b : ℕ) → slice_get s.seats k ≡ Some seat → IsTrue (not seat.rests || is_final seat.beh b) →
    (c : Couple) → StandsBy s k b c → Meets s (StandsBy s k b) c
stands_by_meets s k seat b seated goes c stands =
    let meets : Meets (left s k) (GreatCouple (left s k)) (couple_without k c) = great_meets (left s k) (couple_without k c) stands.great in
    record {
      shared = meets.shared;
      final = grind (arith, all_final-remove);
      served = λ a allows.
          let (j, serves) = meets.served a allows in (
            place_before k j,
            λ t' e' step.
                let (some, all) = serves t' e' step in (
                  step_with s k c.bs c.e2 a j some.0 e' some.1,
                  λ bs' r. record {
                    great = all (remove bs' k) (grind (arith, get-remove, index-remove, set-remove));
                    state = ap (λ bs. slice_index bs k) r.is ∙ index_set_place c.bs k j r.to ∙ stands.state;
                    within = subst (λ bs. k < length bs) (sym r.is) (subst (λ n. k < n) (sym (length-set c.bs (place_before k j) r.to)) stands.within);
                  },
                ),
          );
    }

pub great_with_gone : (s : Sys) (k : ℕ) (seat : Seat) (p : Pair) → IsSys s → IsPair s p → slice_get s.seats k ≡ Some seat → IsTrue (may_go k seat p) → Great (left s k) (without k p) → Great s p
great_with_gone s k seat p ok pair seated goes great =
    let within : k < length s.seats = slice_get_within s.seats k seat seated in
    closed_great s (StandsBy s k (slice_index p.bs k)) ok (stands_by_meets s k seat (slice_index p.bs k) seated goes) p pair
    (record { great = great; state = refl; within = subst (λ n. k < n) (sym (states_long s p pair)) within })

-- Seats that leave one after the other.

-- the place of j after the places that pass are left out
abbrev pub place_left : (ℕ → Bool) → ℕ → ℕ
place_left at zero = zero
place_left at (suc j) = cond (at 0) (place_left (λ i. at (suc i)) j) (suc (place_left (λ i. at (suc i)) j))

remove_none : {X : Type 0} (n : ℕ) → let none : List X = [] in remove none n ≡ none
remove_none zero = refl
remove_none (suc n) = refl

-- leaving out one more place is removing it from the rest
leave_one_more : {X : Type 0} (at bt : ℕ → Bool) (j : ℕ) (xs : List X) → IsFalse (at j) → ((i : ℕ) → bt i ≡ ((j == i) || at i)) → leave_out bt xs ≡ remove (leave_out at xs) (place_left at j)
leave_one_more at bt j [] f more = sym (remove_none (place_left at j))
leave_one_more at bt zero (x ∷ xs) f more = grind (arith, leave_out_same, zero_other)
leave_one_more at bt (suc j) (x ∷ xs) f more = grind (arith, other_zero, suc_same, (leave_one_more (λ i. at (suc i)) (λ i. bt (suc i)) j xs f))

-- a seat that stays is at that place, and so is its state
get_left : {X : Type 0} (at : ℕ → Bool) (j : ℕ) (xs : List X) (x : X) → IsFalse (at j) → slice_get xs j ≡ Some x → slice_get (leave_out at xs) (place_left at j) ≡ Some x
get_left at j [] x f e = absurd (none-some x e)
get_left at zero (y ∷ xs) x f e = grind arith
get_left at (suc j) (y ∷ xs) x f e = grind (arith, (get_left (λ i. at (suc i)) j xs x f e))

index_left : (at : ℕ → Bool) (j : ℕ) (bs : List ℕ) → IsFalse (at j) → slice_index (leave_out at bs) (place_left at j) ≡ slice_index bs j
index_left at j [] f = refl
index_left at zero (b ∷ bs) f = grind arith
index_left at (suc j) (b ∷ bs) f = grind (arith, (index_left (λ i. at (suc i)) j bs f))

-- the order of the places doesn't matter
same_without : (s : Sys) (p : Pair) (K J : List ℕ) → ((i : ℕ) → has K i ≡ has J i) → GreatWithout way.Die s p K → GreatWithout way.Die s p J
same_without s p K J same great =
    subst (λ bs. Great (system_without way.Die J s) (record { t = p.t; e = p.e; bs = bs })) (leave_out_same (has K) (has J) p.bs same)
    (subst (λ seats. Great (record { env = s.env; target = s.target; seats = seats }) (pair_without way.Die K p)) (leave_out_same (has K) (has J) s.seats same) great)

-- a pair stays related when one seat that may go returns
one_back : (s : Sys) (p : Pair) (K : List ℕ) (j : ℕ) → IsSys s → IsPair s p → IsFalse (has K j) → MayGoAt s p j → GreatWithout way.Die s p (j ∷ K) → GreatWithout way.Die s p K
one_back s p K j ok pair f (seat, seated, goes) great =
    great_with_gone (system_without way.Die K s) (place_left (has K) j) seat (pair_without way.Die K p) (IsSys-reduced way.Die K s ok) (IsPair-reduced way.Die K s p pair)
    (get_left (has K) j s.seats seat f seated) (subst (λ b. IsTrue (not seat.rests || is_final seat.beh b)) (sym (index_left (has K) j p.bs f)) goes)
    (subst (λ bs. Great (left (system_without way.Die K s) (place_left (has K) j)) (record { t = p.t; e = p.e; bs = bs })) (leave_one_more (has K) (has (j ∷ K)) j p.bs f (λ i. refl))
    (subst (λ seats. Great (record { env = s.env; target = s.target; seats = seats }) (pair_without way.Die (j ∷ K) p)) (leave_one_more (has K) (has (j ∷ K)) j s.seats f (λ i. refl)) great))

pub more_back : (s : Sys) (p : Pair) (js K : List ℕ) → IsSys s → IsPair s p → ((k : ℕ) → IsIn k js → (IsIn k K → ⊥) → MayGoAt s p k) → GreatWithout way.Die s p (js ++ K) → GreatWithout way.Die s p K
more_back s p [] K ok pair may great = great
more_back s p (j ∷ js) K ok pair may great =
    more_back s p js K ok pair (λ k i. may k (inr i))
    (by_test (has (js ++ K) j)
    (λ t. same_without s p (j ∷ (js ++ K)) (js ++ K) (grind (arith, same_test, or_cases, eqb-true, or_right)) great)
    (grind (arith, one_back, both_ways, listed_number, in_append_right)))

pub more_gone : (s : Sys) (p : Pair) (K J : List ℕ) → IsSys s → IsPair s p → AreAmong K J → ((k : ℕ) → IsIn k J → (IsIn k K → ⊥) → MayGoAt s p k) →
    GreatWithout way.Die s p J → GreatWithout way.Die s p K
more_gone s p K J ok pair more may great = more_back s p J K ok pair may (same_without s p J (J ++ K) both great)
  where
    both : (i : ℕ) → has J i ≡ has (J ++ K) i
    both i = same_test (has J i) (has (J ++ K) i)
        (λ t. listed_number (J ++ K) i (in_append_left i J K (number_listed J i t)))
        (λ t. listed_number J i (elim (from_append i J K (number_listed (J ++ K) i t)) [ inl left ↦ left | inr right ↦ more i right ]))

-- The loss of services never helps.

pub losing_never : LosingNeverHelps
losing_never s p = record {
  one_frozen = λ k great. great_thawed s s.seats (set_frozen s.seats k true) (subst (AreFrozenMore s.seats) (freeze_one k s.seats) (freeze_at_besides (has (k ∷ [])) s.seats)) p great;
  more_frozen = λ K J more great. frozen_more s p K J more great;
  any_frozen = λ K great. great_thawed s s.seats (freeze_at (has K) s.seats) (freeze_at_besides (has K) s.seats) p great;
  one_gone = λ ok pair k seat seated goes great. great_with_gone s k seat p ok pair seated goes great;
  more_gone = λ ok pair K J more may great. more_gone s p K J ok pair more may great;
  final_may_go = λ great final k seat seated. final_at s.seats p.bs ((great_meets s (couple p) great).final final) k seat seated;
}

-- Least failing sets.

may_part : (how : Way) (s : Sys) (p : Pair) (K J : List ℕ) → AreAmong K J → MayAllGo how s p J → MayAllGo how s p K
may_part way.Freeze s p K J part may = tt
may_part way.Die s p K J part may = λ k i. may k (part k i)

-- a pair that is related when more seats fail is related when fewer fail
pub great_more : (how : Way) (s : Sys) (p : Pair) (K J : List ℕ) → IsSys s → IsPair s p → MayAllGo how s p J → AreAmong K J → GreatWithout how s p J → GreatWithout how s p K
great_more way.Freeze s p K J ok pair may more great = frozen_more s p K J more great
great_more way.Die s p K J ok pair may more great = more_gone s p K J ok pair more (λ k i other. may k i) great

-- each failing part of J contains the seats of J that aren't in `rest`; each seat of `rest` stays or is left out in turn
least_of : (how : Way) (s : Sys) (p : Pair) (J rest : List ℕ) → IsSys s → IsPair s p → MayAllGo how s p J → (GreatWithout how s p J → ⊥) →
    ((N : List ℕ) → AreAmong N J → (GreatWithout how s p N → ⊥) → (j : ℕ) → IsIn j J → IsIn j rest ⊎ IsIn j N) → (M : List ℕ) × AreAmong M J × IsLeastFailing how s p M
least_of how s p J [] ok pair may fails needed =
    (J, λ k i. i, record { fails = fails; least = λ N part bad j i. elim (needed N part bad j i) [ inl none ↦ absurd none | inr there ↦ there ] })
least_of how s p J (k ∷ rest) ok pair may fails needed =
    by_test (is_related (system_without how K s) (pair_without how K p))
    (λ works. least_of how s p J rest ok pair may fails (λ N part bad j i. elim (needed N part bad j i) [
      | inl (inl e) ↦ inr (subst (λ n. IsIn n N) (sym e) (with_k (reduced.composes.0 works) N part bad))
      | inl (inr later) ↦ inl later
      | inr there ↦ inr there
    ]))
    (λ lost.
    let (M, part, least) = least_of how s p K rest ok pair (may_part how s p K J within may)
    (λ great. both_ways (is_related (system_without how K s) (pair_without how K p)) lost (reduced.composes.1 great))
    (λ N part bad j i. elim (needed N (λ n l. within n (part n l)) bad j (within j i)) [
      | inl (inl e) ↦ absurd (both_ways (j == k) (not-true (j == k) (filter_in (λ j. not (j == k)) j J i).1) (eq-eqb j k e))
      | inl (inr later) ↦ inl later
      | inr there ↦ inr there
    ]) in
    (M, λ j i. within j (part j i), least))
  where
    K : List ℕ
    K = filter (λ j. not (j == k)) J

    within : AreAmong K J
    within j i = (filter_in (λ j. not (j == k)) j J i).0

    reduced : IsReduced how K s p
    reduced = reduced_are how K s p ok pair

    -- a failing part contains k, if J without k doesn't fail
    with_k : GreatWithout how s p K → (N : List ℕ) → AreAmong N J → (GreatWithout how s p N → ⊥) → IsIn k N
    with_k works N part bad = by_test (has N k) (number_listed N k)
        (λ f. absurd (bad (great_more how s p N K ok pair (may_part how s p K J within may) (λ j i. grind (arith, both_ways, listed_number, in_filter, eqb-true, by_test, not_from_false)) works)))

pub least_suffice : LeastFailingSuffice
least_suffice how s p K ok pair may = (
  λ fails. least_of how s p K K ok pair may fails (λ N part bad j i. inl i),
  λ (M, part, least) great. least.fails (great_more how s p M K ok pair may part great),
)
