-- The controllers that realise the target are those that take offers.
use Rattle.roman_laws.proofs.Common.{◌≡◌, ℕ, suc, ◌+◌, List, [], ◌∷◌, map, length, IsTrue, slice_index, inl, refl, sym, ap, ◌∙◌, subst, arith, ◌≢◌, if◌then◌else◌, cond-true, cond-false, slice_get_within, IsIn, Sys, Pair, has, has_move, IsSys, IsPair, is_allowed, beh_next, Couple, couple, Serves, Meets, GreatCouple, Great, by_test, outcome_in, from_outcome, outcome_pair, allowed_in, from_allowed, number_listed, listed_number, offers_are, offer_is, related_offers, great_meets, in_not_empty, not_empty_ne, in_beh_next, from_beh_next, offers, Choice, Follows, end_of, Controller, now_at, IsHistory, Realises, TakesOffers, TakesServers, Seen, seen_of, by_seen, since, ControllersTakeOffers}
use Rattle.roman_laws.proofs.GreatestLemmas.{closed_great}

-- A history continues by the choices of its controller.

-- each history ends at a pair of the system
pub history_pair : (s : Sys) (P : Controller) (p : Pair) → IsSys s → IsPair s p → (h : List Choice) → IsHistory s P p h → IsPair s (now_at p h)
history_pair s P p ok pair [] i = pair
history_pair s P p ok pair (m ∷ h) i = grind (arith, (outcome_pair s (now_at p h) m.action m.seat m.to ok (history_pair s P p ok pair h i.0) (outcome_in s (now_at p h) m.action m.seat m.to.t m.to.e m.to.bs ok i.2.0 i.2.1)), (outcome_in s (now_at p h) m.action m.seat m.to.t m.to.e m.to.bs ok i.2.0 i.2.1), (history_pair s P p ok pair h i.0))

-- some history of the controller ends at the pair of the couple
abbrev pub Reached : Sys → Controller → Pair → Couple → Type 0
Reached s P p c = (h : List Choice) × IsHistory s P p h × (couple (now_at p h) ≡ c)

reached_meets : (s : Sys) (P : Controller) (p : Pair) → Realises s P p → (c : Couple) → Reached s P p c → Meets s (Reached s P p) c
reached_meets s P p realises c (h, i, e) = subst (Meets s (Reached s P p)) e (record {
  shared = refl;
  final = (realises h i).final;
  served = λ a allows. (
    P h a,
    λ t' e' step. (
      (realises h i).served a t' e' step,
      λ bs' r. (record { action = a; seat = P h a; to = record { t = t'; e = e'; bs = bs' } } ∷ h, (i, refl, (step, r)), refl),
    ),
  );
})

-- A controller that realises the target reaches only related pairs: the reached pairs meet the clauses.
pub history_great : (s : Sys) (P : Controller) (p : Pair) → IsSys s → IsPair s p → Realises s P p → (h : List Choice) → IsHistory s P p h → Great s (now_at p h)
history_great s P p ok pair realises h i = grind (arith, (closed_great s (Reached s P p) ok (reached_meets s P p realises) (now_at p h) (history_pair s P p ok pair h i) (h, i, refl)), (Reached s P p), (reached_meets s P p realises), (history_pair s P p ok pair h i))

-- A controller that realises the target chooses only seats that serve.
pub takes_servers : (s : Sys) (P : Controller) (p : Pair) → IsSys s → IsPair s p → Realises s P p → TakesServers s P p
takes_servers s P p ok pair realises h i a allows t' e' step = (
  (realises h i).served a t' e' step,
  λ bs' r. history_great s P p ok pair realises (record { action = a; seat = P h a; to = record { t = t'; e = e'; bs = bs' } } ∷ h) (i, refl, (step, r)),
)

-- Taking seats that serve is taking offers.
pub servers_offered : (s : Sys) (P : Controller) (p : Pair) → IsSys s → IsPair s p → TakesServers s P p → TakesOffers s P p
servers_offered s P p ok pair takes h i a allowed =
    let serves : Serves s (GreatCouple s) (couple (now_at p h)) a (P h a) = takes h i a (from_allowed s (now_at p h) a allowed) in
    let (t', e', step) = from_allowed s (now_at p h) a allowed in
    let (bs', r) = (serves t' e' step).0 in
    ((offers_are s ok).offered (now_at p h) (history_pair s P p ok pair h i) a allowed (P h a)).1 (slice_get_within s.seats (P h a) r.seat r.seated, serves)

pub offered_serve : (s : Sys) (P : Controller) (p : Pair) → IsSys s → IsPair s p → TakesOffers s P p → TakesServers s P p
offered_serve s P p ok pair takes h i a allows =
    let allowed : IsTrue (is_allowed s (now_at p h) a) = allowed_in s (now_at p h) a ok allows in
    (((offers_are s ok).offered (now_at p h) (history_pair s P p ok pair h i) a allowed (P h a)).0 (takes h i a allowed)).1

-- A controller that takes offers from a related pair stays at related pairs.
stays_great : (s : Sys) (P : Controller) (p : Pair) → IsSys s → IsPair s p → Great s p →
    ((h : List Choice) → IsHistory s P p h → Great s (now_at p h) → (a : ℕ) → IsTrue (is_allowed s (now_at p h) a) → IsIn (P h a) (offers s (now_at p h) a)) →
    (h : List Choice) → IsHistory s P p h → Great s (now_at p h)
stays_great s P p ok pair great takes [] i = great
stays_great s P p ok pair great takes (m ∷ h) i = grind (arith, (allowed_in s (now_at p h) m.action ok (m.to.t, m.to.e, i.2.0)), offer_is, (history_pair s P p ok pair h i.0), (outcome_in s (now_at p h) m.action m.seat m.to.t m.to.e m.to.bs ok i.2.0 i.2.1), (stays_great s P p ok pair great takes h i.0))

-- A controller that takes offers from a related pair realises the target.
pub takers_realise : (s : Sys) (P : Controller) (p : Pair) → IsSys s → IsPair s p → Great s p → TakesOffers s P p → Realises s P p
takers_realise s P p ok pair great takes h i =
    let now : Great s (now_at p h) = stays_great s P p ok pair great (λ h i before. takes h i) h i in
    grind (arith, (great_meets s (couple (now_at p h)) now), offered_serve)

-- the first offer, 0 for none
abbrev first : List ℕ → ℕ
first [] = 0
first (k ∷ ks) = k

first_in : (ks : List ℕ) → ks ≢ [] → IsIn (first ks) ks
first_in [] some = absurd (some refl)
first_in (k ∷ ks) some = inl refl

-- the controller that fulfils a wish if it is offered, and otherwise takes the first offer
abbrev pub wishing : Sys → Pair → Controller → Controller
wishing s p W h a = if has (offers s (now_at p h) a) (W h a) then W h a else first (offers s (now_at p h) a)

wishing_takes : (s : Sys) (p : Pair) (W : Controller) → IsSys s → IsPair s p → Great s p → TakesOffers s (wishing s p W) p
wishing_takes s p W ok pair great h i a allowed = chooses h i (stays_great s (wishing s p W) p ok pair great chooses h i) a allowed
  where
    chooses : (h : List Choice) → IsHistory s (wishing s p W) p h → Great s (now_at p h) → (a : ℕ) → IsTrue (is_allowed s (now_at p h) a) → IsIn (wishing s p W h a) (offers s (now_at p h) a)
    chooses h i now a allowed = grind (arith, by_test, cond-true, first, number_listed, cond-false, first_in, related_offers)

wishing_fulfils : (s : Sys) (p : Pair) (W : Controller) (h : List Choice) (a : ℕ) → IsIn (W h a) (offers s (now_at p h) a) → wishing s p W h a ≡ W h a
wishing_fulfils s p W h a i = grind (arith, cond-true, first, listed_number)

wishing_realises : (s : Sys) (p : Pair) (W : Controller) → IsSys s → IsPair s p → Great s p → Realises s (wishing s p W) p
wishing_realises s p W ok pair great = takers_realise s (wishing s p W) p ok pair great (wishing_takes s p W ok pair great)

-- the wish for the choices of these moves, one after the other
abbrev pub as_in : List Choice → Controller
as_in ms h a = slice_index (map (λ m. m.seat) ms) (length h)

-- moves that follow the offers are a history of the controller with that wish
follows_history : (s : Sys) (p : Pair) (all : List Choice) (h ms : List Choice) → IsSys s → ((i : ℕ) → slice_index (map (λ m. m.seat) all) (length h + i) ≡ slice_index (map (λ m. m.seat) ms) i) →
    IsHistory s (wishing s p (as_in all)) p h → Follows s (now_at p h) ms →
    IsHistory s (wishing s p (as_in all)) p (since h ms) × (now_at p (since h ms) ≡ end_of (now_at p h) ms)
follows_history s p all h [] ok rest i follows = (i, refl)
follows_history s p all h (m ∷ ms) ok rest i follows =
    let (allowed, offered, reached, later) = follows in
    let none : length h + 0 ≡ length h = omega arith in
    let wish : as_in all h m.action ≡ m.seat = ap (slice_index (map (λ m. m.seat) all)) (sym none) ∙ rest 0 in
    let chosen : wishing s p (as_in all) h m.action ≡ m.seat =
    wishing_fulfils s p (as_in all) h m.action (subst (λ k. IsIn k (offers s (now_at p h) m.action)) (sym wish) offered) ∙ wish in
    follows_history s p all (m ∷ h) ms ok (λ j. moved j) (i, sym chosen, from_outcome s (now_at p h) m.action m.seat m.to reached) later
  where
    moved : (j : ℕ) → slice_index (map (λ m. m.seat) all) (suc (length h) + j) ≡ slice_index (map (λ m. m.seat) ms) j
    moved j = let same : suc (length h) + j ≡ length h + suc j = omega arith in ap (slice_index (map (λ m. m.seat) all)) same ∙ rest (suc j)

-- The target's state follows from the visible part of the history.

-- the pair after q that is determined by the visible part of a choice
abbrev next_seen : Sys → Pair → Seen → Choice
next_seen s q x = record { action = x.action; seat = x.seat; to = record { t = first (beh_next s.target q.t q.e x.action); e = x.e; bs = x.bs } }

abbrev shown : Sys → Pair → List Seen → List Choice
shown s p [] = []
shown s p (x ∷ xs) = next_seen s (now_at p (shown s p xs)) x ∷ shown s p xs

next_is : (s : Sys) (q : Pair) (m : Choice) → IsSys s → IsTrue (has_move s.target q.t q.e m.action m.to.t) → next_seen s q (seen_of m) ≡ m
next_is s q m ok goes =
    let there : IsIn m.to.t (beh_next s.target q.t q.e m.action) = in_beh_next s.env s.target q.t q.e m.action m.to.t ok.target goes in
    let one : IsIn (first (beh_next s.target q.t q.e m.action)) (beh_next s.target q.t q.e m.action) = grind (arith, first_in, not_empty_ne, in_not_empty) in
    grind (arith, first, from_beh_next)

shown_back : (s : Sys) (P : Controller) (p : Pair) → IsSys s → (h : List Choice) → IsHistory s P p h → shown s p (map seen_of h) ≡ h
shown_back s P p ok [] i = refl
shown_back s P p ok (m ∷ h) i = grind (arith, next_seen, next_is, (shown_back s P p ok h i.0))

-- the choices of the controller, computed from the visible part of the history
abbrev pub blinded : Sys → Pair → Controller → List Seen → ℕ → ℕ
blinded s p P xs a = P (shown s p xs) a

from_blinded : (s : Sys) (P : Controller) (p : Pair) → IsSys s → (h : List Choice) → IsHistory s (by_seen (blinded s p P)) p h → IsHistory s P p h
from_blinded s P p ok [] i = tt
from_blinded s P p ok (m ∷ h) i = grind (arith, shown_back, (from_blinded s P p ok h i.0))

blinded_realises : (s : Sys) (P : Controller) (p : Pair) → IsSys s → Realises s P p → Realises s (by_seen (blinded s p P)) p
blinded_realises s P p ok realises h i = grind (arith, shown_back, blinded, from_blinded)

pub generator_all : ControllersTakeOffers
generator_all s p ok pair = record {
  some = (
    λ great. (wishing s p (λ h a. 0), wishing_realises s p (λ h a. 0) ok pair great),
    λ (P, realises). history_great s P p ok pair realises [] tt,
  );
  takers = λ P. (
    λ realises. (history_great s P p ok pair realises [] tt, servers_offered s P p ok pair (takes_servers s P p ok pair realises)),
    λ (great, takes). takers_realise s P p ok pair great takes,
  );
  servers = λ P. (
    λ realises. (history_great s P p ok pair realises [] tt, takes_servers s P p ok pair realises),
    λ (great, takes). takers_realise s P p ok pair great (servers_offered s P p ok pair takes),
  );
  stays = λ P realises. history_great s P p ok pair realises;
  wished = λ great W. (wishing s p W, wishing_realises s p W ok pair great, wishing_fulfils s p W);
  followed = λ great ms follows.
      let (history, end) = follows_history s p ms [] ms ok (λ i. let none : 0 + i ≡ i = omega arith in ap (slice_index (map (λ m. m.seat) ms)) none) tt follows in
      (wishing s p (as_in ms), wishing_realises s p (as_in ms) ok pair great, history, end);
  blind = λ P realises. (blinded s p P, blinded_realises s P p ok realises, λ h i a. ap (λ g. P g a) (shown_back s P p ok h i));
}
