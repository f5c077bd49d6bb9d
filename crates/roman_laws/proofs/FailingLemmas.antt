-- At a pair that isn't related every controller may fail within the depth, and some controller doesn't fail sooner.
use Rattle.roman_laws.proofs.Common.{Bool, ◌↔◌, Option, Some, None, ◌≡◌, ℕ, zero, suc, ◌+◌, ◌-◌, ◌<◌, ◌≤◌, not, List, [], ◌∷◌, length, IsTrue, IsFalse, inl, inr, refl, sym, subst, arith, find, both_ways, or_cases, or_parts, not-true, not_from_false, slice_get_within, list_any, IsIn, below, is_empty, is_beaten, is_justified, loses, Sys, Pair, IsSys, IsPair, SStep, Allows, is_final, all_final, outcomes, is_fine, is_allowed, arena, couple, HoldsOut, Act, by_test, any_true, any_from, any_false, in_below, find_found, find_some, not_empty_in, in_not_empty, outcome_in, from_outcome, outcome_seat, from_allowed, justified_is, lost_fails, unlost_holds, great_holds, Choice, Controller, now_at, IsHistory, CanGoOn, FailsToRest, FailsWithin, AllFailWithin, EveryControllerFails}
use Rattle.roman_laws.proofs.ControllerLemmas.{history_pair}
use Rattle.roman_laws.proofs.GreatestLemmas.{unrelated_lost}

fails_more : (s : Sys) (P : Controller) (p : Pair) (m n : ℕ) → m ≤ n → FailsWithin s P p m → FailsWithin s P p n
fails_more s P p m n l f = record {
  history = f.history;
  possible = f.possible;
  fails = elim f.fails [ inl (few, rest) ↦ inl (omega arith, rest) | inr (few, a, serve) ↦ inr (omega arith, a, serve) ];
}

-- Every controller fails.

-- a controller that reaches a pair that is lost within n requests fails within n more
fails_from : (s : Sys) (P : Controller) (p : Pair) → IsSys s → (n : ℕ) (h : List Choice) → IsHistory s P p h → IsTrue (loses (arena s) n (now_at p h)) → FailsWithin s P p (length h + n)
fails_from s P p ok zero h i t = record { history = h; possible = i; fails = inl (omega arith, unfine (not-true (is_fine s (now_at p h)) t)) }
  where
    unfine : IsFalse (is_fine s (now_at p h)) → FailsToRest s (now_at p h)
    unfine f =
        let (final, rest) = or_parts (not (is_final s.target (now_at p h).t)) (all_final s.seats (now_at p h).bs) f in
        (by_test (is_final s.target (now_at p h).t) (λ t. t) (λ g. absurd (both_ways (not (is_final s.target (now_at p h).t)) final (not_from_false (is_final s.target (now_at p h).t) g))), rest)
fails_from s P p ok (suc n) h i t = elim (or_cases (loses (arena s) n (now_at p h)) (list_any (λ a. is_justified (arena s) (loses (arena s) n) (now_at p h) (Act a)) (below s.env.actions)) t) [
  | inl sooner ↦ fails_more s P p (length h + n) (length h + suc n) (omega arith) (fails_from s P p ok n h i sooner)
  | inr now ↦
      let (a, among, j) = any_true (λ a. is_justified (arena s) (loses (arena s) n) (now_at p h) (Act a)) (below s.env.actions) now in
      let (allowed, each) = justified_is (arena s) (loses (arena s) n) (now_at p h) a j in
      by_test (is_empty (outcomes s (now_at p h) a (P h a)))
      (λ none. record { history = h; possible = i; fails = inr (omega arith, a, (from_allowed s (now_at p h) a allowed, unserved a allowed none)) })
      (λ some.
      let (k, there) = not_empty_in (outcomes s (now_at p h) a (P h a)) some in
      let (q, among, lost) = gone a each some (outcome_seat s (now_at p h) a (P h a) k there).0 in
      subst (FailsWithin s P p) (omega arith)
      (fails_from s P p ok n (record { action = a; seat = P h a; to = q } ∷ h) (i, refl, from_outcome s (now_at p h) a (P h a) q among) lost))
]
  where
    unserved : (a : ℕ) → IsTrue (is_allowed s (now_at p h) a) → IsTrue (is_empty (outcomes s (now_at p h) a (P h a))) →
        (bs' : List ℕ) (e' : ℕ) → SStep s (now_at p h).bs (now_at p h).e a (P h a) bs' e' → ⊥
    unserved a allowed none bs' e' r =
        let (t', e1, step) = from_allowed s (now_at p h) a allowed in
        both_ways (is_empty (outcomes s (now_at p h) a (P h a)))
        (in_not_empty (record { t = t'; e = e'; bs = bs' }) (outcomes s (now_at p h) a (P h a)) (outcome_in s (now_at p h) a (P h a) t' e' bs' ok (r.world, step.1) r)) none

    gone : (a : ℕ) → ((k : ℕ) → k < length s.seats → IsTrue (is_beaten (arena s) (loses (arena s) n) (now_at p h) a k)) → IsFalse (is_empty (outcomes s (now_at p h) a (P h a))) →
        P h a < length s.seats → (q : Pair) × IsIn q (outcomes s (now_at p h) a (P h a)) × IsTrue (loses (arena s) n q)
    gone a each some l = elim (or_cases (is_empty (outcomes s (now_at p h) a (P h a))) (list_any (loses (arena s) n) (outcomes s (now_at p h) a (P h a))) (each (P h a) l)) [
      | inl none ↦ absurd (both_ways (is_empty (outcomes s (now_at p h) a (P h a))) some none)
      | inr lost ↦ any_true (loses (arena s) n) (outcomes s (now_at p h) a (P h a)) lost
    ]

all_fail : (s : Sys) (p : Pair) → IsSys s → (n : ℕ) → IsTrue (loses (arena s) n p) → AllFailWithin s p n
all_fail s p ok n t P = let none : 0 + n ≡ n = omega arith in subst (FailsWithin s P p) none (fails_from s P p ok n [] tt t)

-- Some controller doesn't fail sooner.

abbrev number_of : Option ℕ → ℕ
number_of None = 0
number_of (Some n) = n

-- the first seat that isn't beaten
abbrev pick : Sys → (Pair → Bool) → Pair → ℕ → ℕ
pick s gone q a = number_of (find (λ k. not (is_beaten (arena s) gone q a k)) (below (length s.seats)))

-- the controller that picks a seat whose outcomes aren't lost within the remaining ones of n requests
abbrev lasting : Sys → Pair → ℕ → Controller
lasting s p n h a = pick s (loses (arena s) (n - suc (length h))) (now_at p h) a

pick_unbeaten : (s : Sys) (q : Pair) (d a : ℕ) → IsSys s → HoldsOut s (suc d) (couple q) → Allows s q.t q.e a →
    IsFalse (is_beaten (arena s) (loses (arena s) d) q a (pick s (loses (arena s) d) q a))
pick_unbeaten s q d a ok holds allows =
    let (k, serves) = holds.served a allows in
    let (t', e', step) = allows in
    let (bs', r) = (serves t' e' step).0 in
    let unbeaten : IsFalse (is_beaten (arena s) (loses (arena s) d) q a k) =
    by_test (is_beaten (arena s) (loses (arena s) d) q a k)
    (λ t. elim (or_cases (is_empty (outcomes s q a k)) (list_any (loses (arena s) d) (outcomes s q a k)) t) [
      | inl none ↦ absurd (both_ways (is_empty (outcomes s q a k)) (in_not_empty (record { t = t'; e = e'; bs = bs' }) (outcomes s q a k) (outcome_in s q a k t' e' bs' ok step r)) none)
      | inr some ↦
          let (to, i, lost) = any_true (loses (arena s) d) (outcomes s q a k) some in
          let (goes, moves) = from_outcome s q a k to i in
          absurd (lost_fails s ok d to lost ((serves to.t to.e goes).1 to.bs moves))
    ])
    (λ f. f) in
    let (j, e) = find_found (λ k. not (is_beaten (arena s) (loses (arena s) d) q a k)) (below (length s.seats))
    (any_from (λ k. not (is_beaten (arena s) (loses (arena s) d) q a k)) k (below (length s.seats)) (in_below (length s.seats) k (slice_get_within s.seats k r.seat r.seated))
    (not_from_false (is_beaten (arena s) (loses (arena s) d) q a k) unbeaten)) in
    let (i, t) = find_some (λ k. not (is_beaten (arena s) (loses (arena s) d) q a k)) (below (length s.seats)) j e in
    subst (λ o. IsFalse (is_beaten (arena s) (loses (arena s) d) q a (number_of o))) (sym e) (not-true (is_beaten (arena s) (loses (arena s) d) q a j) t)

-- when d requests are left, the choice of the controller isn't beaten
lasting_unbeaten : (s : Sys) (p : Pair) (n d : ℕ) (h : List Choice) (a : ℕ) → IsSys s → length h + suc d ≡ n → HoldsOut s (suc d) (couple (now_at p h)) → Allows s (now_at p h).t (now_at p h).e a →
    IsFalse (is_beaten (arena s) (loses (arena s) d) (now_at p h) a (lasting s p n h a))
lasting_unbeaten s p n d h a ok e holds allows =
    let left : d ≡ n - suc (length h) = omega arith in
    subst (λ m. IsFalse (is_beaten (arena s) (loses (arena s) d) (now_at p h) a (pick s (loses (arena s) m) (now_at p h) a))) left (pick_unbeaten s (now_at p h) d a ok holds allows)

-- a history of this controller holds out against the requests that are left
lasting_holds : (s : Sys) (p : Pair) (n : ℕ) → IsSys s → IsPair s p → HoldsOut s n (couple p) → (h : List Choice) → IsHistory s (lasting s p n) p h → (d : ℕ) → length h + d ≡ n → HoldsOut s d (couple (now_at p h))
lasting_holds s p n ok pair holds [] i d e = let same : n ≡ d = omega arith in subst (λ m. HoldsOut s m (couple p)) same holds
lasting_holds s p n ok pair holds (m ∷ h) (i, chosen, leads) d e =
    let left : length h + suc d ≡ n = omega arith in
    let among : IsIn m.to (outcomes s (now_at p h) m.action m.seat) = outcome_in s (now_at p h) m.action m.seat m.to.t m.to.e m.to.bs ok leads.0 leads.1 in
    let unbeaten : IsFalse (is_beaten (arena s) (loses (arena s) d) (now_at p h) m.action m.seat) =
    subst (λ k. IsFalse (is_beaten (arena s) (loses (arena s) d) (now_at p h) m.action k)) (sym chosen)
    (lasting_unbeaten s p n d h m.action ok left (lasting_holds s p n ok pair holds h i (suc d) left) (m.to.t, m.to.e, leads.0)) in
    unlost_holds s ok d m.to (history_pair s (lasting s p n) p ok pair (m ∷ h) (i, chosen, leads))
    (any_false (loses (arena s) d) m.to (outcomes s (now_at p h) m.action m.seat)
    (or_parts (is_empty (outcomes s (now_at p h) m.action m.seat)) (list_any (loses (arena s) d) (outcomes s (now_at p h) m.action m.seat)) unbeaten).1 among)

holds_final : (s : Sys) (d : ℕ) (q : Pair) → HoldsOut s d (couple q) → IsTrue (is_final s.target q.t) → IsTrue (all_final s.seats q.bs)
holds_final s zero q holds = holds
holds_final s (suc d) q holds = holds.final

pub lasting_lasts : (s : Sys) (p : Pair) (n : ℕ) → IsSys s → IsPair s p → HoldsOut s n (couple p) → FailsWithin s (lasting s p n) p n → ⊥
lasting_lasts s p n ok pair holds f = elim f.fails [
  | inl (l, rest) ↦
      both_ways (all_final s.seats (now_at p f.history).bs) rest.1
      (holds_final s (n - length f.history) (now_at p f.history) (lasting_holds s p n ok pair holds f.history f.possible (n - length f.history) (omega arith)) rest.0)
  | inr (l, a, serve) ↦
      let left : length f.history + suc (n - suc (length f.history)) ≡ n = omega arith in
      let unbeaten = lasting_unbeaten s p n (n - suc (length f.history)) f.history a ok left
      (lasting_holds s p n ok pair holds f.history f.possible (suc (n - suc (length f.history))) left) serve.0 in
      let (q, i) = not_empty_in (outcomes s (now_at p f.history) a (lasting s p n f.history a))
      (or_parts (is_empty (outcomes s (now_at p f.history) a (lasting s p n f.history a))) (list_any (loses (arena s) (n - suc (length f.history))) (outcomes s (now_at p f.history) a (lasting s p n f.history a))) unbeaten).0 in
      serve.1 q.bs q.e (from_outcome s (now_at p f.history) a (lasting s p n f.history a) q i).1
]

-- a controller that fails can't go on
fails_stuck : (s : Sys) (P : Controller) (p : Pair) (n : ℕ) → FailsWithin s P p n → (h : List Choice) × IsHistory s P p h × (length h ≤ n) × (CanGoOn s (P h) (now_at p h) → ⊥)
fails_stuck s P p n f = (
  f.history,
  f.possible,
  elim f.fails [ inl (l, rest) ↦ l | inr (l, a, serve) ↦ omega arith ],
  λ on. elim f.fails [
    | inl (l, rest) ↦ both_ways (all_final s.seats (now_at p f.history).bs) rest.1 (on.final rest.0)
    | inr (l, a, serve) ↦
        let (t', e', step) = serve.0 in
        let (bs', r) = on.served a t' e' step in
        serve.1 bs' e' r
  ],
)

-- no way of delegating holds out against n requests exactly when every controller fails within n
fails_exactly : (s : Sys) (p : Pair) (n : ℕ) → IsSys s → IsPair s p → (HoldsOut s n (couple p) → ⊥) ↔ AllFailWithin s p n
fails_exactly s p n ok pair = (
  λ lost. by_test (loses (arena s) n p) (all_fail s p ok n) (λ f. absurd (lost (unlost_holds s ok n p pair f))),
  λ all holds. lasting_lasts s p n ok pair holds (all (lasting s p n)),
)

pub every_fails : EveryControllerFails
every_fails s p ok pair = record {
  bound = (
    λ unrelated. let (n, l, t) = (unrelated_lost s ok p pair).0 unrelated in (n, l, all_fail s p ok n t),
    λ (n, l, all) great. lasting_lasts s p n ok pair (great_holds s n (couple p) great) (all (lasting s p n)),
  );
  stuck = λ P n. fails_stuck s P p n;
  exact = λ n. fails_exactly s p n ok pair;
  least = λ n. (
    λ is. ((fails_exactly s p n ok pair).0 is.lost, λ m l. (lasting s p m, lasting_lasts s p m ok pair (is.no_sooner m l))),
    λ (all, some). record {
      lost = (fails_exactly s p n ok pair).1 all;
      no_sooner = λ m l. by_test (loses (arena s) m p) (λ t. let (P, lasts) = some m l in absurd (lasts (all_fail s p ok m t P))) (unlost_holds s ok m p pair);
    },
  );
}
