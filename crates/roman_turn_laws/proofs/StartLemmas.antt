-- The texts and the new states of turns don't depend on the starting states of the environment and the target.
use Rattle.roman_turn_laws.proofs.Common.{ℕ, zero, suc, List, [], ◌∷◌, Option, None, Some, ◌↔◌, Sys, Pair, IsPair, SStep, Couple, Serves, Meets, GreatCouple, Counts, Entry, Reason, Final, Act, system_of, State, ServesHere, AreServing, OffersServing, CountsLost, ReportsGreat, Refutes, MayAnswer, IsLost, AreLost, WinsBy, state_at}

-- the system, with other starting states
abbrev pub sys_at : ℕ → ℕ → Sys → Sys
sys_at e t s = record { env = record s.env { start = e }; target = record s.target { start = t }; seats = s.seats }

pub step_at : (e0 t0 : ℕ) (s : Sys) (bs : List ℕ) (e a k : ℕ) (bs' : List ℕ) (e' : ℕ) → SStep s bs e a k bs' e' → SStep (sys_at e0 t0 s) bs e a k bs' e'
step_at e0 t0 s bs e a k bs' e' r = record { seat = r.seat; seated = r.seated; ready = r.ready; world = r.world; to = r.to; moves = r.moves; is = r.is }

pub step_back : (e0 t0 : ℕ) (s : Sys) (bs : List ℕ) (e a k : ℕ) (bs' : List ℕ) (e' : ℕ) → SStep (sys_at e0 t0 s) bs e a k bs' e' → SStep s bs e a k bs' e'
step_back e0 t0 s = step_at s.env.start s.target.start (sys_at e0 t0 s)

pub pair_at : (e0 t0 : ℕ) (s : Sys) (p : Pair) → IsPair s p → IsPair (sys_at e0 t0 s) p
pair_at e0 t0 s p is = record { t = is.t; e = is.e; bs = is.bs }

pub serves_at : (e0 t0 : ℕ) (s : Sys) (Related Also : Couple → Type 0) (c : Couple) (a k : ℕ) → ((d : Couple) → Related d → Also d) → Serves s Related c a k → Serves (sys_at e0 t0 s) Also c a k
serves_at e0 t0 s Related Also c a k more serves t' e' step =
    let (some, all) = serves t' e' step in
    ((some.0, step_at e0 t0 s c.bs c.e2 a k some.0 e' some.1), λ bs' r. more (record { t = t'; e = e'; bs = bs'; e2 = e' }) (all bs' (step_back e0 t0 s c.bs c.e2 a k bs' e' r)))

pub meets_at : (e0 t0 : ℕ) (s : Sys) (Related : Couple → Type 0) (c : Couple) → Meets s Related c → Meets (sys_at e0 t0 s) Related c
meets_at e0 t0 s Related c meets = record {
  shared = meets.shared;
  final = meets.final;
  served = λ a allows. let (k, serves) = meets.served a allows in (k, serves_at e0 t0 s Related Related c a k (λ d r. r) serves);
}

pub great_at : (e0 t0 : ℕ) (s : Sys) (c : Couple) → GreatCouple s c → GreatCouple (sys_at e0 t0 s) c
great_at e0 t0 s c (R, sim, i) = (R, λ d j. meets_at e0 t0 s _ d (sim d j), i)

pub great_back : (e0 t0 : ℕ) (s : Sys) (c : Couple) → GreatCouple (sys_at e0 t0 s) c → GreatCouple s c
great_back e0 t0 s = great_at s.env.start s.target.start (sys_at e0 t0 s)

pub here_at : (e t : ℕ) (s : State) (a k : ℕ) → ServesHere s a k → ServesHere (state_at e t s) a k
here_at e t s a k = serves_at e t (system_of s.parts) _ _ _ a k (great_at e t (system_of s.parts))

pub here_back : (e t : ℕ) (s : State) (a k : ℕ) → ServesHere (state_at e t s) a k → ServesHere s a k
here_back e t s a k = here_at s.parts.environment.env.start s.parts.target.beh.start (state_at e t s) a k

pub counts_at : (e0 t0 : ℕ) (s : Sys) (Is Also : Pair → Type 0) (n : ℕ) → ((p : Pair) → Is p ↔ Also p) → Counts s Is n → Counts (sys_at e0 t0 s) Also n
counts_at e0 t0 s Is Also n same counts = record {
  pairs = counts.pairs;
  once = counts.once;
  each = λ p. (
    λ i. let (pair, is) = (counts.each p).0 i in (pair_at e0 t0 s p pair, (same p).0 is),
    λ (pair, is). (counts.each p).1 (pair_at s.env.start s.target.start (sys_at e0 t0 s) p pair, (same p).1 is),
  );
  count = counts.count;
}

pub serving_at : (e t : ℕ) (s : State) (a : ℕ) (ks : List ℕ) → AreServing s a ks → AreServing (state_at e t s) a ks
serving_at e t s a ks are = record {
  order = are.order;
  exact = λ k. (
    λ i. let (l, serves) = (are.exact k).0 i in (l, here_at e t s a k serves),
    λ (l, serves). (are.exact k).1 (l, here_back e t s a k serves),
  );
}

pub offers_at : (e t : ℕ) (s : State) (a : ℕ) (text : List ℕ) → OffersServing s a text → OffersServing (state_at e t s) a text
offers_at e t s a text offers = record { services = offers.services; serving = serving_at e t s a offers.services offers.serving; says = offers.says }

pub lost_count_at : (e t : ℕ) (s : State) (text : List ℕ) → CountsLost s text → CountsLost (state_at e t s) text
lost_count_at e t s text counts = record {
  kept = counts.kept;
  added = counts.added;
  lost = counts_at e t (system_of s.parts) _ _ _ (λ p. (λ lost great. lost (great_back e t (system_of s.parts) _ great), λ lost great. lost (great_at e t (system_of s.parts) _ great))) counts.lost;
  says = counts.says;
}

pub reports_at : (e t : ℕ) (s : State) (text : List ℕ) → ReportsGreat s text → ReportsGreat (state_at e t s) text
reports_at e t s text reports = record {
  related = reports.related;
  counted = counts_at e t (system_of s.parts) _ _ _ (λ p. (great_at e t (system_of s.parts) _, great_back e t (system_of s.parts) _)) reports.counted;
  composes = reports.composes;
  great = (λ c. great_at e t (system_of s.parts) _ (reports.great.0 c), λ great. reports.great.1 (great_back e t (system_of s.parts) _ great));
  actions = reports.actions;
  order = reports.order;
  allowed = λ a. (
    λ i. let (great, may) = (reports.allowed a).0 i in (great_at e t (system_of s.parts) _ great, may),
    λ (great, may). (reports.allowed a).1 (great_back e t (system_of s.parts) _ great, may),
  );
  services = reports.services;
  serving = λ a i. serving_at e t s a (reports.services a) (reports.serving a i);
  says = reports.says;
}

-- explanations

pub is_lost_at : (e0 t0 : ℕ) (s : Sys) (Gone Also : Pair → Type 0) (answers : ℕ → Option Pair) (p : Pair) (r : Reason) → ((q : Pair) → Gone q → Also q) → IsLost s Gone answers p r → IsLost (sys_at e0 t0 s) Also answers p r
is_lost_at e0 t0 s Gone Also answers p Final more lost = lost
is_lost_at e0 t0 s Gone Also answers p (Act a) more (allows, each) = (allows, λ k l. by_answer k (answers k) (each k l))
  where
    by_answer : (k : ℕ) (o : Option Pair) → MayAnswer s Gone p a k o → MayAnswer (sys_at e0 t0 s) Also p a k o
    by_answer k None none = λ q (goes, moves). none q (goes, step_back e0 t0 s p.bs p.e a k q.bs q.e moves)
    by_answer k (Some q) (leads, gone) = ((leads.0, step_at e0 t0 s p.bs p.e a k q.bs q.e leads.1), more q gone)

pub are_lost_at : (e0 t0 : ℕ) (s : Sys) (answers : Entry Pair → ℕ → Option Pair) (before : List Pair) (entries : List (Entry Pair)) → AreLost s answers before entries → AreLost (sys_at e0 t0 s) answers before entries
are_lost_at e0 t0 s answers before [] lost = tt
are_lost_at e0 t0 s answers before (x ∷ entries) (new, lost, rest) =
    (new, is_lost_at e0 t0 s _ _ (answers x) x.node x.reason (λ q i. i) lost, are_lost_at e0 t0 s answers (x.node ∷ before) entries rest)

pub wins_at : (e0 t0 : ℕ) (s : Sys) (answers : Entry Pair → ℕ → Option Pair) (entries : List (Entry Pair)) (n : ℕ) (p : Pair) → WinsBy s answers entries n p → WinsBy (sys_at e0 t0 s) answers entries n p
wins_at e0 t0 s answers entries zero p wins = wins
wins_at e0 t0 s answers entries (suc n) p (x, i, same, lost) = (x, i, same, is_lost_at e0 t0 s _ _ (answers x) p x.reason (wins_at e0 t0 s answers entries n) lost)

pub refutes_at : (e t : ℕ) (s : State) (text : List ℕ) → Refutes s text → Refutes (state_at e t s) text
refutes_at e t s text refutes = record {
  entries = refutes.entries;
  answers = refutes.answers;
  lost = are_lost_at e t (system_of s.parts) refutes.answers [] refutes.entries refutes.lost;
  last = refutes.last;
  wins = wins_at e t (system_of s.parts) refutes.answers refutes.entries _ s.here refutes.wins;
  ready = refutes.ready;
  order = refutes.order;
  exact = refutes.exact;
  says = refutes.says;
}
