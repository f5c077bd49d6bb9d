-- Offers, counts and reports are right by the greatest ND-simulation.
use Rattle.roman_session.proofs.Common.{◌≡◌, ℕ, ◌+◌, Bool, List, [], ◌++◌, map, length, cond, true, false, IsTrue, ◌↔◌, refl, sym, ◌∙◌, length-append, arith, both_ways, length-map, IsIn, below, IsSublist, Sys, Pair, IsSys, IsPair, arena, is_allowed, Entry, IsComplete, Great, is_related, offers, related_count, filter_sublist, filter_in, in_filter, in_below, allowed_in, from_allowed, related_great, great_related, in_listed, listed_in, from_map, system_is_same, sublist_none, allowed_in_range, length-pairs, offers_are, order_new, new_once, in_map, system_of, Situation, IsSituation, report_text, shown, State, IsGreat, MayRequest, start_state, afresh, Counts, flat_map, AreServing, ReportsGreat, related_counted}
use Rattle.std.specs.List.{filter}
use Rattle.roman_session.proofs.ReportLemmas.{reports_afresh, afresh_known}

-- the services that serve

-- a filtered list of the numbers below a bound keeps their order
picked_order : (b : Bool) (p : ℕ → Bool) (n : ℕ) → IsSublist (cond b (filter p (below n)) []) (below n)
picked_order true p n = filter_sublist p (below n)
picked_order false p n = sublist_none (below n)

pub offers_serving : (s : State) (a : ℕ) → IsSys (system_of s.parts) → IsPair (system_of s.parts) s.here → IsTrue (is_allowed (system_of s.parts) s.here a) →
    AreServing s a (offers (system_of s.parts) s.here a)
offers_serving s a sys pair allowed = record {
  order = picked_order (is_allowed (system_of s.parts) s.here a) _ (length (system_of s.parts).seats);
  exact = (offers_are (system_of s.parts) sys).offered s.here pair a allowed;
}

-- counts

-- a complete list has as many entries as there are pairs that aren't related
pub lost_counted : (s : Sys) (kept added : List (Entry Pair)) → IsComplete s (kept ++ added) → Counts s (λ p. Great s p → ⊥) (length kept + length added)
lost_counted s kept added complete =
    let L = kept ++ added in
    record {
      pairs = map (λ x. x.node) L;
      once = new_once (arena s) (system_is_same s) [] L (order_new (arena s) L complete.order);
      each = grind (arith, from_map, in_listed, system_is_same, listed_in, in_map);
      count = length-map L (λ (x : Entry Pair). x.node) ∙ length-append kept added;
    }

-- reports

-- a flat map of a list, or of an empty list
picked_lines : {X Y : Type 0} (b : Bool) (f : X → List Y) (xs : List X) → cond b (flat_map f xs) [] ≡ flat_map f (cond b xs [])
picked_lines true f xs = refl
picked_lines false f xs = refl

-- the actions for which services are offered
actions_offered : State → Bool → List ℕ
actions_offered s b = cond b (filter (is_allowed (system_of s.parts) s.here) (below s.parts.environment.env.actions)) []

actions_are : (s : State) (b : Bool) (a : ℕ) → b ≡ is_related (system_of s.parts) s.here → IsSys (system_of s.parts) → IsPair (system_of s.parts) s.here → IsIn a (actions_offered s b) ↔ (IsGreat s × MayRequest s a)
unfolding actions_offered
actions_are s true a eb sys pair = (
  λ i.
      let (j, allowed) = filter_in (is_allowed (system_of s.parts) s.here) a (below s.parts.environment.env.actions) i in
      (related_great (system_of s.parts) s.here sys pair (sym eb), from_allowed (system_of s.parts) s.here a allowed),
  λ (great, may).
      let allowed = allowed_in (system_of s.parts) s.here a sys may in
      in_filter (is_allowed (system_of s.parts) s.here) a (below s.parts.environment.env.actions)
      (in_below s.parts.environment.env.actions a (allowed_in_range (system_of s.parts) s.here a sys allowed)) allowed,
)
actions_are s false a eb sys pair = (
  λ i. absurd i,
  λ (great, may). absurd (both_ways (is_related (system_of s.parts) s.here) (sym eb) (great_related (system_of s.parts) s.here sys great)),
)

-- a report is right for a pair of a well-formed system
pub reports_great : (s : State) (text : List ℕ) → IsSys (system_of s.parts) → IsPair (system_of s.parts) s.here → text ≡ report_text s.parts s.here → ReportsGreat s text
unfolding report_text actions_offered
reports_great s text sys pair says =
    let related = is_related (system_of s.parts) s.here in
    record {
      related = related_count (system_of s.parts);
      counted = related_counted (system_of s.parts) sys;
      composes = related;
      great = (related_great (system_of s.parts) s.here sys pair, great_related (system_of s.parts) s.here sys);
      actions = actions_offered s related;
      order = picked_order related (is_allowed (system_of s.parts) s.here) s.parts.environment.env.actions;
      allowed = λ a. actions_are s related a refl sys pair;
      services = offers (system_of s.parts) s.here;
      serving = λ a i. offers_serving s a sys pair (allowed_in (system_of s.parts) s.here a sys ((actions_are s related a refl sys pair).0 i).1);
      says = says ∙ (grind (arith, length-pairs, picked_lines));
    }

-- the report is also right for the library that begins in the present states of the session
pub reports_both : (s : Situation) (text : List ℕ) → IsSituation s → text ≡ report_text s.parts s.here → ReportsGreat (shown s) text × ReportsGreat (start_state (afresh (shown s))) text
reports_both s text is says =
    let (sys, pair) = afresh_known s is in
    (reports_great (shown s) text is.parts.system is.here says, reports_great (start_state (afresh (shown s))) text sys pair (says ∙ reports_afresh s is))
