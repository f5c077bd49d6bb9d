-- Consequences of offers and outcomes.
use Rattle.roman_session.proofs.Common.{◌≢◌, ℕ, [], slice_set, IsPair, TStep, SStep, offers, related_offers, allowed_in, outcome_in, outcome_pair, Situation, present_system, IsSituation, IsPhase, Delegated, shown, IsGreat, MayRequest, ServesHere, Observation}
use Rattle.roman_session.proofs.WordLemmas.{offers_serving}

-- a request that can be made is offered to some service
pub requests_offered : (s : Situation) (a : ℕ) → IsSituation s → IsGreat (shown s) → MayRequest (shown s) a → offers (present_system s) s.here a ≢ []
requests_offered s a is great may = related_offers (present_system s) s.here a is.parts.system great (allowed_in (present_system s) s.here a is.parts.system may)

-- the delegate of an open request serves it
pub delegation_serves : (s : Situation) (a k : ℕ) → IsSituation s → IsPhase s (Delegated a k) → ServesHere (shown s) a k
delegation_serves s a k is phase = (((offers_serving (shown s) a is.parts.system is.here phase.0.1).exact k).0 phase.1).1

-- a target step to t and a system step lead to the observed states
pub record HasMoved (s : Situation) (x : Observation) (t : ℕ) : Type 0 where
  pub target : TStep (present_system s) s.here.t s.here.e x.action t x.env
  pub system : SStep (present_system s) s.here.bs s.here.e x.action x.seat (slice_set s.here.bs x.seat x.state) x.env

-- the pair after a move is a pair of the system
pub moved_pair : (s : Situation) (x : Observation) (to : ℕ) → IsSituation s → HasMoved s x to → IsPair (present_system s) (record { t = to; e = x.env; bs = slice_set s.here.bs x.seat x.state })
moved_pair s x to is moves = outcome_pair _ _ _ _ _ is.parts.system is.here (outcome_in _ _ _ _ _ _ _ is.parts.system moves.target moves.system)
