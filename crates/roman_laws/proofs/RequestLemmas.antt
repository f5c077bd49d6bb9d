-- The system that combines several targets allows the requests of its targets, and offers the seats that serve all of them.
use Rattle.roman_laws.proofs.Common.{stands_step, from_map, from_flat_map, filter_in, get_in, allowed_in, from_allowed, offers_are, combined_system, from_combined_sstep, combined_sstep, all_from_great, combined_allows, combined_served, decoded, from_combined_allows, great_from_all, member_served, member_step, request_there, serves_more, total, world_as, ◌≡◌, ℕ, ◌<◌, ◌==◌, ◌&&◌, map, length, Option, None, Some, IsTrue, filter, slice_get, slice_index, refl, sym, subst, arith, false≢true, same_Some, below, Beh, Pair, has_move, IsPair, TStep, Allows, is_allowed, couple, Serves, GreatCouple, Several, ServesAll, GreatAll, all_requests, combined, IsSeveral, combined_seat, couple_all, stands_in, Request, length-map, TargetAllows, IsRequestOf, RequestsOfTargets, IsMoveOf, TurnsOfTargets}

-- The requests, and the steps that they stand for.

-- a target that has a step on the action, in the place of a target
stands_target : (o : Option Beh) (a : ℕ) → IsTrue (stands_in o a) → (target : Beh) × (o ≡ Some target) × ((b : ℕ) × (e : ℕ) × (b' : ℕ) × IsTrue (has_move target b e a b'))
stands_target None a stands = absurd (false≢true stands)
stands_target (Some target) a stands = (target, refl, stands_step target a stands)

-- the target of a request has a step by its action
pub request_at : (w : Several) (n : ℕ) (r : Request) → slice_get (all_requests w) n ≡ Some r →
    (target : Beh) × (slice_get w.targets r.target ≡ Some target) × ((b : ℕ) × (e : ℕ) × (b' : ℕ) × IsTrue (has_move target b e r.action b'))
request_at w n r at =
    let (i, j, there) = from_flat_map (λ i. map (λ a. record { target = i; action = a }) (filter (stands_in (slice_get w.targets i)) (below w.env.actions))) r (below (length w.targets))
    (get_in (all_requests w) n r at) in
    let (a, k, same) = from_map (λ a. record { target = i; action = a }) r (filter (stands_in (slice_get w.targets i)) (below w.env.actions)) there in
    stands_target (slice_get w.targets r.target) r.action (grind (arith, filter_in))

-- The combined actions that are allowed.

request_named : (w : Several) (p : Pair) (n : ℕ) → Allows (combined w) p.t p.e n → (i : ℕ) × (target : Beh) × (a : ℕ) × IsRequestOf w n i target a
request_named w p n allows =
    let (r, target, at, member, own) = from_combined_allows w p.t p.e n allows in (r.target, target, r.action, record { request = at; member = member })

request_allowed : (w : Several) (p : Pair) (n i : ℕ) (target : Beh) (a : ℕ) → IsRequestOf w n i target a → Allows (combined w) p.t p.e n → TargetAllows w p i target a
request_allowed w p n i target a asks allows = grind (arith, (from_combined_allows w p.t p.e n allows), same_Some)

allowed_request : (w : Several) (p : Pair) (n i : ℕ) (target : Beh) (a : ℕ) → IsSeveral w → IsPair (combined w) p → IsRequestOf w n i target a → TargetAllows w p i target a → Allows (combined w) p.t p.e n
allowed_request w p n i target a ok pair asks allows = combined_allows w p.t p.e n (record { target = i; action = a }) target ok pair.t asks.request asks.member allows

-- The seats that serve the combined actions.

serves_combined : (w : Several) (p : Pair) (n i : ℕ) (target : Beh) (a k : ℕ) → IsSeveral w → IsRequestOf w n i target a →
    ServesAll w (GreatAll w) (couple_all w p) i target a k → Serves (combined w) (GreatCouple (combined w)) (couple p) n k
serves_combined w p n i target a k ok asks serves =
    serves_more (combined w) (λ d. (d.t < total w) × GreatAll w (decoded w d)) (GreatCouple (combined w)) (couple p) n k (λ d all. great_from_all w d ok all.0 all.1)
    (combined_served w (GreatAll w) (couple p) n k (record { target = i; action = a }) target ok asks.request asks.member serves)

combined_serves : (w : Several) (p : Pair) (n i : ℕ) (target : Beh) (a k : ℕ) → IsSeveral w → IsPair (combined w) p → IsRequestOf w n i target a →
    Serves (combined w) (GreatCouple (combined w)) (couple p) n k → ServesAll w (GreatAll w) (couple_all w p) i target a k
combined_serves w p n i target a k ok pair asks =
    member_served w (GreatCouple (combined w)) (GreatAll w) (couple p) n k (record { target = i; action = a }) target ok pair.t (λ d. all_from_great w d ok) asks.request asks.member

pub requests_of : RequestsOfTargets
requests_of w ok p pair = record {
  named = λ n allowed. request_named w p n (from_allowed (combined w) p n allowed);
  numbered = λ i target a member allows. let (n, at) = request_there w p.t p.e i a target ok member allows in (n, record { request = at; member = member });
  allowed = λ n i target a asks. (λ allowed. request_allowed w p n i target a asks (from_allowed (combined w) p n allowed), is_allowed_at n i target a asks);
  offered = λ n i target a asks allows k.
      let offer = (offers_are (combined w) (combined_system w ok)).offered p pair n (is_allowed_at n i target a asks allows) k in (
        λ j. let (l, serves) = offer.0 j in (subst (λ m. k < m) seats_length l, combined_serves w p n i target a k ok pair asks serves),
        λ (l, serves). offer.1 (subst (λ m. k < m) (sym seats_length) l, serves_combined w p n i target a k ok asks serves),
      );
}
  where
    seats_length : length (combined w).seats ≡ length w.seats
    seats_length = length-map w.seats (combined_seat w.env.states (all_requests w))

    is_allowed_at : (n i : ℕ) (target : Beh) (a : ℕ) → IsRequestOf w n i target a → TargetAllows w p i target a → IsTrue (is_allowed (combined w) p n)
    is_allowed_at n i target a asks allows = allowed_in (combined w) p n (combined_system w ok) (allowed_request w p n i target a ok pair asks allows)

-- The parts of a turn, target by target.

move_of : (w : Several) (p : Pair) (n i : ℕ) (target : Beh) (a t' e' : ℕ) → IsRequestOf w n i target a → TStep (combined w) p.t p.e n t' e' → IsMoveOf w p i target a t' e'
move_of w p n i target a t' e' asks step =
    let own = member_step w p.t p.e n t' (record { target = i; action = a }) target asks.request asks.member step.1 in
    record { to = slice_index (couple_all w (record p { t = t' })).ts i; step = (world_as w p.e n e' _ asks.request step.0, own.goes); states = sym own.others }

pub turns_of : TurnsOfTargets
turns_of w ok p pair = record {
  named = request_named w p;
  asked = λ n i target a asks. (request_allowed w p n i target a asks, allowed_request w p n i target a ok pair asks);
  served = λ n i target a asks k. (combined_serves w p n i target a k ok pair asks, serves_combined w p n i target a k ok asks);
  answered = λ n i target a asks k bs' e'. (
    λ step. from_combined_sstep w target p.bs p.e n k bs' e' (record { target = i; action = a }) asks.request (world_as w p.e n e' _ asks.request step.world) step,
    combined_sstep w target p.bs p.e n k bs' e' (record { target = i; action = a }) ok asks.request,
  );
  moved = λ n i target a asks t' e'. move_of w p n i target a t' e' asks;
}
