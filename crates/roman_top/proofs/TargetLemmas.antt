-- A turn of a session on a document with several targets, target by target.
use Rattle.roman_top.proofs.Common.{◌≡◌, ◌↔◌, ℕ, ◌<◌, List, [], length, Result, Ok, Some, IsTrue, inl, inr, slice_get, sym, ap, ◌∙◌, subst, arith, slice_set, length-map, slice_get_within, get_or_from_slice_get, slice_get-get_or, below, product_of, IsSublist, Sys, IsPair, Beh, has_move, TStep, SStep, Allows, length-below, there_is, from_get_map, get_map, get_or-below, move_in_range, LineShape, request, delegate, observe, LineError, NamedSys, seat_of, system_of, PlainLibrary, PlainTargets, CombinesTargets, Situation, Idle, shown, IsKnownSituation, State, IsOpenGreat, MayRequest, TurnsInto, Needs, open_great, means_all, parts_are, parts_in, MeansTargets, IsTurnOfTargets, couple_now, TargetAction, OffersServingAll, MovesOne, TellsTarget, couple, Serves, GreatCouple, name_at, states_at, Several, of_one, ServesAll, GreatAll, all_requests, couple_all, target_sizes, Request, TargetAllows, IsRequestOf, IsMoveOf, TurnsAreOf, request_at, turns_of, reply_text, PlainCombined, machines, requests_in, joined, names_at, combined_state_names, request_name, request_names, combined_parts, MeansAll, several_with, Replies, OffersServing}
use Rattle.roman_text.specs.declared.replies.Reply.TheVariants as reply
use Rattle.roman_top.proofs.TurnLemmas.{IsFrom, StepsTell}

-- an equivalent condition can replace a condition
needs_same : {H K R : Type 0} {Rest : H → Type 0} {Next : K → Type 0} → Needs H R Rest → (K → H) → ((h : H) → Rest h → (k : K) × Next k) → Needs K R Next
needs_same (inl (h, rest)) back go = inl (go h rest)
needs_same (inr (never, refused)) back go = inr (λ k. never (back k), refused)

module _ (said : PlainTargets) (library : PlainLibrary) (s : Situation) (combines : CombinesTargets said library) (from : IsFrom library s) (known : IsKnownSituation s) where
  abbrev here : State
  here = shown s

  abbrev w : Several
  w = several_with said s.parts.seats

  has : parts_in s.parts ≡ record { environment = library.environment; catalogue = library.catalogue; target = library.target }
  has = ap (λ (n : NamedSys). record { environment = n.environment; catalogue = n.catalogue; target = n.target }) from

  means : MeansAll said s.parts
  means = means_all said library s.parts combines known.situation.parts has

  made : parts_in s.parts ≡ combined_parts said.environment said.catalogue said.targets
  made = parts_are said library s.parts combines known.situation.parts has

  actions_are : s.parts.environment.actions ≡ request_names said.environment said.targets
  unfolding combined_parts
  actions_are = ap (λ (made : PlainCombined). made.environment.actions) made

  states_are : s.parts.target.states ≡ combined_state_names said.targets
  unfolding combined_parts
  states_are = ap (λ (made : PlainCombined). made.target.states) made

  -- The words of a turn, target by target

  turns : TurnsAreOf w s.here
  turns = turns_of w means.known s.here (subst (λ (sys : Sys). IsPair sys s.here) means.system known.situation.here)

  -- The request that an action is

  record HasRequest (n : ℕ) : Type 0 where
    pub asks : TargetAction said here n
    pub is : IsRequestOf w n asks.place asks.target.target.beh asks.action

  request_is : (n : ℕ) (r : Request) → slice_get (all_requests w) n ≡ Some r → HasRequest n
  request_is n r at =
      let (target, member, used) = request_at w n r at in
      let (named, there, same) = from_get_map (λ named. named.target.beh) said.targets r.target target member in
      record {
        asks = record {
          place = r.target;
          target = named;
          action = r.action;
          there = there;
          used = subst (λ (target : Beh). (b : ℕ) × (e : ℕ) × (b' : ℕ) × IsTrue (has_move target b e r.action b')) same used;
          name = subst (λ (names : List (List ℕ)). slice_get names n ≡ Some (request_name said.environment.actions said.targets r)) (sym actions_are)
              (get_map (request_name said.environment.actions said.targets) (requests_in said.environment said.targets) n r at);
        };
        is = record { request = at; member = subst (λ (target : Beh). slice_get w.targets r.target ≡ Some target) same member };
      }

  request_there : (n : ℕ) → n < length s.parts.environment.actions → HasRequest n
  request_there n l =
      let (r, at) = there_is (all_requests w) n (omega (arith, l, ap length actions_are, length-map (requests_in said.environment said.targets) (request_name said.environment.actions said.targets))) in
      request_is n r at

  -- an open request is an action of a target
  request_open : (n : ℕ) → MayRequest here n → HasRequest n
  request_open n requested =
      let (i, target, a, is) = turns.named n (subst (λ (sys : Sys). Allows sys s.here.t s.here.e n) means.system requested) in
      request_is n (record { target = i; action = a }) is.request

  -- the session allows the action if its target allows it, and the same services serve it and take the same steps
  abbrev TellsOfAction : Sys → ℕ → ℕ → Beh → ℕ → Type 0
  TellsOfAction sys n i target a =
      (Allows sys s.here.t s.here.e n ↔ TargetAllows w s.here i target a)
      × ((k : ℕ) → Serves sys (GreatCouple sys) (couple s.here) n k ↔ ServesAll w (GreatAll w) (couple_all w s.here) i target a k)
      × ((k : ℕ) (bs' : List ℕ) (e' : ℕ) → SStep sys s.here.bs s.here.e n k bs' e' ↔ SStep (of_one w target) s.here.bs s.here.e a k bs' e')

  same : (n : ℕ) (at : HasRequest n) → TellsOfAction (system_of s.parts) n at.asks.place at.asks.target.target.beh at.asks.action
  same n at = subst (λ (sys : Sys). TellsOfAction sys n at.asks.place at.asks.target.target.beh at.asks.action) (sym means.system) (turns.asked n _ _ _ at.is, turns.served n _ _ _ at.is, turns.answered n _ _ _ at.is)

  -- The state

  pub means_targets : MeansTargets said here
  means_targets = record {
    great = means.great;
    actions = λ n l.
        let at = request_there n l in
        record { asks = at.asks; may = (same n at).0; serves = (same n at).1 };
  }

  -- The events

  offers_all : (n : ℕ) (at : HasRequest n) (text : List ℕ) → OffersServing here n text → OffersServingAll said here n at.asks text
  offers_all n at text offers = record {
    services = offers.services;
    order = subst (λ m. IsSublist offers.services (below m)) seats_length offers.serving.order;
    exact = λ k.
        let served = (same n at).1 k in (
          λ i. let (l, one) = (offers.serving.exact k).0 i in (subst (λ m. k < m) seats_length l, served.0 one),
          λ (l, all). (offers.serving.exact k).1 (subst (λ m. k < m) (sym seats_length) l, served.1 all),
        );
    says = offers.says;
  }
    where
      seats_length : length (system_of s.parts).seats ≡ length s.parts.seats
      seats_length = length-map s.parts.seats (seat_of s.parts.catalogue)

  state_name : (t : ℕ) → t < product_of (target_sizes (machines said.targets)) → name_at s.parts.target.states t ≡ joined (names_at said.targets (states_at (target_sizes (machines said.targets)) t))
  state_name t l =
      let total = product_of (target_sizes (machines said.targets)) in
      let there : slice_get (below total) t ≡ Some t = slice_get-get_or (below total) t 0 (subst (λ m. t < m) (sym (length-below total)) l) ∙ ap Some (get_or-below total t 0 l) in
      let name = λ (t : ℕ). joined (names_at said.targets (states_at (target_sizes (machines said.targets)) t)) in
      ap (λ (names : List (List ℕ)). name_at names t) states_are ∙ get_or_from_slice_get (combined_state_names said.targets) t (name t) [] (get_map name (below total) t t there)

  moves_one : (n : ℕ) (at : HasRequest n) (t e : ℕ) (bs env text : List ℕ) (new : State) → TStep (system_of s.parts) s.here.t s.here.e n t e → Replies (reply.Now (name_at s.parts.target.states t) env) text →
      new ≡ record here { here = record { t = t; e = e; bs = bs }; phase = Idle } → MovesOne said here n at.asks e bs env text new
  moves_one n at t e bs env text new step says becomes =
      let move : IsMoveOf w s.here at.asks.place at.asks.target.target.beh at.asks.action t e =
      turns.moved n at.asks.place at.asks.target.target.beh at.asks.action at.is t e (subst (λ (sys : Sys). TStep sys s.here.t s.here.e n t e) means.system step) in
      let sys = known.situation.parts.system in
      let less : t < product_of (target_sizes (machines said.targets)) =
      subst (λ m. t < m) (ap (λ (sys : Sys). sys.target.states) means.system) (move_in_range (system_of s.parts).env (system_of s.parts).target s.here.t s.here.e n t sys.target step.1).3 in
      record {
        t = move.to;
        step = move.step;
        parts = ap (λ (s : State). s.parts) becomes;
        phase = ap (λ (s : State). s.phase) becomes;
        couple = ap (couple_now said) becomes ∙ ap (λ (ts : List ℕ). record { ts = ts; e = e; bs = bs; e2 = e }) move.states;
        says = says ∙ ap (λ (name : List ℕ). reply_text (reply.Now name env)) (state_name t less ∙ ap (λ (ts : List ℕ). joined (names_at said.targets ts)) move.states);
      }

  tells_target : (event : Result LineShape LineError) (text : List ℕ) (new : State) → TurnsInto here event text new → TellsTarget said here event text new
  tells_target (Ok (request action)) text new turn =
      let great = means.great s.here known.situation.here in
      needs_same turn (λ (n, named, asks). (n, named)) (λ (n, named) rest.
      let at = request_there n (slice_get_within s.parts.environment.actions n action named) in
      let may = (same n at).0 in (
        (n, named, at.asks),
        needs_same rest (λ idle. idle) (λ idle rest. (
          idle,
          needs_same rest great.1 (λ related rest. (
            great.0 related,
            needs_same rest may.1 (λ allowed rest.
                (may.0 allowed, (offers_all n at text rest.0, rest.1))),
          )),
        )),
      ))
  tells_target (Ok (delegate service)) text new turn =
      needs_same turn (λ place. place) (λ (k, there) rest. (
        (k, there),
        needs_same rest (λ (n, requested, asks). (n, requested)) (λ (n, requested) rest.
            let at = request_open n (subst (IsOpenGreat here) requested (open_great s known.situation)).1 in
            let served = (same n at).1 k in
            ((n, requested, at.asks), needs_same rest served.1 (λ one rest. (served.0 one, rest)))),
      ))
  tells_target (Ok (observe state env)) text new turn =
      needs_same turn (λ (n, k, delegated, asks). (n, k, delegated)) (λ (n, k, delegated) rest.
      let (great, allowed, served) = subst (IsOpenGreat here) delegated (open_great s known.situation) in
      let at = request_open n allowed in (
        (n, k, delegated, at.asks),
        needs_same rest (λ place. place) (λ (b, there) rest. (
          (b, there),
          needs_same rest (λ place. place) (λ (e, named) rest.
              let step_is = (same n at).2 k (slice_set s.here.bs k b) e in (
                (e, named),
                needs_same rest step_is.1 (λ possible (t, step, (says, becomes)).
                    (step_is.0 possible, moves_one n at t e (slice_set s.here.bs k b) env text new step says becomes)),
              )),
        )),
      ))
  tells_target _ text new turn = tt

-- each step of a session of the library is a turn of all targets
pub steps_tell : (said : PlainTargets) (library : PlainLibrary) → CombinesTargets said library → StepsTell library (IsTurnOfTargets said)
steps_tell said library combines s mid line text from known onward next turn = record {
  before = means_targets said library s combines from known;
  after = means_targets said library mid combines onward next;
  tells = tells_target said library s combines from known _ text (shown mid) turn;
}
