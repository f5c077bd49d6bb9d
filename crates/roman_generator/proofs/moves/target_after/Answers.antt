use Rattle.roman_generator.proofs.Common.{◌≡◌, ◌<◌, List, ℕ, [], ◌∷◌, MatchOption, sym, ap, ◌∙◌, subst, arith, rules, Beh, Pair, has, env_next, beh_next, from_allowed, NamedEnv, NamedTarget, system_of, IsBefore, behaves, seat_within}
use Rattle.roman_generator.proofs.MoveLemmas.{ready_seat, env_stays, seat_stays, can_move, target_goes, target_there, allowed_within, state_of_seat}
use Rattle.roman_generator.proofs.moves.target_after.Goals as goal

pub next-requires : goal.next-requires
next-requires c =
    let (p, before) = c.requires.before in
    let within = allowed_within (system_of c.args.joint.now) c.args.t c.args.e c.args.b c.args.observation p c.known.ensures.system before in
    record {
      state = subst (λ (env : NamedEnv). c.args.e < env.env.states) (sym c.environment.ensures) within.1;
      action = subst (λ (env : NamedEnv). c.args.observation.action < env.env.actions) (sym c.environment.ensures) within.2;
    }

pub behaviour-behaviour-requires : goal.behaviour-behaviour-requires
behaviour-behaviour-requires c = grind (arith, ready_seat, seat_within)

pub out-requires : goal.out-requires
out-requires c =
    let n = c.args.joint.now in
    let (p, before) = c.requires.before in
    let within = allowed_within (system_of n) c.args.t c.args.e c.args.b c.args.observation p c.known.ensures.system before in
    let of = behaves n c.args.observation.seat c.behaviour-behaviour.result.now c.known.ensures c.behaviour-behaviour.ensures in
    record {
      state = omega (arith, state_of_seat (system_of n) c.args.t c.args.e c.args.b c.args.observation p of.seat before of.seated, ap (λ (b : Beh). b.states) of.is);
      env_state = omega (arith, within.1, of.env_states);
      action = omega (arith, within.2, of.actions);
    }

pub step-requires : goal.step-requires
step-requires c =
    let (p, before) = c.requires.before in
    let within = allowed_within (system_of c.args.joint.now) c.args.t c.args.e c.args.b c.args.observation p c.known.ensures.system before in
    record {
      state = omega (arith, within.0, ap (λ (t : NamedTarget). t.beh.states) c.target.ensures);
      env_state = omega (arith, within.1, c.known.ensures.target.0, ap (λ (t : NamedTarget). t.env_states) c.target.ensures);
      action = omega (arith, within.2, c.known.ensures.target.1, ap (λ (t : NamedTarget). t.actions) c.target.ensures);
    }

pub returns-then-not-holds : goal.returns-then-not-holds
returns-then-not-holds c =
    let x = c.args.observation in
    let has_env = c.holds.ensures ∙ ap (λ (xs : List ℕ). has xs x.env) (c.next.ensures.next ∙ ap (λ (env : NamedEnv). env_next env.env c.args.e x.action) c.environment.ensures) in
    record { moves = search rules; none = λ p. env_stays (system_of c.args.joint.now) c.args.t c.args.e c.args.b x p c.known.ensures.system (sym has_env ∙ c.if-not-holds.true) }

pub returns-then-not-holds-2 : goal.returns-then-not-holds-2
returns-then-not-holds-2 c =
    let n = c.args.joint.now in
    let x = c.args.observation in
    let of = behaves n x.seat c.behaviour-behaviour.result.now c.known.ensures c.behaviour-behaviour.ensures in
    let has_state = c.holds-2.ensures ∙ ap (λ (xs : List ℕ). has xs x.state) (c.out.ensures.next ∙ ap (λ (beh : Beh). beh_next beh c.args.b c.args.e x.action) (sym of.is)) in
    record { moves = search rules; none = λ p. seat_stays (system_of n) c.args.t c.args.e c.args.b x p of.seat c.known.ensures.system of.seated (sym has_state ∙ c.if-not-holds-2.true) }

pub returns : goal.returns
returns c =
    let n = c.args.joint.now in
    let s = system_of n in
    let x = c.args.observation in
    let of = behaves n x.seat c.behaviour-behaviour.result.now c.known.ensures c.behaviour-behaviour.ensures in
    let has_env = c.holds.ensures ∙ ap (λ (xs : List ℕ). has xs x.env) (c.next.ensures.next ∙ ap (λ (env : NamedEnv). env_next env.env c.args.e x.action) c.environment.ensures) in
    let has_state = c.holds-2.ensures ∙ ap (λ (xs : List ℕ). has xs x.state) (c.out.ensures.next ∙ ap (λ (beh : Beh). beh_next beh c.args.b c.args.e x.action) (sym of.is)) in
    let next : (p : Pair) → IsBefore s c.args.t c.args.e c.args.b x p → MatchOption c.step.result (beh_next s.target p.t p.e x.action ≡ []) (λ to. beh_next s.target p.t p.e x.action ≡ to ∷ []) =
    λ p before. rw (before.target, before.env) (subst (λ (t : NamedTarget). MatchOption c.step.result (beh_next t.beh c.args.t c.args.e x.action ≡ []) (λ to. beh_next t.beh c.args.t c.args.e x.action ≡ to ∷ [])) c.target.ensures c.step.ensures.next) in
    record {
      moves = λ p before. target_goes s p x.action x.seat x.state x.env c.step.result
          (can_move s c.args.t c.args.e c.args.b x p of.seat of.seated c.requires.ready (sym has_env ∙ c.if-not-holds.false) (sym has_state ∙ c.if-not-holds-2.false) before) (next p before);
      none = λ p before. grind (arith, (target_there s p.t p.e x.action c.step.result c.known.ensures.system (from_allowed s p x.action before.allowed) (next p before)));
    }
