-- Steps of a session change only the services.
use Rattle.roman_hearing.proofs.Common.{Answers, AreNamed, Err, LineError, LineShape, List, Needs, Ok, Result, Situation, State, Step, TurnsInto, Unless, [], abort, arith, delegate, die, explain, freeze, inl, inr, join, jump, jump_env, nothing, observe, quit, refl, report, request, shape_of, shown, subst, sym, thaw, ℕ, ◌∷◌, ◌≡◌}

-- all parts but the services stay the same
abbrev pub Keeps : Situation → Situation → Type 0
Keeps old new = new.parts ≡ record old.parts { seats = new.parts.seats }

-- equal situations have the same parts
keeps_by : (old new other : Situation) → new ≡ other → Keeps old other → Keeps old new
keeps_by old new other same keeps = subst (Keeps old) (sym same) keeps

-- a consequence of both cases of `Needs`
pub needs_elim : {H R P : Type 0} {T : H → Type 0} → (R → P) → ((h : H) → T h → P) → Needs H R T → P
needs_elim f g (inl (h, then)) = g h then
needs_elim f g (inr (never, refused)) = f refused

pub unless_elim : {H R P T : Type 0} → (R → P) → ((H → ⊥) → T → P) → Unless H R T → P
unless_elim f g (inl (holds, refused)) = f refused
unless_elim f g (inr (never, then)) = g never then

module _ (s new : State) (text : List ℕ) where
  -- a turn to a state with the same parts keeps the parts
  leads : (next : State) → next.parts ≡ record s.parts { seats = next.parts.seats } → new ≡ next → new.parts ≡ record s.parts { seats = new.parts.seats }
  leads next keeps same = subst (λ (t : State). t.parts ≡ record s.parts { seats = t.parts.seats }) (sym same) keeps

  -- a refusal keeps the parts
  stays : {Said : Type 0} → Said × (new ≡ s) → new.parts ≡ record s.parts { seats = new.parts.seats }
  stays (says, same) = leads s refl same

  -- every turn keeps all parts but the services
  turn_keeps : (event : Result LineShape LineError) → TurnsInto s event text new → new.parts ≡ record s.parts { seats = new.parts.seats }
  turn_keeps (Err why) turn = stays turn
  turn_keeps (Ok nothing) (says, same) = leads s refl same
  turn_keeps (Ok (request action)) turn =
      needs_elim stays (λ (a, at). needs_elim stays (λ idle. needs_elim stays (λ great. needs_elim stays (λ may (says, same). leads _ refl same)))) turn
  turn_keeps (Ok (delegate service)) turn = needs_elim stays (λ (k, at). needs_elim stays (λ (a, requested). needs_elim stays (λ serves (says, same). leads _ refl same))) turn
  turn_keeps (Ok (observe state env)) turn =
      needs_elim stays (λ (a, k, delegated). needs_elim stays (λ (b, at). needs_elim stays (λ (e, named). needs_elim stays (λ possible (t, target, (says, same)). leads _ refl same)))) turn
  turn_keeps (Ok abort) turn = unless_elim stays (λ busy (says, same). leads _ refl same) turn
  turn_keeps (Ok (freeze service)) turn = needs_elim stays (λ (k, at). needs_elim stays (λ idle. needs_elim stays (λ ready (says, same). leads _ refl same))) turn
  turn_keeps (Ok (thaw service)) turn = needs_elim stays (λ (k, at). needs_elim stays (λ idle. unless_elim stays (λ frozen (says, same). leads _ refl same))) turn
  turn_keeps (Ok (die service)) turn = needs_elim stays (λ (k, at). needs_elim stays (λ idle (says, same). leads _ refl same)) turn
  turn_keeps (Ok (join service behaviour state loose)) turn =
      needs_elim stays (λ good. needs_elim stays (λ (i, at). needs_elim stays (λ (b, named). needs_elim stays (λ idle.
      unless_elim stays (λ free. needs_elim stays (λ few. needs_elim stays (λ fits (says, same). leads _ refl same))))))) turn
  turn_keeps (Ok (jump service state)) turn = needs_elim stays (λ (k, at). needs_elim stays (λ (b, named). needs_elim stays (λ idle (says, same). leads _ refl same))) turn
  turn_keeps (Ok (jump_env env)) turn = needs_elim stays (λ (e, named). needs_elim stays (λ idle (says, same). leads _ refl same)) turn
  turn_keeps (Ok report) (says, same) = leads s refl same
  turn_keeps (Ok explain) turn = unless_elim stays (λ lost (says, same). leads s refl same) turn
  turn_keeps (Ok quit) (says, same) = leads s refl same

-- every line keeps all parts but the services
pub line_keeps : (old new : Situation) (line text : List ℕ) → Step old line text new → Keeps old new
unfolding Step
line_keeps old new line text step = turn_keeps (shown old) (shown new) text (shape_of line) step.0

-- every list of lines keeps all parts but the services
pub answers_keep : (old new : Situation) (ls : List (List ℕ)) (text : List ℕ) → Answers old ls text new → Keeps old new
answers_keep old new [] text (none, same) = keeps_by old new old same refl
answers_keep old new (line ∷ ls) text (said, more, mid, split, step, answers) = grind (arith, line_keeps, (answers_keep mid new ls more answers))

-- the behaviours and the names of the environment stay well formed
pub named_stay : (old new : Situation) → Keeps old new → AreNamed old.parts → AreNamed new.parts
named_stay old new keeps named = subst AreNamed (sym keeps) (record { behaviours = named.behaviours; environment = named.environment })
