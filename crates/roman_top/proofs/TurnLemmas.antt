-- Each answered line has its turn.
use Rattle.roman_top.proofs.Common.{◌≡◌, ℕ, List, [], ◌∷◌, ◌++◌, Result, Ok, inl, inr, IsTrue, refl, sym, ap, ◌∙◌, subst, arith, false≢true, both_ways, cond-true, cond-false, flat_map, IsIn, by_test, NamedSys, PlainLibrary, Situation, IsStart, Step, is_quit, LineShape, shape_of, quit, LineError, parts_of, until_quit, Answers, shown, IsKnownSituation, State, start_state, IsState, LinesAreRead, TurnsInto, open_great, steps_known, steps_turns, line_keeps, Turn, AreTurns, after_turns}

-- all parts but the services are those of the library
abbrev pub IsFrom : PlainLibrary → Situation → Type 0
IsFrom library s = s.parts ≡ record (parts_of library) { seats = s.parts.seats }

-- the state of a well-formed situation is well formed
pub state_known : (library : PlainLibrary) (s : Situation) → IsFrom library s → IsKnownSituation s → IsState library (shown s)
state_known library s from known = grind (arith, open_great)

-- the state of a starting situation
pub start_seen : (library : PlainLibrary) (s : Situation) → IsStart library s → shown s ≡ start_state library
start_seen library s start = grind arith

pub start_from : (library : PlainLibrary) (s : Situation) → IsStart library s → IsFrom library s
start_from library s start = subst (λ (n : NamedSys). n ≡ record (parts_of library) { seats = n.seats }) (sym start.parts) refl

-- a line `quit` ends a session
quit_is : (r : Result LineShape LineError) → IsTrue (is_quit r) → r ≡ Ok quit
quit_is (Ok quit) h = refl
quit_is _ h = absurd (false≢true h)

-- the turn of a step
abbrev pub turn_of : Situation → List ℕ → List ℕ → Situation → Turn
turn_of s line text now = record { before = shown s; line = line; event = shape_of line; text = text; after = shown now }

-- each step of a session of the library is a turn with the property P
abbrev pub StepsTell : PlainLibrary → (Turn → Type 0) → Type 0
StepsTell library P = (s mid : Situation) (line said : List ℕ) → IsFrom library s → IsKnownSituation s → IsFrom library mid → IsKnownSituation mid → TurnsInto (shown s) (shape_of line) said (shown mid) →
    P (turn_of s line said mid)

-- the turns of the answered lines, which all have the property P, and the state to which they lead
pub record HasTurns (P : Turn → Type 0) (library : PlainLibrary) (s : State) (now : Situation) (ls : List (List ℕ)) (text : List ℕ) : Type 0 where
  pub turns : List Turn
  pub are : AreTurns library s ls turns
  pub each : (x : Turn) → IsIn x turns → P x
  pub texts : flat_map (λ x. x.text) turns ≡ text
  pub ends : after_turns s turns ≡ shown now
  pub from : IsFrom library now
  pub known : IsKnownSituation now

pub turns_of : (P : Turn → Type 0) (library : PlainLibrary) (s now : Situation) (ls : List (List ℕ)) (text : List ℕ) → LinesAreRead → StepsTell library P → IsFrom library s → IsKnownSituation s → Answers s (until_quit ls) text now → HasTurns P library (shown s) now ls text
turns_of P library s now [] text read tell from known (none, same) = record {
  turns = [];
  each = λ x i. absurd i;
  are = state_known library s from known;
  texts = sym none;
  ends = ap shown (sym same);
  from = subst (IsFrom library) (sym same) from;
  known = subst IsKnownSituation (sym same) known;
}
turns_of P library s now (line ∷ ls) text read tell from known told = by_test (is_quit (shape_of line))
    (λ quits.
    let (said, more, mid, split, step, (none, same)) = subst (λ (ls : List (List ℕ)). Answers s ls text now) (cond-true (is_quit (shape_of line)) (line ∷ []) (line ∷ until_quit ls) quits) told in
    let (onward, next) = goes_on s mid line said from known step in
    let turn = steps_turns s mid line said step in
    record {
      turns = turn_of s line said mid ∷ [];
      are = (state_known library s from known, refl, refl, read line, turn, inl (quit_is (shape_of line) quits, state_known library mid onward next, refl));
      each = λ x i. elim i [ inl e ↦ subst P (sym e) (tell s mid line said from known onward next turn) | inr none ↦ absurd none ];
      texts = ap (λ (more : List ℕ). said ++ more) (sym none) ∙ sym split;
      ends = ap shown (sym same);
      from = subst (IsFrom library) (sym same) onward;
      known = subst IsKnownSituation (sym same) next;
    })
    (λ goes.
    let (said, more, mid, split, step, rest) = subst (λ (ls : List (List ℕ)). Answers s ls text now) (cond-false (is_quit (shape_of line)) (line ∷ []) (line ∷ until_quit ls) goes) told in
    let (onward, next) = goes_on s mid line said from known step in
    let turn = steps_turns s mid line said step in
    let others = turns_of P library mid now ls more read tell onward next rest in
    record {
      turns = turn_of s line said mid ∷ others.turns;
      are = (state_known library s from known, refl, refl, read line, turn, inr (λ e. both_ways (is_quit (shape_of line)) goes (ap is_quit e), others.are));
      each = λ x i. elim i [ inl e ↦ subst P (sym e) (tell s mid line said from known onward next turn) | inr j ↦ others.each x j ];
      texts = ap (λ (more : List ℕ). said ++ more) others.texts ∙ sym split;
      ends = others.ends;
      from = others.from;
      known = others.known;
    })
  where
    goes_on : (s mid : Situation) (line said : List ℕ) → IsFrom library s → IsKnownSituation s → Step s line said mid → IsFrom library mid × IsKnownSituation mid
    goes_on s mid line said from known step =
        (line_keeps s mid line said step ∙ ap (λ (n : NamedSys). record n { seats = mid.parts.seats }) from, steps_known s mid line said known step)
