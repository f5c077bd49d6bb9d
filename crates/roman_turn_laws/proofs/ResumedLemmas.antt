-- Sessions continue in a document that begins in the present states.
use Rattle.roman_turn_laws.proofs.Common.{◌≡◌, ℕ, List, [], ◌∷◌, map, refl, sym, ap, ◌∙◌, subst, inl, inr, Result, Ok, Err, LineShape, nothing, request, delegate, observe, abort, freeze, thaw, die, join, jump, jump_env, report, explain, quit, LineError, Reply, AllZip, NamedSys, system_of, Seat, PlainLibrary, parts_of, state_of_service, Phase, Idle, services_again, OffersServing, Turn, AreTurns, State, start_state, IsState, afresh, services_in, ComesTo, TurnsInto, Refuses, Needs, Unless, state_at, starting_at, IsSameTurn, TurnsAreAlike, SessionsResume, TakesUp, OpenIsTakenUp}
use Rattle.roman_turn_laws.proofs.StartLemmas.{pair_at, step_at, step_back, great_at, great_back, here_at, here_back, offers_at, lost_count_at, reports_at, refutes_at}

needs_at : (H H' R R' : Type 0) (T : H → Type 0) (T' : H' → Type 0) (to : H → H') → (H' → H) → (R → R') → ((h : H) → T h → T' (to h)) → Needs H R T → Needs H' R' T'
needs_at H H' R R' T T' to from refused go (inl (h, t)) = inl (to h, go h t)
needs_at H H' R R' T T' to from refused go (inr (none, r)) = inr (λ h. none (from h), refused r)

-- a turn with the same condition
needs_on : (H R R' : Type 0) (T T' : H → Type 0) → (R → R') → ((h : H) → T h → T' h) → Needs H R T → Needs H R' T'
needs_on H R R' T T' refused go n = needs_at H H R R' T T' (λ h. h) (λ h. h) refused go n

unless_at : (H H' R R' T T' : Type 0) → (H → H') → (H' → H) → (R → R') → (T → T') → Unless H R T → Unless H' R' T'
unless_at H H' R R' T T' to from refused go (inl (h, r)) = inl (to h, refused r)
unless_at H H' R R' T T' to from refused go (inr (none, t)) = inr (λ h. none (from h), go t)

unless_on : (H R R' T T' : Type 0) → (R → R') → (T → T') → Unless H R T → Unless H R' T'
unless_on H R R' T T' refused go u = unless_at H H R R' T T' (λ h. h) (λ h. h) refused go u

module _ (e0 t0 : ℕ) (s : State) (R R' : Reply → Type 0) (L L' : State → (List ℕ → Type 0) → Type 0) (refused : (r : Reply) → R r → R' r)
    (leads : (next : State) (Says Also : List ℕ → Type 0) → ((text : List ℕ) → Says text → Also text) → L next Says → L' (state_at e0 t0 next) Also) where
  comes_at : (event : Result LineShape LineError) → ComesTo s event R L → ComesTo (state_at e0 t0 s) event R' L'
  comes_at (Err why) c = refused _ c
  comes_at (Ok nothing) c = leads _ _ _ (λ text says. says) c
  comes_at (Ok (request action)) c =
      needs_on _ _ _ _ _ (refused _) (λ (a, there) c.
      needs_on _ _ _ _ _ (refused _) (λ idle c.
      needs_at _ _ _ _ _ _ (great_at e0 t0 (system_of s.parts) _) (great_back e0 t0 (system_of s.parts) _) (refused _) (λ great c.
      needs_on _ _ _ _ _ (refused _) (λ may c. leads _ _ _ (λ text says. offers_at e0 t0 s a text says) c) c) c) c) c
  comes_at (Ok (delegate service)) c =
      needs_on _ _ _ _ _ (refused _) (λ (k, there) c.
      needs_on _ _ _ _ _ (refused _) (λ (a, requested) c.
      needs_at _ _ _ _ _ _ (here_at e0 t0 s a k) (here_back e0 t0 s a k) (refused _) (λ serves c. leads _ _ _ (λ text says. says) c) c) c) c
  comes_at (Ok (observe state env)) c =
      needs_on _ _ _ _ _ (refused _) (λ (a, k, delegated) c.
      needs_on _ _ _ _ _ (refused _) (λ (b, there) c.
      needs_on _ _ _ _ _ (refused _) (λ (e, named) c.
      needs_at _ _ _ _ _ _ (step_at e0 t0 (system_of s.parts) _ _ _ _ _ _) (step_back e0 t0 (system_of s.parts) _ _ _ _ _ _) (refused _) (λ possible (t, goes, c). (t, goes, leads _ _ _ (λ text says. says) c)) c) c) c) c
  comes_at (Ok abort) c = unless_on _ _ _ _ _ (refused _) (leads _ _ _ (λ text says. says)) c
  comes_at (Ok (freeze service)) c =
      needs_on _ _ _ _ _ (refused _) (λ (k, there) c.
      needs_on _ _ _ _ _ (refused _) (λ idle c.
      needs_on _ _ _ _ _ (refused _) (λ ready c. leads _ _ _ (lost_count_at e0 t0 _) c) c) c) c
  comes_at (Ok (thaw service)) c =
      needs_on _ _ _ _ _ (refused _) (λ (k, there) c.
      needs_on _ _ _ _ _ (refused _) (λ idle c.
      unless_on _ _ _ _ _ (refused _) (leads _ _ _ (lost_count_at e0 t0 _)) c) c) c
  comes_at (Ok (die service)) c =
      needs_on _ _ _ _ _ (refused _) (λ (k, there) c.
      needs_on _ _ _ _ _ (refused _) (λ idle c. leads _ _ _ (lost_count_at e0 t0 _) c) c) c
  comes_at (Ok (join service behaviour state loose)) c =
      needs_on _ _ _ _ _ (refused _) (λ good c.
      needs_on _ _ _ _ _ (refused _) (λ (i, there) c.
      needs_on _ _ _ _ _ (refused _) (λ (b, named) c.
      needs_on _ _ _ _ _ (refused _) (λ idle c.
      unless_on _ _ _ _ _ (refused _) (λ c.
      needs_on _ _ _ _ _ (refused _) (λ few c.
      needs_on _ _ _ _ _ (refused _) (λ fits c. leads _ _ _ (lost_count_at e0 t0 _) c) c) c) c) c) c) c) c
  comes_at (Ok (jump service state)) c =
      needs_on _ _ _ _ _ (refused _) (λ (k, there) c.
      needs_on _ _ _ _ _ (refused _) (λ (b, named) c.
      needs_on _ _ _ _ _ (refused _) (λ idle c. leads _ _ _ (λ text says. says) c) c) c) c
  comes_at (Ok (jump_env env)) c =
      needs_on _ _ _ _ _ (refused _) (λ (e, named) c.
      needs_on _ _ _ _ _ (refused _) (λ idle c. leads _ _ _ (λ text says. says) c) c) c
  comes_at (Ok report) c = leads _ _ _ (λ text (says, again). (reports_at e0 t0 s text says, again)) c
  comes_at (Ok explain) c = unless_at _ _ _ _ _ _ (great_at e0 t0 (system_of s.parts) _) (great_back e0 t0 (system_of s.parts) _) (refused _) (leads _ _ _ (refutes_at e0 t0 s)) c
  comes_at (Ok quit) c = leads _ _ _ (λ text says. says) c

-- a turn from the state with other starts
pub turn_at : (e0 t0 : ℕ) (s new : State) (event : Result LineShape LineError) (text : List ℕ) → TurnsInto s event text new → TurnsInto (state_at e0 t0 s) event text (state_at e0 t0 new)
turn_at e0 t0 s new event text turn =
    comes_at e0 t0 s (Refuses s text new) (Refuses (state_at e0 t0 s) text (state_at e0 t0 new)) (λ next Says. Says text × (new ≡ next)) (λ next Says. Says text × (state_at e0 t0 new ≡ next))
    (λ r (says, same). (says, ap (state_at e0 t0) same))
    (λ next Says Also more (says, same). (more text says, ap (state_at e0 t0) same))
    event turn

pub turns_alike : TurnsAreAlike
turns_alike one other new event text alike turn =
    let e0 = other.parts.environment.env.start in
    let t0 = other.parts.target.beh.start in
    (state_at e0 t0 new, refl, subst (λ (x : State). TurnsInto x event text (state_at e0 t0 new)) (ap (state_at e0 t0) alike) (turn_at e0 t0 one new event text turn))

-- Libraries that differ in the starting states of their parts.

-- the parts of the other library are those of the one, with these starting states, whichever services are present
abbrev IsBegun : ℕ → ℕ → PlainLibrary → PlainLibrary → Type 0
IsBegun e0 t0 one other = (seats : List Seat) → record (parts_of other) { seats = seats } ≡ starting_at e0 t0 (record (parts_of one) { seats = seats })

state_begun : (e0 t0 : ℕ) (one other : PlainLibrary) (s : State) → IsBegun e0 t0 one other → IsState one s → IsState other (state_at e0 t0 s)
state_begun e0 t0 one other s begun is = record {
  parts = ap (starting_at e0 t0) is.parts ∙ sym (begun s.parts.seats);
  names = is.names;
  here = pair_at e0 t0 (system_of s.parts) s.here is.here;
  requested = λ a e. let (great, may) = is.requested a e in (great_at e0 t0 (system_of s.parts) _ great, may);
  delegated = λ a k e. let (great, may, serves) = is.delegated a k e in (great_at e0 t0 (system_of s.parts) _ great, may, here_at e0 t0 s a k serves);
}

-- the turn between states with other starts
abbrev with_starts : ℕ → ℕ → Turn → Turn
with_starts e0 t0 x = record { before = state_at e0 t0 x.before; line = x.line; event = x.event; text = x.text; after = state_at e0 t0 x.after }

turns_begun : (e0 t0 : ℕ) (one other : PlainLibrary) → IsBegun e0 t0 one other → (s : State) (lines : List (List ℕ)) (xs : List Turn) → AreTurns one s lines xs → AreTurns other (state_at e0 t0 s) lines (map (with_starts e0 t0) xs)
turns_begun e0 t0 one other begun s [] [] is = state_begun e0 t0 one other s begun is
turns_begun e0 t0 one other begun s [] (x ∷ xs) are = absurd are
turns_begun e0 t0 one other begun s (line ∷ lines) [] are = absurd are
turns_begun e0 t0 one other begun s (line ∷ lines) (x ∷ xs) (is, before, same, reads, turn, rest) = (
  state_begun e0 t0 one other s begun is,
  ap (state_at e0 t0) before,
  same,
  reads,
  turn_at e0 t0 s x.after x.event x.text turn,
  elim rest [
    | inl (quits, last, none) ↦ inl (quits, state_begun e0 t0 one other x.after begun last, ap (map (with_starts e0 t0)) none)
    | inr (on, more) ↦ inr (on, turns_begun e0 t0 one other begun x.after lines xs more)
  ],
)

same_after : (e0 t0 : ℕ) (xs : List Turn) → AllZip IsSameTurn xs (map (with_starts e0 t0) xs)
same_after e0 t0 [] = tt
same_after e0 t0 (x ∷ xs) = (record { before = refl; line = refl; event = refl; text = refl; after = refl }, same_after e0 t0 xs)

same_before : (e0 t0 : ℕ) (ys : List Turn) → AllZip IsSameTurn (map (with_starts e0 t0) ys) ys
same_before e0 t0 [] = tt
same_before e0 t0 (y ∷ ys) = (record { before = refl; line = refl; event = refl; text = refl; after = refl }, same_before e0 t0 ys)

-- The library that begins in a state.

-- the library starts in that state
afresh_starts : (library : PlainLibrary) (s : State) → IsState library s → s.phase ≡ Idle → start_state (afresh s) ≡ state_at s.here.e s.here.t s
afresh_starts library s is idle =
    let (seats, states) = services_again s.parts.catalogue s.parts.seats s.here.bs is.here.bs in
    let Begun = λ (seats : List Seat) (bs : List ℕ) (phase : Phase). let S : State = record { parts = starting_at s.here.e s.here.t (record s.parts { seats = seats }); here = record { t = s.here.t; e = s.here.e; bs = bs }; phase = phase } in S in
    ap (λ (xs : List Seat). Begun xs (map state_of_service (services_in s.parts.seats s.here.bs)) Idle) seats
    ∙ ap (λ (bs : List ℕ). Begun s.parts.seats bs Idle) states ∙ ap (λ (phase : Phase). Begun s.parts.seats s.here.bs phase) (sym idle)

afresh_begun : (library : PlainLibrary) (s : State) → IsState library s → IsBegun s.here.e s.here.t library (afresh s)
afresh_begun library s is seats = ap (λ (n : NamedSys). starting_at s.here.e s.here.t (record n { seats = seats })) is.parts

library_begun : (library : PlainLibrary) (s : State) → IsState library s → IsBegun library.environment.env.start library.target.beh.start (afresh s) library
library_begun library s is seats = sym (ap (λ (n : NamedSys). starting_at library.environment.env.start library.target.beh.start (record n { seats = seats })) is.parts)

-- with the library's starting states the result is the state again
starts_again : (library : PlainLibrary) (s : State) → IsState library s → state_at library.environment.env.start library.target.beh.start s ≡ s
starts_again library s is = ap (λ (n : NamedSys). let S : State = record { parts = n; here = s.here; phase = s.phase } in S) (ap (starting_at library.environment.env.start library.target.beh.start) is.parts ∙ sym is.parts)

pub sessions_resume : SessionsResume
sessions_resume library s lines is idle =
    let e0 = library.environment.env.start in
    let t0 = library.target.beh.start in
    record {
      there = λ xs are. (
        map (with_starts s.here.e s.here.t) xs,
        subst (λ (x : State). AreTurns (afresh s) x lines (map (with_starts s.here.e s.here.t) xs)) (sym (afresh_starts library s is idle))
            (turns_begun s.here.e s.here.t library (afresh s) (afresh_begun library s is) s lines xs are),
        same_after s.here.e s.here.t xs,
      );
      back = λ ys are. (
        map (with_starts e0 t0) ys,
        subst (λ (x : State). AreTurns library x lines (map (with_starts e0 t0) ys)) (ap (state_at e0 t0) (afresh_starts library s is idle) ∙ starts_again library s is)
            (turns_begun e0 t0 (afresh s) library (library_begun library s is) (start_state (afresh s)) lines ys are),
        same_before e0 t0 ys,
      );
    }

-- Open requests.

open_taken : (library : PlainLibrary) (s : State) → IsState library s → TakesUp s
open_taken library s is = record {
  requested = λ a action text e there says.
      let (great, may) = is.requested a e in
      inl ((a, there), inl (refl, inl (great, inl (may, (offers_again s a text Idle says, ap (λ (phase : Phase). record s { phase = phase }) e)))));
  delegated = λ a k action service text e there named says.
      let (great, may, serves) = is.delegated a k e in (
        inl ((a, there), inl (refl, inl (great, inl (may, (offers_again s a text Idle says, refl))))),
        inl ((k, named), inl ((a, refl), inl (serves, (refl, ap (λ (phase : Phase). record s { phase = phase }) e)))),
      );
}
  where
    offers_again : (s : State) (a : ℕ) (text : List ℕ) (phase : Phase) → OffersServing s a text → OffersServing (record s { phase = phase }) a text
    offers_again s a text phase says = record {
      services = says.services;
      serving = record { order = says.serving.order; exact = says.serving.exact };
      says = says.says;
    }

-- the same state, idle
idle_is_state : (library : PlainLibrary) (s : State) → IsState library s → IsState library (record s { phase = Idle })
idle_is_state library s is = record {
  parts = is.parts;
  names = is.names;
  here = is.here;
  requested = λ a e. absurd (let f : ⊥ = cc in f);
  delegated = λ a k e. absurd (let f : ⊥ = cc in f);
}

pub open_taken_up : OpenIsTakenUp
open_taken_up library s is = (
  open_taken library s is,
  ap (state_at 0 0) (afresh_starts library (record s { phase = Idle }) (idle_is_state library s is) refl),
)
