-- Stretches of a session without a change: a user who takes offers stays at related pairs.
use Rattle.std.specs.Prelude.{◌≡◌, ℕ, ◌<◌, List, ◌++◌, length, Result, Ok, IsTrue}
use Rattle.roman_model.specs.Lists.{IsIn}
use Rattle.roman_model.specs.System.{is_final, all_final}
use Rattle.roman_text.specs.Shapes.{LineShape, request, freeze, thaw, die, join, jump, jump_env}
use Rattle.roman_text.specs.declared.errors.LineError.{LineError}
use Rattle.roman_text.specs.declared.replies.Reply.TheVariants as reply
use Rattle.roman_joint.specs.NamedSys.{system_of}
use Rattle.roman_library.specs.Library.{PlainLibrary}
use Rattle.roman_session.specs.States.{State, IsGreat, MayRequest, ServesHere}
use Rattle.roman_session.specs.Words.{Replies}
use Rattle.roman_top.specs.HeadlineTurns.{Turn, AreTurns, after_turns}

-- the event changes the services, or moves a state by itself
abbrev pub IsChange : Result LineShape LineError → Type 0
IsChange (Ok (freeze service)) = Unit {0}
IsChange (Ok (thaw service)) = Unit {0}
IsChange (Ok (die service)) = Unit {0}
IsChange (Ok (join service behaviour state loose)) = Unit {0}
IsChange (Ok (jump service state)) = Unit {0}
IsChange (Ok (jump_env env)) = Unit {0}
IsChange _ = ⊥

-- the event of the turn isn't a change, or the change was refused
abbrev pub IsCalm : Turn → Type 0
IsCalm x = IsChange x.event → x.after ≡ x.before

-- the current pair is related; if the target is final, so is each service that rests; and some service serves each action that may be requested
pub record IsServed (s : State) : Type 0 where
  pub great : IsGreat s
  pub final : IsTrue (is_final s.parts.target.beh s.here.t) → IsTrue (all_final (system_of s.parts).seats s.here.bs)
  pub served : (a : ℕ) → MayRequest s a → (k : ℕ) × (k < length s.parts.seats) × ServesHere s a k

-- both states of the turn are served, and a request isn't answered by `no composition`
pub record StaysServed (x : Turn) : Type 0 where
  pub before : IsServed x.before
  pub after : IsServed x.after
  pub composed : (action : List ℕ) → x.event ≡ Ok (request action) → Replies reply.NoComposition x.text → ⊥

-- if the pair is related when a stretch of calm turns begins, after any turns, it is related before and after each turn of the stretch
abbrev pub CalmStretchesStay : Type 0
CalmStretchesStay =
    (library : PlainLibrary) (s : State) (lines : List (List ℕ)) (front stretch rest : List Turn) →
    AreTurns library s lines (front ++ (stretch ++ rest)) → IsGreat (after_turns s front) → ((x : Turn) → IsIn x stretch → IsCalm x) →
    (x : Turn) → IsIn x stretch → StaysServed x
