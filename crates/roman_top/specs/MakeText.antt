-- The summary of a made system: the figures of its session at the start, and after the lines of the script.
use Rattle.std.specs.Prelude.{◌≡◌, ℕ, Bool, List, [], ◌∷◌, ◌++◌, length, take, drop, if◌then◌else◌, codes, decimal}
use Rattle.roman_model.specs.SystemArena.{pairs}
use Rattle.roman_model.specs.Offers.{is_related, related_count}
use Rattle.roman_make.specs.Made.{made}
use Rattle.roman_make.specs.Script.{script_lines}
use Rattle.roman_session.specs.Situations.{Situation, present_system}
use Rattle.roman_session.specs.Starts.{IsStart}
use Rattle.roman_hearing.specs.Known.{IsKnownSituation}
use Rattle.roman_hearing.specs.Told.{Answers}

-- `WORD pairs P related R composition`, or `none` in place of `composition`
abbrev pub stage_line : List ℕ → ℕ → ℕ → Bool → List ℕ
stage_line word pairs related composes =
    word ++ codes " pairs " ++ decimal pairs ++ codes " related " ++ decimal related ++ (if composes then codes " composition\n" else codes " none\n")

-- the line that gives the figures of a session
abbrev pub standing : List ℕ → Situation → List ℕ
standing word s = stage_line word (length (pairs (present_system s))) (related_count (present_system s)) (is_related (present_system s) s.here)

-- the stages of the script, each with the lines that lead to it from the stage before
abbrev pub stages : List (List ℕ × List (List ℕ))
stages =
    (codes "start", [])
    ∷ (codes "freeze", take 1 script_lines)
    ∷ (codes "thaw", take 1 (drop 1 script_lines))
    ∷ (codes "die", take 1 (drop 2 script_lines))
    ∷ (codes "join", take 1 (drop 3 script_lines))
    ∷ (codes "round", take 9 (drop 4 script_lines))
    ∷ []

-- a session goes from stage to stage, and after the lines of each stage a line gives its figures
abbrev pub Passes : Situation → List (List ℕ × List (List ℕ)) → List ℕ → Type 0
Passes s [] out = out ≡ codes "end\n"
Passes s (stage ∷ more) out =
    (replies rest : List ℕ) × (next : Situation) × Answers s stage.1 replies next × Passes next more rest × (out ≡ standing stage.0 next ++ rest)

-- the first line of the summary
abbrev pub made_line : ℕ → List ℕ
made_line n = codes "made " ++ decimal n ++ codes "\n"

-- the summary of the system of n workers, from a well-formed starting situation
pub record MakesSummary (n : ℕ) (out : List ℕ) : Type 0 where
  pub start : Situation
  pub begins : IsStart (made n) start
  pub known : IsKnownSituation start
  pub rest : List ℕ
  pub passes : Passes start stages rest
  pub whole : out ≡ made_line n ++ rest
