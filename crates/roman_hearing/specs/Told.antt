-- The replies of a session line by line, from a situation on.
use Rattle.std.specs.Prelude.{◌≡◌, ℕ, List, [], ◌∷◌, ◌++◌, if◌then◌else◌}
use Rattle.roman_text.specs.Shapes.{shape_of}
use Rattle.roman_session.specs.Situations.{Situation}
use Rattle.roman_session.specs.Steps.{Step, is_quit}

-- the lines up to the first that ends the session
abbrev pub until_quit : List (List ℕ) → List (List ℕ)
until_quit [] = []
until_quit (line ∷ lines) = if is_quit (shape_of line) then line ∷ [] else line ∷ until_quit lines

-- the replies to all of the lines, joined, with one step for each line
abbrev pub Answers : Situation → List (List ℕ) → List ℕ → Situation → Type 0
Answers old [] out new = (out ≡ []) × (new ≡ old)
Answers old (line ∷ lines) out new =
    (text more : List ℕ) × (mid : Situation) × (out ≡ text ++ more) × Step old line text mid × Answers mid lines more new

-- the replies to the lines of a session, up to the first `quit`
abbrev pub Told : Situation → List (List ℕ) → List ℕ → Situation → Type 0
Told old lines out new = Answers old (until_quit lines) out new
