-- The lines of the session for the made systems.
use Rattle.std.specs.Prelude.{ℕ, List, [], ◌∷◌, codes}

-- a worker freezes, thaws and dies, and a spare worker works a whole shift in its place
abbrev pub script_lines : List (List ℕ)
script_lines =
    codes "freeze w1" ∷
    codes "thaw w1" ∷
    codes "die w1" ∷
    codes "join spare worker idle" ∷
    codes "do start" ∷
    codes "use spare" ∷
    codes "saw busy floor" ∷
    codes "do stop" ∷
    codes "use spare" ∷
    codes "saw worn floor" ∷
    codes "do mend" ∷
    codes "use spare" ∷
    codes "saw idle floor" ∷
    []
