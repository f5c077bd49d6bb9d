use Rattle.std.proofs.Common.{◌≡◌, ℕ, ◌++◌, List, Bool, true, false, cond, take, sym, ◌∙◌}
use Rattle.std.proofs.lemmas.List.{append-nil}
use Rattle.roman_io.proofs.copying.append_half.Goals as goal

-- the appended bytes, or none, are a prefix of the piece
prefix_or_none : (grew : Bool) (n : ℕ) (old piece new : List ℕ) → new ≡ cond grew (old ++ take n piece) old → (x : ℕ) × (new ≡ old ++ take x piece)
prefix_or_none true n old piece new e = (n, e)
prefix_or_none false n old piece new e = (0, e ∙ sym (append-nil old))

pub returns-clause-prefix : goal.returns-clause-prefix
returns-clause-prefix c = prefix_or_none _ _ c.args.written.now.items c.args.piece.now _ c.extend_from_slice.ensures.items
