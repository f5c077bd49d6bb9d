-- The effect of a call on its sink, for contracts at a bound `O: Sink`.
use Rattle.std.specs.Prelude.{ℕ, List, Result}
use Rattle.roman_io.specs.Faults.{HasCause}
use Rattle.roman_io.specs.Sink.{Puts}
use Rattle.roman_io.specs.declared.sink.Sink.{Ghosts as SinkView}

-- Ok appended the whole text to the sink, and an error appended a prefix of it
abbrev pub WritesTo : {X T E : Type 0} → SinkView X → X → X → List ℕ → Result T E → Type 0
WritesTo O old new text result = Puts (O.written old) (O.written new) text result

-- an error comes only from the sink: its count of faults rises at an Err, and stays the same at an Ok
abbrev pub FailsWith : {X T E : Type 0} → SinkView X → X → X → Result T E → Type 0
FailsWith O old new result = HasCause (O.faults old) (O.faults new) result
