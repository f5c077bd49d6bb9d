-- How a session begins.
use Rattle.std.specs.Prelude.{◌≡◌}
use Rattle.roman_model.specs.CompleteLists.{IsComplete}
use Rattle.roman_library.specs.Library.{PlainLibrary}
use Rattle.roman_start.specs.Starts.{parts_of, start_pair_of}
use Rattle.roman_session.specs.Situations.{Situation, present_system}
use Rattle.roman_session.specs.declared.phase.Phase.TheVariants.{Idle}

-- a starting situation of the library: it has the starting states, no open request, and any complete list
pub record IsStart (library : PlainLibrary) (s : Situation) : Type 0 where
  pub parts : s.parts ≡ parts_of library
  pub here : s.here ≡ start_pair_of library
  pub phase : s.phase ≡ Idle
  pub list : IsComplete (present_system s) s.list
