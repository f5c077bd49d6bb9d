-- Well-formed situations: a document begins in one, and each step leads to another.
use Rattle.std.specs.Prelude.{◌≡◌, List, ℕ, length, All}
use Rattle.roman_joint.specs.NamedSys.{NamedSys}
use Rattle.roman_parts.specs.Named.{IsBehaviour}
use Rattle.roman_session.specs.Situations.{Situation, IsSituation}
use Rattle.roman_session.specs.Steps.{Step}

-- each behaviour of the catalogue is well formed over the environment, as in every library
abbrev pub AreBehaviours : NamedSys → Type 0
AreBehaviours parts = All (IsBehaviour parts.environment) parts.catalogue

-- the behaviours are well formed over the environment, and each environment state has a name
pub record AreNamed (parts : NamedSys) : Type 0 where
  pub behaviours : AreBehaviours parts
  pub environment : length parts.environment.states ≡ parts.environment.env.states

-- the situation is well formed, and so are its behaviours and the names of its environment
pub record IsKnownSituation (s : Situation) : Type 0 where
  pub situation : IsSituation s
  pub named : AreNamed s.parts

-- each step from a well-formed situation leads to a well-formed situation
abbrev pub StepsStayKnown : Type 0
StepsStayKnown = (old new : Situation) (line text : List ℕ) → IsKnownSituation old → Step old line text new → IsKnownSituation new
