-- The parts of a system, and joints that differ only in their services.
use Rattle.std.specs.Prelude.{◌≡◌, ℕ}
use Rattle.roman_joint.specs.NamedSys.{NamedSys, named_parts}
use Rattle.roman_joint.specs.declared.seat.Parts.{Parts}

-- the two have the same environment, catalogue, target and limit
pub record HasSameParts (m n : NamedSys) : Type 0 where
  pub environment : m.environment ≡ n.environment
  pub catalogue : m.catalogue ≡ n.catalogue
  pub target : m.target ≡ n.target
  pub limit : m.limit ≡ n.limit

-- the parts and a limit as a system with its names
abbrev pub named_in : Parts → ℕ → NamedSys
named_in parts limit = named_parts parts.environment.now parts.catalogue.now parts.target.now parts.seats.now limit
