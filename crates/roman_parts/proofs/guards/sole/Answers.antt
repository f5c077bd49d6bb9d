-- The first of the members is the only one.
use Rattle.roman_parts.proofs.Common.{◌≡◌, length, sym, arith}
use Rattle.roman_parts.proofs.GuardLemmas.{sole_of-entry}
use Rattle.roman_parts.proofs.guards.sole.Goals as goal

pub returns : goal.returns
returns c =
    let one : length c.in_ok-members.members.now.entries ≡ 1 = omega arith in
    rw c.as_str.ensures.value (sym (sole_of-entry _ _ _ c.in_ok-members.ensures one c.in_ok-name.ensures.first))
