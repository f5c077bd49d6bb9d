use Rattle.roman_repair.proofs.Common.{◌≡◌, ◌-◌, ◌<◌, ◌≤◌, true, is_on, IsSpread}
use Rattle.roman_repair.proofs.lanes.spread_lanes.Given as goal

-- the lanes before the next one are spread
abbrev pub invariant-lane : goal.invariant-lane
invariant-lane l = record {
  spread : IsSpread l.word l.spread l.lane l.width;
  range : l.lane ≤ l.lanes;
  on : l.lane < l.lanes → is_on l.word l.lane ≡ true;
}

-- each iteration goes to a higher lane
abbrev pub decreases-lane : goal.decreases-lane
decreases-lane l = l.lanes - l.lane
