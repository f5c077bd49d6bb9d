use Rattle.roman_joint.proofs.Common.{HoldsSpans, SuitsEnv, system_in, shifts_room, within_in, drop, length, ◌*◌, ◌+◌, ◌-◌, ◌≡◌, ◌≤◌, low_in, low_of}
use Rattle.roman_joint.proofs.moves.Moves.fill_column.Given as goal

-- the table has the spans of the services so far
abbrev pub invariant-loop-k : goal.invariant-loop-k
invariant-loop-k l =
    let s = system_in l.parts in
    record {
      from : low_in s ≤ l.k;
      long : length l.self.spans.items ≡ l.column * within_in s + (l.k - low_in s);
      few : length l.self.moves.items + shifts_room (drop l.k l.shape.seats) ≤ l.column * 160 + shifts_room (drop (low_of l.shape.seats) l.shape.seats);
      spans : HoldsSpans s l.self.spans.items l.self.moves.items;
      suits : SuitsEnv l.parts.environment.now.env l.self;
    }
