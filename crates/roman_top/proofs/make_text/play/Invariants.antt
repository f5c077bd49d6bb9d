use Rattle.roman_top.proofs.Common.{◌-◌, take, drop, script_lines, HasComeTo}
use Rattle.roman_top.proofs.make_text.play.Given as goal

-- the lines so far were answered
abbrev pub invariant-loop-i : goal.invariant-loop-i
invariant-loop-i g l = HasComeTo l.fn.session (take (l.i - l.from) (drop l.from script_lines)) l.session
