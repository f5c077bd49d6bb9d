use Rattle.roman_parts.proofs.automaton.Automaton.known.Goals as goal

pub returns : goal.returns
returns c = rw (← c.self.view_is) c.self.invariant.known
