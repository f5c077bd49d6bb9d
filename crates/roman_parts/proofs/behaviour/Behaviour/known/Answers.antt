use Rattle.roman_parts.proofs.behaviour.Behaviour.known.Goals as goal

pub returns-clause-known : goal.returns-clause-known
returns-clause-known c = rw (← c.self.view_is) c.known.ensures
