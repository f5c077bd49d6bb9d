use Rattle.roman_parts.proofs.target.Target.known.Goals as goal

pub returns-clause-known : goal.returns-clause-known
returns-clause-known c = rw (← c.self.view_is) c.known.ensures
