use Rattle.roman_session.proofs.Common.{refl, rules}
use Rattle.roman_session.proofs.NameLemmas.{no_name_there}
use Rattle.roman_session.proofs.session.naming.place.Goals as goal

pub returns-in-None-clause-finds : goal.returns-in-None-clause-finds
returns-in-None-clause-finds c = (refl, no_name_there c.args.names.now c.args.name.now (search rules))
