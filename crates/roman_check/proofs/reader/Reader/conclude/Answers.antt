use Rattle.roman_check.proofs.EndLemmas.{ended_early, ended_greatest}
use Rattle.roman_check.proofs.reader.Reader.conclude.Goals as goal

pub returns-in-Nothing : goal.returns-in-Nothing
returns-in-Nothing c A ok bytes has short = ended_greatest A ok c.args.start bytes c.args.self.now c.is_left.result has short c.in-Nothing.is (c.is_left.ensures A)

pub returns-in_default : goal.returns-in_default
returns-in_default c A ok bytes has short = ended_early A c.args.start bytes c.args.self.now has short c.in_default.not-Nothing
