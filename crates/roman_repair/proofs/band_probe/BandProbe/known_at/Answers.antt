use Rattle.roman_repair.proofs.Common.{◌≡◌, ◌+◌, ◌-◌, sym, rules}
use Rattle.roman_repair.proofs.band_probe.BandProbe.known_at.Goals as goal

pub returns-then-self-ne0 : goal.returns-then-self-ne0
returns-then-self-ne0 c A lanes gone known =
    let same : c.args.self.now.row.reason ≡ c.args.reason = search rules in
    rw (sym c.if-self-x.true, sym same) known.row

pub returns-then-i : goal.returns-then-i
returns-then-i c A lanes gone known =
    let place : c.args.x ≡ c.args.self.now.first + (c.args.x - c.args.self.now.first) = search rules in
    let same : c.args.self.now.reason ≡ c.args.reason = search rules in
    rw (← place, same) at (known.rows (c.args.x - c.args.self.now.first) (search rules))
