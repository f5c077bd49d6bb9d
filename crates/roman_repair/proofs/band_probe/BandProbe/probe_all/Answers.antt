use Rattle.roman_repair.proofs.band_probe.BandProbe.probe_all.Goals as goal

pub returns-then-is_some-clause-known : goal.returns-then-is_some-clause-known
returns-then-is_some-clause-known c A lanes gone known = c.nothing.ensures.known A lanes gone
