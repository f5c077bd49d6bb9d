use Rattle.roman_repair.proofs.Common.{◌∙◌, on_zero}
use Rattle.roman_repair.proofs.band_probe.probe_row_alone.Goals as goal

pub returns-in-Final-clause-served : goal.returns-in-Final-clause-served
returns-in-Final-clause-served g c gone words lane l = rw c.in-Final.is (on_zero lane)

pub returns-in-Act-clause-served : goal.returns-in-Act-clause-served
returns-in-Act-clause-served g c gone words lane l = rw c.in-Act.is ((c.good.ensures c.args.batch.row gone c.row-row.ensures words).each lane l)
