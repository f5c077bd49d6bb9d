use Rattle.std.proofs.Common.{arith}
use Rattle.roman_io.proofs.ShelfLemmas.{Gave-from_Fetches}
use Rattle.roman_io.proofs.shelf_source.ShelfSourceSource.take.Goals as goal

pub returns-clause-moves : goal.returns-clause-moves
returns-clause-moves g c =
    Gave-from_Fetches (g.F.Shelf.texts c.args.self.now.shelf.now) (g.F.Shelf.texts c.fetch.new.self) c.args.self.now.name.now c.args.self.now.at c.fetch.new.into c.in_ok-count.count c.saturating_add-self.result
    c.fetch.ensures.texts (omega arith) c.saturating_add-self.ensures c.in_ok-count.ensures.bytes
