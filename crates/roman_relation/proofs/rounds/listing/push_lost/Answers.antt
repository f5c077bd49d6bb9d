use Rattle.roman_relation.proofs.Common.{arith}
use Rattle.roman_relation.proofs.Pushing.{lost_free, nothing_lost, rows_added}
use Rattle.roman_relation.proofs.rounds.listing.push_lost.Goals as goal

pub returns-then-are_clear-clause-adds : goal.returns-then-are_clear-clause-adds
returns-then-are_clear-clause-adds g c gone are = nothing_lost _ gone _ _ _ _ _ _ are (λ i l. c.are_clear.ensures c.if-are_clear.true i (omega (arith, l, c.requires.long)))

pub push_rows-requires : goal.push_rows-requires
push_rows-requires g c =
    let (gone, are) = c.requires.lost in
    record {
      rows = omega (arith, c.requires.band, c.requires.long);
      within = λ i lane on. omega (arith, are.within i lane on, c.requires.shaped.lanes);
      alive = λ i lane on. lost_free _ c.known.ensures.numbered gone c.args.order.now _ _ _ _ _ i lane c.requires.shaped.lanes c.requires.long are on;
    }

pub returns-clause-adds : goal.returns-clause-adds
returns-clause-adds g c gone are =
    rw (c.push_rows.ensures, c.requires.shaped.lanes, c.requires.long) (rows_added _ c.known.ensures.numbered gone _ _ _ _ _ _ are (rw (c.push_rows.ensures, c.requires.shaped.lanes, c.requires.long) at c.known-2.ensures.distinct))
