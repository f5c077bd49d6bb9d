use Rattle.roman_relation.proofs.Common.{◌∙◌, arith}
use Rattle.roman_relation.proofs.Lanes.{words_rows}
use Rattle.roman_relation.proofs.Pushing.{are_lost}
use Rattle.roman_relation.proofs.rounds.judging.judge_on.Goals as goal

pub push_lost-requires-clause-lost : goal.push_lost-requires-clause-lost
push_lost-requires-clause-lost g c =
    let (y, first) = c.requires.first in
    let (gone, kept) = c.requires.kept in
    let keeps = c.unserved_band.ensures.lost y gone (rw first at c.requires.row) (rw c.before-2.ensures.value kept) in (
      gone,
      are_lost _ gone _ _ _ _ _ c.words.result.now c.copy_rows.new.to _ c.known.ensures.lanes.1 (words_rows _ c.known.ensures.numbered _ _ _ c.requires.shaped c.words.ensures.alive)
          (omega (arith, c.requires.band, c.words.ensures.long)) (c.copy_rows.ensures.long ∙ c.requires.left) (λ i h. c.copy_rows.ensures.each i (omega (arith, c.requires.left, h))) (rw first keeps),
    )

pub returns-clause-adds : goal.returns-clause-adds
returns-clause-adds g c gone kept =
    let (y, first) = c.requires.first in
    let keeps = c.unserved_band.ensures.lost y gone (rw first at c.requires.row) (rw c.before-2.ensures.value kept) in
    c.push_lost.ensures.adds gone (are_lost _ gone _ _ _ _ _ c.words.result.now c.copy_rows.new.to _ c.known.ensures.lanes.1 (words_rows _ c.known.ensures.numbered _ _ _ c.requires.shaped c.words.ensures.alive)
    (omega (arith, c.requires.band, c.words.ensures.long)) (c.copy_rows.ensures.long ∙ c.requires.left) (λ i h. c.copy_rows.ensures.each i (omega (arith, c.requires.left, h))) (rw first keeps))
