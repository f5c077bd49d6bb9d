use Rattle.roman_relation.proofs.Common.{◌∙◌, arith, rules, inl, inr, is_listed, not-true, not-false}
use Rattle.roman_relation.proofs.Lanes.{words_rows}
use Rattle.roman_relation.proofs.Pushing.{are_lost}
use Rattle.roman_relation.proofs.rounds.unfine.list_unfine_band.Goals as goal

pub push_lost-requires-clause-lost : goal.push_lost-requires-clause-lost
push_lost-requires-clause-lost g c =
    let gone = is_listed (g.J.Rules.arena c.args.joint.now) c.args.order.now.list in
    let keeps = c.unfine_band.ensures.unfine c.args.y c.first_row-row.ensures in (
      gone,
      are_lost _ gone _ _ _ _ _ c.words.result.now c.copy_rows.new.to _ c.known.ensures.lanes.1 (words_rows _ c.known.ensures.numbered _ _ _ c.requires.shaped c.words.ensures.alive)
          (omega (arith, c.requires.band, c.words.ensures.long, c.band_start-x.ensures)) (c.copy_rows.ensures.long ∙ c.requires.left) (λ i h. c.copy_rows.ensures.each i (omega (arith, c.requires.left, h))) (rw c.band_start-x.ensures keeps),
    )

pub returns : goal.returns
returns g c =
    let A = g.J.Rules.arena c.args.joint.now in
    let gone = is_listed A c.args.order.now.list in
    let keeps = c.unfine_band.ensures.unfine c.args.y c.first_row-row.ensures in
    let added = c.push_lost.ensures.adds _ (are_lost _ gone _ _ _ _ _ c.words.result.now c.copy_rows.new.to _ c.known.ensures.lanes.1 (words_rows _ c.known.ensures.numbered _ _ _ c.requires.shaped c.words.ensures.alive)
    (omega (arith, c.requires.band, c.words.ensures.long, c.band_start-x.ensures)) (c.copy_rows.ensures.long ∙ c.requires.left) (λ i h. c.copy_rows.ensures.each i (omega (arith, c.requires.left, h))) (rw c.band_start-x.ensures keeps)) in
    let adds = rw c.band_start-x.ensures at added in
    record {
      goes_on = record { valid = adds.adds.valid (λ p t. t) c.requires.valid; begins = adds.adds.begins; rest = search rules };
      long = c.unfine_band.ensures.long ∙ c.copy_rows.ensures.long;
      fine = λ i lane h l off. not-false (A.fine _) (adds.left i lane h l off);
      because = λ p t. elim (adds.adds.because p t) [ inl old ↦ inl old | inr (here, low, high) ↦ inr (not-true (A.fine p) here) ];
    }
