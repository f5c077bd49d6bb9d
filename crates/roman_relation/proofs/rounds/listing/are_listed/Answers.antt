use Rattle.roman_relation.proofs.Common.{◌≡◌, ℕ, ◌+◌, ◌-◌, ◌<◌, ◌≤◌, List, length, take, slice_index, arith, drop, get_or-take, length-take-le, get_or-drop, length-drop}
use Rattle.roman_relation.proofs.Lanes.{all_listed}
use Rattle.roman_relation.proofs.rounds.listing.are_listed.Goals as goal

-- if a part of the words is clear, its words are 0
none_in : (words : List ℕ) (x m i : ℕ) → x + m ≤ length words → i < m → ((j : ℕ) → j < length (take (x + m - x) (drop x words)) → slice_index (take (x + m - x) (drop x words)) j ≡ 0) → slice_index words (x + i) ≡ 0
none_in words x m i inside h clear = grind (arith, get_or-take, get_or-drop, length-drop, length-take-le, (clear i))

pub returns : goal.returns
returns g c all i lane h l =
    let word = none_in c.words-words.result.now c.args.x c.band.result i (omega (arith, c.requires.band, c.band.ensures.value, c.words-words.ensures.long)) (omega (arith, h, c.band.ensures.value)) (c.are_clear.ensures all) in
    all_listed _ c.known.ensures.numbered _ _ lane _ _ c.requires.shaped c.words-words.ensures.long (omega (arith, c.requires.band, h)) c.words-words.ensures.alive word l
