use Rattle.roman_check.proofs.Common.{◌≡◌, ◌+◌, ◌%◌, ◌<◌, ◌^◌, get_or, refl, rules, subst, arith, Clears, get_or_read}
use Rattle.roman_check.proofs.RemainLemmas.{rows_less, counted_less}
use Rattle.roman_check.proofs.table.Remaining.remove.Goals as goal

pub returns : goal.returns
returns c = record {
  removed = λ pairs gone more table within present is.
      let old = c.args.self.now in
      let read : c.index-word.result.now ≡ get_or old.words.items c.args.row 0 = get_or_read old.words.items _ _ c.requires.row c.index-word.ensures 0 in
      let clears = subst (λ w. Clears w c.without_lane.result c.args.lane) read c.without_lane.ensures in
      let wrapped : 0 < old.count → (old.count + 4294967295) % 2 ^ 32 + 1 ≡ old.count = search rules in
      let less = counted_less pairs old.lanes c.args.row c.args.lane c.without_lane.result gone more old.words.items table.rows c.requires.row c.requires.lane old.few is clears within present in
      record {
        rows = rows_less pairs old.lanes c.args.row c.args.lane c.without_lane.result gone more old.words.items table.rows c.requires.row c.requires.lane old.few is clears;
        counted = omega (arith, table.counted, less, wrapped (omega (arith, table.counted, less)));
      };
  lanes = refl;
  rows = search rules;
}
