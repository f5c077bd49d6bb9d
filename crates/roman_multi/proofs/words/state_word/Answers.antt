use Rattle.roman_multi.proofs.Common.{◌≡◌, ◌<◌, ◌==◌, ◌++◌, ◌∷◌, [], ap, ap₂, sym, ◌∙◌, length, slice_index, get_or, subst, arith, List, ℕ, if◌then◌else◌, slice_index_or, take_all, target_sizes, states_at, length-states_at, machines, names_at, get_or_from_slice_get}
use Rattle.roman_multi.proofs.KnownLemmas.{sizes_length}
use Rattle.roman_multi.proofs.FlatLemmas.{part_is, part_below}
use Rattle.roman_multi.proofs.WordLemmas.{joined_more, names_at_length, names_at_get, is_word_from}
use Rattle.roman_multi.proofs.words.state_word.Goals as goal

pub at-requires : goal.at-requires
at-requires c =
    let named = get_or c.args.merge.now.targets.now c.loop-i.i c.index-targets-i.result in
    let below : c.part_of-state.result < named.target.beh.states =
    part_below c.args.merge.now.targets.now c.args.merge.now.shape.now c.loop-i.i c.part_of-state.result c.index-targets-i.result c.requires.merge.shape c.loop-i-test.true c.part_of-state.ensures.below in
    let count : length c.states-names.result.now ≡ named.target.beh.states = ap length c.states-names.ensures.names ∙ c.states-names.ensures.count in
    subst (λ n. n < length c.states-names.result.now) (sym c.from.ensures) (subst (λ n. c.part_of-state.result < n) (sym count) below)

pub loop-i-preserved : goal.loop-i-preserved
loop-i-preserved c =
    let sizes = target_sizes (machines c.args.merge.now.targets.now) in
    let names = names_at c.args.merge.now.targets.now (states_at sizes c.args.t) in
    let named = get_or c.args.merge.now.targets.now c.loop-i.i c.index-targets-i.result in
    let count : length (states_at sizes c.args.t) ≡ length c.args.merge.now.targets.now = length-states_at sizes c.args.t ∙ sizes_length c.args.merge.now.targets.now in
    let there : get_or names c.loop-i.i [] ≡ slice_index_or named.target.states (slice_index (states_at sizes c.args.t) c.loop-i.i) [] =
    names_at_get c.args.merge.now.targets.now (states_at sizes c.args.t) c.loop-i.i c.index-targets-i.result c.loop-i-test.true (omega arith) in
    let state : c.from.result ≡ slice_index (states_at sizes c.args.t) c.loop-i.i =
    c.from.ensures ∙ part_is sizes c.args.merge.now.shape.now c.args.t c.loop-i.i c.part_of-state.result c.requires.merge.shape c.requires.state c.part_of-state.ensures.value in
    let name : slice_index_or named.target.states (slice_index (states_at sizes c.args.t) c.loop-i.i) [] ≡ c.at.result.now =
    sym (ap₂ (λ (xs : List (List ℕ)) (n : ℕ). slice_index_or xs n []) c.states-names.ensures.names state) ∙ get_or_from_slice_get c.states-names.result.now c.from.result c.at.result.now [] c.at.ensures.name in
    record {
      word = c.in_ok-push_name.ensures.word ∙ ap (λ xs. xs ++ (if c.loop-i.i == 0 then c.at.result.now else 45 ∷ c.at.result.now)) c.loop-i.invariant.word
          ∙ sym (joined_more names c.loop-i.i c.at.result.now (subst (λ n. c.loop-i.i < n) (sym (names_at_length c.args.merge.now.targets.now (states_at sizes c.args.t) count)) c.loop-i-test.true) (there ∙ name));
      bytes = c.in_ok-push_name.ensures.bytes;
      some = λ l. c.in_ok-push_name.ensures.some;
    }

pub returns : goal.returns
returns c = grind (arith, is_word_from, length-states_at, names_at_length, sizes_length, take_all)
