-- Lines of a script, answered one after another.
use Rattle.roman_top.proofs.Common.{◌≡◌, ℕ, ◌+◌, ◌-◌, ◌<◌, ◌≤◌, List, [], ◌∷◌, ◌++◌, length, take, drop, Option, Some, Result, slice_get, codes, refl, sym, ap, ◌∙◌, subst, arith, append_assoc, get_or, add-one, drop-cons, append-nil, drop_all, get_or-drop, length-drop, take_more, get_or_from_slice_get, script_lines, Situation, Step, Answers, made_line, standing, stages, Passes, HasComeTo, line_of_stage, lines_of, Answered, MakeStage}

-- the answers to some lines and to one more
Answers-push : (old : Situation) (ls : List (List ℕ)) (text : List ℕ) (mid : Situation) (line more : List ℕ) (new : Situation) → Answers old ls text mid → Step mid line more new → Answers old (ls ++ line ∷ []) (text ++ more) new
Answers-push old [] text mid line more new (nothing, same) step =
    (more, [], new, ap (λ prefix. prefix ++ more) nothing ∙ sym (append-nil more), subst (λ s. Step s line more new) same step, (refl, refl))
Answers-push old (l ∷ ls) text mid line more new (first, rest, next, whole, step_first, answers) step =
    (first, rest ++ more, next, ap (λ prefix. prefix ++ more) whole ∙ append_assoc first rest more, step_first, Answers-push next ls rest mid line more new answers step)

-- the lines of the script with one more line
take_line : (xs : List (List ℕ)) (from i : ℕ) (line : List ℕ) → from ≤ i → i < length xs → slice_get xs i ≡ Some line → take (i + 1 - from) (drop from xs) ≡ take (i - from) (drop from xs) ++ line ∷ []
take_line xs from i line order within is =
    let k = i - from in
    let place : from + k ≡ i = omega arith in
    let next : i + 1 - from ≡ k + 1 = omega arith in
    let short : k < length (drop from xs) = omega (arith, length-drop from xs) in
    let there : get_or (drop from xs) k [] ≡ line = get_or-drop from xs k [] ∙ ap (λ n. get_or xs n []) place ∙ get_or_from_slice_get xs i line [] is in
    ap (λ n. take n (drop from xs)) next ∙ take_more (drop from xs) k [] short ∙ ap (λ x. take k (drop from xs) ++ x ∷ []) there

-- the answers to the script with the next line
pub answered_more : {T E : Type 0} (old mid new : Situation) (xs : List (List ℕ)) (from i : ℕ) (line : List ℕ) (before after : Option (List ℕ)) (result : Result T E) → from ≤ i → i < length xs → slice_get xs i ≡ Some line →
    HasComeTo old (take (i - from) (drop from xs)) mid → Answered mid line new before after result → HasComeTo old (take (i + 1 - from) (drop from xs)) new
answered_more old mid new xs from i line before after result order within is so_far answered = record {
  replies = so_far.replies ++ answered.text;
  answers = subst (λ ls. Answers old ls (so_far.replies ++ answered.text) new) (sym (take_line xs from i line order within is))
      (Answers-push old (take (i - from) (drop from xs)) so_far.replies mid line answered.text new so_far.answers answered.step);
}

-- a stage with these lines, and the stages after it
passes_on : (s next : Situation) (word : List ℕ) (lines : List (List ℕ)) (more : List (List ℕ × List (List ℕ))) (line rest : List ℕ) → HasComeTo s lines next → line ≡ standing word next → Passes next more rest →
    Passes s ((word, lines) ∷ more) (line ++ rest)
passes_on s next word lines more line rest answered is passes = (answered.replies, rest, next, answered.answers, passes, ap (λ prefix. prefix ++ rest) is)

-- a session that answers the whole script passes its stages
pub script_passes : (s0 s1 s2 s3 s4 s5 : Situation) (start freeze thaw die join round : MakeStage) →
    line_of_stage start ≡ standing (codes "start") s0 →
    HasComeTo s0 (take 1 script_lines) s1 → line_of_stage freeze ≡ standing (codes "freeze") s1 →
    HasComeTo s1 (take 1 (drop 1 script_lines)) s2 → line_of_stage thaw ≡ standing (codes "thaw") s2 →
    HasComeTo s2 (take 1 (drop 2 script_lines)) s3 → line_of_stage die ≡ standing (codes "die") s3 →
    HasComeTo s3 (take 1 (drop 3 script_lines)) s4 → line_of_stage join ≡ standing (codes "join") s4 →
    HasComeTo s4 (take 9 (drop 4 script_lines)) s5 → line_of_stage round ≡ standing (codes "round") s5 →
    Passes s0 stages (lines_of (start ∷ freeze ∷ thaw ∷ die ∷ join ∷ round ∷ []))
script_passes s0 s1 s2 s3 s4 s5 start freeze thaw die join round at_start h1 at_freeze h2 at_thaw h3 at_die h4 at_join h5 at_round =
    let from_round = passes_on s4 s5 (codes "round") (take 9 (drop 4 script_lines)) [] (line_of_stage round) (codes "end\n") h5 at_round refl in
    let from_join = passes_on s3 s4 (codes "join") (take 1 (drop 3 script_lines)) (drop 5 stages) (line_of_stage join) _ h4 at_join from_round in
    let from_die = passes_on s2 s3 (codes "die") (take 1 (drop 2 script_lines)) (drop 4 stages) (line_of_stage die) _ h3 at_die from_join in
    let from_thaw = passes_on s1 s2 (codes "thaw") (take 1 (drop 1 script_lines)) (drop 3 stages) (line_of_stage thaw) _ h2 at_thaw from_die in
    let from_freeze = passes_on s0 s1 (codes "freeze") (take 1 script_lines) (drop 2 stages) (line_of_stage freeze) _ h1 at_freeze from_thaw in
    passes_on s0 s0 (codes "start") [] (drop 1 stages) (line_of_stage start) _ (record { replies = []; answers = (refl, refl) }) at_start from_freeze

-- ---- lines that are pushed one after another

-- the remaining lines begin with the next line
pub lines_of-drop : (stages : List MakeStage) (i : ℕ) (d : MakeStage) (piece : List ℕ) → i < length stages → piece ≡ line_of_stage (get_or stages i d) → lines_of (drop i stages) ≡ piece ++ lines_of (drop (i + 1) stages)
lines_of-drop stages i d piece within is = rw (add-one, is) (ap lines_of (drop-cons stages i d within))

-- after the last stage only the last line remains
pub lines_of-end : (stages : List MakeStage) (i : ℕ) → length stages ≤ i → lines_of (drop i stages) ≡ codes "end\n" ++ []
lines_of-end stages i past = ap lines_of (drop_all i stages past)

-- the first line, and the lines of the stages
pub summary_pieces : (n : ℕ) (stages : List MakeStage) (first : List ℕ) → first ≡ made_line n → first ++ (lines_of stages ++ []) ≡ made_line n ++ lines_of stages
summary_pieces n stages first is = rw is (ap (λ rest. made_line n ++ rest) (append-nil (lines_of stages)))
