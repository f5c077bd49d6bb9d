-- Replies to some lines can always be continued by replies to more lines.
use Rattle.roman_hearing.proofs.Common.{Answers, AreNamed, IsKnownSituation, IsSituation, List, Situation, Told, [], append-nil, by_test, has_quit, refl, subst, sym, until_quit, ℕ, ◌++◌, ◌∷◌}
use Rattle.roman_hearing.proofs.HearingGoing.{step_there}
use Rattle.roman_hearing.proofs.HearingLines.{told_stops, told_then}
use Rattle.roman_hearing.proofs.KeepLemmas.{answers_keep, named_stay}

-- each list of lines has its replies
answers_there : (s : Situation) (ls : List (List ℕ)) → IsKnownSituation s → (text : List ℕ) × (new : Situation) × Answers s ls text new
answers_there s [] is = ([], s, (refl, refl))
answers_there s (line ∷ ls) is =
    let first = step_there s line is in
    let (more, new, answers) = answers_there first.new ls first.known in
    (first.text ++ more, new, (first.text, more, first.new, refl, first.step, answers))

-- replies to some lines can be followed by replies to more
pub told_more : (old mid : Situation) (ls ms : List (List ℕ)) (text : List ℕ) → AreNamed old.parts → IsSituation mid → Told old ls text mid →
    (more : List ℕ) × (last : Situation) × Told old (ls ++ ms) (text ++ more) last
told_more old mid ls ms text named known told =
    by_test (has_quit ls) (λ quit. ([], mid, subst (λ (text : List ℕ). Told old (ls ++ ms) text mid) (sym (append-nil text)) (told_stops old mid ls ms text quit told)))
    (λ quitless.
    let named = named_stay old mid (answers_keep old mid (until_quit ls) text told) named in
    let (more, last, answers) = answers_there mid (until_quit ms) (record { situation = known; named = named }) in
    (more, last, told_then old mid last ls ms text more quitless told answers))
