-- The session of a made system goes from stage to stage by turns.
use Rattle.roman_top.proofs.Common.{◌≡◌, ℕ, List, [], ◌∷◌, refl, sym, ap, subst, is_related, related_count, length-pairs, PlainLibrary, Situation, present_system, shape_of, words_of, until_quit, Answers, shown, IsKnownSituation, State, LinesAreRead, made, standing, stages, Passes, stage_line, DoesMake, Status, TellsStanding, TellsStages, FulfilsMake}
use Rattle.roman_top.proofs.ServingLemmas.{outlook_right}
use Rattle.roman_top.proofs.TurnLemmas.{IsFrom, start_seen, start_from, turns_of}

-- the figures of a well-formed situation are right
stands : (word : List ℕ) (s : Situation) → IsKnownSituation s → TellsStanding word (shown s) (standing word s)
stands word s known =
    let right = outlook_right (present_system s) s.here known.situation.parts.system known.situation.here in
    record {
      related = related_count (present_system s);
      great = right.related;
      composes = is_related (present_system s) s.here;
      here = right.composes;
      says = ap (λ n. stage_line word n (related_count (present_system s)) (is_related (present_system s) s.here)) (length-pairs (present_system s));
    }

-- no line of these stages ends the session
abbrev AreQuitless : List (List ℕ × List (List ℕ)) → Type 0
AreQuitless [] = Unit {0}
AreQuitless (stage ∷ more) = (until_quit stage.1 ≡ stage.1) × AreQuitless more

script_quitless : AreQuitless stages
unfolding shape_of words_of
script_quitless = (refl, (refl, (refl, (refl, (refl, (refl, tt))))))

stages_told : (library : PlainLibrary) (s : Situation) (more : List (List ℕ × List (List ℕ))) (text : List ℕ) → LinesAreRead → IsFrom library s → IsKnownSituation s → AreQuitless more → Passes s more text →
    TellsStages library (shown s) more text
stages_told library s [] text read from known none passes = passes
stages_told library s (stage ∷ more) text read from known (quitless, others) (replies, rest, next, answers, passes, split) =
    let all = turns_of (λ x. Unit {0}) library s next stage.1 replies read (λ s mid line said from known onward next turn. tt) from known (subst (λ (ls : List (List ℕ)). Answers s ls replies next) (sym quitless) answers) in (
      all.turns,
      standing stage.0 next,
      rest,
      all.are,
      subst (λ (now : State). TellsStanding stage.0 now (standing stage.0 next)) (sym all.ends) (stands stage.0 next all.known),
      subst (λ (now : State). TellsStages library now more rest) (sym all.ends) (stages_told library next more rest read all.from all.known others passes),
      split,
    )

-- a summary keeps its promise
pub fulfils_made : (n : ℕ) (text : List ℕ) (result : Status) → LinesAreRead → DoesMake n text result → FulfilsMake n text result
fulfils_made n text result read (made_of, done) = record {
  rest = made_of.rest;
  tells = subst (λ (s : State). TellsStages (made n) s stages made_of.rest) (start_seen (made n) made_of.start made_of.begins)
      (stages_told (made n) made_of.start stages made_of.rest read (start_from (made n) made_of.start made_of.begins) made_of.known script_quitless made_of.passes);
  says = made_of.whole;
  ends = done;
}
