-- Consequences of the step of an answer.
use Rattle.roman_session.proofs.Common.{arith, ◌≡◌, ℕ, List, [], ◌++◌, Option, Result, Ok, Err, inl, inr, refl, sym, ap, subst, Puts, Puts-after_Gathered, reply_text, Situation, IsSituation, IsPhase, Delegated, Gathers, LineShape, observe, shape_of, LineError, Step, StepOn, StepBy, Answered, AnsweredOn, DoneOn, ObservedStaysGreat, IsGreat, shown, related_great, TurnsInto}
use Rattle.roman_text.specs.declared.replies.Reply.TheVariants as reply
use Rattle.roman_session.proofs.StepLemmas.{delegation_serves}

-- ---- pages

-- the answer to an event whose reply is pushed
pub done : {T E : Type 0} (old new : Situation) (shape : LineShape) (before after : Option (List ℕ)) (held holds text : List ℕ) (result : Result T E) → Gathers before after holds (held ++ text) result → StepOn old shape text new →
    DoneOn old shape new before after held holds result
done old new shape before after held holds text result gathers step = record { text = text; step = step; gathers = gathers }

-- the answer to a line whose reply is pushed on an empty page, which is then flushed
pub answered_whole : {T E T' E' : Type 0} (old new : Situation) (line : List ℕ) (before mid after : Option (List ℕ)) (held holds : List ℕ) (x : T) (result : Result T' E') → held ≡ [] →
    AnsweredOn {T = T} {E = E} old line new before mid held holds (Ok x) → Puts mid after holds result → Answered old line new before after result
answered_whole old new line before mid after held holds x result empty a puts = record {
  text = a.text;
  step = a.step;
  puts = subst (λ (bs : List ℕ). Puts before after bs result) (ap (λ (bs : List ℕ). bs ++ a.text) empty) (Puts-after_Gathered before mid after holds (held ++ a.text) result a.gathers puts);
}

-- ---- what the reply means

-- the step of a line is the step of its shape
pub step_by_shape : (old new : Situation) (line text : List ℕ) (shape : LineShape) → shape_of line ≡ Ok shape → StepOn old shape text new → Step old line text new
unfolding Step
step_by_shape old new line text shape is by_shape = subst (λ (r : Result LineShape LineError). StepBy old r text new) (sym is) by_shape

-- a line without a shape is refused
pub step_unshaped : (old : Situation) (line : List ℕ) (why : LineError) → shape_of line ≡ Err why → Step old line (reply_text reply.ErrorLine) old
unfolding Step
step_unshaped old line why is = subst (λ (r : Result LineShape LineError). StepBy old r (reply_text reply.ErrorLine) old) (sym is) ((refl, refl), refl)

-- the pair of an open delegation is related
stays_great : (old new : Situation) (a k : ℕ) → IsSituation old → old.phase ≡ Delegated a k → shown new ≡ shown old → IsGreat (shown new)
stays_great old new a k is delegated same = grind (arith, related_great)

-- the pair is related after an outcome of the delegate was observed
pub observed_great : (old new : Situation) (state env text : List ℕ) (a k : ℕ) → IsSituation old → old.phase ≡ Delegated a k → TurnsInto (shown old) (Ok (observe state env)) text (shown new) → IsGreat (shown new)
observed_great old new state env text a k is delegated (inr (none, refused)) = absurd (none (a, k, delegated))
observed_great old new state env text a k is delegated (inl ((b, l, opened), inr (none, (says, same)))) = stays_great old new a k is delegated same
observed_great old new state env text a k is delegated (inl ((b, l, opened), inl (there, inr (none, (says, same))))) = stays_great old new a k is delegated same
observed_great old new state env text a k is delegated (inl ((b, l, opened), inl (there, inl (named, inr (none, (says, same)))))) = stays_great old new a k is delegated same
observed_great old new state env text a k is delegated (inl ((b, l, opened), inl (there, inl (named, inl (possible, (t, target, (says, becomes))))))) =
    let phase = subst (IsPhase old) opened is.phase in
    subst IsGreat (sym becomes) ((delegation_serves old b l is phase t named.0 target).1 _ possible)

pub stays_related : (old new : Situation) (line text : List ℕ) → IsSituation old → Step old line text new → ObservedStaysGreat old line new
unfolding Step
stays_related old new line text is step state env a k shape delegated = observed_great old new state env text a k is delegated (subst (λ (r : Result LineShape LineError). StepBy old r text new) shape step).0
