-- Turns that change no services keep the current pair related.
use Rattle.roman_turn_laws.proofs.Common.{◌≡◌, ℕ, List, [], ◌∷◌, ◌++◌, IsFalse, refl, sym, ◌∙◌, subst, arith, ◌⊎◌, inl, inr, Result, Ok, Err, length-map, slice_get_within, LineShape, nothing, request, delegate, observe, abort, freeze, thaw, die, join, jump, jump_env, report, explain, quit, LineError, great_meets, IsIn, seat_of, system_of, PlainLibrary, both_ways, bytes_eq-Decides, bytes_eq, Replies, State, IsState, IsGreat, TurnsInto, Refuses, Needs, Turn, AreTurns, after_turns, IsChange, IsCalm, IsServed, StaysServed, CalmStretchesStay, needs_elim, unless_elim}
use Rattle.roman_text.specs.declared.replies.Reply.TheVariants as reply

-- an event that is refused, or leads to a state with the same parts and pair, keeps the pair related
module _ (library : PlainLibrary) (s new : State) (text : List ℕ) (is : IsState library s) (great : IsGreat s) where
  stays : new ≡ s → IsGreat new
  stays same = subst IsGreat (sym same) great

  -- the state to which the event leads has a related pair
  becomes : (next : State) → IsGreat next → new ≡ next → IsGreat new
  becomes next there same = subst IsGreat (sym same) there

  calm_great : (event : Result LineShape LineError) → (IsChange event → new ≡ s) → TurnsInto s event text new → IsGreat new
  calm_great (Err why) calm turn = stays turn.1
  calm_great (Ok nothing) calm turn = stays turn.1
  calm_great (Ok (request action)) calm turn =
      needs_elim (λ r. stays r.1) (λ (a, there) c.
      needs_elim (λ r. stays r.1) (λ idle c.
      needs_elim (λ r. stays r.1) (λ related c.
      needs_elim (λ r. stays r.1) (λ may c. becomes _ great c.1) c) c) c) turn
  calm_great (Ok (delegate service)) calm turn =
      needs_elim (λ r. stays r.1) (λ (k, there) c.
      needs_elim (λ r. stays r.1) (λ (a, requested) c.
      needs_elim (λ r. stays r.1) (λ serves c. becomes _ great c.1) c) c) turn
  calm_great (Ok (observe state env)) calm turn =
      needs_elim (λ r. stays r.1) (λ (a, k, delegated) c.
      needs_elim (λ r. stays r.1) (λ (b, there) c.
      needs_elim (λ r. stays r.1) (λ (e, named) c.
      needs_elim (λ r. stays r.1) (λ possible (t, goes, c).
      let (before, may, serves) = is.delegated a k delegated in
      becomes _ ((serves t e goes).1 _ possible) c.1) c) c) c) turn
  calm_great (Ok abort) calm turn = unless_elim (λ r. stays r.1) (λ none c. becomes _ great c.1) turn
  calm_great (Ok report) calm turn = stays turn.1
  calm_great (Ok explain) calm turn = unless_elim (λ r. stays r.1) (λ none c. stays c.1) turn
  calm_great (Ok quit) calm turn = stays turn.1
  calm_great (Ok (freeze service)) calm turn = stays (calm tt)
  calm_great (Ok (thaw service)) calm turn = stays (calm tt)
  calm_great (Ok (die service)) calm turn = stays (calm tt)
  calm_great (Ok (join service behaviour state loose)) calm turn = stays (calm tt)
  calm_great (Ok (jump service state)) calm turn = stays (calm tt)
  calm_great (Ok (jump_env env)) calm turn = stays (calm tt)

-- texts that differ
differ : (one two : List ℕ) → IsFalse (bytes_eq one two) → one ≡ two → ⊥
differ one two f e = both_ways (bytes_eq one two) f ((bytes_eq-Decides one two).1 e)

-- a request at a related pair isn't answered by `no composition`
request_composed : (s new : State) (text action : List ℕ) → IsGreat s → TurnsInto s (Ok (request action)) text new → Replies reply.NoComposition text → ⊥
request_composed s new text action great turn says =
    needs_elim (λ r. differ _ _ refl (sym r.0 ∙ says)) (λ (a, there) c.
    needs_elim (λ r. differ _ _ refl (sym r.0 ∙ says)) (λ idle c.
    lost_out c (λ related c.
    needs_elim (λ r. differ _ _ refl (sym r.0 ∙ says)) (λ may c. differ _ _ refl (sym c.0.says ∙ says)) c)) c) turn
  where
    lost_out : {T : IsGreat s → Type 0} → Needs (IsGreat s) (Refuses s text new reply.NoComposition) T → ((h : IsGreat s) → T h → ⊥) → ⊥
    lost_out (inl (h, t)) go = go h t
    lost_out (inr (none, r)) go = none great

-- a state with a related pair is served
great_served : (s : State) → IsGreat s → IsServed s
great_served s great =
    let meets = great_meets (system_of s.parts) _ great in
    record {
      great = great;
      final = meets.final;
      served = λ a may.
          let (k, serves) = meets.served a may in
          let (t', e', step) = may in
          let (bs', r) = (serves t' e' step).0 in
          (k, omega (arith, slice_get_within (system_of s.parts).seats k r.seat r.seated, length-map s.parts.seats (seat_of s.parts.catalogue)), serves);
    }

-- the turns after the first ones
after_front : (library : PlainLibrary) (s : State) (lines : List (List ℕ)) (front rest : List Turn) → AreTurns library s lines (front ++ rest) →
    (more : List (List ℕ)) × ((rest ≡ []) ⊎ AreTurns library (after_turns s front) more rest)
after_front library s lines [] rest are = (lines, inr are)
after_front library s [] (x ∷ front) rest are = absurd are
after_front library s (line ∷ lines) (x ∷ front) rest (is, before, same, reads, turn, inr (on, more)) = after_front library x.after lines front rest more
after_front library s (line ∷ lines) (x ∷ []) rest (is, before, same, reads, turn, inl (quits, last, none)) = ([], inl none)
after_front library s (line ∷ lines) (x ∷ (y ∷ front)) rest (is, before, same, reads, turn, inl (quits, last, none)) = let f : ⊥ = cc in absurd f

nothing_in : (x : Turn) (ys rest : List Turn) → ys ++ rest ≡ [] → IsIn x ys → ⊥
nothing_in x [] rest e k = k
nothing_in x (z ∷ ys) rest e k = cc

-- the calm turns at the beginning keep the pair related
calm_stays : (library : PlainLibrary) (s : State) (lines : List (List ℕ)) (stretch rest : List Turn) → AreTurns library s lines (stretch ++ rest) → IsGreat s → ((x : Turn) → IsIn x stretch → IsCalm x) →
    (x : Turn) → IsIn x stretch → StaysServed x
calm_stays library s lines [] rest are great calm x i = absurd i
calm_stays library s [] (y ∷ stretch) rest are great calm x i = absurd are
calm_stays library s (line ∷ lines) (y ∷ stretch) rest (is, before, same, reads, turn, more) great calm x i =
    at i more (λ are j. calm_stays library y.after lines stretch rest are after (λ z k. calm z (inr k)) x j)
  where
    after : IsGreat y.after
    after = calm_great library s y.after y.text is great y.event (λ change. calm y (inl refl) change ∙ before) turn

    composed : (action : List ℕ) → y.event ≡ Ok (request action) → Replies reply.NoComposition y.text → ⊥
    composed action e = request_composed s y.after y.text action great (subst (λ (r : Result LineShape LineError). TurnsInto s r y.text y.after) e turn)

    at : IsIn x (y ∷ stretch) → (((y.event ≡ Ok quit) × IsState library y.after × (stretch ++ rest ≡ [])) ⊎ ((y.event ≡ Ok quit → ⊥) × AreTurns library y.after lines (stretch ++ rest))) →
        (AreTurns library y.after lines (stretch ++ rest) → IsIn x stretch → StaysServed x) → StaysServed x
    at (inl e) more later = subst StaysServed (sym e) (record { before = great_served y.before (subst IsGreat (sym before) great); after = great_served y.after after; composed = composed })
    at (inr j) (inr (on, more)) later = later more j
    at (inr j) (inl (quits, last, none)) later = absurd (nothing_in x stretch rest none j)

pub calm_stretches : CalmStretchesStay
calm_stretches library s lines front stretch rest are great calm x i =
    let (more, ends) = after_front library s lines front (stretch ++ rest) are in
    by_end more ends
  where
    by_end : (more : List (List ℕ)) → ((stretch ++ rest ≡ []) ⊎ AreTurns library (after_turns s front) more (stretch ++ rest)) → StaysServed x
    by_end more (inl none) = absurd (nothing_in x stretch rest none i)
    by_end more (inr are) = calm_stays library (after_turns s front) more stretch rest are great calm x i
