-- A turn fixes its new state and its text, except for the split of a count and the entries of an explanation.
use Rattle.roman_turn_laws.proofs.Common.{◌≡◌, ℕ, zero, suc, ◌≤◌, Bool, true, false, not, List, [], ◌∷◌, ◌++◌, map, length, Some, slice_get, slice_index_or, slice_set, remove, refl, sym, ap, ◌∙◌, subst, arith, codes, ◌⊎◌, inl, inr, IsTrue, Result, Ok, Err, AllZip, starts_with, nat_eq, strip_carriage_return, cond-true, none-some, same_Some, words_of, spelling, shape_of_words, by_words, LineShape, nothing, request, delegate, observe, abort, freeze, thaw, die, join, jump, jump_env, report, explain, quit, reply_text, LineError, HasNoRepeats-below, get_in, IsIn, HasNoRepeats, below, Sys, SStep, has_move, IsDeterministic, name_at, seat_names, NamedBeh, NamedSys, system_of, cells, with_frozen, seat_name, beh_name, names_in, names_of_seat, states_of_behaviour, Seat, Phase, Idle, Offered, Delegated, count_fixed, sublists_same, ReportsAreFixed, PlainLibrary, Reads, IsComment, State, IsState, MayRequest, ServesHere, Turn, AreTurns, TurnsInto, Needs, Unless, Place, with_services, OffersServing, CountsLost, IsReady, AcceptedNamesAreClear, HasClearNames, state_at, IsSameTurn, CountTheSame, SayAlike, TurnsAreFixed, IsFixedTurn, SessionsAreFixed, IsLikeTurn, ResumedSayAlike}
use Rattle.std.specs.List.{flat_map}
use Rattle.roman_text.specs.declared.replies.Reply.TheVariants as reply
use Rattle.roman_turn_laws.proofs.ResumedLemmas.{sessions_resume}

-- no name is used for two actions, states or behaviours of the parts, and the target is deterministic
record AreDistinct (parts : NamedSys) : Type 0 where
  actions : HasNoRepeats parts.environment.actions
  environment : HasNoRepeats parts.environment.states
  behaviours : HasNoRepeats (map beh_name parts.catalogue)
  states : (i : ℕ) → HasNoRepeats (states_of_behaviour parts.catalogue i)
  single : IsDeterministic parts.target.beh

behaviour_states_once : (catalogue : List NamedBeh) → ((b : NamedBeh) → IsIn b catalogue → HasNoRepeats b.states) → (i : ℕ) → HasNoRepeats (states_of_behaviour catalogue i)
behaviour_states_once [] once i = tt
behaviour_states_once (b ∷ catalogue) once zero = once b (inl refl)
behaviour_states_once (b ∷ catalogue) once (suc i) = behaviour_states_once catalogue (λ c j. once c (inr j)) i

-- the names of an accepted document are distinct in each state of its sessions
distinct_in : (library : PlainLibrary) (s : State) → HasClearNames library → IsState library s → AreDistinct s.parts
distinct_in library s clear is = subst AreDistinct (sym is.parts) (record {
  actions = clear.actions;
  environment = clear.environment;
  behaviours = clear.behaviours;
  states = behaviour_states_once library.catalogue clear.states;
  single = clear.single;
})

-- Places and lists without repeats.

place_once : (names : List (List ℕ)) (name : List ℕ) (i j : ℕ) → HasNoRepeats names → slice_get names i ≡ Some name → slice_get names j ≡ Some name → i ≡ j
place_once [] name i j once e f = absurd (none-some name e)
place_once (n ∷ names) name zero zero once e f = refl
place_once (n ∷ names) name zero (suc j) (new, once) e f = absurd (new (subst (λ x. IsIn x names) (sym (same_Some n name e)) (get_in names j name f)))
place_once (n ∷ names) name (suc i) zero (new, once) e f = absurd (new (subst (λ x. IsIn x names) (sym (same_Some n name f)) (get_in names i name e)))
place_once (n ∷ names) name (suc i) (suc j) (new, once) e f = ap suc (place_once names name i j once e f)

offers_fixed : (s : State) (a : ℕ) (text other : List ℕ) → OffersServing s a text → OffersServing s a other → text ≡ other
offers_fixed s a text other one two =
    let same : one.services ≡ two.services =
    sublists_same (below (length (system_of s.parts).seats)) one.services two.services (HasNoRepeats-below (length (system_of s.parts).seats)) one.serving.order two.serving.order
    (λ k. (λ i. (two.serving.exact k).1 ((one.serving.exact k).0 i), λ i. (one.serving.exact k).1 ((two.serving.exact k).0 i))) in
    one.says ∙ ap (λ (ks : List ℕ). codes "offer" ++ flat_map (λ k. codes " " ++ name_at (map seat_name s.parts.seats) k) ks ++ codes "\n") same ∙ sym two.says

counts_fixed : (s : State) (text other : List ℕ) → CountsLost s text → CountsLost s other → CountTheSame text other
counts_fixed s text other one two = record {
  kept = one.kept;
  added = one.added;
  kept_there = two.kept;
  added_there = two.added;
  one = one.says;
  there = two.says;
  same = count_fixed (system_of s.parts) _ _ _ one.lost two.lost;
}

-- the names of a service's states have no repeats
states_once : (catalogue : List NamedBeh) (seats : List Seat) (k : ℕ) → ((i : ℕ) → HasNoRepeats (states_of_behaviour catalogue i)) → HasNoRepeats (slice_index_or (map (names_of_seat catalogue) seats) k (record { service = []; states = [] })).states
states_once catalogue [] k once = tt
states_once catalogue (seat ∷ seats) zero once = once seat.behaviour
states_once catalogue (seat ∷ seats) (suc k) once = states_once catalogue seats k once

-- Two conditions of one kind.

both_need : (H H' R R' X : Type 0) (T : H → Type 0) (T' : H' → Type 0) → (H → H') → (H' → H) → (R → R' → X) → ((h : H) (h' : H') → T h → T' h' → X) → Needs H R T → Needs H' R' T' → X
both_need H H' R R' X T T' to from refused go (inl (h, t)) (inl (h', t')) = go h h' t t'
both_need H H' R R' X T T' to from refused go (inl (h, t)) (inr (none, r')) = absurd (none (to h))
both_need H H' R R' X T T' to from refused go (inr (none, r)) (inl (h', t')) = absurd (none (from h'))
both_need H H' R R' X T T' to from refused go (inr (none, r)) (inr (nor, r')) = refused r r'

both_on : (H R R' X : Type 0) (T T' : H → Type 0) → (R → R' → X) → ((h h' : H) → T h → T' h' → X) → Needs H R T → Needs H R' T' → X
both_on H R R' X T T' refused go one two = both_need H H R R' X T T' (λ h. h) (λ h. h) refused go one two

both_unless : (H H' R R' T T' X : Type 0) → (H → H') → (H' → H) → (R → R' → X) → (T → T' → X) → Unless H R T → Unless H' R' T' → X
both_unless H H' R R' T T' X to from refused go (inl (h, r)) (inl (h', r')) = refused r r'
both_unless H H' R R' T T' X to from refused go (inl (h, r)) (inr (none, t')) = absurd (none (to h))
both_unless H H' R R' T T' X to from refused go (inr (none, t)) (inl (h', r')) = absurd (none (from h'))
both_unless H H' R R' T T' X to from refused go (inr (none, t)) (inr (nor, t')) = go t t'

abbrev action_of : Phase → ℕ
action_of Idle = 0
action_of (Offered a) = a
action_of (Delegated a k) = a

abbrev seat_of_phase : Phase → ℕ
seat_of_phase Idle = 0
seat_of_phase (Offered a) = 0
seat_of_phase (Delegated a k) = k

step_as : (s : Sys) (bs : List ℕ) (e0 a a' k k' b b' e e' : ℕ) → a ≡ a' → k ≡ k' → b ≡ b' → e ≡ e' → SStep s bs e0 a k (slice_set bs k b) e → SStep s bs e0 a' k' (slice_set bs k' b') e'
step_as s bs e0 a a' k k' b b' e e' ea ek eb ee r =
    subst (λ n. SStep s bs e0 a' k' (slice_set bs k' b') n) ee
    (subst (λ n. SStep s bs e0 a' k' (slice_set bs k' n) e) eb
    (subst (λ n. SStep s bs e0 a' n (slice_set bs n b) e) ek
    (subst (λ n. SStep s bs e0 n k (slice_set bs k b) e) ea r)))

module _ (fixed : ReportsAreFixed) (s new also : State) (text other : List ℕ) (clear : AreDistinct s.parts) (names : HasNoRepeats (map seat_name s.parts.seats)) where
  abbrev Same : Type 0
  Same = (new ≡ also) × SayAlike s text other

  refusals : (refusal : List ℕ) → ((text ≡ refusal) × (new ≡ s)) → ((other ≡ refusal) × (also ≡ s)) → Same
  refusals refusal (says, stays) (says', stays') = (stays ∙ sym stays', inl (says ∙ sym says'))

  -- both turns lead to the same state, with equal texts
  equally : (next next' : State) → next ≡ next' → new ≡ next → also ≡ next' → text ≡ other → Same
  equally next next' same e e' says = (e ∙ same ∙ sym e', inl says)

  -- both turns lead to the same changed services
  countedly : (next next' : State) → next ≡ next' → (CountsLost next text × (new ≡ next)) → (CountsLost next' other × (also ≡ next')) → Same
  countedly next next' same (counts, e) (counts', e') = (e ∙ same ∙ sym e', inr (inl (counts_fixed next text other counts (subst (λ (x : State). CountsLost x other) (sym same) counts'))))

  seat_place : (service : List ℕ) (h h' : Place (map seat_name s.parts.seats) service) → h.0 ≡ h'.0
  seat_place service h h' = place_once (map seat_name s.parts.seats) service h.0 h'.0 names h.1 h'.1

  state_place : (state : List ℕ) (k k' : ℕ) → k ≡ k' → (h : Place (seat_names (names_in s.parts) k).states state) (h' : Place (seat_names (names_in s.parts) k').states state) → h.0 ≡ h'.0
  state_place state k k' e h h' =
      place_once (seat_names (names_in s.parts) k).states state h.0 h'.0 (states_once s.parts.catalogue s.parts.seats k clear.states) h.1
      (subst (λ n. slice_get (seat_names (names_in s.parts) n).states h'.0 ≡ Some state) (sym e) h'.1)

  env_place : (env : List ℕ) (h h' : Place s.parts.environment.states env) → h.0 ≡ h'.0
  env_place env h h' = place_once s.parts.environment.states env h.0 h'.0 clear.environment h.1 h'.1

  -- the state with a service that joined
  abbrev joined : List ℕ → Bool → ℕ → ℕ → State
  joined service loose i b = with_services s (s.parts.seats ++ (record { name = service; behaviour = i; frozen = false; rests = not loose }) ∷ []) (s.here.bs ++ b ∷ [])

  both : (event : Result LineShape LineError) → TurnsInto s event text new → TurnsInto s event other also → Same
  both (Err why) one two = refusals _ one two
  both (Ok nothing) one two = equally _ _ refl one.1 two.1 (one.0 ∙ sym two.0)
  both (Ok (request action)) one two =
      both_on _ _ _ _ _ _ (refusals _) (λ h h' c c'.
      let e = place_once s.parts.environment.actions action h.0 h'.0 clear.actions h.1 h'.1 in
      both_on _ _ _ _ _ _ (refusals _) (λ idle idle' c c'.
      both_on _ _ _ _ _ _ (refusals _) (λ great great' c c'.
      both_need _ _ _ _ _ _ _ (subst (MayRequest s) e) (subst (MayRequest s) (sym e)) (refusals _) (λ may may' c c'.
      equally _ _ (ap (λ (a : ℕ). record s { phase = Offered a }) e) c.1 c'.1 (offers_fixed s h.0 text other c.0 (subst (λ a. OffersServing s a other) (sym e) c'.0))) c c') c c') c c') one two
  both (Ok (delegate service)) one two =
      both_on _ _ _ _ _ _ (refusals _) (λ h h' c c'.
      let e = seat_place service h h' in
      both_on _ _ _ _ _ _ (refusals _) (λ requested requested' c c'.
      let f : requested.0 ≡ requested'.0 = ap action_of (sym requested.1 ∙ requested'.1) in
      both_need _ _ _ _ _ _ _ (λ serves. subst (λ k. ServesHere s requested'.0 k) e (subst (λ a. ServesHere s a h.0) f serves))
      (λ serves. subst (λ k. ServesHere s requested.0 k) (sym e) (subst (λ a. ServesHere s a h'.0) (sym f) serves)) (refusals _) (λ serves serves' c c'.
      equally _ _ (ap (λ (a : ℕ). record s { phase = Delegated a h.0 }) f ∙ ap (λ (k : ℕ). record s { phase = Delegated requested'.0 k }) e) c.1 c'.1 (c.0 ∙ sym c'.0)) c c') c c') one two
  both (Ok (observe state env)) one two =
      both_on _ _ _ _ _ _ (refusals _) (λ h h' c c'.
      let (a, k, delegated) = h in
      let (a', k', delegated') = h' in
      let ea : a ≡ a' = ap action_of (sym delegated ∙ delegated') in
      let ek : k ≡ k' = ap seat_of_phase (sym delegated ∙ delegated') in
      both_need _ _ _ _ _ _ _ (subst (λ n. Place (seat_names (names_in s.parts) n).states state) ek) (subst (λ n. Place (seat_names (names_in s.parts) n).states state) (sym ek)) (refusals _) (λ there there' c c'.
      let eb = state_place state k k' ek there there' in
      both_on _ _ _ _ _ _ (refusals _) (λ named named' c c'.
      let ee = env_place env named named' in
      both_need _ _ _ _ _ _ _ (step_as (system_of s.parts) s.here.bs s.here.e a a' k k' there.0 there'.0 named.0 named'.0 ea ek eb ee)
      (step_as (system_of s.parts) s.here.bs s.here.e a' a k' k there'.0 there.0 named'.0 named.0 (sym ea) (sym ek) (sym eb) (sym ee)) (refusals _) (λ possible possible' c c'.
      let (t, goes, leads) = c in
      let (t', goes', leads') = c' in
      let et : t ≡ t' = clear.single s.here.t s.here.e a t t' goes.1 (subst (λ n. IsTrue (has_move s.parts.target.beh s.here.t s.here.e n t')) (sym ea) goes'.1) in
      equally _ _
      (ap (λ (n : ℕ). record s { here = record { t = n; e = named.0; bs = slice_set s.here.bs k there.0 }; phase = Idle }) et
      ∙ ap (λ (n : ℕ). record s { here = record { t = t'; e = n; bs = slice_set s.here.bs k there.0 }; phase = Idle }) ee
      ∙ ap (λ (n : ℕ). record s { here = record { t = t'; e = named'.0; bs = slice_set s.here.bs n there.0 }; phase = Idle }) ek
      ∙ ap (λ (n : ℕ). record s { here = record { t = t'; e = named'.0; bs = slice_set s.here.bs k' n }; phase = Idle }) eb)
      leads.1 leads'.1 (leads.0 ∙ ap (λ (n : ℕ). reply_text (reply.Now (name_at s.parts.target.states n) env)) et ∙ sym leads'.0)) c c') c c') c c') one two
  both (Ok abort) one two = both_unless _ _ _ _ _ _ _ (λ h. h) (λ h. h) (refusals _) (λ c c'. equally _ _ refl c.1 c'.1 (c.0 ∙ sym c'.0)) one two
  both (Ok (freeze service)) one two =
      both_on _ _ _ _ _ _ (refusals _) (λ h h' c c'.
      let e = seat_place service h h' in
      both_on _ _ _ _ _ _ (refusals _) (λ idle idle' c c'.
      both_need _ _ _ _ _ _ _ (subst (IsReady s) e) (subst (IsReady s) (sym e)) (refusals _) (λ ready ready' c c'.
      countedly _ _ (ap (λ (k : ℕ). with_services s (with_frozen s.parts.seats k true) s.here.bs) e) c c') c c') c c') one two
  both (Ok (thaw service)) one two =
      both_on _ _ _ _ _ _ (refusals _) (λ h h' c c'.
      let e = seat_place service h h' in
      both_on _ _ _ _ _ _ (refusals _) (λ idle idle' c c'.
      both_unless _ _ _ _ _ _ _ (subst (IsReady s) e) (subst (IsReady s) (sym e)) (refusals _) (λ c c'.
      countedly _ _ (ap (λ (k : ℕ). with_services s (with_frozen s.parts.seats k false) s.here.bs) e) c c') c c') c c') one two
  both (Ok (die service)) one two =
      both_on _ _ _ _ _ _ (refusals _) (λ h h' c c'.
      let e = seat_place service h h' in
      both_on _ _ _ _ _ _ (refusals _) (λ idle idle' c c'.
      countedly _ _ (ap (λ (k : ℕ). with_services s (remove s.parts.seats k) (remove s.here.bs k)) e) c c') c c') one two
  both (Ok (join service behaviour state loose)) one two =
      both_on _ _ _ _ _ _ (refusals _) (λ good good' c c'.
      both_on _ _ _ _ _ _ (refusals _) (λ h h' c c'.
      let e = place_once (map beh_name s.parts.catalogue) behaviour h.0 h'.0 clear.behaviours h.1 h'.1 in
      both_need _ _ _ _ _ _ _ (subst (λ i. Place (states_of_behaviour s.parts.catalogue i) state) e) (subst (λ i. Place (states_of_behaviour s.parts.catalogue i) state) (sym e)) (refusals _) (λ there there' c c'.
      let f = place_once (states_of_behaviour s.parts.catalogue h.0) state there.0 there'.0 (clear.states h.0) there.1 (subst (λ i. slice_get (states_of_behaviour s.parts.catalogue i) there'.0 ≡ Some state) (sym e) there'.1) in
      both_on _ _ _ _ _ _ (refusals _) (λ idle idle' c c'.
      both_unless _ _ _ _ _ _ _ (λ h. h) (λ h. h) (refusals _) (λ c c'.
      both_on _ _ _ _ _ _ (refusals _) (λ few few' c c'.
      both_need _ _ _ _ _ _ _ (subst (λ i. cells (system_of (joined service loose i there.0).parts) ≤ s.parts.limit) e) (subst (λ i. cells (system_of (joined service loose i there.0).parts) ≤ s.parts.limit) (sym e)) (refusals _) (λ fits fits' c c'.
      countedly _ _ (ap (λ i. joined service loose i there.0) e ∙ ap (λ b. joined service loose h'.0 b) f) c c') c c') c c') c c') c c') c c') c c') one two
  both (Ok (jump service state)) one two =
      both_on _ _ _ _ _ _ (refusals _) (λ h h' c c'.
      let e = seat_place service h h' in
      both_need _ _ _ _ _ _ _ (subst (λ n. Place (seat_names (names_in s.parts) n).states state) e) (subst (λ n. Place (seat_names (names_in s.parts) n).states state) (sym e)) (refusals _) (λ there there' c c'.
      let f = state_place state h.0 h'.0 e there there' in
      both_on _ _ _ _ _ _ (refusals _) (λ idle idle' c c'.
      equally _ _ (ap (λ (k : ℕ). record s { here = record s.here { bs = slice_set s.here.bs k there.0 } }) e ∙ ap (λ (b : ℕ). record s { here = record s.here { bs = slice_set s.here.bs h'.0 b } }) f)
      c.1 c'.1 (c.0 ∙ sym c'.0)) c c') c c') one two
  both (Ok (jump_env env)) one two =
      both_on _ _ _ _ _ _ (refusals _) (λ h h' c c'.
      both_on _ _ _ _ _ _ (refusals _) (λ idle idle' c c'.
      equally _ _ (ap (λ (e : ℕ). record s { here = record s.here { e = e } }) (env_place env h h')) c.1 c'.1 (c.0 ∙ sym c'.0)) c c') one two
  both (Ok report) one two = equally _ _ refl one.1 two.1 (fixed s text other one.0.0 two.0.0)
  both (Ok explain) one two = both_unless _ _ _ _ _ _ _ (λ h. h) (λ h. h) (refusals _) (λ c c'. (c.1 ∙ sym c'.1, inr (inr (c.0, c'.0)))) one two
  both (Ok quit) one two = equally _ _ refl one.1 two.1 (one.0 ∙ sym two.0)

pub turns_fixed : ReportsAreFixed → AcceptedNamesAreClear → TurnsAreFixed
turns_fixed fixed accepted texts document library s new also event text other h is one two = both fixed s new also text other (distinct_in library s (accepted texts document library h) is) is.names event one two

-- The events that a line is read as.

-- the events are the same, or both are errors
abbrev SameEvent : Result LineShape LineError → Result LineShape LineError → Type 0
SameEvent one two = (one ≡ two) ⊎ ((why : LineError) × (why' : LineError) × (one ≡ Err why) × (two ≡ Err why'))

-- the line has the words of its event, unless the event is `nothing`
event_words : (line : List ℕ) (event : LineShape) → Reads line (Ok event) → (event ≡ nothing) ⊎ ((length line ≤ 256) × (words_of (strip_carriage_return line) ≡ spelling event))
event_words line nothing r = inl refl
event_words line _ r = inr r

module _ (read : (event : LineShape) → shape_of_words (spelling event) ≡ Ok event) where
  no_words : (words : List (List ℕ)) → (words ≡ []) ⊎ IsComment words → shape_of_words words ≡ Ok nothing
  no_words words (inl none) = ap shape_of_words none
  no_words words (inr (word, more, are, comment)) = ap shape_of_words are ∙ cond-true (starts_with nat_eq word (codes "#")) (Ok nothing) (by_words word more) comment

  event_shape : (line : List ℕ) (event : LineShape) → Reads line (Ok event) → shape_of_words (words_of (strip_carriage_return line)) ≡ Ok event
  event_shape line event r = elim (event_words line event r) [
    | inl none ↦ subst (λ (x : LineShape). shape_of_words (words_of (strip_carriage_return line)) ≡ Ok x) (sym none) (no_words (words_of (strip_carriage_return line)) (subst (λ (x : LineShape). Reads line (Ok x)) none r).1)
    | inr (few, words) ↦ ap shape_of_words words ∙ read event
  ]

  error_none : (line : List ℕ) (why : LineError) (event : LineShape) → Reads line (Err why) → Reads line (Ok event) → ⊥
  error_none line why event (inl long) r = elim (event_words line event r) [
    | inl none ↦ let few = (subst (λ (x : LineShape). Reads line (Ok x)) none r).0 in let f : ⊥ = omega arith in f
    | inr (few, words) ↦ let f : ⊥ = omega arith in f
  ]
  error_none line why event (inr (plain, other)) r = elim (event_words line event r) [
    | inl none ↦ elim (subst (λ (x : LineShape). Reads line (Ok x)) none r).1 [ inl empty ↦ other nothing empty | inr comment ↦ plain comment ]
    | inr (few, words) ↦ other event words
  ]

  reads_same : (line : List ℕ) (one two : Result LineShape LineError) → Reads line one → Reads line two → SameEvent one two
  reads_same line (Err why) (Err why') r r' = inr (why, why', refl, refl)
  reads_same line (Err why) (Ok event) r r' = absurd (error_none line why event r r')
  reads_same line (Ok event) (Err why) r r' = absurd (error_none line why event r' r)
  reads_same line (Ok event) (Ok event') r r' = inl (sym (event_shape line event r) ∙ event_shape line event' r')

-- Lists of turns.

-- two turns of the same event, or of errors
both_turns : ReportsAreFixed → (s new also : State) (one two : Result LineShape LineError) (text other : List ℕ) → AreDistinct s.parts → HasNoRepeats (map seat_name s.parts.seats) → SameEvent one two →
    TurnsInto s one text new → TurnsInto s two other also → (new ≡ also) × SayAlike s text other
both_turns fixed s new also one two text other clear names (inl e) t t' =
    both fixed s new also text other clear names two (subst (λ (x : Result LineShape LineError). TurnsInto s x text new) e t) t'
both_turns fixed s new also one two text other clear names (inr (why, why', e, e')) t t' =
    both fixed s new also text other clear names (Err why) (subst (λ (x : Result LineShape LineError). TurnsInto s x text new) e t) (subst (λ (x : Result LineShape LineError). TurnsInto s x other also) e' t')

-- one event ends the session exactly when the other does
both_quit : (one two : Result LineShape LineError) → SameEvent one two → one ≡ Ok quit → two ≡ Ok quit
both_quit one two (inl e) quits = sym e ∙ quits
both_quit one two (inr (why, why', e, e')) quits = absurd (let f : ⊥ = cc in f)

same_other : (one two : Result LineShape LineError) → SameEvent one two → SameEvent two one
same_other one two (inl e) = inl (sym e)
same_other one two (inr (why, why', e, e')) = inr (why', why, e', e)

lists_fixed : ReportsAreFixed → ((event : LineShape) → shape_of_words (spelling event) ≡ Ok event) → (library : PlainLibrary) → HasClearNames library → (s : State) (lines : List (List ℕ)) (xs ys : List Turn) →
    AreTurns library s lines xs → AreTurns library s lines ys → AllZip IsFixedTurn xs ys
lists_fixed fixed read library clear s [] [] [] one two = tt
lists_fixed fixed read library clear s [] (x ∷ xs) ys one two = absurd one
lists_fixed fixed read library clear s [] [] (y ∷ ys) one two = absurd two
lists_fixed fixed read library clear s (line ∷ lines) [] ys one two = absurd one
lists_fixed fixed read library clear s (line ∷ lines) (x ∷ xs) [] one two = absurd two
lists_fixed fixed read library clear s (line ∷ lines) (x ∷ xs) (y ∷ ys) (is, before, same, reads, turn, more) (is', before', same', reads', turn', more') =
    let event : SameEvent x.event y.event = reads_same read line x.event y.event reads reads' in
    let (after, says) = both_turns fixed s x.after y.after x.event y.event x.text y.text (distinct_in library s clear is) is.names event turn turn' in (
      record { before = before ∙ sym before'; line = same ∙ sym same'; texts = subst (λ (z : State). SayAlike z x.text y.text) (sym before) says; after = after },
      elim more [
        | inl (quits, last, none) ↦ elim more' [
          | inl (quits', last', none') ↦ subst (λ (zs : List Turn). AllZip IsFixedTurn zs ys) (sym none) (subst (AllZip IsFixedTurn []) (sym none') tt)
          | inr (on', later') ↦ absurd (on' (both_quit x.event y.event event quits))
        ]
        | inr (on, later) ↦ elim more' [
          | inl (quits', last', none') ↦ absurd (on (both_quit y.event x.event (same_other x.event y.event event) quits'))
          | inr (on', later') ↦ lists_fixed fixed read library clear x.after lines xs ys later (subst (λ (z : State). AreTurns library z lines ys) (sym after) later')
        ]
      ],
    )

-- the same turns between alike states, after turns that are fixed
zip_alike : (xs zs ys : List Turn) → AllZip IsFixedTurn xs zs → AllZip IsSameTurn zs ys → AllZip IsLikeTurn xs ys
zip_alike [] [] [] one two = tt
zip_alike [] [] (y ∷ ys) one two = absurd two
zip_alike [] (z ∷ zs) ys one two = absurd one
zip_alike (x ∷ xs) [] ys one two = absurd one
zip_alike (x ∷ xs) (z ∷ zs) [] one two = absurd two
zip_alike (x ∷ xs) (z ∷ zs) (y ∷ ys) (fixed, one) (same, two) = (
  record {
    before = ap (state_at 0 0) fixed.before ∙ same.before;
    line = fixed.line ∙ same.line;
    texts = subst (SayAlike x.before x.text) same.text fixed.texts;
    after = ap (state_at 0 0) fixed.after ∙ same.after;
  },
  zip_alike xs zs ys one two,
)

pub sessions_fixed : ReportsAreFixed → ((event : LineShape) → shape_of_words (spelling event) ≡ Ok event) → AcceptedNamesAreClear → SessionsAreFixed
sessions_fixed fixed read accepted texts document library s lines xs ys h one two = lists_fixed fixed read library (accepted texts document library h) s lines xs ys one two

pub resumed_alike : ReportsAreFixed → ((event : LineShape) → shape_of_words (spelling event) ≡ Ok event) → AcceptedNamesAreClear → ResumedSayAlike
resumed_alike fixed read accepted texts document library s lines xs ys h is idle one two =
    let (zs, are, same) = (sessions_resume library s lines is idle).back ys two in
    zip_alike xs zs ys (lists_fixed fixed read library (accepted texts document library h) s lines xs zs one are) same
