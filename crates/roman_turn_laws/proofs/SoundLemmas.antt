-- The states that sessions reach have the parts of a system within the limit, and services with valid names.
use Rattle.roman_turn_laws.proofs.Common.{Bool, Err, IsTrue, List, Ok, Result, Some, [], ap, arith, false, inl, inr, length, map, not, refl, remove, slice_get, subst, suc, sym, true, zero, ℕ, ◌++◌, ◌<◌, ◌∙◌, ◌∷◌, ◌≡◌, ◌≤◌, le-ltb, length-map, map_push, get_or_from_slice_get, slice_get_within, AcceptedNamesAreClear, IsState, State, start_state, TurnsInto, with_services, Texts, beh_read, frozen_known, gone_known, joined_known, joined_system, with_frozen, IsNamedSys, NamedSys, beh_at, cells, system_of, beh_name, seat_name, Seat, behaviour_there, libraries_known, IsCatalogue, IsLibrary, PlainLibrary, Service, from_get_map, from_map, from_push, in_map, remove_in, IsIn, IsBeh, MAX_SERVICES, NamedBeh, is_name, parts_of, seat_of_service, LineShape, abort, request, die, explain, freeze, delegate, join, jump, jump_env, nothing, quit, report, observe, thaw, LineError, library_parts, AreTurns, Turn, after_turns, IsReached, needs_elim, unless_elim}

-- the parts are those of a system within the limit, and the services have valid names
pub record IsSound (s : State) : Type 0 where
  pub parts : IsNamedSys s.parts
  pub named : (name : List ℕ) → IsIn name (map seat_name s.parts.seats) → IsTrue (is_name name)

-- names of services after a change

frozen_name : (seats : List Seat) (k : ℕ) (frozen : Bool) (name : List ℕ) → IsIn name (map seat_name (with_frozen seats k frozen)) → IsIn name (map seat_name seats)
frozen_name [] k frozen name i = i
frozen_name (seat ∷ seats) zero frozen name i = i
frozen_name (seat ∷ seats) (suc k) frozen name (inl e) = inl e
frozen_name (seat ∷ seats) (suc k) frozen name (inr i) = inr (frozen_name seats k frozen name i)

gone_name : (seats : List Seat) (k : ℕ) (name : List ℕ) → IsIn name (map seat_name (remove seats k)) → IsIn name (map seat_name seats)
gone_name seats k name i =
    let (seat, j, e) = from_map seat_name name (remove seats k) i in
    subst (λ (n : List ℕ). IsIn n (map seat_name seats)) (sym e) (in_map seat_name seat seats (remove_in seat seats k j))

place_within : (seats : List Seat) (service : List ℕ) (k : ℕ) → slice_get (map seat_name seats) k ≡ Some service → k < length seats
place_within seats service k there = omega (arith, slice_get_within (map seat_name seats) k service there, length-map seats seat_name)

-- the behaviour at a place that a name has
behaviour_at : (catalogue : List NamedBeh) (i : ℕ) (name : List ℕ) → slice_get (map beh_name catalogue) i ≡ Some name → (b : NamedBeh) × (slice_get catalogue i ≡ Some b)
behaviour_at catalogue i name there = let (b, at, e) = from_get_map beh_name catalogue i name there in (b, at)

-- Each turn keeps a state sound.

module _ (library : PlainLibrary) (catalogue : IsCatalogue library.environment library.catalogue) (s new : State) (text : List ℕ) (is : IsState library s) (sound : IsSound s) where
  stays : new ≡ s → IsSound new
  stays same = subst IsSound (sym same) sound

  becomes : (next : State) → IsSound next → new ≡ next → IsSound new
  becomes next there same = subst IsSound (sym same) there

  -- the state has the same parts
  moves : (next : State) → next.parts ≡ s.parts → new ≡ next → IsSound new
  moves next parts same = becomes next (record {
    parts = subst IsNamedSys (sym parts) sound.parts;
    named = subst (λ (n : NamedSys). (name : List ℕ) → IsIn name (map seat_name n.seats) → IsTrue (is_name name)) (sym parts) sound.named;
  }) same

  frozen_sound : (k : ℕ) (frozen : Bool) (service : List ℕ) → slice_get (map seat_name s.parts.seats) k ≡ Some service → IsSound (with_services s (with_frozen s.parts.seats k frozen) s.here.bs)
  frozen_sound k frozen service there = record {
    parts = frozen_known s.parts k frozen sound.parts (place_within s.parts.seats service k there);
    named = λ name i. sound.named name (frozen_name s.parts.seats k frozen name i);
  }

  gone_sound : (k : ℕ) (service : List ℕ) → slice_get (map seat_name s.parts.seats) k ≡ Some service → IsSound (with_services s (remove s.parts.seats k) (remove s.here.bs k))
  gone_sound k service there =
      let (seat, at, e) = from_get_map seat_name s.parts.seats k service there in
      record {
        parts = gone_known s.parts k seat sound.parts (place_within s.parts.seats service k there) (sym (get_or_from_slice_get s.parts.seats k seat seat at));
        named = λ name i. sound.named name (gone_name s.parts.seats k name i);
      }

  joined_beh : (i : ℕ) (behaviour : List ℕ) → slice_get (map beh_name s.parts.catalogue) i ≡ Some behaviour → (i < length s.parts.catalogue) × IsBeh s.parts.environment.env (beh_at s.parts.catalogue i)
  joined_beh i behaviour there = by s.parts is.parts there
    where
      by : (n : NamedSys) → n ≡ record (parts_of library) { seats = s.parts.seats } → slice_get (map beh_name n.catalogue) i ≡ Some behaviour → (i < length n.catalogue) × IsBeh n.environment.env (beh_at n.catalogue i)
      by n same at = subst (λ (n : NamedSys). slice_get (map beh_name n.catalogue) i ≡ Some behaviour → (i < length n.catalogue) × IsBeh n.environment.env (beh_at n.catalogue i)) (sym same) (λ at.
          let (b, e) = behaviour_at library.catalogue i behaviour at in
          let known = behaviour_there library.environment library.catalogue i b catalogue e in (
            slice_get_within library.catalogue i b e,
            subst (IsBeh library.environment.env) (sym (beh_read library.catalogue i b e)) (known.known library.environment.env (sym known.env_states) (sym known.actions)),
          )) at

  joined_sound : (service behaviour : List ℕ) (rests : Bool) (i b : ℕ) → IsTrue (is_name service) → slice_get (map beh_name s.parts.catalogue) i ≡ Some behaviour → (IsIn service (map seat_name s.parts.seats) → ⊥) →
      length s.parts.seats < MAX_SERVICES →
      let seat : Seat = record { name = service; behaviour = i; frozen = false; rests = rests } in
      cells (system_of (with_services s (s.parts.seats ++ seat ∷ []) (s.here.bs ++ b ∷ [])).parts) ≤ s.parts.limit → IsSound (with_services s (s.parts.seats ++ seat ∷ []) (s.here.bs ++ b ∷ []))
  joined_sound service behaviour rests i b good there free few fits =
      let seat : Seat = record { name = service; behaviour = i; frozen = false; rests = rests } in
      let (within, beh) = joined_beh i behaviour there in
      record {
        parts = joined_known s.parts seat sound.parts few within beh free (subst (λ n. n ≤ s.parts.limit) (ap cells (joined_system s.parts seat)) fits);
        named = λ name j. elim (from_push name service (map seat_name s.parts.seats) (subst (IsIn name) (map_push seat_name s.parts.seats seat) j)) [
          | inl old ↦ sound.named name old
          | inr e ↦ subst (λ (n : List ℕ). IsTrue (is_name n)) (sym e) good
        ];
      }

  pub turn_sound : (event : Result LineShape LineError) → TurnsInto s event text new → IsSound new
  turn_sound (Err why) turn = stays turn.1
  turn_sound (Ok nothing) turn = stays turn.1
  turn_sound (Ok (request action)) turn =
      needs_elim (λ r. stays r.1) (λ (a, there) c.
      needs_elim (λ r. stays r.1) (λ idle c.
      needs_elim (λ r. stays r.1) (λ related c.
      needs_elim (λ r. stays r.1) (λ may c. moves _ refl c.1) c) c) c) turn
  turn_sound (Ok (delegate service)) turn =
      needs_elim (λ r. stays r.1) (λ (k, there) c.
      needs_elim (λ r. stays r.1) (λ (a, requested) c.
      needs_elim (λ r. stays r.1) (λ serves c. moves _ refl c.1) c) c) turn
  turn_sound (Ok (observe state env)) turn =
      needs_elim (λ r. stays r.1) (λ (a, k, delegated) c.
      needs_elim (λ r. stays r.1) (λ (b, there) c.
      needs_elim (λ r. stays r.1) (λ (e, named) c.
      needs_elim (λ r. stays r.1) (λ possible (t, goes, c). moves _ refl c.1) c) c) c) turn
  turn_sound (Ok abort) turn = unless_elim (λ r. stays r.1) (λ none c. moves _ refl c.1) turn
  turn_sound (Ok (freeze service)) turn =
      needs_elim (λ r. stays r.1) (λ (k, there) c.
      needs_elim (λ r. stays r.1) (λ idle c.
      needs_elim (λ r. stays r.1) (λ ready c. becomes _ (frozen_sound k true service there) c.1) c) c) turn
  turn_sound (Ok (thaw service)) turn =
      needs_elim (λ r. stays r.1) (λ (k, there) c.
      needs_elim (λ r. stays r.1) (λ idle c.
      unless_elim (λ r. stays r.1) (λ none c. becomes _ (frozen_sound k false service there) c.1) c) c) turn
  turn_sound (Ok (die service)) turn =
      needs_elim (λ r. stays r.1) (λ (k, there) c.
      needs_elim (λ r. stays r.1) (λ idle c. becomes _ (gone_sound k service there) c.1) c) turn
  turn_sound (Ok (join service behaviour state loose)) turn =
      needs_elim (λ r. stays r.1) (λ good c.
      needs_elim (λ r. stays r.1) (λ (i, there) c.
      needs_elim (λ r. stays r.1) (λ (b, named) c.
      needs_elim (λ r. stays r.1) (λ idle c.
      unless_elim (λ r. stays r.1) (λ free c.
      needs_elim (λ r. stays r.1) (λ few c.
      needs_elim (λ r. stays r.1) (λ fits c. becomes _ (joined_sound service behaviour (not loose) i b good there free few fits) c.1) c) c) c) c) c) c) turn
  turn_sound (Ok (jump service state)) turn =
      needs_elim (λ r. stays r.1) (λ (k, there) c.
      needs_elim (λ r. stays r.1) (λ (b, named) c.
      needs_elim (λ r. stays r.1) (λ idle c. moves _ refl c.1) c) c) turn
  turn_sound (Ok (jump_env env)) turn =
      needs_elim (λ r. stays r.1) (λ (e, named) c.
      needs_elim (λ r. stays r.1) (λ idle c. moves _ refl c.1) c) turn
  turn_sound (Ok report) turn = stays turn.1
  turn_sound (Ok explain) turn = unless_elim (λ r. stays r.1) (λ none c. stays c.1) turn
  turn_sound (Ok quit) turn = stays turn.1

-- Sessions

-- after turns from a sound state the state is sound and well formed
turns_sound : (library : PlainLibrary) → IsCatalogue library.environment library.catalogue → (s : State) (lines : List (List ℕ)) (xs : List Turn) → AreTurns library s lines xs → IsSound s →
    IsState library (after_turns s xs) × IsSound (after_turns s xs)
turns_sound library catalogue s [] [] is sound = (is, sound)
turns_sound library catalogue s [] (x ∷ xs) are sound = absurd are
turns_sound library catalogue s (line ∷ lines) [] are sound = absurd are
turns_sound library catalogue s (line ∷ lines) (x ∷ xs) (is, before, same, reads, turn, more) sound =
    let after = turn_sound library catalogue s x.after x.text is sound x.event turn in
    elim more [
      | inl (quits, last, none) ↦ subst (λ (ys : List Turn). IsState library (after_turns x.after ys) × IsSound (after_turns x.after ys)) (sym none) (last, after)
      | inr (on, later) ↦ turns_sound library catalogue x.after lines xs later after
    ]

-- the library's state is sound
start_sound : (library : PlainLibrary) → IsLibrary library → cells (system_of (parts_of library)) ≤ library.limit → ((x : Service) → IsIn x library.services → IsTrue (is_name x.name)) → IsSound (start_state library)
start_sound library is fits named = record {
  parts = library_parts library is (le-ltb library.limit (cells (system_of (parts_of library))) fits);
  named = λ name i.
      let (seat, j, e) = from_map seat_name name (map seat_of_service library.services) i in
      let (x, k, e') = from_map seat_of_service seat library.services j in
      subst (λ (n : List ℕ). IsTrue (is_name n)) (sym (e ∙ ap seat_name e')) (named x k);
}

-- each state that a session of an accepted document reaches is sound and well formed
pub reached_sound : AcceptedNamesAreClear → (texts : Texts) (document : List ℕ) (library : PlainLibrary) (s : State) → IsReached texts document library s → IsState library s × IsSound s
reached_sound accepted texts document library s reached =
    let is = (libraries_known texts document library reached.means.0).known in
    subst (λ (s : State). IsState library s × IsSound s) reached.now
    (turns_sound library is.catalogue (start_state library) reached.lines reached.turns reached.are (start_sound library is reached.means.1 (accepted texts document library reached.means.0).named))
