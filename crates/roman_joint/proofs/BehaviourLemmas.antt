-- Facts about the behaviour of a service.
use Rattle.roman_joint.proofs.Common.{◌≡◌, ℕ, zero, suc, ◌<◌, List, [], ◌∷◌, Some, length, slice_get, get_or, sym, ap, ◌∙◌, subst, arith, option_map, slice_get-map, slice_get_within, get_or_from_slice_get, slice_get-get_or, length-map, NamedBeh, NamedSys, IsNamedSys, IsOverEnv, system_of, seat_of, beh_at, Beh, IsSeatBehaviour, IsServiceAt, All-get_or, map, seat_names, names_in, names_of_seat, beh_states, SeatNames, size_at}
use Rattle.roman_model.specs.System as model
use Rattle.roman_joint.specs.declared.seat.Seat.{Seat}

-- the behaviour that is read at a place of the catalogue
pub beh_read : (catalogue : List NamedBeh) (i : ℕ) (beh : NamedBeh) → slice_get catalogue i ≡ Some beh → beh_at catalogue i ≡ beh.beh
beh_read [] i beh h = cc
beh_read (x ∷ xs) zero beh h = let e : x ≡ beh = cc in ap (λ (y : NamedBeh). y.beh) e
beh_read (x ∷ xs) (suc i) beh h = beh_read xs i beh h

-- the seat of a service in its system
pub seat_read : (n : NamedSys) (k : ℕ) (seat : Seat) → slice_get n.seats k ≡ Some seat → slice_get (system_of n).seats k ≡ Some (seat_of n.catalogue seat)
seat_read n k seat h = slice_get-map (seat_of n.catalogue) n.seats k ∙ ap (option_map (seat_of n.catalogue)) h

-- a service's seat, behaviour and environment, in one system
pub record Behaves (n : NamedSys) (k : ℕ) (beh : NamedBeh) : Type 0 where
  pub seat : model.Seat
  pub seated : slice_get (system_of n).seats k ≡ Some seat
  pub is : seat.beh ≡ beh.beh
  pub env_states : beh.env_states ≡ n.environment.env.states
  pub actions : beh.actions ≡ n.environment.env.actions

pub behaves : (n : NamedSys) (k : ℕ) (beh : NamedBeh) → IsNamedSys n → IsSeatBehaviour n k beh → Behaves n k beh
behaves n k beh known of =
    let l = slice_get_within n.catalogue of.seat.behaviour beh of.placed in
    let over : IsOverEnv n.environment beh =
    subst (IsOverEnv n.environment) (get_or_from_slice_get n.catalogue of.seat.behaviour beh beh of.placed) (All-get_or (IsOverEnv n.environment) n.catalogue of.seat.behaviour beh l known.catalogue) in
    record {
      seat = seat_of n.catalogue of.seat;
      seated = seat_read n k of.seat of.seated;
      is = beh_read n.catalogue of.seat.behaviour beh of.placed;
      env_states = over.0;
      actions = over.1;
    }

-- the seats of a system are those of its services
pub seat_within : (n : NamedSys) (k : ℕ) (seat : model.Seat) → slice_get (system_of n).seats k ≡ Some seat → k < length n.seats
seat_within n k seat h = grind (arith, length-map, slice_get_within)

-- the behaviour that is read from the catalogue is the one at the service's place there
pub beh_placed : (n : NamedSys) (k : ℕ) (seat : Seat) (catalogue : List NamedBeh) (beh : NamedBeh) → IsNamedSys n → slice_get n.seats k ≡ Some seat → catalogue ≡ n.catalogue →
    beh ≡ get_or catalogue seat.behaviour beh → slice_get n.catalogue seat.behaviour ≡ Some beh
beh_placed n k seat catalogue beh known seated same h =
    let l = slice_get_within n.seats k seat seated in
    let within : seat.behaviour < length n.catalogue =
    subst (λ (x : Seat). x.behaviour < length n.catalogue) (get_or_from_slice_get n.seats k seat seat seated) (All-get_or (λ x. x.behaviour < length n.catalogue) n.seats k seat l known.behaviours) in
    let read : beh ≡ get_or n.catalogue seat.behaviour beh = subst (λ (xs : List NamedBeh). beh ≡ get_or xs seat.behaviour beh) same h in
    slice_get-get_or n.catalogue seat.behaviour beh within ∙ ap Some (sym read)

-- a service and its behaviour, as they are read one after another
pub service_read : (n : NamedSys) (k : ℕ) (x : Seat) (catalogue : List NamedBeh) (y : NamedBeh) → IsNamedSys n → slice_get n.seats k ≡ Some x → catalogue ≡ n.catalogue →
    y ≡ get_or catalogue x.behaviour y → IsServiceAt n k x y
service_read n k x catalogue y known at_place same in_catalogue =
    let placed = beh_placed n k x catalogue y known at_place same in_catalogue in
    let of = behaves n k y known (record { seat = x; seated = at_place; placed = placed }) in
    let read : beh_at n.catalogue x.behaviour ≡ y.beh = beh_read n.catalogue x.behaviour y placed in
    let seated = seat_read n k x at_place in
    record {
      beh = sym read;
      seated = seated;
      size = size_at (system_of n).seats k (seat_of n.catalogue x) seated ∙ ap (λ (b : Beh). b.states) read;
      env_states = of.env_states;
      actions = of.actions;
    }

-- the names of a service's states are those of its behaviour's states
pub states_named : (n : NamedSys) (k : ℕ) (beh : NamedBeh) → IsSeatBehaviour n k beh → (seat_names (names_in n) k).states ≡ beh.states
states_named n k beh of =
    ap (λ (x : SeatNames). x.states) (get_or_from_slice_get (names_in n).seats k (names_of_seat n.catalogue of.seat) (record { service = []; states = [] })
    (slice_get-map (names_of_seat n.catalogue) n.seats k ∙ ap (option_map (names_of_seat n.catalogue)) of.seated))
    ∙ get_or_from_slice_get (map beh_states n.catalogue) of.seat.behaviour beh.states [] (slice_get-map beh_states n.catalogue of.seat.behaviour ∙ ap (option_map beh_states) of.placed)
