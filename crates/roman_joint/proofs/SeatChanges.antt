-- The system after a service is frozen, dropped or added.
use Rattle.roman_joint.proofs.Common.{same_Some, slice_get-get_or, Inside, IsJoint, IsJointOf, named_sys_in, ◌≡◌, ℕ, zero, suc, ◌*◌, ◌/◌, ◌<◌, ◌≤◌, ◌↔◌, Bool, true, false, if◌then◌else◌, List, [], ◌∷◌, ◌++◌, Some, slice_get, slice_index, get_or, map, length, take, drop, refl, sym, ap, ap₂, ◌∙◌, subst, arith, All, AllByRecursion, remove, set, mul-le-mul_left, mul-le-mul_right, le-div_iff_mul-le, map_push, map-append, length-map, take-map, drop-map, All-from_recursion, All-append, All-drop, All-push, All-take, recursion_from_All, IsIn, HasNoRepeats, Sys, IsSys, IsBeh, Join, Die, after, Change, Freeze, Thaw, set_frozen, CanChange, Sizes, sizes_of, count, grown_sizes, sizes_without, MAX_SERVICES, get_in, HasNoRepeats-push, states_frozen, remove_in, count-without, NamedBeh, NamedSys, beh_at, seat_of, system_of, cells, IsNamedSys, with_frozen, HasSameParts, IsSys-after, size_at}
use Rattle.roman_model.specs.System as model
use Rattle.roman_joint.specs.declared.seat.Seat.{Seat}
use Rattle.roman_joint.proofs.BehaviourLemmas.{seat_read}

-- the fields are those of a joint
pub is_joint : (a : Inside) (n : NamedSys) → named_sys_in a ≡ n → IsJointOf a n → IsJoint a
is_joint a n same ok = subst (IsJointOf a) (sym same) ok

-- the named system with these services
abbrev pub with_seats : NamedSys → List Seat → NamedSys
with_seats n seats = record { environment = n.environment; catalogue = n.catalogue; target = n.target; seats = seats; limit = n.limit }

-- a system with other seats, and sizes with other seats
abbrev with_model_seats : Sys → List model.Seat → Sys
with_model_seats s seats = record { env = s.env; target = s.target; seats = seats }

-- a system with the seats of another that differs only in them is that other system
pub with_the_seats : (m n : NamedSys) (seats : List Seat) → HasSameParts m n → seats ≡ n.seats → with_seats m seats ≡ n
with_the_seats m n seats parts same =
    λ i. record { environment = parts.environment i; catalogue = parts.catalogue i; target = parts.target i; seats = same i; limit = parts.limit i }

-- after a change, the named system is well formed if its cells are within the limit and its services are
seats_known : (n : NamedSys) (seats : List Seat) (change : Change) → IsNamedSys n → CanChange change (system_of n) → system_of (with_seats n seats) ≡ after change (system_of n) → cells (system_of (with_seats n seats)) ≤ n.limit →
    All (λ seat. seat.behaviour < length n.catalogue) seats → HasNoRepeats (map (λ seat. seat.name) seats) → IsNamedSys (with_seats n seats)
seats_known n seats change known can is fits behaviours names = record {
  system = subst IsSys (sym is) (IsSys-after change (system_of n) known.system can);
  fits = fits;
  limit = known.limit;
  behaviours = behaviours;
  names = names;
  catalogue = known.catalogue;
  target = known.target;
}

-- A service is frozen or thawed.

pub frozen_set : (seats : List Seat) (k : ℕ) (x : Seat) (frozen : Bool) → x ≡ get_or seats k x →
    set seats k (record { name = x.name; behaviour = x.behaviour; frozen = frozen; rests = x.rests }) ≡ with_frozen seats k frozen
frozen_set [] k x frozen h = refl
frozen_set (seat ∷ seats) zero x frozen h = ap (λ (y : Seat). with_frozen (y ∷ seats) zero frozen) h
frozen_set (seat ∷ seats) (suc k) x frozen h = ap (λ xs. seat ∷ xs) (frozen_set seats k x frozen h)

frozen_seats : (catalogue : List NamedBeh) (seats : List Seat) (k : ℕ) (frozen : Bool) → map (seat_of catalogue) (with_frozen seats k frozen) ≡ set_frozen (map (seat_of catalogue) seats) k frozen
frozen_seats catalogue [] k frozen = refl
frozen_seats catalogue (seat ∷ seats) zero frozen = refl
frozen_seats catalogue (seat ∷ seats) (suc k) frozen = ap (λ xs. seat_of catalogue seat ∷ xs) (frozen_seats catalogue seats k frozen)

frozen_names : (seats : List Seat) (k : ℕ) (frozen : Bool) → map (λ seat. seat.name) (with_frozen seats k frozen) ≡ map (λ seat. seat.name) seats
frozen_names [] k frozen = refl
frozen_names (seat ∷ seats) zero frozen = refl
frozen_names (seat ∷ seats) (suc k) frozen = ap (λ xs. seat.name ∷ xs) (frozen_names seats k frozen)

frozen_places : (m : ℕ) (seats : List Seat) (k : ℕ) (frozen : Bool) → AllByRecursion (λ seat. seat.behaviour < m) seats → AllByRecursion (λ seat. seat.behaviour < m) (with_frozen seats k frozen)
frozen_places m [] k frozen h = h
frozen_places m (seat ∷ seats) zero frozen h = h
frozen_places m (seat ∷ seats) (suc k) frozen h = (h.0, frozen_places m seats k frozen h.1)

after_frozen : (s : Sys) (k : ℕ) (frozen : Bool) → ◌≡◌ {A = Sys} (record { env = s.env; target = s.target; seats = set_frozen s.seats k frozen }) (after (if frozen then Freeze k else Thaw k) s)
after_frozen s k true = refl
after_frozen s k false = refl

can_freeze : (s : Sys) (k : ℕ) (frozen : Bool) → k < length s.seats → CanChange (if frozen then Freeze k else Thaw k) s
can_freeze s k true h = h
can_freeze s k false h = h

pub frozen_system : (n : NamedSys) (k : ℕ) (frozen : Bool) → system_of (with_seats n (with_frozen n.seats k frozen)) ≡ after (if frozen then Freeze k else Thaw k) (system_of n)
frozen_system n k frozen = ap (with_model_seats (system_of n)) (frozen_seats n.catalogue n.seats k frozen) ∙ after_frozen (system_of n) k frozen

pub frozen_sizes : (n : NamedSys) (k : ℕ) (frozen : Bool) → sizes_of (system_of (with_seats n (with_frozen n.seats k frozen))) ≡ sizes_of (system_of n)
frozen_sizes n k frozen = grind (arith, frozen_seats, states_frozen)

pub frozen_known : (n : NamedSys) (k : ℕ) (frozen : Bool) → IsNamedSys n → k < length n.seats → IsNamedSys (with_seats n (with_frozen n.seats k frozen))
frozen_known n k frozen known within =
    seats_known n (with_frozen n.seats k frozen) (if frozen then Freeze k else Thaw k) known (can_freeze (system_of n) k frozen (omega (arith, length-map n.seats (seat_of n.catalogue)))) (frozen_system n k frozen)
    (omega (arith, ap (λ m. count m * n.environment.env.actions) (frozen_sizes n k frozen), known.fits))
    (All-from_recursion (λ seat. seat.behaviour < length n.catalogue) (with_frozen n.seats k frozen) (frozen_places (length n.catalogue) n.seats k frozen (recursion_from_All (λ seat. seat.behaviour < length n.catalogue) n.seats known.behaviours)))
    (subst HasNoRepeats (sym (frozen_names n.seats k frozen)) known.names)

-- A service is dropped.

map-remove : {X Y : Type 0} (f : X → Y) (xs : List X) (k : ℕ) → map f (remove xs k) ≡ remove (map f xs) k
map-remove f xs k = map-append f (take k xs) (drop (suc k) xs) ∙ ap₂ (λ ys zs. ys ++ zs) (sym (take-map f k xs)) (sym (drop-map f (suc k) xs))

HasNoRepeats-remove : {X : Type 0} (xs : List X) (k : ℕ) → HasNoRepeats xs → HasNoRepeats (remove xs k)
HasNoRepeats-remove [] zero h = h
HasNoRepeats-remove [] (suc k) h = h
HasNoRepeats-remove (x ∷ xs) zero h = h.1
HasNoRepeats-remove (x ∷ xs) (suc k) h = (λ i. h.0 (remove_in x xs k i), HasNoRepeats-remove xs k h.1)

All-remove : {X : Type 0} (P : X → Type 0) (xs : List X) (k : ℕ) → All P xs → All P (remove xs k)
All-remove P xs k h = All-append P (take k xs) (drop (suc k) xs) (All-take P k xs h) (All-drop P (suc k) xs h)

pub gone_system : (n : NamedSys) (k : ℕ) (seat : model.Seat) → system_of (with_seats n (remove n.seats k)) ≡ after (Die k seat) (system_of n)
gone_system n k seat = ap (with_model_seats (system_of n)) (map-remove (seat_of n.catalogue) n.seats k)

pub gone_sizes : (n : NamedSys) (k : ℕ) → sizes_without k (sizes_of (system_of n)) ≡ sizes_of (system_of (with_seats n (remove n.seats k)))
gone_sizes n k = grind (arith, map-remove)

pub gone_known : (n : NamedSys) (k : ℕ) (x : Seat) → IsNamedSys n → k < length n.seats → x ≡ get_or n.seats k x → IsNamedSys (with_seats n (remove n.seats k))
gone_known n k x known within is =
    let s = system_of n in
    let seat : model.Seat = seat_of n.catalogue x in
    let seated : slice_get s.seats k ≡ Some seat = seat_read n k x (slice_get-get_or n.seats k x within ∙ ap Some (sym is)) in
    let there : k < length (sizes_of s).seats = omega (arith, length-map s.seats (λ (y : model.Seat). y.beh.states), length-map n.seats (seat_of n.catalogue)) in
    let size : slice_index (sizes_of s).seats k ≡ seat.beh.states = size_at s.seats k seat seated in
    let some : 0 < slice_index (sizes_of s).seats k = omega (arith, size, (known.system.seats seat (get_in s.seats k seat seated)).states.0) in
    let product : count (sizes_of s) ≡ count (sizes_without k (sizes_of s)) * slice_index (sizes_of s).seats k = count-without (sizes_of s) k there in
    let fewer : count (sizes_without k (sizes_of s)) * 1 ≤ count (sizes_without k (sizes_of s)) * slice_index (sizes_of s).seats k = mul-le-mul_left (count (sizes_without k (sizes_of s))) some in
    let less : count (sizes_without k (sizes_of s)) ≤ count (sizes_of s) = omega arith in
    let cells_less : count (sizes_without k (sizes_of s)) * s.env.actions ≤ count (sizes_of s) * s.env.actions = mul-le-mul_right s.env.actions less in
    seats_known n (remove n.seats k) (Die k seat) known seated (gone_system n k seat) (omega (arith, ap (λ m. count m * s.env.actions) (gone_sizes n k), cells_less, known.fits)) (All-remove (λ y. y.behaviour < length n.catalogue) n.seats k known.behaviours)
    (subst HasNoRepeats (sym (map-remove (λ (y : Seat). y.name) n.seats k)) (HasNoRepeats-remove (map (λ (y : Seat). y.name) n.seats) k known.names))

-- A service is added.

pub joined_system : (n : NamedSys) (seat : Seat) → system_of (with_seats n (n.seats ++ seat ∷ [])) ≡ after (Join (seat_of n.catalogue seat)) (system_of n)
joined_system n seat = ap (with_model_seats (system_of n)) (map_push (seat_of n.catalogue) n.seats seat)

pub joined_sizes : (n : NamedSys) (seat : Seat) → grown_sizes (sizes_of (system_of n)) (beh_at n.catalogue seat.behaviour).states ≡ sizes_of (system_of (with_seats n (n.seats ++ seat ∷ [])))
joined_sizes n seat = grind (arith, map_push)

pub joined_known : (n : NamedSys) (seat : Seat) → IsNamedSys n → length n.seats < MAX_SERVICES → seat.behaviour < length n.catalogue →
    IsBeh n.environment.env (beh_at n.catalogue seat.behaviour) → (IsIn seat.name (map (λ (y : Seat). y.name) n.seats) → ⊥) →
    cells (after (Join (seat_of n.catalogue seat)) (system_of n)) ≤ n.limit → IsNamedSys (with_seats n (n.seats ++ seat ∷ []))
joined_known n seat known room place beh new fits =
    seats_known n (n.seats ++ seat ∷ []) (Join (seat_of n.catalogue seat)) known (beh, omega (arith, length-map n.seats (seat_of n.catalogue))) (joined_system n seat) (subst (λ x. x ≤ n.limit) (sym (ap cells (joined_system n seat))) fits)
    (All-push (λ y. y.behaviour < length n.catalogue) n.seats seat known.behaviours place)
    (subst HasNoRepeats (sym (map_push (λ (y : Seat). y.name) n.seats seat)) (HasNoRepeats-push (map (λ (y : Seat). y.name) n.seats) seat.name known.names new))

-- the grown pairs fit exactly if the grown cells are within the limit, for numbers that are equal to the system's
pub joined_test : (n : NamedSys) (seat : Seat) (m : Sizes) (size actions : ℕ) → IsNamedSys n → m ≡ sizes_of (system_of n) → size ≡ (beh_at n.catalogue seat.behaviour).states →
    actions ≡ n.environment.env.actions →
    (count (grown_sizes m size) ≤ n.limit / actions) ↔ (cells (after (Join (seat_of n.catalogue seat)) (system_of n)) ≤ n.limit)
joined_test n seat m size actions known is_m is_size is_actions = rw (is_m, is_size, is_actions) (grind (arith, joined_sizes, joined_system, le-div_iff_mul-le))

-- a service that is frozen or thawed keeps its behaviour
pub frozen_at : (catalogue : List NamedBeh) (seats : List Seat) (k : ℕ) (frozen : Bool) (j : ℕ) (x : model.Seat) → slice_get (map (seat_of catalogue) (with_frozen seats k frozen)) j ≡ Some x →
    (y : model.Seat) × (slice_get (map (seat_of catalogue) seats) j ≡ Some y) × (y.beh ≡ x.beh)
frozen_at catalogue [] k frozen j x e = (x, e, refl)
frozen_at catalogue (seat ∷ seats) zero frozen zero x e =
    (seat_of catalogue seat, refl, ap (λ (y : model.Seat). y.beh) (same_Some (seat_of catalogue (record { name = seat.name; behaviour = seat.behaviour; frozen = frozen; rests = seat.rests })) x e))
frozen_at catalogue (seat ∷ seats) zero frozen (suc j) x e = (x, e, refl)
frozen_at catalogue (seat ∷ seats) (suc k) frozen zero x e = (x, e, refl)
frozen_at catalogue (seat ∷ seats) (suc k) frozen (suc j) x e = frozen_at catalogue seats k frozen j x e
