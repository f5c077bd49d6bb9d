-- Services and their behaviours, read one after another.
use Rattle.roman_joint.proofs.Common.{HaveBehaviours, seat_sizes, map-map, All, List, Some, [], ap, ap₂, arith, get_or, inl, inr, length, map, refl, subst, sym, take, ℕ, ◌++◌, ◌+◌, ◌-◌, ◌<◌, ◌==◌, ◌∙◌, ◌∷◌, ◌≡◌, ◌≤◌, All-map, All-push, recursion_from_All, AllByRecursion, Env, IsBeh, IsDeterministic, IsEnv, IsSys, IsIn, is_empty, IsOver, NamedBeh, NamedEnv, IsOverEnv, NamedSys, beh_at, seat_of, system_of, MAX_SERVICES, Sizes, sizes_of, length-map, length-set, map_push, take_more, take_more_set, ne_eqb, set, slice_get-get_or}
use Rattle.roman_model.specs.System as model
use Rattle.roman_joint.specs.declared.seat.Seat.{Seat}
use Rattle.roman_joint.proofs.BehaviourLemmas.{beh_read}

-- the behaviour that is read at a place of the catalogue
pub seat_beh_read : (behs : List NamedBeh) (i : ℕ) (y : NamedBeh) → i < length behs → y ≡ get_or behs i y → y.beh ≡ beh_at behs i
seat_beh_read behs i y l h = sym (beh_read behs i y (slice_get-get_or behs i y l ∙ ap Some (sym h)))

-- a behaviour has from 1 to 64 states, over any environment
pub states_range : (y : NamedBeh) → IsOver y.env_states y.actions y.beh → (0 < y.beh.states) × (y.beh.states ≤ 64)
states_range y known =
    let env : Env = record { states = y.env_states; actions = y.actions; start = 0; triples = [] } in
    (known env refl refl).states

-- the first services are read: their sizes, and that their behaviours are in range over the environment
pub record AreRead (catalogue : List NamedBeh) (seats : List Seat) (table : List ℕ) (k : ℕ) : Type 0 where
  pub sizes : take k table ≡ seat_sizes catalogue (take k seats)
  pub long : length table ≡ 32
  pub known : (environment : NamedEnv) → All (IsOverEnv environment) catalogue → HaveBehaviours environment.env catalogue (take k seats)

pub one_read : (catalogue : List NamedBeh) (seats : List Seat) (sizes : List ℕ) (k size : ℕ) (x : Seat) (y : NamedBeh) → k < length seats → k < 32 →
    x ≡ get_or seats k x → y ≡ get_or catalogue x.behaviour y → x.behaviour < length catalogue → size ≡ y.beh.states → IsOver y.env_states y.actions y.beh →
    AreRead catalogue seats sizes k → AreRead catalogue seats (set sizes k size) (k + 1)
one_read catalogue seats sizes k size x y within room at_seat at_beh place is over so_far =
    let f = λ (seat : Seat). (beh_at catalogue seat.behaviour).states in
    let read : y.beh ≡ beh_at catalogue x.behaviour = seat_beh_read _ _ _ place at_beh in
    let more : take (k + 1) seats ≡ take k seats ++ x ∷ [] = take_more seats k x within ∙ ap (λ z. take k seats ++ z ∷ []) (sym at_seat) in
    let here : size ≡ f x = is ∙ ap (λ b. b.states) read in
    record {
      sizes = take_more_set sizes k size (omega (arith, so_far.long))
          ∙ (ap₂ (λ ns n. ns ++ n ∷ []) so_far.sizes here ∙ (sym (map_push f (take k seats) x) ∙ ap (map f) (sym more)));
      long = length-set sizes k size ∙ so_far.long;
      known = λ environment are.
          let over_env : IsOverEnv environment y = subst (IsOverEnv environment) (sym at_beh) (are x.behaviour y place) in
          let beh : IsBeh environment.env (beh_at catalogue x.behaviour) = subst (IsBeh environment.env) read (over environment.env (sym over_env.0) (sym over_env.1)) in
          subst (HaveBehaviours environment.env catalogue) (sym more) (All-push (λ seat. IsBeh environment.env (beh_at catalogue seat.behaviour)) (take k seats) x (so_far.known environment are) beh);
    }

-- the seats' sizes are those of the system
pub same_sizes : (catalogue : List NamedBeh) (seats : List Seat) → seat_sizes catalogue seats ≡ map (λ x. x.beh.states) (map (seat_of catalogue) seats)
same_sizes catalogue seats = sym (map-map (λ x. x.beh.states) (seat_of catalogue) seats)

-- what holds of the services' behaviours holds of the system's seats
pub seats_known : (catalogue : List NamedBeh) (seats : List Seat) (env : Env) → AllByRecursion (λ seat. IsBeh env (beh_at catalogue seat.behaviour)) seats →
    (x : model.Seat) → IsIn x (map (seat_of catalogue) seats) → IsBeh env x.beh
seats_known catalogue [] env h x i = absurd i
seats_known catalogue (seat ∷ seats) env h x (inl e) = subst (λ (y : model.Seat). IsBeh env y.beh) (sym e) h.0
seats_known catalogue (seat ∷ seats) env h x (inr i) = seats_known catalogue seats env h.1 x i

-- each service has states
pub positive_sizes : (catalogue : List NamedBeh) (seats : List Seat) (env : Env) → HaveBehaviours env catalogue seats → All (λ size. 0 < size) (seat_sizes catalogue seats)
positive_sizes catalogue seats env h = All-map (λ size. 0 < size) (λ seat. (beh_at catalogue seat.behaviour).states) seats (λ k seat l. (h k seat l).states.0)

pub len_empty : (xs : List ℕ) → (length xs == 0) ≡ is_empty xs
len_empty [] = refl
len_empty (x ∷ xs) = ne_eqb (length (x ∷ xs)) 0 (λ e. let none : ⊥ = omega arith in none)

-- the sizes that were counted are those of the system
pub sizes_counted : (n : NamedSys) (t e : ℕ) (table : List ℕ) → t ≡ n.target.beh.states → e ≡ n.environment.env.states →
    take (length n.seats) table ≡ seat_sizes n.catalogue n.seats →
    ◌≡◌ {A = Sizes} (record { target = t; env = e; seats = take (length n.seats) table }) (sizes_of (system_of n))
sizes_counted n t e table is_t is_e is_table = rw (is_t, is_e, is_table ∙ same_sizes n.catalogue n.seats) refl

pub makes_system : (n : NamedSys) → IsEnv n.environment.env → IsBeh n.environment.env n.target.beh → IsDeterministic n.target.beh →
    HaveBehaviours n.environment.env n.catalogue n.seats → length n.seats ≤ MAX_SERVICES → IsSys (system_of n)
makes_system n env target single seats few =
    let all : length (system_of n).seats ≤ MAX_SERVICES = omega (arith, length-map n.seats (seat_of n.catalogue)) in
    assumption (seats_known n.catalogue n.seats n.environment.env (recursion_from_All _ n.seats seats))
