-- Properties of the parts of a library.
use Rattle.roman_library.proofs.Common.{Bool, Err, IfOk, List, None, Ok, Result, [], ap, arith, cond, map, not, refl, subst, sym, ℕ, ◌++◌, ◌+◌, ◌∙◌, ◌∷◌, ◌≡◌, length-map, map_push, IsOver-states, behaviour_known, none_absent, All-push, position, prefix_len, bytes_eq, HasNoRepeats-push, HasNoRepeats, IsBehaviour, NamedBeh, NamedEnv, behaviour_of, name_of, Gives, PartError, same_ok, place_of, Data, AreServices, IsCatalogue, IsService, behaviour_name, service_name, Service}

-- Lists of named items

prefix_len-map : {X Y : Type 0} (f : X → Y) (p : Y → Bool) (xs : List X) → prefix_len p (map f xs) ≡ prefix_len (λ x. p (f x)) xs
prefix_len-map f p [] = refl
prefix_len-map f p (x ∷ xs) = ap (λ n. cond (p (f x)) (1 + n) 0) (prefix_len-map f p xs)

-- the place of a name among the names is the place of the item with that name
pub place_of-map : {X : Type 0} (f : X → List ℕ) (xs : List X) (name : List ℕ) → place_of (map f xs) name ≡ position (λ x. bytes_eq name (f x)) xs
place_of-map f xs name = rw (prefix_len-map f (λ x. not (bytes_eq name x)) xs, length-map xs f) refl

-- an item with a new name can be appended to items with distinct names
new_name : {X : Type 0} (f : X → List ℕ) (xs : List X) (x : X) → HasNoRepeats (map f xs) → place_of (map f xs) (f x) ≡ None → HasNoRepeats (map f (xs ++ x ∷ []))
new_name f xs x once none = rw (map_push f xs x) (HasNoRepeats-push (map f xs) (f x) once (none_absent (map f xs) (f x) none))

-- an empty list of behaviours is a catalogue
pub no_behaviours : (env : NamedEnv) → IsCatalogue env []
no_behaviours env = record { known = λ d i l. absurd (omega (arith, l)); names = tt }

-- a behaviour that was read can be appended to a catalogue in which its name is new
pub behaviour_pushed : (env : NamedEnv) (before : List NamedBeh) (d : Data) (name : List ℕ) (read : Result NamedBeh PartError) → Gives (λ x. x) read (behaviour_of env d) → name_of d ≡ Ok name
    → place_of (map behaviour_name before) name ≡ None → IfOk read (λ b. IsCatalogue env before → IsCatalogue env (before ++ b ∷ []))
behaviour_pushed env before d name (Err e) gives named free = tt
behaviour_pushed env before d name (Ok b) gives named free = λ old.
    let is = behaviour_known env d b gives in
    let same : name ≡ b.name = same_ok name b.name (sym named ∙ is.name) in
    record {
      known = All-push (IsBehaviour env) before b old.known is.known;
      names = new_name behaviour_name before b old.names (subst (λ (n : List ℕ). place_of (map behaviour_name before) n ≡ None) same free);
    }

-- a service with a new name can be appended to services
pub AreServices-push : (catalogue : List NamedBeh) (before after : List Service) (s : Service) → AreServices catalogue before → IsService catalogue s
    → place_of (map service_name before) s.name ≡ None → after ≡ before ++ s ∷ [] → AreServices catalogue after
AreServices-push catalogue before after s old known new is = rw is (record {
  known = All-push (IsService catalogue) before s old.known known;
  names = new_name service_name before s old.names new;
})

-- the rules for the states of a behaviour
pub ruleset states = (IsOver-states)
