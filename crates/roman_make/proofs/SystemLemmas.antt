-- The library that is made is the library of the definition, and is well formed.
use Rattle.roman_make.proofs.Common.{◌≡◌, ℕ, zero, suc, ◌≤◌, ◌∷◌, [], List, length, map, take, lit<, lit≤, arith, length-map, length-take-le, All-cons, All-map, map-map, HasNoRepeats, IsEnv, HasNoRepeats-below, HasNoRepeats-map, in_map, NamedEnv, NamedBeh, NamedTarget, IsBehaviour, IsTarget, PlainLibrary, IsLibrary, AreServices, IsService, service_name, number_in, floor, worker, worker_names, idle_worker, shift, made, in_take}

-- ---- distinct names

-- names are distinct if their numbers are
once_from_map : {X Y : Type 0} (f : X → Y) (xs : List X) → HasNoRepeats (map f xs) → HasNoRepeats xs
once_from_map f [] once = tt
once_from_map f (x ∷ xs) once = (λ i. once.0 (in_map f x xs i), once_from_map f xs once.1)

once_in_front : {X : Type 0} (n : ℕ) (xs : List X) → HasNoRepeats xs → HasNoRepeats (take n xs)
once_in_front zero xs once = tt
once_in_front (suc n) [] once = tt
once_in_front (suc n) (x ∷ xs) once = (λ i. once.0 (in_take n x xs i), once_in_front n xs once.1)

-- the names of the workers are distinct
workers_once : HasNoRepeats worker_names
workers_once = once_from_map (number_in worker_names) worker_names (HasNoRepeats-below 10)

-- ---- the library

-- the parts that are made are the parts of the library
pub library_is : (made_library : PlainLibrary) (n : ℕ) → made_library.environment ≡ floor → made_library.catalogue ≡ worker ∷ [] → made_library.services ≡ map idle_worker (take n worker_names)
    → made_library.target ≡ shift → made_library.limit ≡ 4_194_304 → made_library ≡ made n
unfolding made
library_is made_library n e c s t l = λ i. record { environment = e i; catalogue = c i; services = s i; target = t i; limit = l i }

few_workers : (n : ℕ) → n ≤ 10 → length (map idle_worker (take n worker_names)) ≤ 32
few_workers n few = rw (length-map (take n worker_names) idle_worker, length-take-le n worker_names few) (omega arith)

are_services : (n : ℕ) → AreServices (worker ∷ []) (map idle_worker (take n worker_names))
unfolding worker
are_services n = record {
  known = All-map (IsService (worker ∷ [])) idle_worker (take n worker_names) (λ k d less. record { behaviour = lit< tt; state = lit< tt });
  names = rw map-map (HasNoRepeats-map (λ name. service_name (idle_worker name)) (take n worker_names) (λ x y i j same. same) (once_in_front n worker_names workers_once));
}

-- the library of the definition is well formed
pub made_is_library : (n : ℕ) → n ≤ 10 → IsEnv floor.env → IsBehaviour floor worker → IsTarget floor shift → IsLibrary (made n)
unfolding made
made_is_library n few env behaviour target = record {
  environment = env;
  catalogue = record { known = All-cons (IsBehaviour floor) worker [] behaviour (λ k d less. absurd (omega arith)); names = (λ i. i, tt) };
  few_behaviours = lit≤ tt;
  services = are_services n;
  few_services = few_workers n few;
  target = target;
  limit = (lit< tt, lit≤ tt);
}

-- the library that is made is well formed
pub library_known : (made_library : PlainLibrary) (n : ℕ) (env : NamedEnv) (beh : NamedBeh) (target : NamedTarget) → made_library ≡ made n → n ≤ 10
    → env ≡ floor → IsEnv env.env → beh ≡ worker → IsBehaviour floor beh → target ≡ shift → IsTarget floor target → IsLibrary made_library
library_known made_library n env beh target is few e env_known b beh_known t target_known = grind (arith, made_is_library)
