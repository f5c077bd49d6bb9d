-- The product of the sizes of a library is the number of cells of its system.
use Rattle.roman_start.proofs.Common.{◌≡◌, ℕ, ◌+◌, ◌<◌, List, [], ◌∷◌, ◌++◌, map, length, get_or, take, refl, sym, ap, ap₂, ◌∙◌, subst, arith, All, take_more, map_push, product_of, states_in, sizes_of, NamedBeh, cells, system_of, seat_beh_read, PlainLibrary, IsService, Service, parts_of}
use Rattle.roman_start.proofs.DigitLemmas.{product_push}

-- the size of one more service
module _ (library : PlainLibrary) (known : All (IsService library.catalogue) library.services) (k : ℕ) (x : Service) (y : NamedBeh) where
  pub sizes_push : (sizes : List ℕ) (size : ℕ) → k < length library.services → x ≡ get_or library.services k x → y ≡ get_or library.catalogue x.behaviour y → size ≡ y.beh.states →
      sizes ≡ map (states_in library) (take k library.services) → sizes ++ size ∷ [] ≡ map (states_in library) (take (k + 1) library.services)
  sizes_push sizes size l at_service at_behaviour is so_far =
      let place : x.behaviour < length library.catalogue = subst (λ (s : Service). s.behaviour < length library.catalogue) (sym at_service) (known k x l).behaviour in
      let here : size ≡ states_in library x = is ∙ ap (λ b. b.states) (seat_beh_read library.catalogue x.behaviour y place at_behaviour) in
      let more = take_more library.services k x l ∙ ap (λ (z : Service). take k library.services ++ z ∷ []) (sym at_service) in
      ap₂ (λ ns n. ns ++ n ∷ []) so_far here ∙ (sym (map_push (states_in library) (take k library.services) x) ∙ ap (map (states_in library)) (sym more))

-- the services have the same sizes in the system
seat_sizes : (library : PlainLibrary) (services : List Service) → (sizes_of (system_of (parts_of (record library { services = services })))).seats ≡ map (states_in library) services
seat_sizes library [] = refl
seat_sizes library (service ∷ services) = ap (λ sizes. states_in library service ∷ sizes) (seat_sizes library services)

-- the sizes of the services, the target and the environment, and the number of actions
module _ (library : PlainLibrary) (sizes : List ℕ) (t e a : ℕ) where
  pub cells_are : sizes ≡ map (states_in library) library.services → t ≡ library.target.beh.states → e ≡ library.environment.env.states → a ≡ library.environment.env.actions →
      product_of (((sizes ++ t ∷ []) ++ e ∷ []) ++ a ∷ []) ≡ cells (system_of (parts_of library))
  cells_are are is_t is_e is_a =
      let seats : product_of (sizes_of (system_of (parts_of library))).seats ≡ product_of sizes = ap product_of (seat_sizes library library.services ∙ sym are) in
      rw (product_push ((sizes ++ t ∷ []) ++ e ∷ []) a, product_push (sizes ++ t ∷ []) e, product_push sizes t, seats, is_t, is_e, is_a) (omega arith)
