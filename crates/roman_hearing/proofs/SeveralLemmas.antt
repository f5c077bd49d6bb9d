-- In a session of a document with several targets the present system combines them, after any lines.
use Rattle.roman_hearing.proofs.Common.{◌≡◌, ◌↔◌, ℕ, zero, suc, ◌<◌, List, [], ◌∷◌, map, length, refl, sym, ap, ap₂, ◌∙◌, subst, arith, All, length-map, IsIn, product_of, Beh, Sys, Pair, IsBeh, IsPair, Great, from_map, combined_is_all, NamedBeh, NamedEnv, NamedSys, IsNamedSys, beh_at, seat_of, system_of, Situation, Answers, until_quit, AreNamed, IsKnownSituation, Seat, GreatAll, combined, combined_beh, combined_seat, couple_all, target_sizes, IsSeveral, MAX_STATES, Request, PlainCombined, combined_behaviour, combined_parts, machines, requests_in, good_count, all_in, machines_known, are_allowed, PlainLibrary, PlainTargets, CombinesTargets, libraries_known, targets_combined, several_with, MeansAll, SeveralAreServed}
use Rattle.std.proofs.lemmas.Bool.{ltb-false}
use Rattle.roman_model.specs.System as model
use Rattle.roman_hearing.proofs.KeepLemmas.{answers_keep}
use Rattle.roman_hearing.proofs.KnownLemmas.{steps_known}
use Rattle.roman_hearing.proofs.WithinLemmas.{beh_within}

-- The system over combined actions

-- the behaviour at a place of the combined catalogue
beh_combined : (env : NamedEnv) (requests : List Request) (catalogue : List NamedBeh) (i : ℕ) → i < length catalogue →
    beh_at (map (combined_behaviour env requests) catalogue) i ≡ combined_beh env.env.states requests (beh_at catalogue i)
beh_combined env requests [] i l = absurd (omega (arith, l))
beh_combined env requests (b ∷ bs) zero l = refl
beh_combined env requests (b ∷ bs) (suc i) l = beh_combined env requests bs i (omega (arith, l))

seats_combined : (env : NamedEnv) (requests : List Request) (catalogue : List NamedBeh) (seats : List Seat) → All (λ seat. seat.behaviour < length catalogue) seats →
    map (seat_of (map (combined_behaviour env requests) catalogue)) seats ≡ map (combined_seat env.env.states requests) (map (seat_of catalogue) seats)
seats_combined env requests catalogue [] all = refl
seats_combined env requests catalogue (seat ∷ seats) all =
    ap₂ (λ (b : Beh) (xs : List model.Seat). record { beh = b; frozen = seat.frozen; rests = seat.rests } ∷ xs)
    (beh_combined env requests catalogue seat.behaviour (all 0 seat (omega arith)))
    (seats_combined env requests catalogue seats (λ k d l. all (suc k) d (omega (arith, l))))

-- the system with these parts and seats
abbrev made_system : PlainCombined → List Seat → Sys
made_system made seats = record { env = made.environment.env; target = made.target.beh; seats = map (seat_of made.catalogue) seats }

made_combined : (said : PlainTargets) (seats : List Seat) → All (λ seat. seat.behaviour < length said.catalogue) seats →
    made_system (combined_parts said.environment said.catalogue said.targets) seats ≡ combined (several_with said seats)
unfolding combined_parts
made_combined said seats all = grind (arith, seats_combined)

catalogue_length : (said : PlainTargets) → length (combined_parts said.environment said.catalogue said.targets).catalogue ≡ length said.catalogue
unfolding combined_parts
catalogue_length said = length-map said.catalogue (combined_behaviour said.environment (requests_in said.environment said.targets))

-- Parts of a library

-- the parts, without the services
abbrev pub parts_in : NamedSys → PlainCombined
parts_in parts = record { environment = parts.environment; catalogue = parts.catalogue; target = parts.target }

module _ (said : PlainTargets) (library : PlainLibrary) (parts : NamedSys) (combines : CombinesTargets said library) (is : IsNamedSys parts)
    (has : parts_in parts ≡ record { environment = library.environment; catalogue = library.catalogue; target = library.target }) where
  pub parts_are : parts_in parts ≡ combined_parts said.environment said.catalogue said.targets
  parts_are = has ∙ sym combines.parts

  -- the services have behaviours of the document
  seats_within : All (λ seat. seat.behaviour < length said.catalogue) parts.seats
  seats_within k d l = grind (arith, parts_are, catalogue_length)

  system_is : system_of parts ≡ combined (several_with said parts.seats)
  system_is = ap (λ (made : PlainCombined). made_system made parts.seats) parts_are ∙ made_combined said parts.seats seats_within

  seats_known : (x : model.Seat) → IsIn x (several_with said parts.seats).seats → IsBeh said.environment.env x.beh
  seats_known x i =
      let (seat, j, same) = from_map (seat_of said.catalogue) x parts.seats i in
      subst (λ (x : model.Seat). IsBeh said.environment.env x.beh) (sym same)
      (beh_within said.environment said.catalogue seat.behaviour combines.behaviours.known (all_in (λ (seat : Seat). seat.behaviour < length said.catalogue) parts.seats seat seats_within j))

  several_are : IsSeveral (several_with said parts.seats)
  several_are =
      let allowed = are_allowed said.environment said.targets combines.allowed in
      record {
        env = combines.known;
        targets = machines_known said.environment said.targets combines.targets;
        seats = seats_known;
        few = omega (arith, is.system.few, length-map parts.seats (seat_of parts.catalogue), length-map parts.seats (seat_of said.catalogue));
        states = ltb-false MAX_STATES (product_of (target_sizes (machines said.targets))) allowed.states;
        actions = good_count (requests_in said.environment said.targets) allowed.actions;
      }

  pub means_all : MeansAll said parts
  means_all = record {
    known = several_are;
    system = system_is;
    great =
        subst (λ (sys : Sys). (p : Pair) → IsPair sys p → Great sys p ↔ GreatAll (several_with said parts.seats) (couple_all (several_with said parts.seats) p)) (sym system_is)
        (combined_is_all (several_with said parts.seats) several_are).great;
  }

-- Sessions

answers_known : (old new : Situation) (ls : List (List ℕ)) (text : List ℕ) → IsKnownSituation old → Answers old ls text new → IsKnownSituation new
answers_known old new [] text known (none, same) = subst IsKnownSituation (sym same) known
answers_known old new (line ∷ ls) text known (said, more, mid, split, step, answers) = answers_known mid new ls more (steps_known old mid line said known step) answers

pub several_served : SeveralAreServed
several_served texts document library said start now lines text accepted names begins is told =
    let library_is = libraries_known texts document library accepted in
    let named : AreNamed start.parts = subst AreNamed (sym begins.parts) (record { behaviours = library_is.known.catalogue.known; environment = library_is.states }) in
    let known = answers_known start now (until_quit lines) text (record { situation = is; named = named }) told in
    let keeps = answers_keep start now (until_quit lines) text told ∙ ap (λ (n : NamedSys). record n { seats = now.parts.seats }) begins.parts in
    means_all said library now.parts (targets_combined texts document library said accepted names) known.situation.parts
    (ap (λ (n : NamedSys). record { environment = n.environment; catalogue = n.catalogue; target = n.target }) keeps)
