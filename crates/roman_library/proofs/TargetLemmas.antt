-- Several targets of a document, and the parts made from them.
use Rattle.roman_library.proofs.Common.{All, Err, IfSome, List, None, Ok, Option, Some, [], ap, get_or, length, map, refl, slice_get, subst, sym, ◌<◌, ◌∷◌, ◌≡◌, get_or-map, length-map, slice_get-map, option_map, HasNoRepeats, IsEnv, Request, combined_behaviour_over, combined_is_system, combined_target_over, state_count, ObeysRules, combined_behaviour, forbidding, requests_in, combined_parts, CombineError, Combined, Named, IsBehaviour, IsTarget, NamedBeh, NamedEnv, Gives, broken_rule, combined_of, ArePartsOf, AreServices, IsCatalogue, IsService, behaviour_name, Service}
use Rattle.roman_multi.specs.Combining as combining
use Rattle.roman_multi.specs.declared.error.CombineError.TheVariants as error

-- the combined parts, or the refusal of the combination
pub made_gives : (env : NamedEnv) (catalogue : List NamedBeh) (targets : List Named) (made : Combined) → combining.plain_combined made ≡ combined_parts env catalogue targets → forbidding env targets ≡ None →
    combined_of env catalogue targets ≡ Ok (combining.plain_combined made)
unfolding combined_of
made_gives env catalogue targets made is allowed = rw allowed (ap Ok (sym is))

pub broken_gives : (env : NamedEnv) (catalogue : List NamedBeh) (targets : List Named) (why : CombineError) → ObeysRules (Err why) (forbidding env targets) →
    Gives combining.plain_combined (Err (broken_rule why)) (combined_of env catalogue targets)
unfolding combined_of
broken_gives env catalogue targets error.States h = rw h refl
broken_gives env catalogue targets error.Actions h = rw h refl
broken_gives env catalogue targets error.LongName h = rw h refl
broken_gives env catalogue targets error.Repeated h = rw h refl
broken_gives env catalogue targets error.Memory h = tt

module _ (env : NamedEnv) (catalogue : List NamedBeh) (requests : List Request) where
  names_stay : (catalogue : List NamedBeh) → map behaviour_name (map (combined_behaviour env requests) catalogue) ≡ map behaviour_name catalogue
  names_stay [] = refl
  names_stay (b ∷ catalogue) = ap (λ xs. b.name ∷ xs) (names_stay catalogue)

  -- a service of the catalogue is a service of the combined catalogue
  service_stays : (service : Service) → IsService catalogue service → IsService (map (combined_behaviour env requests) catalogue) service
  service_stays service is = record {
    behaviour = subst (λ n. service.behaviour < n) (sym (length-map catalogue (combined_behaviour env requests))) is.behaviour;
    state =
        subst (λ (o : Option NamedBeh). IfSome o (λ behaviour. service.state < behaviour.beh.states)) (sym (slice_get-map (combined_behaviour env requests) catalogue service.behaviour))
        (by (slice_get catalogue service.behaviour) is.state);
  }
    where
      by : (o : Option NamedBeh) → IfSome o (λ behaviour. service.state < behaviour.beh.states) →
          IfSome (option_map (combined_behaviour env requests) o) (λ behaviour. service.state < behaviour.beh.states)
      by None h = tt
      by (Some b) h = h

  services_stay : (services : List Service) → AreServices catalogue services → AreServices (map (combined_behaviour env requests) catalogue) services
  services_stay services are = record { known = λ k d l. service_stays (get_or services k d) (are.known k d l); names = are.names }

-- combined parts that no rule forbids are parts of a library
pub combined_parts_known : (env : NamedEnv) (catalogue : List NamedBeh) (targets : List Named) → IsEnv env.env → IsCatalogue env catalogue → All (λ named. IsTarget env named.target) targets →
    forbidding env targets ≡ None → ArePartsOf catalogue (combined_parts env catalogue targets)
unfolding combined_parts
combined_parts_known env catalogue targets world are known allowed =
    let one = combined_is_system env targets world known allowed in
    record {
      environment = one.env;
      catalogue = record {
        known = λ k d l.
            let within : k < length catalogue = subst (λ n. k < n) (length-map catalogue (combined_behaviour env (requests_in env targets))) l in
            let old = are.known k d within in
            subst (IsBehaviour (combined_parts env catalogue targets).environment) (sym (get_or-map (combined_behaviour env (requests_in env targets)) catalogue k d d within))
            (record { env_states = refl; actions = refl; names = old.names; known = combined_behaviour_over env (requests_in env targets) (get_or catalogue k d) old.known });
        names = subst HasNoRepeats (sym (names_stay env catalogue (requests_in env targets) catalogue)) are.names;
      };
      count = length-map catalogue (combined_behaviour env (requests_in env targets));
      services = services_stay env catalogue (requests_in env targets);
      target = record {
        env_states = refl;
        actions = refl;
        names = state_count targets;
        known = combined_target_over env targets world known allowed;
        single = one.single;
      };
    }
