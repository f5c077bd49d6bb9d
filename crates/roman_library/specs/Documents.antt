-- The meaning of a system document on a shelf: a library, or the first rule that it breaks.
use Rattle.std.specs.Prelude.{ℕ, ◌==◌, ◌&&◌, ◌++◌, Bool, true, false, List, [], ◌∷◌, map, length, slice_get, Option, Some, None, Result, Ok, Err, is_some, is_none, nat_le, codes, if◌then◌else◌}
use Rattle.serde_json.specs.Data.{Data}
use Rattle.serde_json.specs.Find.{as_object}
use Rattle.roman_io.specs.Shelf.{Texts}
use Rattle.roman_io.specs.Shelf as shelf
use Rattle.roman_model.specs.declared.limits.TheConstants.{MAX_BEHAVIOURS, MAX_SERVICES, MAX_CELLS, DEFAULT_CELLS, MAX_DOCUMENT_BYTES, MAX_FILE_NAME_BYTES}
use Rattle.roman_read.specs.Items.{◌>>=◌, each_item}
use Rattle.roman_read.specs.Json.{json_of, member_of, text_of, number_of, truth_of}
use Rattle.roman_read.specs.Names.{place_of}
use Rattle.roman_read.specs.declared.rules.Kind.TheVariants as kind
use Rattle.roman_read.specs.declared.rules.Miss.{Miss}
use Rattle.roman_parts.specs.Lists.{place_in}
use Rattle.roman_parts.specs.Named.{NamedEnv, NamedBeh, NamedTarget}
use Rattle.roman_parts.specs.Parts.{environment_of, name_of, behaviour_of, target_of}
use Rattle.roman_parts.specs.Reading.{looked, found, check, counted_items}
use Rattle.roman_parts.specs.declared.error.List.{List as Place}
use Rattle.roman_parts.specs.declared.error.List.TheVariants as list
use Rattle.roman_parts.specs.declared.error.PartError.{PartError}
use Rattle.roman_parts.specs.declared.error.PartError.TheVariants.{Refused, Memory}
use Rattle.roman_multi.specs.Combining.{PlainCombined, target_name, forbidding, combined_parts}
use Rattle.roman_multi.specs.declared.parts.Named.{Named}
use Rattle.roman_multi.specs.declared.error.CombineError.{CombineError}
use Rattle.roman_multi.specs.declared.error.CombineError.TheVariants as combine
use Rattle.roman_library.specs.Library.{PlainLibrary, behaviour_name, service_name}
use Rattle.roman_library.specs.Refusals.{located}
use Rattle.roman_library.specs.declared.library.Service.{Service}
use Rattle.roman_library.specs.declared.refusal.Part.{Part}
use Rattle.roman_library.specs.declared.refusal.Part.TheVariants as part
use Rattle.roman_library.specs.declared.refusal.Refusal.{Refusal}

-- the value read from a member, or the default if the member is missing or the value isn't an object
abbrev pub optional : {X : Type 0} → (Data → Result X PartError) → X → Result Data Miss → Result X PartError
optional read absent (Ok member) = read member
optional read absent (Err miss) = Ok absent

-- ---- the version and the limit

-- the version of a document
unfoldable pub version_of : Data → Result ℕ PartError
version_of d = do
  whole ← check (is_some (as_object d)) kind.Form list.Whole 0 d
  roman ← looked list.Roman 0 (member_of whole (codes "roman"))
  number ← looked list.Roman 0 (number_of roman)
  check (nat_le 1 number && nat_le number 3) kind.Version list.Roman 0 number

-- a limit on cells
unfoldable pub limit_in : Data → Result ℕ PartError
limit_in d = do
  number ← looked list.Limit 0 (number_of d)
  check (nat_le 1 number && nat_le number MAX_CELLS) kind.Count list.Limit 0 number

-- the limit on cells of a document
unfoldable pub limit_of : Data → Result ℕ PartError
limit_of d = optional limit_in DEFAULT_CELLS (member_of d (codes "limit"))

-- ---- parts in place and in files

-- the name of a part file
unfoldable pub file_in : Data → Result (Option (List ℕ)) PartError
file_in d = do
  name ← looked list.File 0 (text_of d)
  check (nat_le 1 (length name) && nat_le (length name) MAX_FILE_NAME_BYTES) kind.BadName list.File 0 (Some name)

-- the name of the file that has a part, or none if the part is written in place
unfoldable pub file_of : Data → Result (Option (List ℕ)) PartError
file_of d = optional file_in None (member_of d (codes "file"))

-- the value of a document or a part file
unfoldable pub value_at : Texts → List ℕ → Part → Result Data Refusal
value_at texts name part =
    let text = shelf.shelf_text texts name in
    located name part (check (nat_le (length text) MAX_DOCUMENT_BYTES) kind.TooLong list.Whole 0 text >>= (λ bytes. found kind.NotJson list.Whole 0 (json_of bytes)))

-- a part written in place, or the value of its file, with the name of the document that has it
abbrev pub opened : Texts → List ℕ → Part → Data → Option (List ℕ) → Result (List ℕ × Data) Refusal
opened texts document part d None = Ok (document, d)
opened texts document part d (Some file) = value_at texts file part >>= (λ value. Ok (file, value))

-- the value of a part, written in place or in the file that it names, with the name of the document that has it
unfoldable pub part_of : Texts → List ℕ → Part → Data → Result (List ℕ × Data) Refusal
part_of texts document part d = located document part (file_of d) >>= opened texts document part d

-- ---- parts that a document lists

-- the part, for refusals, at each place of a list
abbrev pub PartAt : Type 0
PartAt = ℕ → Part

-- the reading of a part over an environment, after the parts before it
abbrev pub ReadAfter : Type 0 → Type 0
ReadAfter X = NamedEnv → List X → Data → Result X PartError

-- part i of a list, after the parts before it
unfoldable pub listed_in : {X : Type 0} → PartAt → ReadAfter X → Texts → List ℕ → NamedEnv → List X → ℕ → Data → Result X Refusal
listed_in at read texts document env before i d = do
  (file, value) ← part_of texts document (at i) d
  located file (at i) (read env before value)

-- the parts of a list before part i, with part i
unfoldable pub with_listed : {X : Type 0} → PartAt → ReadAfter X → Texts → List ℕ → NamedEnv → ℕ → List X → Data → Result (List X) Refusal
with_listed at read texts document env i before d = listed_in at read texts document env before i d >>= (λ x. Ok (before ++ x ∷ []))

-- ---- the environment, the behaviours and the target

-- the name of a behaviour, a target or a service, if no earlier one has it
unfoldable pub new_name_of : List (List ℕ) → Data → Result (List ℕ) PartError
new_name_of before d = do
  whole ← check (is_some (as_object d)) kind.Form list.Whole 0 d
  name ← name_of whole
  check (is_none (place_of before name)) kind.Repeated list.Name 0 name

-- the environment of a document
unfoldable pub environment_in : Texts → List ℕ → Data → Result NamedEnv Refusal
environment_in texts document d = do
  member ← located document part.Environment (looked list.Whole 0 (member_of d (codes "environment")))
  (file, value) ← part_of texts document part.Environment member
  located file part.Environment (environment_of value)

-- a behaviour with a name that no earlier one has
unfoldable pub new_behaviour_of : NamedEnv → List NamedBeh → Data → Result NamedBeh PartError
new_behaviour_of env before d = new_name_of (map behaviour_name before) d >>= (λ name. behaviour_of env d)

-- behaviour i of a document, after the behaviours before it
abbrev pub behaviour_in : Texts → List ℕ → NamedEnv → List NamedBeh → ℕ → Data → Result NamedBeh Refusal
behaviour_in texts document env before i d = listed_in part.Behaviour new_behaviour_of texts document env before i d

-- the behaviours before behaviour i, with behaviour i
abbrev pub with_behaviour : Texts → List ℕ → NamedEnv → ℕ → List NamedBeh → Data → Result (List NamedBeh) Refusal
with_behaviour texts document env = with_listed part.Behaviour new_behaviour_of texts document env

-- the behaviours of a document
unfoldable pub catalogue_in : Texts → List ℕ → NamedEnv → Data → Result (List NamedBeh) Refusal
catalogue_in texts document env d = do
  items ← located document part.System (counted_items list.Behaviours (codes "behaviours") 0 MAX_BEHAVIOURS d)
  each_item (with_behaviour texts document env) 0 [] items

-- the target of a document
unfoldable pub target_in : Texts → List ℕ → NamedEnv → Data → Result NamedTarget Refusal
target_in texts document env d = do
  member ← located document (part.Target 0) (looked list.Whole 0 (member_of d (codes "target")))
  (file, value) ← part_of texts document (part.Target 0) member
  located file (part.Target 0) (target_of env value)

-- ---- several targets

-- a target with a name that no earlier one has
unfoldable pub named_target_of : NamedEnv → List Named → Data → Result Named PartError
named_target_of env before d = do
  name ← new_name_of (map target_name before) d
  target ← target_of env d
  Ok (record { name = name; target = target })

-- the targets before target i, with target i
abbrev pub with_target : Texts → List ℕ → NamedEnv → ℕ → List Named → Data → Result (List Named) Refusal
with_target texts document env = with_listed part.Target named_target_of texts document env

-- the targets of a document, from two to four
unfoldable pub targets_in : Texts → List ℕ → NamedEnv → Data → Result (List Named) Refusal
targets_in texts document env d = do
  items ← located document part.System (counted_items list.Targets (codes "targets") 2 4 d)
  each_item (with_target texts document env) 0 [] items

-- the refusal for a broken rule on the combined states and actions, with the number of the rule
abbrev pub broken_rule : CombineError → PartError
broken_rule combine.States = Refused kind.Count list.Targets 1
broken_rule combine.Actions = Refused kind.Count list.Targets 2
broken_rule combine.LongName = Refused kind.BadName list.Targets 3
broken_rule combine.Repeated = Refused kind.Repeated list.Targets 4
broken_rule combine.Memory = Memory

-- the value if no rule is broken, and the refusal otherwise
abbrev pub unless_broken : {X : Type 0} → Option CombineError → X → Result X PartError
unless_broken None x = Ok x
unless_broken (Some rule) x = Err (broken_rule rule)

-- the targets combined into one, with the environment and the catalogue over its actions
unfoldable pub combined_of : NamedEnv → List NamedBeh → List Named → Result PlainCombined PartError
combined_of env catalogue targets = unless_broken (forbidding env targets) (combined_parts env catalogue targets)

-- the environment, the catalogue and the target of a document, which in version 3 combine its targets
unfoldable pub parts_in : Texts → List ℕ → ℕ → NamedEnv → List NamedBeh → Data → Result PlainCombined Refusal
parts_in texts document version env catalogue d =
    if version == 3
    then (targets_in texts document env d >>= (λ targets. located document part.System (combined_of env catalogue targets)))
    else (target_in texts document env d >>= (λ target. Ok (record { environment = env; catalogue = catalogue; target = target })))

-- ---- services

-- the place of a service's behaviour in the catalogue
unfoldable pub behaviour_place : List NamedBeh → Data → Result ℕ PartError
behaviour_place catalogue d = do
  name ← looked list.Behaviour 0 (member_of d (codes "behaviour"))
  place_in (map behaviour_name catalogue) list.Behaviour 0 name

-- a service's state, by default the start state of its behaviour
unfoldable pub state_of : NamedBeh → Data → Result ℕ PartError
state_of behaviour d = optional (place_in behaviour.states list.State 0) behaviour.beh.start (member_of d (codes "state"))

-- a truth value
abbrev pub truth_in : Place → Data → Result Bool PartError
truth_in place d = looked place 0 (truth_of d)

-- whether a service is frozen; the default is no
unfoldable pub frozen_of : Data → Result Bool PartError
frozen_of d = optional (truth_in list.Frozen) false (member_of d (codes "frozen"))

-- whether a service rests; the default is yes, and in version 1 each service rests
unfoldable pub rests_of : ℕ → Data → Result Bool PartError
rests_of version d = if version == 1 then Ok true else optional (truth_in list.Rests) true (member_of d (codes "rests"))

-- a service, after the services before it
unfoldable pub service_of : ℕ → List NamedBeh → List Service → Data → Result Service PartError
service_of version catalogue before d = do
  name ← new_name_of (map service_name before) d
  place ← behaviour_place catalogue d
  behaviour ← found kind.Unknown list.Behaviour 0 (slice_get catalogue place)
  state ← state_of behaviour d
  frozen ← frozen_of d
  rests ← rests_of version d
  Ok (record { name = name; behaviour = place; state = state; frozen = frozen; rests = rests })

-- the services before service i, with service i
unfoldable pub with_service_read : List ℕ → ℕ → List NamedBeh → ℕ → List Service → Data → Result (List Service) Refusal
with_service_read document version catalogue i before d =
    located document (part.Service i) (service_of version catalogue before d) >>= (λ service. Ok (before ++ service ∷ []))

-- the services of a document
unfoldable pub services_of : List ℕ → ℕ → List NamedBeh → Data → Result (List Service) Refusal
services_of document version catalogue d = do
  items ← located document part.System (counted_items list.Services (codes "services") 0 MAX_SERVICES d)
  each_item (with_service_read document version catalogue) 0 [] items

-- ---- the document

-- the library that the value of a document means
unfoldable pub library_in : Texts → List ℕ → Data → Result PlainLibrary Refusal
library_in texts document d = do
  version ← located document part.System (version_of d)
  limit ← located document part.System (limit_of d)
  env ← environment_in texts document d
  catalogue ← catalogue_in texts document env d
  services ← services_of document version catalogue d
  made ← parts_in texts document version env catalogue d
  Ok (record { environment = made.environment; catalogue = made.catalogue; services = services; target = made.target; limit = limit })

-- the library that the document with this name means, or the first rule that it breaks
unfoldable pub library_of : Texts → List ℕ → Result PlainLibrary Refusal
library_of texts document = value_at texts document part.System >>= library_in texts document
