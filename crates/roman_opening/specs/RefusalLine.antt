-- The line that reports a refusal.
use Rattle.std.specs.Prelude.{ℕ, List, [], ◌++◌, codes, decimal}
use Rattle.roman_read.specs.declared.rules.Kind.{Kind}
use Rattle.roman_read.specs.declared.rules.Kind.TheVariants as kind
use Rattle.roman_parts.specs.declared.error.List.{List as Place}
use Rattle.roman_parts.specs.declared.error.List.TheVariants as list
use Rattle.roman_library.specs.declared.refusal.Part.{Part}
use Rattle.roman_library.specs.declared.refusal.Part.TheVariants as part
use Rattle.roman_library.specs.declared.refusal.Refusal.{Refusal}

-- the word of the kind of a refusal
abbrev pub kind_word : Kind → List ℕ
kind_word kind.Missing = codes "missing"
kind_word kind.Form = codes "form"
kind_word kind.BadName = codes "badname"
kind_word kind.Repeated = codes "repeated"
kind_word kind.Unknown = codes "unknown"
kind_word kind.Count = codes "count"
kind_word (kind.Choice first state) = codes "choice"
kind_word kind.Version = codes "version"
kind_word kind.NotJson = codes "notjson"
kind_word kind.TooLong = codes "toolong"

-- the word of a part
abbrev pub part_word : Part → List ℕ
part_word part.System = codes "system"
part_word part.Environment = codes "environment"
part_word (part.Behaviour i) = codes "behaviour"
part_word (part.Service i) = codes "service"
part_word (part.Target i) = codes "target"
part_word part.Costs = codes "costs"

-- the number of a part, or 0 if there is only one
abbrev pub part_number : Part → ℕ
part_number part.System = 0
part_number part.Environment = 0
part_number (part.Behaviour i) = i
part_number (part.Service i) = i
part_number (part.Target i) = i
part_number part.Costs = 0

-- the word of a member or a list
abbrev pub list_word : Place → List ℕ
list_word list.Whole = codes "whole"
list_word list.Roman = codes "roman"
list_word list.Limit = codes "limit"
list_word list.File = codes "file"
list_word list.Name = codes "name"
list_word list.States = codes "states"
list_word list.Start = codes "start"
list_word list.Actions = codes "actions"
list_word list.Finals = codes "final"
list_word list.Steps = codes "steps"
list_word list.Behaviours = codes "behaviours"
list_word list.Services = codes "services"
list_word list.Behaviour = codes "behaviour"
list_word list.State = codes "state"
list_word list.Frozen = codes "frozen"
list_word list.Rests = codes "rests"
list_word list.Targets = codes "targets"

-- the words at the end of the line of a choice: the earlier transition and the environment state
abbrev pub choice_words : Kind → List ℕ
choice_words (kind.Choice first state) = codes " " ++ decimal first ++ codes " " ++ state
choice_words _ = []

-- the text after the document's name: the rule, and the place where it is broken
abbrev pub rule_text : Refusal → List ℕ
rule_text r =
    codes " " ++ kind_word r.kind ++ codes " " ++ part_word r.part ++ codes " " ++ decimal (part_number r.part)
    ++ codes " " ++ list_word r.list ++ codes " " ++ decimal r.index ++ choice_words r.kind ++ codes "\n"

-- `refused DOCUMENT KIND PART NUMBER LIST INDEX`, and for a choice the earlier transition and the environment state
abbrev pub refusal_line : Refusal → List ℕ
refusal_line r = codes "refused " ++ r.document ++ rule_text r
