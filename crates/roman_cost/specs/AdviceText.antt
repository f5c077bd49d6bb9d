-- The text of advice: the worst cost of the requests at a pair, the service to take for each allowed action, and all values.
use Rattle.std.specs.Prelude.{ℕ, suc, ◌-◌, ◌*◌, List, ◌++◌, map, nat_lt, codes, decimal, if◌then◌else◌}
use Rattle.std.specs.List.{flat_map}
use Rattle.roman_model.specs.Explanation.{name_at}
use Rattle.roman_model.specs.Lists.{below}
use Rattle.roman_model.specs.Offers.{is_related, related_count}
use Rattle.roman_model.specs.Plans.{Costs, allowed_actions, least, least_at, choice, through}
use Rattle.roman_model.specs.System.{Sys, Pair}
use Rattle.roman_joint.specs.NamedSys.{NamedSys, system_of}
use Rattle.roman_joint.specs.Names.{seat_name}
use Rattle.roman_cost.specs.Advised.{related_pairs}
use Rattle.roman_cost.specs.Tables.{seat_costs}
use Rattle.roman_cost.specs.declared.costs.Listed.{Listed}
use Rattle.roman_cost.specs.declared.limits.TheConstants.{MAX_VALUES}

-- `worst W`
abbrev pub worst_line : ℕ → List ℕ
worst_line value = codes "worst " ++ decimal value ++ codes "\n"

-- `for A: S W`
abbrev pub service_text : List ℕ → List ℕ → ℕ → List ℕ
service_text action service cost = codes "for " ++ action ++ codes ": " ++ service ++ codes " " ++ decimal cost ++ codes "\n"

-- the line of an action at a pair: the service to take, and the cost through it if h requests follow
abbrev pub choice_line : NamedSys → Costs → ℕ → Pair → ℕ → List ℕ
choice_line n C h p a =
    let k = choice (system_of n) C h p a in
    service_text (name_at n.environment.actions a) (name_at (map seat_name n.seats) k) (through (system_of n) C (least (system_of n) C h) p a k)

-- `value H P W`
abbrev pub value_line : ℕ → ℕ → ℕ → List ℕ
value_line h p value = codes "value " ++ decimal h ++ codes " " ++ decimal p ++ codes " " ++ decimal value ++ codes "\n"

-- the part of that line before the number of the pair, and the part from there on
abbrev pub value_head : ℕ → List ℕ
value_head h = codes "value " ++ decimal h ++ codes " "

abbrev pub value_tail : ℕ → ℕ → List ℕ
value_tail p value = (decimal p ++ codes " ") ++ (decimal value ++ codes "\n")

-- the lines of the values for h requests, at each related pair
abbrev pub value_lines : Sys → Costs → ℕ → List ℕ
value_lines s C h = flat_map (λ p. value_line h p (least_at s C h p)) (related_pairs s)

-- the lines of the values for 1 to `requests` requests, at each related pair
abbrev pub certificate_text : Sys → Costs → ℕ → List ℕ
certificate_text s C requests = flat_map (λ h. value_lines s C (suc h)) (below requests)

-- the text of advice for `requests` requests, from a related pair on
unfoldable pub advice_text : NamedSys → List Listed → ℕ → Pair → List ℕ
advice_text n listed requests p =
    let s = system_of n in
    let C = seat_costs n listed in
    worst_line (least s C requests p) ++ flat_map (choice_line n C (requests - 1) p) (allowed_actions s p) ++ certificate_text s C requests ++ codes "end\n"

-- the result of a request for advice: the pair isn't related, there are too many values, or the text
pub data Advising : Type 0 where
  Unrelated : Advising
  TooMany : Advising
  Told : (text : List ℕ) → Advising

-- the result of a request for advice, by costs that were read
abbrev pub advised_by : NamedSys → List Listed → ℕ → Pair → Advising
advised_by n listed requests p =
    if is_related (system_of n) p
    then (if nat_lt MAX_VALUES (related_count (system_of n) * requests) then TooMany else Told (advice_text n listed requests p))
    else Unrelated
