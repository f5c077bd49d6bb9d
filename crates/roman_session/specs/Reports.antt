-- The report: the services now present, the present states, and the services that can be offered.
use Rattle.std.specs.Prelude.{ℕ, not, List, [], ◌∷◌, ◌++◌, map, length, drop, if◌then◌else◌}
use Rattle.std.specs.List.{filter, flat_map}
use Rattle.roman_model.specs.Lists.{below}
use Rattle.roman_model.specs.System.{Pair, is_final}
use Rattle.roman_model.specs.SystemArena.{pairs, is_allowed}
use Rattle.roman_model.specs.Explanation.{name_at}
use Rattle.roman_model.specs.Offers.{is_related, offers, related_count}
use Rattle.roman_text.specs.Report.{line_text}
use Rattle.roman_text.specs.declared.report.ReportLine.{ReportLine}
use Rattle.roman_text.specs.declared.report.ReportLine.TheVariants as line
use Rattle.roman_parts.specs.Named.{NamedBeh}
use Rattle.roman_joint.specs.NamedSys.{NamedSys, system_of}
use Rattle.roman_joint.specs.declared.seat.Seat.{Seat}
use Rattle.roman_joint.specs.Names.{seat_name, beh_name, states_of_behaviour}

-- the line of a service in state b
abbrev pub service_line : List NamedBeh → Seat → ℕ → ReportLine
service_line catalogue seat b =
    line.Service seat.name (name_at (map beh_name catalogue) seat.behaviour) (name_at (states_of_behaviour catalogue seat.behaviour) b) seat.frozen (not seat.rests)

-- the lines of the services
abbrev pub service_lines : List NamedBeh → List Seat → List ℕ → List ReportLine
service_lines catalogue [] bs = []
service_lines catalogue (seat ∷ seats) [] = []
service_lines catalogue (seat ∷ seats) (b ∷ bs) = service_line catalogue seat b ∷ service_lines catalogue seats bs

-- the line of an action, with the services that are offered for it
abbrev pub offer_line : NamedSys → Pair → ℕ → List ReportLine
offer_line parts p a =
    line.Offer (name_at parts.environment.actions a)
    ∷ (map (λ k. line.Serves (name_at (map seat_name parts.seats) k)) (offers (system_of parts) p a) ++ line.Stop ∷ [])

-- a line for each action that the target allows, if the pair is related; no lines if it isn't
abbrev pub offer_lines : NamedSys → Pair → List ReportLine
offer_lines parts p =
    if is_related (system_of parts) p
    then flat_map (offer_line parts p) (filter (is_allowed (system_of parts) p) (below (system_of parts).env.actions))
    else []

-- the lines of the services from place k on
abbrev pub services_from : NamedSys → Pair → ℕ → List ReportLine
services_from parts p k = service_lines parts.catalogue (drop k parts.seats) (drop k p.bs)

-- the lines of the services, and whether the pair is related
abbrev pub services_and_answer : NamedSys → Pair → List ReportLine
services_and_answer parts p = service_lines parts.catalogue parts.seats p.bs ++ line.Answer (is_related (system_of parts) p) ∷ []

-- the lines of the offers, and the end of the report
abbrev pub offers_and_end : NamedSys → Pair → List ReportLine
offers_and_end parts p = offer_lines parts p ++ line.End ∷ []

-- the first four lines of the report
abbrev pub report_head : NamedSys → Pair → List ReportLine
report_head parts p =
    line.Pairs (length (pairs (system_of parts)))
    ∷ line.Related (related_count (system_of parts))
    ∷ line.Environment (name_at parts.environment.states p.e)
    ∷ line.Target (name_at parts.target.states p.t) (is_final parts.target.beh p.t)
    ∷ []

-- the lines of the report
abbrev pub report_lines : NamedSys → Pair → List ReportLine
report_lines parts p =
    report_head parts p
    ++ (service_lines parts.catalogue parts.seats p.bs
    ++ line.Answer (is_related (system_of parts) p)
    ∷ (offer_lines parts p ++ line.End ∷ []))

-- the bytes of report lines
unfoldable pub lines_text : List ReportLine → List ℕ
lines_text lines = flat_map line_text lines

-- the bytes of the report on the services now present, at these states
unfoldable pub report_text : NamedSys → Pair → List ℕ
report_text parts p = lines_text (report_lines parts p)
