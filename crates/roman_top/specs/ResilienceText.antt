-- The text of `resilience`: the outlook of the starting states, and their outlook after services fail.
use Rattle.std.specs.Prelude.{ℕ, ◌+◌, List, [], ◌∷◌, ◌++◌, map, length, drop, if◌then◌else◌, codes, decimal}
use Rattle.std.specs.List.{flat_map}
use Rattle.roman_model.specs.Lists.{below}
use Rattle.roman_model.specs.System.{Pair}
use Rattle.roman_model.specs.Explanation.{name_at}
use Rattle.roman_model.specs.Without.{Outlook, outlook, system_without, pair_without}
use Rattle.roman_model.specs.declared.way.Way.{Way}
use Rattle.roman_model.specs.declared.way.Way.TheVariants.{Freeze, Die}
use Rattle.roman_joint.specs.NamedSys.{NamedSys, system_of}
use Rattle.roman_joint.specs.Names.{seat_name}

-- ` composition related R choices C`, or `none` in place of `composition`
abbrev pub outlook_words : Outlook → List ℕ
outlook_words o =
    (if o.composes then codes " composition related " else codes " none related ") ++ decimal o.related ++ codes " choices " ++ decimal o.choices ++ codes "\n"

-- the word for the way in which services fail
abbrev pub way_word : Way → List ℕ
way_word Freeze = codes " freeze"
way_word Die = codes " die"

-- the names of the services at those places
abbrev pub service_names : NamedSys → List ℕ → List ℕ
service_names parts K = flat_map (λ k. codes " " ++ name_at (map seat_name parts.seats) k) K

-- the line with the outlook after the services at the places K fail in that way
abbrev pub line_without : NamedSys → List ℕ → Way → Outlook → List ℕ
line_without parts K way left = codes "without" ++ service_names parts K ++ way_word way ++ outlook_words left

-- the lines with the outlooks after the services at the places K freeze, and after they die
unfoldable pub lines_without : NamedSys → Pair → List ℕ → List ℕ
lines_without parts p K =
    let left = λ (way : Way). outlook (system_without way K (system_of parts)) (pair_without way K p) in
    line_without parts K Freeze (left Freeze) ++ line_without parts K Die (left Die)

-- each place below n, as a list
abbrev pub ones : ℕ → List (List ℕ)
ones n = map (λ k. k ∷ []) (below n)

-- each two places below n, ordered by the first and then by the second
abbrev pub twos : ℕ → List (List ℕ)
twos n = flat_map (λ k. map (λ j. k ∷ j ∷ []) (drop (k + 1) (below n))) (below n)

-- the number of services, and the outlook of the pair
abbrev pub head_text : NamedSys → Outlook → List ℕ
head_text parts now = codes "services " ++ decimal (length parts.seats) ++ codes "\nstart" ++ outlook_words now

-- the whole text of `resilience`
unfoldable pub outlook_text : NamedSys → Pair → List ℕ
outlook_text parts p =
    head_text parts (outlook (system_of parts) p)
    ++ (flat_map (lines_without parts p) (ones (length parts.seats))
    ++ (flat_map (lines_without parts p) (twos (length parts.seats)) ++ codes "end\n"))
