-- The text of advice, one line after the other.
use Rattle.roman_cost.proofs.Common.{◌≡◌, ℕ, suc, ◌+◌, ◌-◌, ◌<◌, ◌≤◌, List, [], ◌∷◌, ◌++◌, IsTrue, IsFalse, codes, decimal, length, drop, map, get_or, slice_get, Option, Some, refl, sym, ap, ◌∙◌, arith, add-one, append_assoc, flat_map, cond-true, cond-false, length-map, get_or-map, below, Sys, Pair, IsSys, is_allowed, sizes_of, count, pair_at, is_related, Costs, allowed_actions, least, least_at, choice, through, related_great, numbers_are_pairs, choice_is, IsFilling, fill_whole, fill_same, NamedSys, system_of, seat_of, worst_line, choice_line, value_line, value_lines, certificate_text, advice_text, value_head, value_tail, service_text, seat_costs, Listed, Seat, option_map, drop-cons, slice_get-map, get_or_from_slice_get, name_at, seat_name, from_place, from_end}
use Rattle.std.specs.List.{filter}
use Rattle.std.proofs.lemmas.List.{append-nil}
use Rattle.roman_cost.proofs.OfferedSeats.{offered}

-- the name of the seat at a place
named : (seats : List Seat) (k : ℕ) (seat : Seat) → slice_get seats k ≡ Some seat → name_at (map seat_name seats) k ≡ seat.name
named seats k seat h = get_or_from_slice_get (map seat_name seats) k seat.name [] (slice_get-map seat_name seats k ∙ ap (option_map seat_name) h)

-- ---- texts of a list's items

-- an equal piece can replace the first text
as_taken : (whole text rest piece : List ℕ) → whole ≡ text ++ rest → piece ≡ text → whole ≡ piece ++ rest
as_taken whole text rest piece next is = next ∙ ap (λ (t : List ℕ). t ++ rest) (sym is)

-- the next text is that of the item at a place
next_text : (f : ℕ → List ℕ) (xs : List ℕ) (i : ℕ) → i < length xs → flat_map f (drop i xs) ≡ f (get_or xs i 0) ++ flat_map f (drop (i + 1) xs)
next_text f xs i l = ap (flat_map f) (drop-cons xs i 0 l) ∙ ap (λ (j : ℕ). f (get_or xs i 0) ++ flat_map f (drop j xs)) (sym (add-one i))

-- the parts of a line
in_parts : (a b c d e f g : List ℕ) → (a ++ b ++ c) ++ ((d ++ e) ++ (f ++ g)) ≡ a ++ b ++ c ++ d ++ e ++ f ++ g
in_parts a b c d e f g = simp (append_assoc)

value_parts : (h p value : ℕ) → value_head h ++ value_tail p value ≡ value_line h p value
value_parts h p value = in_parts (codes "value ") (decimal h) (codes " ") (decimal p) (codes " ") (decimal value) (codes "\n")

-- the line of the pair at a place can be taken next
pub value_taken : (old now : Option (List ℕ)) (held all : List ℕ) (s : Sys) (C : Costs) (h : ℕ) (items pairs values : List ℕ) (i : ℕ) (head : List ℕ) → items ≡ pairs → i < length items → values ≡ map (least_at s C h) pairs → head ≡ value_head h →
    IsFilling old now held (flat_map (λ p. value_line h p (least_at s C h p)) (drop i pairs)) all →
    IsFilling old now held ((head ++ value_tail (get_or items i 0) (get_or values i 0)) ++ flat_map (λ p. value_line h p (least_at s C h p)) (drop (i + 1) pairs)) all
value_taken old now held all s C h items pairs values i head at l told begins filling =
    let next : flat_map (λ p. value_line h p (least_at s C h p)) (drop i pairs) ≡ (head ++ value_tail (get_or items i 0) (get_or values i 0)) ++ flat_map (λ p. value_line h p (least_at s C h p)) (drop (i + 1) pairs) =
    grind (arith, as_taken, get_or-map, next_text, value_parts) in
    fill_same _ _ _ _ _ _ next filling

-- the next lines have the values for one more request
pub next_lines : (s : Sys) (C : Costs) (n h : ℕ) → h < n →
    flat_map (λ h. value_lines s C (suc h)) (drop h (below n)) ≡ value_lines s C (h + 1) ++ flat_map (λ h. value_lines s C (suc h)) (drop (h + 1) (below n))
next_lines s C n h l = grind (arith, from_place)

-- no lines remain after those for the greatest number of requests
pub no_lines : (s : Sys) (C : Costs) (n h : ℕ) → n ≤ h → flat_map (λ h. value_lines s C (suc h)) (drop h (below n)) ≡ []
no_lines s C n h l = ap (flat_map (λ h. value_lines s C (suc h))) (from_end n h l)

-- ---- actions

-- the lines of the actions from a on
pub choices_from : NamedSys → Costs → ℕ → Pair → ℕ → List ℕ
choices_from n C h p a = flat_map (choice_line n C h p) (filter (is_allowed (system_of n) p) (drop a (below (system_of n).env.actions)))

-- the line of the next action comes first if the target allows the action
next_choice : (n : NamedSys) (C : Costs) (h : ℕ) (p : Pair) (a : ℕ) → a < (system_of n).env.actions → IsTrue (is_allowed (system_of n) p a) →
    choices_from n C h p a ≡ choice_line n C h p a ++ choices_from n C h p (a + 1)
unfolding choices_from
next_choice n C h p a l allowed = grind (arith, cond-true, from_place)

-- the line of the next action can be taken if the target allows the action
pub choice_taken : (old now : Option (List ℕ)) (held all : List ℕ) (n : NamedSys) (C : Costs) (h : ℕ) (p : Pair) (a : ℕ) (piece : List ℕ) → a < (system_of n).env.actions → IsTrue (is_allowed (system_of n) p a) →
    piece ≡ choice_line n C h p a → IsFilling old now held (choices_from n C h p a) all → IsFilling old now held (piece ++ choices_from n C h p (a + 1)) all
choice_taken old now held all n C h p a piece l allowed is filling = fill_same _ _ _ _ _ _ (as_taken _ _ _ _ (next_choice n C h p a l allowed) is) filling

-- the next action has no line if the target doesn't allow it
pub next_unallowed : (n : NamedSys) (C : Costs) (h : ℕ) (p : Pair) (a : ℕ) → a < (system_of n).env.actions → IsFalse (is_allowed (system_of n) p a) → choices_from n C h p a ≡ choices_from n C h p (a + 1)
unfolding choices_from
next_unallowed n C h p a l unallowed = grind (arith, cond-false, from_place)

-- no lines remain after the last action
pub no_choice : (n : NamedSys) (C : Costs) (h : ℕ) (p : Pair) (a : ℕ) → (system_of n).env.actions ≤ a → choices_from n C h p a ≡ []
unfolding choices_from
no_choice n C h p a l = ap (λ (xs : List ℕ). flat_map (choice_line n C h p) (filter (is_allowed (system_of n) p) xs)) (from_end (system_of n).env.actions a l)

-- the lines of the actions from the first on are those of all allowed actions
pub choices_begin : (n : NamedSys) (C : Costs) (h : ℕ) (p : Pair) → choices_from n C h p 0 ≡ flat_map (choice_line n C h p) (allowed_actions (system_of n) p)
unfolding choices_from
choices_begin n C h p = refl

-- the chosen seat is one of the system
pub chosen_seat : (n : NamedSys) (C : Costs) (h p a k : ℕ) → IsSys (system_of n) → p < count (sizes_of (system_of n)) → IsTrue (is_related (system_of n) (pair_at (sizes_of (system_of n)) p)) →
    IsTrue (is_allowed (system_of n) (pair_at (sizes_of (system_of n)) p) a) → k ≡ choice (system_of n) C h (pair_at (sizes_of (system_of n)) p) a → k < length n.seats
chosen_seat n C h p a k ok l related allowed is =
    let s = system_of n in
    let P = pair_at (sizes_of s) p in
    let great = related_great s P ok ((numbers_are_pairs s).pair p l) related in
    let best = choice_is s C h P a ok great allowed in
    let known = offered s p a (choice s C h P a) ok l best.offered in
    omega (arith, known.seat, is, length-map n.seats (seat_of n.catalogue))

-- the line of the action and the chosen seat
pub choice_line_is : (n : NamedSys) (C : Costs) (h : ℕ) (p : Pair) (a k cost : ℕ) (action : List ℕ) (seat : Seat) → k ≡ choice (system_of n) C h p a → cost ≡ through (system_of n) C (least (system_of n) C h) p a k →
    slice_get n.environment.actions a ≡ Some action → slice_get n.seats k ≡ Some seat → service_text action seat.name cost ≡ choice_line n C h p a
choice_line_is n C h p a k cost action seat is costs action_named seated = grind (arith, get_or_from_slice_get, named)

-- ---- the whole text

regroup : (a b c d : List ℕ) → a ++ (b ++ (c ++ (d ++ []))) ≡ a ++ b ++ c ++ d
regroup a b c d = simp (append_assoc, append-nil)

-- the lines of the actions that the target allows at a pair, and the lines of all values
abbrev pub choices_text : NamedSys → List Listed → ℕ → ℕ → List ℕ
choices_text n listed requests start =
    let p = pair_at (sizes_of (system_of n)) start in
    flat_map (choice_line n (seat_costs n listed) (requests - 1) p) (allowed_actions (system_of n) p)

abbrev pub values_text : NamedSys → List Listed → ℕ → List ℕ
values_text n listed requests = certificate_text (system_of n) (seat_costs n listed) requests

-- an empty page takes the text in pieces, and the first piece has the worst cost of the requests
pub advice_begins : (n : NamedSys) (listed : List Listed) (requests h start value : ℕ) (first held : List ℕ) (old : Option (List ℕ)) → held ≡ [] →
    value ≡ least_at (system_of n) (seat_costs n listed) h start → h ≡ requests → first ≡ worst_line value →
    IsFilling old old held (first ++ (choices_text n listed requests start ++ (values_text n listed requests ++ (codes "end\n" ++ [])))) (advice_text n listed requests (pair_at (sizes_of (system_of n)) start))
unfolding advice_text
advice_begins n listed requests h start value first held old empty least_is same is =
    let choices = choices_text n listed requests start in
    let values = values_text n listed requests in
    fill_whole old held _ _ empty
    (ap (λ (first : List ℕ). first ++ (choices ++ (values ++ (codes "end\n" ++ [])))) (is ∙ ap worst_line (least_is ∙ ap (λ (h : ℕ). least_at (system_of n) (seat_costs n listed) h start) same))
    ∙ regroup (worst_line (least_at (system_of n) (seat_costs n listed) requests start)) choices values (codes "end\n"))
