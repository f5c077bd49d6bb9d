-- Lines of replies and of the report, one after another.
use Rattle.roman_session.proofs.Common.{codes, ◌≡◌, ℕ, ◌<◌, ◌≤◌, ◌+◌, Bool, List, [], ◌∷◌, ◌++◌, Some, IsTrue, IsFalse, length, drop, map, get_or, not, slice_get, slice_index, refl, sym, ap, ap₂, ◌∙◌, arith, filter, flat_map, flat_map-append, cond-true, cond-false, length-map, get_or_from_slice_get, below, Sys, Pair, has, is_allowed, name_at, is_related, offers, from_place, from_end, reply_text, NamedBeh, HasBits, NamedSys, system_of, Seat, seat_name, Situation, seats_set, served, served_text, served_line, service_lines, services_from, services_and_answer, offers_and_end, lines_text, offer_text, add-one, append_assoc, report_text, drop-cons, append-nil, drop_all, slice_get_within, line_text, ReportLine, report_head, offer_line, IsIn, arena, has_seat, ◌&&◌, is_beaten, mask, from_below, filter_same, mask_has, has_seat_is}
use Rattle.roman_text.specs.declared.replies.Reply.TheVariants as reply
use Rattle.roman_text.specs.declared.report.ReportLine.TheVariants as line
use Rattle.roman_session.specs.Situations as situation
use Rattle.roman_session.proofs.SituationLemmas.{mapped_at}

-- ---- lists of lines

lines-cons : (x : ReportLine) (xs : List ReportLine) → lines_text (x ∷ xs) ≡ line_text x ++ lines_text xs
unfolding lines_text
lines-cons x xs = refl

lines-nil : lines_text [] ≡ []
unfolding lines_text
lines-nil = refl

lines-append : (xs ys : List ReportLine) → lines_text (xs ++ ys) ≡ lines_text xs ++ lines_text ys
unfolding lines_text
lines-append xs ys = flat_map-append line_text xs ys

-- the text of the lines from a place on begins with the line at that place
pub next_line : (lines : List ReportLine) (i : ℕ) (x : ReportLine) → i < length lines → x ≡ get_or lines i x → lines_text (drop i lines) ≡ line_text x ++ lines_text (drop (i + 1) lines)
next_line lines i x l is = grind (arith, drop-cons, lines-cons)

-- no text follows the last line
pub no_line : (lines : List ReportLine) (i : ℕ) → length lines ≤ i → lines_text (drop i lines) ≡ []
no_line lines i l = ap lines_text (drop_all i lines l) ∙ lines-nil

-- ---- the numbers that pass a test

-- the texts of the numbers below n from k on that pass a test, and a text after them
pub walk : (ℕ → Bool) → (ℕ → List ℕ) → List ℕ → ℕ → ℕ → List ℕ
walk test text tail n k = flat_map text (filter test (drop k (below n))) ++ tail

-- the next number passes, and its text comes first
pub walk_next : (test : ℕ → Bool) (text : ℕ → List ℕ) (tail : List ℕ) (n k : ℕ) → k < n → IsTrue (test k) → walk test text tail n k ≡ text k ++ walk test text tail n (k + 1)
unfolding walk
walk_next test text tail n k l passes = grind (arith, append_assoc, cond-true, from_place)

-- the next number doesn't pass, and has no text
pub walk_over : (test : ℕ → Bool) (text : ℕ → List ℕ) (tail : List ℕ) (n k : ℕ) → k < n → IsFalse (test k) → walk test text tail n k ≡ walk test text tail n (k + 1)
unfolding walk
walk_over test text tail n k l fails = grind (arith, cond-false, from_place)

-- after all numbers only the last text remains
pub walk_end : (test : ℕ → Bool) (text : ℕ → List ℕ) (tail : List ℕ) (n k : ℕ) → n ≤ k → walk test text tail n k ≡ tail ++ []
unfolding walk
walk_end test text tail n k l = grind (arith, append-nil, from_end)

-- ---- offers

-- the names of a mask's seats from k on, and the end of the line
abbrev pub served_from : NamedSys → ℕ → ℕ → List ℕ
served_from parts mask k = walk (has_seat mask) (served parts) (reply_text reply.Stop) (length parts.seats) k

pub served_begin : (parts : NamedSys) (mask : ℕ) → served_from parts mask 0 ≡ served_line parts mask
unfolding walk served_text
served_begin parts mask = refl

-- the next seat is in the mask, and its name comes first
pub next_served : (parts : NamedSys) (mask k : ℕ) (seat : Seat) → k < length parts.seats → IsTrue (has_seat mask k) → slice_get parts.seats k ≡ Some seat →
    served_from parts mask k ≡ (codes " " ++ seat.name) ++ served_from parts mask (k + 1)
next_served parts mask k seat l set seated =
    walk_next _ _ _ _ k l set ∙ ap (λ (name : List ℕ). (codes " " ++ name) ++ served_from parts mask (k + 1)) (mapped_at seat_name parts.seats k seat [] seated)

-- the seats of a mask that has the offers' bits are the offers
offers_set : (s : Sys) (p : Pair) (a mask : ℕ) → IsTrue (is_allowed s p a) → length s.seats ≤ 32 → HasBits mask (has (offers s p a)) → seats_set mask (length s.seats) ≡ offers s p a
offers_set s p a bits allowed few has_bits =
    let gone : Pair → Bool = λ q. not (is_related s q) in
    let unbeaten : ℕ → Bool = λ k. not (is_beaten (arena s) gone p a k) in
    let same : (k : ℕ) → IsIn k (below (length s.seats)) → has_seat bits k ≡ unbeaten k =
    λ k i.
    let l = from_below (length s.seats) k i in
    has_seat_is bits (has (offers s p a)) k has_bits (omega arith) ∙ mask_has (arena s) gone p a k l ∙ ap (λ (b : Bool). b && unbeaten k) allowed in
    filter_same (has_seat bits) unbeaten (below (length s.seats)) same ∙ sym (cond-true (is_allowed s p a) (filter unbeaten (below (length s.seats))) [] allowed)

-- the line of a mask that has the offers' bits
served_offers : (parts : NamedSys) (p : Pair) (a mask : ℕ) → length (system_of parts).seats ≤ 32 → IsTrue (is_allowed (system_of parts) p a) → HasBits mask (has (offers (system_of parts) p a)) →
    served_line parts mask ≡ flat_map (served parts) (offers (system_of parts) p a) ++ reply_text reply.Stop
unfolding served_text
served_offers parts p a mask few allowed bits = grind (arith, length-map, (offers_set (system_of parts) p a mask allowed few bits))

-- the text of the services that a report line lists
served_lines : (parts : NamedSys) (ks : List ℕ) → lines_text (map (λ k. line.Serves (name_at (map seat_name parts.seats) k)) ks) ≡ flat_map (served parts) ks
unfolding lines_text
served_lines parts [] = refl
served_lines parts (k ∷ ks) = ap (λ (text : List ℕ). served parts k ++ text) (served_lines parts ks)

-- the line of an action, as the pieces that are pushed
pub offer_line_is : (parts : NamedSys) (p : Pair) (a mask : ℕ) (name : List ℕ) → length (system_of parts).seats ≤ 32 → name ≡ name_at parts.environment.actions a → IsTrue (is_allowed (system_of parts) p a) →
    HasBits mask (has (offers (system_of parts) p a)) → line_text (line.Offer name) ++ (served_line parts mask ++ []) ≡ lines_text (offer_line parts p a)
offer_line_is parts p a mask name few is allowed bits = grind (arith, append-nil, lines-append, lines-cons, lines-nil, served_lines, served_offers)

-- the reply to a request, as the pieces that are pushed
pub offer_text_is : (s : Situation) (a mask : ℕ) → length (situation.present_system s).seats ≤ 32 → IsTrue (is_allowed (situation.present_system s) s.here a) → HasBits mask (has (offers (situation.present_system s) s.here a)) →
    reply_text reply.Offer ++ (served_line s.parts mask ++ []) ≡ offer_text s a
unfolding offer_text
offer_text_is s a mask few allowed bits = grind (arith, append-nil, served_offers)

-- the text of a list of lists of lines
lines_flat : (f : ℕ → List ReportLine) (ks : List ℕ) → lines_text (flat_map f ks) ≡ flat_map (λ k. lines_text (f k)) ks
unfolding lines_text
lines_flat f [] = refl
lines_flat f (k ∷ ks) = lines-append (f k) (flat_map f ks) ∙ ap (λ (text : List ℕ). lines_text (f k) ++ text) (lines_flat f ks)

-- the lines of the actions from a on, and the end of the report
abbrev pub offers_from : NamedSys → Pair → ℕ → List ℕ
offers_from parts p a = walk (is_allowed (system_of parts) p) (λ a. lines_text (offer_line parts p a)) (line_text line.End) (system_of parts).env.actions a

-- if the pair is related, the lines are those of all actions from 0 on
pub offers_begin : (parts : NamedSys) (p : Pair) → IsTrue (is_related (system_of parts) p) → offers_from parts p 0 ≡ lines_text (offers_and_end parts p)
unfolding walk lines_text
offers_begin parts p related =
    let actions = filter (is_allowed (system_of parts) p) (below (system_of parts).env.actions) in
    let lines = flat_map (offer_line parts p) actions in
    sym (ap (λ (xs : List ReportLine). lines_text (xs ++ line.End ∷ [])) (cond-true (is_related (system_of parts) p) lines [] related) ∙ lines-append lines (line.End ∷ [])
    ∙ ap₂ (λ (xs ys : List ℕ). xs ++ ys) (lines_flat (offer_line parts p) actions) (append-nil (line_text line.End)))

-- the next action is allowed, and its line comes first
pub next_offer : (parts : NamedSys) (p : Pair) (a : ℕ) → a < (system_of parts).env.actions → IsTrue (is_allowed (system_of parts) p a) →
    offers_from parts p a ≡ lines_text (offer_line parts p a) ++ offers_from parts p (a + 1)
next_offer parts p a l allowed = walk_next _ _ _ _ a l allowed

-- if the pair isn't related, only the end remains
pub no_offers : (parts : NamedSys) (p : Pair) → IsFalse (is_related (system_of parts) p) → line_text line.End ++ [] ≡ lines_text (offers_and_end parts p)
no_offers parts p unrelated = grind (arith, cond-false, lines-cons, lines-nil)

-- ---- services

-- the line of the service at a place comes first
pub service_first : (parts : NamedSys) (p : Pair) (k b : ℕ) (seat : Seat) (beh : NamedBeh) (name : List ℕ) → slice_get parts.seats k ≡ Some seat → k < length p.bs → b ≡ slice_index p.bs k →
    slice_get parts.catalogue seat.behaviour ≡ Some beh → slice_get beh.states b ≡ Some name →
    services_from parts p k ≡ line.Service seat.name beh.name name seat.frozen (not seat.rests) ∷ services_from parts p (k + 1)
service_first parts p k b seat beh name seated l is placed there =
    let within = slice_get_within parts.seats k seat seated in
    let seats : drop k parts.seats ≡ seat ∷ drop (k + 1) parts.seats =
    drop-cons parts.seats k seat within ∙ ap₂ (λ (x : Seat) (j : ℕ). x ∷ drop j parts.seats) (get_or_from_slice_get parts.seats k seat seat seated) (sym (add-one k)) in
    let bs : drop k p.bs ≡ b ∷ drop (k + 1) p.bs = drop-cons p.bs k 0 l ∙ ap₂ (λ (b j : ℕ). b ∷ drop j p.bs) (sym is) (sym (add-one k)) in
    grind (arith, get_or_from_slice_get, mapped_at)

-- the lines of the services from k on, and whether the pair is related
abbrev pub services_left : NamedSys → Pair → ℕ → List ReportLine
services_left parts p k = services_from parts p k ++ line.Answer (is_related (system_of parts) p) ∷ []

-- the text of the next service comes first
pub next_service : (parts : NamedSys) (p : Pair) (k : ℕ) (x : ReportLine) → services_from parts p k ≡ x ∷ services_from parts p (k + 1) →
    lines_text (services_left parts p k) ≡ line_text x ++ lines_text (services_left parts p (k + 1))
next_service parts p k x e = ap (λ (xs : List ReportLine). lines_text (xs ++ line.Answer (is_related (system_of parts) p) ∷ [])) e ∙ lines-cons _ _

-- after all services only the answer remains
pub no_service : (parts : NamedSys) (p : Pair) (k : ℕ) (r : Bool) → length parts.seats ≤ k → r ≡ is_related (system_of parts) p → lines_text (services_left parts p k) ≡ line_text (line.Answer r) ++ []
no_service parts p k r l is = grind (arith, drop_all, lines-cons, lines-nil)

-- ---- the report

-- the report, as the pieces that are pushed
pub report_is : (parts : NamedSys) (p : Pair) (head : List ReportLine) → head ≡ report_head parts p →
    lines_text head ++ (lines_text (services_and_answer parts p) ++ (lines_text (offers_and_end parts p) ++ [])) ≡ report_text parts p
unfolding report_text
report_is parts p head is =
    let services = service_lines parts.catalogue parts.seats p.bs in
    let answer = line.Answer (is_related (system_of parts) p) in
    let last = offers_and_end parts p in
    ap₂ (λ (xs : List ReportLine) (ys : List ℕ). lines_text xs ++ ys) is
    (ap (λ (ys : List ℕ). lines_text (services_and_answer parts p) ++ ys) (append-nil (lines_text last)) ∙ sym (lines-append (services_and_answer parts p) last)
    ∙ ap lines_text (append_assoc services (answer ∷ []) last)) ∙ sym (lines-append (report_head parts p) (services ++ answer ∷ last))
