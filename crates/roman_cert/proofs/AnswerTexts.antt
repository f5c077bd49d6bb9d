-- The lines of the services that may answer an entry.
use Rattle.roman_cert.proofs.Common.{Act, Final, AreNumbers, answer_at, get_in, get_or-below, length-below, Board, as_entry, has_entry, pairs_of, Bool, IsFalse, IsTrue, List, Option, Some, [], ap, append-nil, arith, cond, filter, flat_map, length, map, refl, sym, true, ℕ, ◌<◌, ◌∙◌, ◌∷◌, ◌≡◌, ◌≤◌, Entry, IsNamedSys, NamedSys, seat_of, system_of, Pair, answer, answer_line, answers_text, arena, is_ready, arena_of, below, cond-false, cond-true, entry_at, pair_at, sizes_of, flat_map-map, length-map, listed_numbers, names_in, option_map, slice_get, slice_get-get_or, text_of_lines, with_newline}
use Rattle.roman_cert.proofs.Rests.{rest_of, flat_map-filter}

-- the line of the service at place k, with its answer to the action a at the pair with the number p; empty if it isn't ready
pub seat_text : NamedSys → List (Entry ℕ) → ℕ → ℕ → ℕ → List ℕ
seat_text n L p a k =
    let s = system_of n in
    cond (is_ready (slice_get s.seats k)) (with_newline (answer_line (names_in n) k (answer (arena s) (map (entry_at s) L) (pair_at (sizes_of s) p) a k))) []

-- the lines of all services are those of the entry
pub answers_begin : (n : NamedSys) (L : List (Entry ℕ)) (p a : ℕ) → rest_of (seat_text n L p a) (below (length (system_of n).seats)) [] 0 ≡ answers_text n L (as_entry (p, Act a))
unfolding seat_text answers_text rest_of
answers_begin n L p a =
    let s = system_of n in
    let ready : ℕ → Bool = λ k. is_ready (slice_get s.seats k) in
    let line : ℕ → List ℕ = λ k. answer_line (names_in n) k (answer (arena s) (map (entry_at s) L) (pair_at (sizes_of s) p) a k) in
    append-nil (flat_map (seat_text n L p a) (below (length s.seats)))
    ∙ sym (flat_map-map with_newline line (filter ready (below (length s.seats))) ∙ flat_map-filter ready (λ k. with_newline (line k)) (below (length s.seats)))

-- an entry at which clause 2 fails has no lines of services
pub no_answers : (n : NamedSys) (L : List (Entry ℕ)) (p : ℕ) → answers_text n L (as_entry (p, Final)) ≡ []
unfolding answers_text
no_answers n L p = refl

-- each service has its line
pub seat_in : (n : NamedSys) (k : ℕ) → k < length n.seats → slice_get (below (length (system_of n).seats)) k ≡ Some k
seat_in n k l =
    let seats = length (system_of n).seats in
    let within : k < seats = omega (arith, length-map n.seats (seat_of n.catalogue)) in
    slice_get-get_or (below seats) k 0 (omega (arith, length-below seats)) ∙ ap Some (get_or-below seats k 0 within)

pub all_seats : (n : NamedSys) (k : ℕ) → length n.seats ≤ k → length (below (length (system_of n).seats)) ≤ k
all_seats n k past = omega (arith, length-below (length (system_of n).seats), length-map n.seats (seat_of n.catalogue))

pub seat_said : (n : NamedSys) (board : Board) (i p a k : ℕ) (found : Option ℕ) (bytes : List ℕ) → IsNamedSys n → pairs_of board ≡ length (arena_of n).nodes → ((p : ℕ) → has_entry board.list p ≡ true → p < pairs_of board) →
    slice_get board.list i ≡ Some (as_entry (p, Act a)) → IsTrue ((arena_of n).ready k) → found ≡ answer (arena_of n) board.list p a k → bytes ≡ text_of_lines (answer_line (names_in n) k (option_map (pair_at (sizes_of (system_of n))) found) ∷ []) →
    bytes ≡ seat_text n board.list p a k
unfolding seat_text
seat_said n board i p a k found bytes known shaped in_range e ready is said =
    let s = system_of n in
    let are : AreNumbers s board.list = listed_numbers s board shaped in_range in
    let l = are (as_entry (p, Act a)) (get_in board.list i (as_entry (p, Act a)) e) in
    said ∙ append-nil _ ∙ ap (λ (o : Option Pair). with_newline (answer_line (names_in n) k o)) (ap (option_map (pair_at (sizes_of s))) is ∙ answer_at s known.system board.list are p l a k)
    ∙ sym (cond-true (is_ready (slice_get s.seats k)) _ [] ready)

-- a service that isn't ready has no line
pub seat_frozen : (n : NamedSys) (L : List (Entry ℕ)) (p a k : ℕ) → IsFalse ((arena_of n).ready k) → [] ≡ seat_text n L p a k
unfolding seat_text
seat_frozen n L p a k frozen = sym (cond-false (is_ready (slice_get (system_of n).seats k)) _ [] frozen)
