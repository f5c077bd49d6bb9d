-- The line of a lost pair, in the parts in which it is pushed.
use Rattle.roman_cert.proofs.Common.{Entry, List, Some, [], ap, append-nil, append_assoc, arith, codes, flat_map, length, refl, slice_index, slice_index_or, suc, sym, zero, ℕ, ◌++◌, ◌<◌, ◌∙◌, ◌∷◌, ◌≡◌, ◌≤◌, NamedSys, system_of, Reason, SeatNames, name_at, reason_name, seat_names, state_names, join_with_byte, slice_get, length-map, length-states_at, lost_text, names_in, names_of_seat, pair_at, sizes_of}
use Rattle.roman_cert.proofs.Rests.{rest_of}

joined : (name : List ℕ) (names : List (List ℕ)) → join_with_byte 32 (name ∷ names) ≡ name ++ flat_map (λ x. 32 ∷ x) names
joined name [] = sym (append-nil name)
joined name (x ∷ names) = ap (λ (bs : List ℕ). name ++ 32 ∷ bs) (joined x names)

regrouped : (a t e s c r : List ℕ) → ((a ++ t) ++ 32 ∷ e) ++ (s ++ ((c ++ r) ++ 10 ∷ [])) ≡ ((((a ++ (t ++ 32 ∷ (e ++ s))) ++ c) ++ r) ++ 10 ∷ []) ++ []
regrouped a t e s c r = simp (append_assoc, append-nil)

-- the names of the services' states
abbrev pub lost_states : NamedSys → Entry ℕ → List (List ℕ)
lost_states n x = state_names (names_in n).seats (pair_at (sizes_of (system_of n)) x.node).bs

-- the end of the line
abbrev pub why_text : NamedSys → Reason → List ℕ
why_text n reason = codes ": " ++ reason_name (names_in n) reason ++ 10 ∷ []

pub lost_begins : (n : NamedSys) (x : Entry ℕ) (bytes : List ℕ) →
    bytes ≡ codes "lost " ++ name_at (names_in n).target (pair_at (sizes_of (system_of n)) x.node).t ++ 32 ∷ name_at (names_in n).env (pair_at (sizes_of (system_of n)) x.node).e →
    bytes ++ rest_of (λ name. 32 ∷ name) (lost_states n x) (why_text n x.reason) 0 ≡ lost_text n x
unfolding lost_text rest_of
lost_begins n x bytes is =
    let q = pair_at (sizes_of (system_of n)) x.node in
    let t = name_at (names_in n).target q.t in
    let e = name_at (names_in n).env q.e in
    let why = reason_name (names_in n) x.reason in
    ap (λ (bs : List ℕ). bs ++ rest_of (λ name. 32 ∷ name) (lost_states n x) (why_text n x.reason) 0) is ∙ regrouped (codes "lost ") t e (flat_map (λ name. 32 ∷ name) (lost_states n x)) (codes ": ") why
    ∙ ap (λ (bs : List ℕ). ((((codes "lost " ++ (t ++ 32 ∷ bs)) ++ codes ": ") ++ why) ++ 10 ∷ []) ++ []) (sym (joined e (lost_states n x)))

state_at : (seats : List SeatNames) (bs : List ℕ) (k : ℕ) → k < length seats → length bs ≡ length seats →
    slice_get (state_names seats bs) k ≡ Some (name_at (slice_index_or seats k (record { service = []; states = [] })).states (slice_index bs k))
state_at [] bs k l same = absurd (omega arith)
state_at (seat ∷ seats) [] k l same = absurd (omega arith)
state_at (seat ∷ seats) (b ∷ bs) zero l same = refl
state_at (seat ∷ seats) (b ∷ bs) (suc k) l same = state_at seats bs k (omega arith) (omega arith)

-- the name of a service's state
pub lost_state : (n : NamedSys) (x : Entry ℕ) (k : ℕ) → k < length n.seats → slice_get (lost_states n x) k ≡ Some (name_at (seat_names (names_in n) k).states (slice_index (pair_at (sizes_of (system_of n)) x.node).bs k))
lost_state n x k l = grind (arith, length-map, length-states_at, state_at)

few_states : (seats : List SeatNames) (bs : List ℕ) → length (state_names seats bs) ≤ length seats
few_states [] bs = omega arith
few_states (seat ∷ seats) [] = omega arith
few_states (seat ∷ seats) (b ∷ bs) = omega (arith, few_states seats bs)

pub all_states : (n : NamedSys) (x : Entry ℕ) (k : ℕ) → length n.seats ≤ k → length (lost_states n x) ≤ k
all_states n x k past = omega (arith, few_states (names_in n).seats (pair_at (sizes_of (system_of n)) x.node).bs, length-map n.seats (names_of_seat n.catalogue))
