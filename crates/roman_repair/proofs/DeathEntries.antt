-- The entries of a removal list after a death.
use Rattle.roman_repair.proofs.Common.{in_sizes, map_same_in, map-map, list_any-map, length-below, left, count-without, sizes-left, number_without-is, from_map, ◌≡◌, ℕ, ◌+◌, ◌-◌, ◌*◌, ◌/◌, ◌%◌, ◌^◌, ◌<◌, ◌≤◌, Bool, true, false, not, ◌||◌, if◌then◌else◌, cond, List, [], ◌∷◌, ◌++◌, map, length, filter, remove, slice_index, IsFalse, inl, inr, refl, sym, ap, ◌∙◌, subst, arith, append-nil, append_assoc, bit_and, ◌==◌, cases_lt, both_ways, and_parts, eqb-true, false_from_ne_true, div-add-mod', mod_below, map-append, list_any-append, mul-le-mul_left, IsIn, HasNoRepeats, Seat, Sys, is_final, Entry, Sizes, sizes_of, sizes_without, count, pair_at, numbered, number, number_without, number_entry_without, first_numbers, Reason, is_on, HasLanes, on_and, lanes_of, NamedSys, system_of, lanes_in, Board, as_entry, pairs_of, has_entry, nodes_of, set_lanes, entries_in, in_lanes, lanes_once, IsShaped, list_with, entries_from, AreInGroup, Renames, list_any, IsSizes, may_go, Die, CanChange, without, AreSizes-index}
use Rattle.roman_repair.proofs.DeathGroups.{group_number, group_state, group_place, row_of_left, moved_lanes}
use Rattle.roman_repair.proofs.Fronts.{filter_alike}

-- The first entry for each number.

-- the first entries depend on which numbers are seen, and not on their order
first_numbers_seen : (seen more : List ℕ) (L : List (Entry ℕ)) → ((i : ℕ) → list_any (λ j. i == j) seen ≡ list_any (λ j. i == j) more) → first_numbers seen L ≡ first_numbers more L
first_numbers_seen seen more [] same = refl
first_numbers_seen seen more (x ∷ L) same = grind (arith, (first_numbers_seen seen more L same), (first_numbers_seen (x.node ∷ seen) (x.node ∷ more) L (λ i. ap (λ b. (i == x.node) || b) (same i))), (same x.node))

-- if the numbers differ, each unseen one is a first entry
first_apart : (f : ℕ → Entry ℕ) (known : ℕ → Bool) (more ls : List ℕ) → ((i j : ℕ) → (f i).node ≡ (f j).node → i ≡ j) → HasNoRepeats ls → ((i : ℕ) → IsIn i ls → list_any (λ j. (f i).node == j) more ≡ known i) →
    first_numbers more (map f ls) ≡ map f (filter (λ i. not (known i)) ls)
first_apart f known more [] apart once same = refl
first_apart f known more (i ∷ ls) apart once same =
    let others : (j : ℕ) → IsIn j ls → list_any (λ m. (f j).node == m) ((f i).node ∷ more) ≡ known j = λ j h.
    let differ : IsFalse ((f j).node == (f i).node) = false_from_ne_true ((f j).node == (f i).node) (λ t. once.0 (subst (λ m. IsIn m ls) (apart j i (eqb-true (f j).node (f i).node t)) h)) in
    ap (λ b. b || list_any (λ m. (f j).node == m) more) differ ∙ same j (inr h) in
    grind (arith, (first_apart f known more ls apart once.1 (λ j h. same j (inr h))), (first_apart f known ((f i).node ∷ more) ls apart once.1 others), (same i (inl refl)))

-- The renamed entries.

-- the first entry is renamed, and then the others
list_with_step : (n : Sizes) (k : ℕ) (seat : Seat) (L : List (Entry ℕ)) (x : Entry ℕ) (W : List (Entry ℕ)) → list_with n k seat L (x ∷ W) ≡ list_with n k seat (list_with n k seat L (x ∷ [])) W
list_with_step n k seat L x W =
    let y : Entry ℕ = number_entry_without k n x in
    grind (arith, append-nil, append_assoc, (first_numbers_seen (y.node ∷ nodes_of L) (nodes_of (L ++ y ∷ [])) (map (number_entry_without k n) (filter (λ x. may_go k seat (pair_at n x.node)) W)) (λ i. grind (arith, list_any-append, map-append))))

-- the renamed entries of one list, and then those of another
list_with_append : (n : Sizes) (k : ℕ) (seat : Seat) (L V W : List (Entry ℕ)) → list_with n k seat L (V ++ W) ≡ list_with n k seat (list_with n k seat L V) W
list_with_append n k seat L [] W = ap (λ K. list_with n k seat K W) (sym (append-nil L))
list_with_append n k seat L (x ∷ V) W =
    list_with_step n k seat L x (V ++ W) ∙ list_with_append n k seat (list_with n k seat L (x ∷ [])) V W ∙ ap (λ K. list_with n k seat K W) (sym (list_with_step n k seat L x V))

-- the first of the entries that are left
pub renames_front : (s : Sys) (k : ℕ) (L M X old new : List (Entry ℕ)) → X ≡ L ++ M → Renames s k L [] old new → Renames s k X M old new
renames_front s k L M X old new parts is = record {
  list = λ seat seated. ap (λ K. list_with (sizes_of s) k seat K M) (sym (append-nil new) ∙ is.list seat seated) ∙ sym (list_with_append (sizes_of s) k seat old L M) ∙ ap (list_with (sizes_of s) k seat old) (sym parts);
}

pub renames_both : (s : Sys) (k : ℕ) (L M N old mid new : List (Entry ℕ)) → Renames s k L M old mid → Renames s k M N mid new → Renames s k L N old new
renames_both s k L M N old mid new first second = record { list = λ seat seated. second.list seat seated ∙ first.list seat seated }

group_goes : (n : Sizes) (k : ℕ) (seat : Seat) (first word : ℕ) (may : Bool) (reason : Reason) → AreInGroup n k first word → may_go k seat (pair_at n first) ≡ may →
    filter (λ x. may_go k seat (pair_at n x.node)) (entries_from first word reason) ≡ cond may (entries_from first word reason) []
group_goes n k seat first word may reason is goes =
    filter_alike (λ x. may_go k seat (pair_at n x.node)) may (entries_from first word reason) (λ x h.
    let (i, there, here) = from_map (λ i. as_entry (first + i, reason)) x (set_lanes word) h in
    let on = (in_lanes word i there).1 in
    let (width, j, group, e, within) = is.group in
    let state = λ (p : ℕ). slice_index (pair_at n p).bs k in
    let same : state x.node ≡ state first = ap (λ (y : Entry ℕ). state y.node) here ∙ ap (λ f. state (f + i)) e ∙ group_state n k width j i group (within i on) (subst (λ f. f + i < count n) e (is.pair i on)) is.seat ∙ sym (ap state e) in
    ap (λ b. not seat.rests || is_final seat.beh b) same ∙ goes)

-- the seat may leave its state in a pair behind, or it may not
abbrev pub Goes : Sys → ℕ → ℕ → Bool → Type 0
Goes s k p may = (seat : Seat) → CanChange (Die k seat) s → may_go k seat (pair_at (sizes_of s) p) ≡ may

-- if the seat may not leave its state behind, no entry is renamed
pub group_stays : (s : Sys) (k first word : ℕ) (reason : Reason) (L : List (Entry ℕ)) → AreInGroup (sizes_of s) k first word → Goes s k first false → Renames s k (entries_from first word reason) [] L L
group_stays s k first word reason L is goes = record {
  list = λ seat seated. sym (ap (λ W. L ++ first_numbers (nodes_of L) (map (number_entry_without k (sizes_of s)) W)) (group_goes (sizes_of s) k seat first word false reason is (goes seat seated)));
}

-- if the seat may leave its state behind, the renamed entries are those of lanes of one row, except for the listed ones
pub group_left : (s : Sys) (k first word left lanes alive : ℕ) (reason : Reason) (L : List (Entry ℕ)) → AreInGroup (sizes_of s) k first word → Goes s k first true →
    left ≡ number (sizes_without k (sizes_of s)) (without k (pair_at (sizes_of s) first)) → lanes ≡ lanes_of (remove (sizes_of s).seats k) → (0 < lanes) × (lanes ≤ 64) → HasLanes lanes (left / lanes) (λ p. not (has_entry L p)) alive →
    Renames s k (entries_from first word reason) [] L (L ++ entries_in lanes (left / lanes) (bit_and (word * 2 ^ (left % lanes) % 2 ^ 64) alive) reason)
group_left s k first word left lanes alive reason L is goes number_is wide few rows =
    let f : ℕ → Entry ℕ = λ i. as_entry (left + i, reason) in
    let number_at : (i : ℕ) → is_on word i ≡ true → number_without k n (first + i) ≡ left + i = λ i on.
    let (width, j, group, e, within) = is.group in
    ap (λ p. number_without k n (p + i)) e ∙ group_number n k width j i group (within i on) ∙ ap (λ p. number_without k n p + i) (sym e) ∙ ap (λ p. p + i) (sym moved) in
    record {
      list = λ seat seated. append-nil _ ∙ ap (λ M. L ++ M) (
          ap (map (λ lane. as_entry (left / lanes * lanes + lane, reason))) (moved_lanes word alive (left % lanes) new (omega (arith, mod_below left lanes few.0, few.1)) each)
          ∙ map-map (λ lane. as_entry (left / lanes * lanes + lane, reason)) (λ i. left % lanes + i) (filter new (set_lanes word))
          ∙ map_same_in (λ i. as_entry (left / lanes * lanes + (left % lanes + i), reason)) f (filter new (set_lanes word)) (λ i h. ap (λ p. as_entry (p, reason)) (place i))
          ∙ sym (first_apart f (λ i. has_entry L (left + i)) (nodes_of L) (set_lanes word) (λ i j e. omega (arith, e)) (lanes_once word) (λ i h. list_any-map (λ (x : Entry ℕ). x.node) (λ j. left + i == j) L))
          ∙ ap (first_numbers (nodes_of L)) (sym (
          ap (map (number_entry_without k n)) (group_goes n k seat first word true reason is (goes seat seated))
          ∙ map-map (number_entry_without k n) (λ i. as_entry (first + i, reason)) (set_lanes word)
          ∙ map_same_in (λ i. number_entry_without k n (as_entry (first + i, reason))) f (set_lanes word) (λ i h. ap (λ p. as_entry (p, reason)) (number_at i (in_lanes word i h).1)))));
    }
  where
    n : Sizes
    n = sizes_of s

    moved : left ≡ number_without k n first
    moved = number_is ∙ number_without-is n first k is.inside is.seat

    new : ℕ → Bool
    new i = not (has_entry L (left + i))

    place : (i : ℕ) → left / lanes * lanes + (left % lanes + i) ≡ left + i
    place i = let whole : left / lanes * lanes + left % lanes ≡ left = div-add-mod' left lanes in omega arith

    each : (i : ℕ) → i < 64 → is_on word i ≡ true → (left % lanes + i < 64) × (is_on alive (left % lanes + i) ≡ new i)
    each i h on =
        let (width, j, group, e, within) = is.group in
        let l = within i on in
        let fits : left % lanes + width ≤ lanes = subst (λ q. q % lanes + width ≤ lanes) (sym (moved ∙ ap (number_without k n) e)) (group_place n k width j lanes group (omega (arith, l)) wide few.0) in
        (omega (arith, fits, l, few.1), rows.each (left % lanes + i) (omega (arith, fits, l)) ∙ ap (λ p. not (has_entry L p)) (place i))

-- the row of the renamed entries
pub left_row : (n shape : Sizes) (k left lanes : ℕ) (order : Board) → left < count (sizes_without k shape) → shape ≡ n → pairs_of order ≡ count (sizes_without k n) → lanes ≡ order.lanes → left / lanes < order.rows
left_row n shape k left lanes order l is pairs wide = row_of_left left lanes order.rows (omega (arith, l, ap (λ (m : Sizes). count (sizes_without k m)) is, pairs, ap (λ m. order.rows * m) wide))

-- the appended entries lie in the row, and weren't listed before
pub lost_within : (lanes x other alive lane : ℕ) (L : List (Entry ℕ)) → HasLanes lanes x (λ p. not (has_entry L p)) alive → is_on (bit_and other alive) lane ≡ true →
    (lane < lanes) × (has_entry L (x * lanes + lane) ≡ false)
lost_within lanes x other alive lane L rows on = grind (arith, and_parts, both_ways, cases_lt, false_from_ne_true, on_and)

-- The number of pairs without the service.

pub fewer_pairs : (n : NamedSys) (shape : Sizes) (k : ℕ) → shape ≡ sizes_of (system_of n) → IsSizes shape → k < length n.seats → count (sizes_without k (sizes_of (system_of n))) ≤ count (sizes_of (system_of n))
fewer_pairs n shape k is sizes l =
    let all = sizes_of (system_of n) in
    let seat : k < length all.seats = in_sizes n k l in
    let once : count (sizes_without k all) * 1 ≤ count (sizes_without k all) * slice_index all.seats k =
    mul-le-mul_left (count (sizes_without k all)) (AreSizes-index all.seats k (subst IsSizes is sizes).seats seat).0 in
    omega (arith, once, count-without all k seat)

pub small_pairs : (n : NamedSys) (shape small : Sizes) (k rows lanes : ℕ) → shape ≡ sizes_of (system_of n) → small ≡ sizes_without k shape → rows * lanes_of small.seats ≡ count small →
    lanes ≡ lanes_of small.seats → rows * lanes ≡ count (sizes_without k (sizes_of (system_of n)))
small_pairs n shape small k rows lanes is without whole wide = ap (λ m. rows * m) wide ∙ whole ∙ ap count (without ∙ ap (sizes_without k) is)

-- an order has room for these pairs
pub ruleset renaming = (fewer_pairs, length-below, small_pairs)

pub left_shaped : (s : Sys) (k : ℕ) (new : Board) → pairs_of new ≡ count (sizes_without k (sizes_of s)) → new.lanes ≡ lanes_of (sizes_without k (sizes_of s)).seats → IsShaped (numbered (left s k)) (lanes_in (left s k)) new
left_shaped s k new pairs lanes = grind (arith, left, length-below, sizes-left)
