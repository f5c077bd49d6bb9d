-- Tables of sizes after a size is added or dropped, and the sizes themselves.
use Rattle.roman_radix.proofs.Common.{◌≡◌, ℕ, zero, suc, ◌+◌, ◌-◌, ◌*◌, ◌^◌, ◌<◌, ◌≤◌, List, [], ◌∷◌, ◌++◌, length, take, drop, get_or, replicate, refl, ap, ◌∙◌, arith, set, mul-le-mul_left, length-append, take_at, drop-replicate, get_or-append_right, get_or_past, get_or-set_other, get_or-set_same, get_or_append_left, length-set, Sizes, grown_sizes, sizes_without, count, MAX_SERVICES, AreSizes, IsSizes, padded, remove, length-remove, get_or-remove_above, get_or-remove_below, count-grown, count-without, cases_lt}
use Rattle.roman_radix.proofs.RowLemmas.{AreSizes-take}
use Rattle.roman_radix.proofs.Shown.{shown}
use Rattle.roman_radix.proofs.Strides.{length-padded, padded_from, size_at, AreSizes-drop, AreSizes-index}

-- a table that holds these numbers, followed by zeros
pub record Has (table ns : List ℕ) (c : ℕ) : Type 0 where
  pub first : take c table ≡ ns
  pub padded : table ≡ padded (take c table)

pub has : (table ns : List ℕ) (c : ℕ) → table ≡ padded ns → length ns ≡ c → Has table ns c
has table ns c e long = grind (arith, take_at)

pub has_copied : (copied ns zeros : List ℕ) → copied ≡ ns → zeros ≡ replicate MAX_SERVICES zero → Has (copied ++ drop (length ns) zeros) ns (length ns)
has_copied copied ns zeros is e = grind (arith, (drop-replicate (length ns) MAX_SERVICES zero), has)

pub has_pushed : (table ns : List ℕ) (c size : ℕ) → table ≡ padded ns → c ≡ length ns → length ns < MAX_SERVICES → Has (set table c size) (ns ++ size ∷ []) (c + 1)
has_pushed table ns c size e here room =
    let long : length (ns ++ size ∷ []) ≡ length ns + 1 = length-append ns (size ∷ []) in
    let all = length-padded ns (omega arith) in
    has _ _ _ (padded_from (set table c size) (ns ++ size ∷ []) (grind (arith, length-set)) (omega arith) (λ k. grind (arith, cases_lt, get_or-append_right, get_or-set_other, get_or-set_same, get_or_append_left, get_or_past, (size_at ns table k e)))) (omega arith)

pub has_shrunk : (table ns moved : List ℕ) (c k : ℕ) → table ≡ padded ns → c ≡ length ns → length ns ≤ MAX_SERVICES → k < length ns → length moved ≡ length table →
    ((i : ℕ) → i < k → get_or moved i 0 ≡ get_or table i 0) → ((i : ℕ) → k ≤ i → get_or moved i 0 ≡ get_or table (i + 1) 0) → Has moved (remove ns k) (c - 1)
has_shrunk table ns moved c k e here room component long below above =
    let fewer = length-remove ns k component in
    let all = length-padded ns room in
    has _ _ _ (padded_from moved (remove ns k) (omega (arith, ap length e)) (omega arith) (λ i. grind (arith, cases_lt, get_or-remove_above, get_or-remove_below, (above i), (below i), (size_at ns table i e), (size_at ns table (i + 1) e)))) (omega arith)

AreSizes-append : (ms ns : List ℕ) → AreSizes ms → AreSizes ns → AreSizes (ms ++ ns)
AreSizes-append [] ns h g = g
AreSizes-append (m ∷ ms) ns h g = (h.0, h.1, AreSizes-append ms ns h.2 g)

-- numbers are in range if the number at each place is
pub AreSizes-from : (ns : List ℕ) → ((k : ℕ) (d : ℕ) → k < length ns → 0 < get_or ns k d) → ((k : ℕ) → get_or ns k 0 < 2 ^ 8) → AreSizes ns
AreSizes-from [] low high = tt
AreSizes-from (n ∷ ns) low high = (low 0 0 (omega arith), high 0, AreSizes-from ns (λ k d h. low (suc k) d (omega arith)) (λ k. high (suc k)))

pub IsSizes-new : (target env : ℕ) (ns : List ℕ) → 0 < target → target < 2 ^ 8 → 0 < env → env < 2 ^ 8 → AreSizes ns → length ns ≤ MAX_SERVICES →
    count (record { target = target; env = env; seats = ns }) < 2 ^ 32 → IsSizes (record { target = target; env = env; seats = ns })
IsSizes-new target env ns a b x y sizes few fits = record { target = (a, b); env = (x, y); seats = sizes; few = few; counted = fits }

pub IsSizes-grown : (n : Sizes) (size : ℕ) → IsSizes n → 0 < size → size < 2 ^ 8 → length n.seats < MAX_SERVICES → count (grown_sizes n size) < 2 ^ 32 → IsSizes (grown_sizes n size)
IsSizes-grown n size h positive narrow room fits = grind (arith, AreSizes-append, length-append)

pub IsSizes-without : (n : Sizes) (k : ℕ) → IsSizes n → k < length n.seats → IsSizes (sizes_without k n)
IsSizes-without n k h component =
    let size : 0 < get_or n.seats k 0 = (AreSizes-index n.seats k h.seats component).0 in
    let more : count (sizes_without k n) * 1 ≤ count (sizes_without k n) * get_or n.seats k 0 = mul-le-mul_left (count (sizes_without k n)) size in
    let all = count-without n k component in
    let few = length-remove n.seats k component in
    record {
      target = h.target;
      env = h.env;
      seats = AreSizes-append (take k n.seats) (drop (suc k) n.seats) (AreSizes-take k n.seats h.seats) (AreSizes-drop (suc k) n.seats h.seats);
      few = omega (arith, h.few);
      counted = omega (arith, h.counted);
    }

pub same_sizes : (t u e f : ℕ) (ms ns : List ℕ) → u ≡ t → f ≡ e → ns ≡ ms → ◌≡◌ {A = Sizes} (record { target = t; env = e; seats = ms }) (record { target = u; env = f; seats = ns })
same_sizes t u e f ms ns x y z = rw (x, y, z) refl

-- the table of a new shape, of a grown one and of one without a component
pub ruleset new_rules = (AreSizes-from, IsSizes-new, has_copied, same_sizes)

pub ruleset grow_rules = (IsSizes-grown, count-grown, has_pushed, same_sizes, set, shown)

pub ruleset shrink_rules = (IsSizes-without, has_shrunk, same_sizes, set, shown)
