-- A shape's fields in terms of the sizes that it holds.
use Rattle.roman_radix.proofs.Common.{take-append-le, length-append, Inside, target_stride_of, AreSizes, IsSizes, stride_of, env_stride_of, IsLaidOut, sizes_in, ap₂, ◌≡◌, ℕ, ◌-◌, ◌≤◌, ◌∙◌, take, replicate, sym, ap, subst, ◌+◌, ◌<◌, length, get_or, slice_index, arith, MAX_SERVICES, row_sizes, low_of, lanes_of, Sizes, count, padded, strides_of}
use Rattle.roman_radix.proofs.Strides.{product_positive, AreSizes-drop, AreSizes-index, stride_at, size_at}
use Rattle.roman_radix.proofs.RowLemmas.{AreSizes-take, lanes_few, lanes_positive, low_of-le}

pub record Shows (a : Inside) (n : Sizes) : Type 0 where
  pub sizes : IsSizes n
  pub target : a.target ≡ n.target
  pub env : a.env ≡ n.env
  pub components : a.components ≡ length n.seats
  pub places : a.sizes ≡ padded n.seats
  pub strides : a.strides ≡ padded (strides_of n.seats)
  pub env_stride : a.env_stride ≡ env_stride_of n
  pub target_stride : a.target_stride ≡ target_stride_of n
  pub pairs : a.pairs ≡ count n
  pub low : a.low ≡ low_of n.seats
  pub lanes : a.lanes ≡ lanes_of n.seats

pub shown : (a : Inside) (n : Sizes) → IsLaidOut a → sizes_in a ≡ n → Shows a n
shown a n h e = grind arith

pub stride_is : (a : Inside) (k : ℕ) → IsLaidOut a → k < length (sizes_in a).seats → (get_or a.strides k 0 ≡ stride_of (sizes_in a) k) × (0 < get_or a.strides k 0)
stride_is a k h l = grind (arith, (AreSizes-drop (k + 1) (sizes_in a).seats h.sizes.seats), product_positive, (stride_at (sizes_in a).seats a.strides k h.strides l))

pub size_is : (a : Inside) (k : ℕ) → IsLaidOut a → k < length (sizes_in a).seats → (get_or a.sizes k 0 ≡ slice_index (sizes_in a).seats k) × (0 < get_or a.sizes k 0)
size_is a k h l = grind (arith, (AreSizes-index (sizes_in a).seats k h.sizes.seats l), (size_at (sizes_in a).seats a.sizes k h.places))

-- the first sizes are the sizes before the lanes
pub first_sizes : (a : Inside) → IsLaidOut a → (take a.low a.sizes ≡ (row_sizes (sizes_in a)).seats) × AreSizes (take a.low a.sizes) × (a.low ≤ length a.sizes)
first_sizes a h =
    let n = sizes_in a in
    let first : take a.low a.sizes ≡ (row_sizes n).seats = ap₂ take h.low h.places ∙ take-append-le (low_of n.seats) n.seats (replicate (MAX_SERVICES - length n.seats) 0) (low_of-le n.seats) in
    (first, subst AreSizes (sym first) (AreSizes-take (low_of n.seats) n.seats h.sizes.seats), omega (arith, ap length h.places, length-append n.seats (replicate (MAX_SERVICES - length n.seats) 0), low_of-le n.seats, h.low))

-- a shape's lanes
pub ruleset lane_rules = (shown, lanes_few, lanes_positive, low_of-le)
