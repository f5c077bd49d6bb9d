-- The fields of a shape.
use Rattle.std.specs.Prelude.{◌≡◌, length, take}
use Rattle.roman_model.specs.Numbers.{Sizes, count}
use Rattle.roman_radix.specs.Radix.{IsSizes, env_stride_of, target_stride_of}
use Rattle.roman_radix.specs.Places.{padded, strides_of}
use Rattle.roman_radix.specs.Rows.{low_of, lanes_of}
use Rattle.roman_radix.specs.declared.shape.Shape.TheInside.{Inside}

-- the sizes that the fields hold
abbrev pub sizes_in : Inside → Sizes
sizes_in a = record { target = a.target; env = a.env; seats = take a.components a.sizes }

-- the strides and the lanes are those of the sizes, and unused places are 0
pub record IsLaidOut (a : Inside) : Type 0 where
  pub sizes : IsSizes (sizes_in a)
  pub places : a.sizes ≡ padded (take a.components a.sizes)
  pub strides : a.strides ≡ padded (strides_of (take a.components a.sizes))
  pub env_stride : a.env_stride ≡ env_stride_of (sizes_in a)
  pub target_stride : a.target_stride ≡ target_stride_of (sizes_in a)
  pub pairs : a.pairs ≡ count (sizes_in a)
  pub components : a.components ≡ length (take a.components a.sizes)
  pub low : a.low ≡ low_of (take a.components a.sizes)
  pub lanes : a.lanes ≡ lanes_of (take a.components a.sizes)

-- the fields of the shape of these sizes
abbrev pub laid_out : Sizes → Inside
laid_out n = record {
  target = n.target;
  env = n.env;
  components = length n.seats;
  pairs = count n;
  target_stride = target_stride_of n;
  env_stride = env_stride_of n;
  sizes = padded n.seats;
  strides = padded (strides_of n.seats);
  low = low_of n.seats;
  lanes = lanes_of n.seats;
}
