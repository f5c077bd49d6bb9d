-- Words of lanes that are split.
use Rattle.std.specs.Prelude.{◌≡◌, ℕ, ◌+◌, ◌*◌, ◌^◌, ◌<◌, ◌≤◌, Bool, true, false, ◌++◌, map, length}
use Rattle.roman_lanes.specs.Rows.{is_on}
use Rattle.roman_order.specs.Board.{set_lanes}

-- `front` has the lanes of a word below `cut`, and `rest` has the others
pub record IsCutAt (word front rest cut : ℕ) : Type 0 where
  pub parts : set_lanes word ≡ set_lanes front ++ set_lanes rest
  pub low : (lane : ℕ) → lane < cut → is_on front lane ≡ is_on word lane
  pub high : (lane : ℕ) → cut ≤ lane → is_on front lane ≡ false
  pub in_front : (lane : ℕ) → is_on front lane ≡ true → is_on word lane ≡ true
  pub in_rest : (lane : ℕ) → is_on rest lane ≡ true → is_on word lane ≡ true
  pub fits : rest < 2 ^ 64

-- the first lanes of a word, which `held` has if `holds` is true, and doesn't have otherwise
pub record HasFront (word held front rest : ℕ) (holds : Bool) : Type 0 where
  pub parts : set_lanes word ≡ set_lanes front ++ set_lanes rest
  pub some : 0 < length (set_lanes front)
  pub alike : (lane : ℕ) → is_on front lane ≡ true → is_on held lane ≡ holds
  pub in_front : (lane : ℕ) → is_on front lane ≡ true → is_on word lane ≡ true
  pub in_rest : (lane : ℕ) → is_on rest lane ≡ true → is_on word lane ≡ true
  pub fits : rest < 2 ^ 64

-- the lanes of group i, counted from its first one, and those of the groups after it; the groups before it have none
pub record IsFirstGroup (word width i group rest : ℕ) : Type 0 where
  pub parts : set_lanes word ≡ map (λ lane. i * width + lane) (set_lanes group) ++ set_lanes rest
  pub some : 0 < length (set_lanes group)
  pub in_group : (lane : ℕ) → is_on group lane ≡ true → (lane < width) × (is_on word (i * width + lane) ≡ true)
  pub in_rest : (lane : ℕ) → is_on rest lane ≡ true → is_on word lane ≡ true
  pub fits : rest < 2 ^ 64

-- the word has the lanes from `begin` to `end - 1`
pub record HasLanesBetween (word begin end : ℕ) : Type 0 where
  pub low : (i : ℕ) → i < begin → is_on word i ≡ false
  pub mid : (i : ℕ) → begin ≤ i → i < end → is_on word i ≡ true
  pub high : (i : ℕ) → end ≤ i → is_on word i ≡ false

-- each of the first lanes of the word is spread to `width` neighbours
pub record IsSpread (word spread lanes width : ℕ) : Type 0 where
  pub each : (lane i : ℕ) → lane < lanes → i < width → is_on spread (lane * width + i) ≡ is_on word lane
  pub past : (bit : ℕ) → lanes * width ≤ bit → is_on spread bit ≡ false
