-- What remains when services fail: each of them alone, and each two.
use Rattle.std.specs.Prelude.{◌≡◌, ℕ, suc, ◌+◌, ◌-◌, ◌*◌, ◌<◌, ◌≤◌, false, List, [], ◌∷◌, length, get_or, slice_get, slice_index, Option, IfSome}
use Rattle.roman_model.specs.Numbers.{sizes_of, count, pair_at}
use Rattle.roman_model.specs.Without.{Outlook, outlook, system_without, pair_without}
use Rattle.roman_model.specs.declared.way.Way.{Way}
use Rattle.roman_model.specs.declared.way.Way.TheVariants.{Freeze, Die}
use Rattle.roman_joint.specs.NamedSys.{NamedSys, system_of}
use Rattle.roman_whatif.specs.Told.{told}
use Rattle.roman_whatif.specs.declared.outlook.Outlook as declared
use Rattle.roman_whatif.specs.Left.{IsIdleScratchOf}
use Rattle.roman_whatif.specs.declared.losses.Losses.{Losses}
use Rattle.roman_whatif.specs.declared.losses.Trials.{Trials}

-- the outlook at a place of a table
abbrev pub told_at : List declared.Outlook → ℕ → Outlook
told_at table i = told (get_or table i (record { composes = false; related = 0; choices = 0 }))

-- the outlook of the pair with the number p after the seats at the places K fail
abbrev pub left_of : NamedSys → ℕ → Way → List ℕ → Outlook
left_of parts p way K = outlook (system_without way K (system_of parts)) (pair_without way K (pair_at (sizes_of (system_of parts)) p))

-- the first is the place of a seat, and the second, if there is one, is a later place
pub record MayFail (parts : NamedSys) (first : ℕ) (second : Option ℕ) : Type 0 where
  pub one : first < length parts.seats
  pub later : IfSome second (λ j. (first < j) × (j < length parts.seats))

-- the table has the outlooks after the seat at place j fails, alone or together with each earlier one
pub record IsToldOf (parts : NamedSys) (p : ℕ) (way : Way) (j : ℕ) (table : List declared.Outlook) : Type 0 where
  pub alone : told_at table (32 * j + j) ≡ left_of parts p way (j ∷ [])
  pub two : (k : ℕ) → k < j → told_at table (32 * j + k) ≡ left_of parts p way (k ∷ j ∷ [])

-- the table has the outlooks after each seat fails, and after each two fail
pub record AreTold (parts : NamedSys) (p : ℕ) (way : Way) (table : List declared.Outlook) : Type 0 where
  pub few : length parts.seats ≤ 32
  pub room : length table ≡ 32 * length parts.seats
  pub each : (j : ℕ) → j < length parts.seats → IsToldOf parts p way j table

-- these are all losses of a pair of that system
pub record AreLosses (parts : NamedSys) (losses : Losses) : Type 0 where
  pub within : losses.pair < count (sizes_of (system_of parts))
  pub frozen : AreTold parts losses.pair Freeze losses.frozen.items
  pub gone : AreTold parts losses.pair Die losses.gone.items

-- the services at the places k and k + 1 are equal except for their names, and in the same state at the pair with the number p
pub record AreAlike (parts : NamedSys) (p k : ℕ) : Type 0 where
  pub within : suc k < length parts.seats
  pub seats : slice_get (system_of parts).seats k ≡ slice_get (system_of parts).seats (suc k)
  pub states : slice_index (pair_at (sizes_of (system_of parts)) p).bs k ≡ slice_index (pair_at (sizes_of (system_of parts)) p).bs (suc k)

-- the service at place k and the one before are alike
abbrev pub IsRepeated : NamedSys → ℕ → ℕ → Type 0
IsRepeated parts p k = (0 < k) × AreAlike parts p (k - 1)

-- failures of the base can be tried on both copies
pub record AreTrialsOf (base : NamedSys) (trials : Trials) : Type 0 where
  pub middle : IsIdleScratchOf base trials.middle
  pub scratch : IsIdleScratchOf base trials.scratch

-- the row after row b has the outlooks of row b: those with an earlier seat at the same places, the last of them also at place b, and that of the seat alone one place further on; what comes before is unchanged
pub record RepeatsRow (b : ℕ) (old new : List declared.Outlook) : Type 0 where
  pub two : (k : ℕ) → k < b → told_at new (32 * b + 32 + k) ≡ told_at old (32 * b + k)
  pub last : (k : ℕ) → k + 1 ≡ b → told_at new (32 * b + 32 + b) ≡ told_at old (32 * b + k)
  pub alone : told_at new (32 * b + 33 + b) ≡ told_at old (32 * b + b)
  pub before : (i : ℕ) → i < 32 * b + 32 → told_at new i ≡ told_at old i
  pub room : length new ≡ length old
