-- The outlook that a value stands for.
use Rattle.std.specs.Prelude.{ℕ}
use Rattle.roman_model.specs.Numbers.{sizes_of, pair_at}
use Rattle.roman_model.specs.Without.{Outlook, outlook}
use Rattle.roman_joint.specs.NamedSys.{NamedSys, system_of}
use Rattle.roman_whatif.specs.declared.outlook.Outlook as declared

-- the outlook of the model that the value stands for
abbrev pub told : declared.Outlook → Outlook
told o = record { composes = o.composes; related = o.related; choices = o.choices }

-- the outlook of the pair with the number p
abbrev pub outlook_at : NamedSys → ℕ → Outlook
outlook_at joint p = outlook (system_of joint) (pair_at (sizes_of (system_of joint)) p)
