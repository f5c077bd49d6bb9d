-- The combined targets of a document are its parts.
use Rattle.roman_library.proofs.Common.{parts_in}
use Rattle.roman_library.specs.declared.refusal.Part.TheVariants as part
use Rattle.roman_multi.specs.Combining as combining
use Rattle.roman_library.proofs.LocatedLemmas.{located_loads}
use Rattle.roman_library.proofs.targets.load_parts.Goals as goal

pub returns-then-version-eq-SEVERAL-clause-parts : goal.returns-then-version-eq-SEVERAL-clause-parts
unfolding parts_in
returns-then-version-eq-SEVERAL-clause-parts g c = λ texts told.
    rw (c.if-version-eq-SEVERAL.true, c.in_ok-targets.ensures.targets texts told, ← c.deref.ensures.value, ← c.deref-then-version-eq-SEVERAL.ensures.value)
    (located_loads combining.plain_combined _ part.System c.combine_targets-made.result _ c.located.result c.combine_targets-made.ensures.parts c.located.ensures)
