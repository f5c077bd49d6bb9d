use Rattle.roman_library.proofs.Common.{IfSome, vec_len, ◌-◌, ◌≡◌, shelf_text}
use Rattle.roman_library.proofs.PrefixLemmas.{IsPrefix}
use Rattle.roman_library.proofs.text.whole_text.Given as goal

abbrev pub invariant-pieces : goal.invariant-pieces
invariant-pieces g l = record {
  texts : g.F.Shelf.texts l.shelf ≡ g.F.Shelf.texts l.initial.shelf;
  faults : g.F.Shelf.faults l.shelf ≡ g.F.Shelf.faults l.initial.shelf;
  prefix : IfSome (g.F.Shelf.texts l.initial.shelf) (λ ts. IsPrefix l.text.items (shelf_text ts l.name));
}

abbrev pub decreases-pieces : goal.decreases-pieces
decreases-pieces g l = 1048577 - vec_len l.text
