-- Lists of three and four items, counted lists, and lists of steps that are read item by item.
use Rattle.roman_parts.proofs.Common.{◌≡◌, List, [], ◌∷◌, length, get_or, Some, None, refl, arith, map_push, items_len-items_view, view, items_view, Value, at_start, pushed_on, pushed_ends, is_done, three_of, four_of}

pub three_of-items : (items : List Value) (a b c : Value) → length items ≡ 3 → a ≡ get_or items 0 a → b ≡ get_or items 1 b → c ≡ get_or items 2 c
    → three_of (items_view items) ≡ Some (view a, view b, view c)
three_of-items (x ∷ y ∷ z ∷ []) a b c h p q r = rw (p, q, r)
three_of-items _ a b c h p q r = absurd (omega (arith, h))

pub three_of-others : (items : List Value) → (length items ≡ 3 → ⊥) → three_of (items_view items) ≡ None
three_of-others (x ∷ y ∷ z ∷ []) h = absurd (h refl)
three_of-others _ h = refl

pub four_of-items : (items : List Value) (a b c d : Value) → length items ≡ 4 → a ≡ get_or items 0 a → b ≡ get_or items 1 b → c ≡ get_or items 2 c → d ≡ get_or items 3 d
    → four_of (items_view items) ≡ Some (view a, view b, view c, view d)
four_of-items (x ∷ y ∷ z ∷ w ∷ []) a b c d h p q r s = rw (p, q, r, s)
four_of-items _ a b c d h p q r s = absurd (omega (arith, h))

pub four_of-others : (items : List Value) → (length items ≡ 4 → ⊥) → four_of (items_view items) ≡ None
four_of-others (x ∷ y ∷ z ∷ w ∷ []) h = absurd (h refl)
four_of-others _ h = refl

-- the rules for the parts of a step
pub ruleset items = (three_of-items, three_of-others, four_of-items, four_of-others)

-- the rules for counting the items of a list
pub ruleset counts = (items_len-items_view)

-- the rules for lists of steps
pub ruleset step_lists = (at_start, pushed_on, pushed_ends, is_done, map_push)
