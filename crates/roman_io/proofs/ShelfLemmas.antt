-- The bytes that several fetches of one text read together.
use Rattle.std.proofs.Common.{◌≡◌, ℕ, ◌+◌, ◌-◌, ◌^◌, ◌<◌, List, ◌++◌, take, drop, min, subst, Option, None, Some, IfSome, sym, ap, ◌∙◌, arith}
use Rattle.std.proofs.lemmas.List.{take-append-drop, length-drop, drop-drop}
use Rattle.roman_io.specs.Shelf.{Texts, Fetches, shelf_text, rest_from}
use Rattle.roman_io.specs.Source.{Gave}

-- the place after a fetch of n bytes fits in a u64
next_fits : (text : List ℕ) (at : ℕ) (into : List ℕ) (n : ℕ) → at < 2 ^ 64 → Fetches text at into n → min (at + n) (2 ^ 64 - 1) ≡ at + n
next_fits text at into n small f = omega (arith, length-drop at text, f.short, f.within)

-- a text from `at` on is the bytes that a fetch read there, followed by the text from its end on
Fetches-split : (text : List ℕ) (at : ℕ) (into : List ℕ) (n : ℕ) → Fetches text at into n → drop at text ≡ take n into ++ drop (at + n) text
Fetches-split text at into n f =
    sym (take-append-drop n (drop at text)) ∙ (ap (λ (xs : List ℕ). xs ++ drop n (drop at text)) (sym f.bytes) ∙ ap (λ (xs : List ℕ). take n into ++ xs) (drop-drop n at text))

-- a fetch at the end of the bytes given before gives the next bytes
pub Gave-from_Fetches : (old new : Option Texts) (name : List ℕ) (at : ℕ) (into : List ℕ) (n next : ℕ) → new ≡ old → at < 2 ^ 64 → next ≡ min (at + n) (2 ^ 64 - 1) → IfSome old (λ ts. Fetches (shelf_text ts name) at into n) → Gave (rest_from old name at) (rest_from new name next) (take n into)
Gave-from_Fetches None new name at into n next same small place f = subst (λ (told : Option Texts). Gave None (rest_from told name next) (take n into)) (sym same) tt
Gave-from_Fetches (Some ts) new name at into n next same small place f =
    let text = shelf_text ts name in
    let stands : next ≡ at + n = place ∙ next_fits text at into n small f in
    subst (λ (told : Option Texts). Gave (Some (drop at text)) (rest_from told name next) (take n into)) (sym same)
    (Fetches-split text at into n f ∙ ap (λ (k : ℕ). take n into ++ drop k text) (sym stands))
