-- The bytes that several takes moved together, and the bytes that the source had.
use Rattle.std.proofs.Common.{◌≡◌, ℕ, ◌+◌, ◌≤◌, List, [], ◌++◌, length, Option, None, Some, refl, sym, ap, ◌∙◌, arith, append_assoc, append-nil, length-append}
use Rattle.roman_io.specs.Source.{Gave, EndsAt, Had, GaveAtMost}

-- nothing was given
pub Gave-nil : (told : Option (List ℕ)) → Gave told told []
Gave-nil None = tt
Gave-nil (Some rest) = refl

-- giving some bytes and then others gives both in a row
pub Gave-then : (old mid new : Option (List ℕ)) (first second : List ℕ) → Gave old mid first → Gave mid new second → Gave old new (first ++ second)
Gave-then None None None first second p q = tt
Gave-then None None (Some new) first second p q = q
Gave-then None (Some mid) new first second p q = absurd p
Gave-then (Some old) None new first second p q = absurd p
Gave-then (Some old) (Some mid) None first second p q = q
Gave-then (Some old) (Some mid) (Some new) first second p q = p ∙ (ap (λ (xs : List ℕ). first ++ xs) q ∙ sym (append_assoc first second new))

-- a source that exposed its rest before exposes it after
pub Gave-told : (old : List ℕ) (new : Option (List ℕ)) (bytes : List ℕ) → Gave (Some old) new bytes → (rest : List ℕ) × (new ≡ Some rest) × (old ≡ bytes ++ rest)
Gave-told old None bytes p = absurd p
Gave-told old (Some new) bytes p = (new, refl, p)

-- a source had the bytes that it gave, and some more
pub had_more : (before now : Option (List ℕ)) (taken : List ℕ) → Gave before now taken → (after : List ℕ) × Had before (taken ++ after)
had_more None None taken gave = ([], tt)
had_more None (Some new) taken gave = absurd gave
had_more (Some old) None taken gave = absurd gave
had_more (Some old) (Some new) taken gave = (new, gave)

-- a source at its end had exactly the bytes that it gave
pub had_all : (before now : Option (List ℕ)) (taken : List ℕ) (n : ℕ) → Gave before now taken → EndsAt now n → n ≡ 0 → Had before taken
had_all None None taken n gave ends none = tt
had_all None (Some new) taken n gave ends none = absurd gave
had_all (Some old) None taken n gave ends none = absurd gave
had_all (Some old) (Some new) taken n gave ends none = gave ∙ ap (λ (rest : List ℕ). taken ++ rest) (ends.0 none) ∙ append-nil taken

-- two takes within their limits gave at most the sum of the limits
pub gave_at_most : (most : ℕ) (before mid now : Option (List ℕ)) (taken got : List ℕ) → Gave before mid taken → Gave mid now got → length taken + length got ≤ most → GaveAtMost most before now
gave_at_most most before mid now taken got first second few = record {
  taken = taken ++ got;
  gave = Gave-then before mid now taken got first second;
  few = omega (arith, length-append taken got);
}
