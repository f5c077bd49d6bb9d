-- The bytes that several puts wrote together.
use Rattle.std.proofs.Common.{◌≡◌, ℕ, ◌+◌, ◌≤◌, List, [], ◌++◌, length, take, min, Option, None, Some, Result, Ok, Err, sym, ap, ◌∙◌, arith, append_assoc}
use Rattle.std.proofs.lemmas.List.{append-nil, take-append-le, take_min}
use Rattle.std.proofs.Math.Seq.{take-append-add}
use Rattle.roman_io.specs.Sink.{Wrote, WrotePrefix, Puts}

-- nothing was written
pub Wrote-nil : (told : Option (List ℕ)) → Wrote told told []
Wrote-nil None = tt
Wrote-nil (Some old) = sym (append-nil old)

-- writing one piece and then another writes both in a row
pub Wrote-then : (old mid new : Option (List ℕ)) (first second : List ℕ) → Wrote old mid first → Wrote mid new second → Wrote old new (first ++ second)
Wrote-then None None None first second p q = tt
Wrote-then None None (Some new) first second p q = q
Wrote-then None (Some mid) new first second p q = absurd p
Wrote-then (Some old) None new first second p q = absurd p
Wrote-then (Some old) (Some mid) None first second p q = q
Wrote-then (Some old) (Some mid) (Some new) first second p q = q ∙ ap (λ (xs : List ℕ). xs ++ second) p ∙ append_assoc old first second

-- a prefix of a piece isn't longer than the piece
prefix_shorter : (n : ℕ) (piece rest : List ℕ) → take n piece ≡ take (min n (length piece)) (piece ++ rest)
prefix_shorter n piece rest =
    let within : min n (length piece) ≤ length piece = omega arith in
    sym (take-append-le (min n (length piece)) piece rest within ∙ take_min n piece)

-- a prefix of a piece is a prefix of each text that begins with the piece
pub WrotePrefix-append : (old new : Option (List ℕ)) (piece rest : List ℕ) → WrotePrefix old new piece → WrotePrefix old new (piece ++ rest)
WrotePrefix-append None None piece rest p = tt
WrotePrefix-append None (Some new) piece rest p = p
WrotePrefix-append (Some old) None piece rest p = p
WrotePrefix-append (Some old) (Some new) piece rest p = (min p.0 (length piece), p.1 ∙ ap (λ (xs : List ℕ). old ++ xs) (prefix_shorter p.0 piece rest))

-- writing one piece and then a prefix of another writes a prefix of both in a row
pub WrotePrefix-after : (old mid new : Option (List ℕ)) (first second : List ℕ) → Wrote old mid first → WrotePrefix mid new second → WrotePrefix old new (first ++ second)
WrotePrefix-after None None None first second p q = tt
WrotePrefix-after None None (Some new) first second p q = q
WrotePrefix-after None (Some mid) new first second p q = absurd p
WrotePrefix-after (Some old) None new first second p q = absurd p
WrotePrefix-after (Some old) (Some mid) None first second p q = q
WrotePrefix-after (Some old) (Some mid) (Some new) first second p q =
    (length first + q.0, q.1 ∙ (ap (λ (xs : List ℕ). xs ++ take q.0 second) p ∙ (append_assoc old first (take q.0 second) ∙ ap (λ (xs : List ℕ). old ++ xs) (sym (take-append-add first second q.0)))))

-- a put after others: all bytes at Ok, and a prefix at an error
pub Puts-after : {T E : Type 0} (old mid new : Option (List ℕ)) (first second : List ℕ) (result : Result T E) → Wrote old mid first → Puts mid new second result → Puts old new (first ++ second) result
Puts-after old mid new first second (Ok x) p q = Wrote-then old mid new first second p q
Puts-after old mid new first second (Err e) p q = WrotePrefix-after old mid new first second p q
