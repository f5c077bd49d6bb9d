-- The bytes that a page writes and holds, over several calls.
use Rattle.roman_text.proofs.Common.{Err, List, Ok, Option, Result, [], ap, append_assoc, sym, ℕ, ◌++◌, ◌∙◌, ◌≡◌, Gathered, Gathers, Puts, Wrote, WrotePrefix, Puts-after, Wrote-nil, Wrote-then, WrotePrefix-after, WrotePrefix-append, append-nil, err_from_is_err_and, length_four, length_one, length_pair, length_two}

-- ---- for callers that fill a page: the beginning, one more text, a fault, and the end

-- an empty page has taken nothing
pub Gathered-empty : (told : Option (List ℕ)) (held : List ℕ) → held ≡ [] → Gathered told told held []
Gathered-empty told held empty = record { prefix = []; wrote = Wrote-nil told; rest = sym empty }

-- a page takes one more text
pub Gathered-then : (old mid new : Option (List ℕ)) (held after text more : List ℕ) → Gathered old mid held text → Gathered mid new after (held ++ more) → Gathered old new after (text ++ more)
Gathered-then old mid new held after text more g h = record {
  prefix = g.prefix ++ h.prefix;
  wrote = Wrote-then old mid new g.prefix h.prefix g.wrote h.wrote;
  rest = ap (λ (xs : List ℕ). xs ++ more) g.rest
      ∙ (append_assoc g.prefix held more ∙ (ap (λ (xs : List ℕ). g.prefix ++ xs) h.rest ∙ sym (append_assoc g.prefix h.prefix after)));
}

-- if one more text fails, a prefix of all texts is written
pub WrotePrefix-gathered : (old mid new : Option (List ℕ)) (held text more : List ℕ) → Gathered old mid held text → WrotePrefix mid new (held ++ more) → WrotePrefix old new (text ++ more)
WrotePrefix-gathered old mid new held text more g h =
    let same : text ++ more ≡ g.prefix ++ (held ++ more) = ap (λ (xs : List ℕ). xs ++ more) g.rest ∙ append_assoc g.prefix held more in
    rw same (WrotePrefix-after old mid new g.prefix (held ++ more) g.wrote h)

-- a page takes one more text, or fails
pub Gathers-after : {T E : Type 0} (old mid new : Option (List ℕ)) (held after text more : List ℕ) (result : Result T E)
    → Gathered old mid held text → Gathers mid new after (held ++ more) result → Gathers old new after (text ++ more) result
Gathers-after old mid new held after text more (Ok x) g h = Gathered-then old mid new held after text more g h
Gathers-after old mid new held after text more (Err e) g h = (WrotePrefix-gathered old mid new held text more g h.0, h.1)

-- the held bytes are written after those written before
pub Puts-after_Gathered : {T E : Type 0} (old mid new : Option (List ℕ)) (held text : List ℕ) (result : Result T E)
    → Gathered old mid held text → Puts mid new held result → Puts old new text result
Puts-after_Gathered old mid new held text result g p = rw g.rest (Puts-after old mid new g.prefix held result g.wrote p)

-- ---- for a page itself

-- a text can be written directly if no bytes are held
pub Gathered-put : (old new : Option (List ℕ)) (bytes : List ℕ) → Wrote old new bytes → Gathered old new [] bytes
Gathered-put old new bytes wrote = record { prefix = bytes; wrote = wrote; rest = sym (append-nil bytes) }

-- on an empty page a text is written directly, or fails
pub Gathers-put : {T E : Type 0} (old new : Option (List ℕ)) (held bytes : List ℕ) (result : Result T E) → held ≡ [] → Puts old new bytes result → Gathers old new held bytes result
Gathers-put old new held bytes (Ok x) empty wrote = rw empty (Gathered-put old new bytes wrote)
Gathers-put old new held bytes (Err e) empty wrote = (wrote, empty)

-- a page takes bytes after its held bytes are written
pub Gathers-flushed : {T E : Type 0} (old mid new : Option (List ℕ)) (held after more : List ℕ) (result : Result T E)
    → Wrote old mid held → Gathers mid new after more result → Gathers old new after (held ++ more) result
Gathers-flushed old mid new held after more result wrote h =
    Gathers-after old mid new [] after held more result (Gathered-put old mid held wrote) h

-- if writing the held bytes fails, a prefix of them and of the bytes after them is written
pub gathers_failed : (old new : Option (List ℕ)) (held after more : List ℕ) → WrotePrefix old new held → after ≡ [] → WrotePrefix old new (held ++ more) × (after ≡ [])
gathers_failed old new held after more wrote empty = (WrotePrefix-append old new held more wrote, empty)

-- if writing the first of two texts fails, a prefix of both is written
pub gathers_failed_first : (old new : Option (List ℕ)) (held after first second : List ℕ) → WrotePrefix old new (held ++ first) → after ≡ [] → WrotePrefix old new (held ++ (first ++ second)) × (after ≡ [])
gathers_failed_first old new held after first second wrote empty = rw (← append_assoc held first second) (gathers_failed old new (held ++ first) after second wrote empty)

-- a page takes two texts, one after the other, or fails
pub Gathers-second : {T E : Type 0} (old mid new : Option (List ℕ)) (start held after first second : List ℕ) (result : Result T E)
    → Gathered old mid held (start ++ first) → Gathers mid new after (held ++ second) result → Gathers old new after (start ++ (first ++ second)) result
Gathers-second old mid new start held after first second result g h = rw (← append_assoc start first second) (Gathers-after old mid new held after (start ++ first) second result g h)

-- a page takes several texts, or fails
pub ruleset in_pieces = (gathers_failed, gathers_failed_first, Gathers-put, Gathers-second, Gathers-flushed, Puts-after_Gathered, err_from_is_err_and)

-- the number of digits
pub ruleset digit_counts = (length_one, length_two, length_pair, length_four)
