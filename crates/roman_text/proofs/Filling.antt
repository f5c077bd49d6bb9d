-- A page that is being filled: the text that it has taken, and the rest of a whole text.
use Rattle.roman_text.proofs.Common.{◌≡◌, ℕ, List, [], ◌++◌, Option, Result, Ok, Err, IsErrAnd, refl, sym, ap, ◌∙◌, subst, append_assoc, append-nil, WrotePrefix, Puts, Wrote-nil, WrotePrefix-append, Gathered, Gathers}
use Rattle.roman_text.proofs.PageLemmas.{Gathered-then, WrotePrefix-gathered, Puts-after_Gathered}

-- the page has taken a text; followed by the rest, it is the whole text
pub record IsFilling (old now : Option (List ℕ)) (held rest all : List ℕ) : Type 0 where
  pub text : List ℕ
  pub gathered : Gathered old now held text
  pub left : text ++ rest ≡ all

-- a page has taken the bytes that it holds, and the rest is any text
pub fill_begin : (old : Option (List ℕ)) (held rest : List ℕ) → IsFilling old old held rest (held ++ rest)
fill_begin old held rest = record { text = held; gathered = record { prefix = []; wrote = Wrote-nil old; rest = refl }; left = refl }

-- an empty page has taken nothing, and the rest is the whole text
pub fill_whole : (old : Option (List ℕ)) (held rest all : List ℕ) → held ≡ [] → rest ≡ all → IsFilling old old held rest all
fill_whole old held rest all empty e =
    subst (λ (xs : List ℕ). IsFilling old old held rest xs) (ap (λ (xs : List ℕ). xs ++ rest) empty ∙ e) (fill_begin old held rest)

-- a page has taken the bytes that it holds, and the rest is an equal text
pub fill_behind : (old : Option (List ℕ)) (held rest text : List ℕ) → rest ≡ text → IsFilling old old held rest (held ++ text)
fill_behind old held rest text e = subst (λ (xs : List ℕ). IsFilling old old held rest (held ++ xs)) e (fill_begin old held rest)

-- one more piece is taken
pub fill_more : (old mid new : Option (List ℕ)) (held after piece rest all : List ℕ) → IsFilling old mid held (piece ++ rest) all → Gathered mid new after (held ++ piece) → IsFilling old new after rest all
fill_more old mid new held after piece rest all f g = record {
  text = f.text ++ piece;
  gathered = Gathered-then old mid new held after f.text piece f.gathered g;
  left = append_assoc f.text piece rest ∙ f.left;
}

-- if writing a piece fails, a prefix of the whole text is written
pub fill_failed : (old mid new : Option (List ℕ)) (held piece rest all : List ℕ) → IsFilling old mid held (piece ++ rest) all → WrotePrefix mid new (held ++ piece) → WrotePrefix old new all
fill_failed old mid new held piece rest all f w =
    subst (WrotePrefix old new) (append_assoc f.text piece rest ∙ f.left) (WrotePrefix-append _ _ _ _ (WrotePrefix-gathered _ _ _ _ _ _ f.gathered w))

-- if writing a piece fails, writing the whole text fails with the same error
pub fill_stops : {T E : Type 0} (Q : E → Type 0) (old mid new : Option (List ℕ)) (held after piece rest all : List ℕ) (result : Result T E) → IsErrAnd result Q → IsFilling old mid held (piece ++ rest) all →
    WrotePrefix mid new (held ++ piece) × (after ≡ []) → Gathers old new after all result
fill_stops Q old mid new held after piece rest all (Ok x) err f stops = absurd err
fill_stops Q old mid new held after piece rest all (Err e) err f (wrote, empty) = (fill_failed old mid new held piece rest all f wrote, empty)

-- an equal text can replace the rest
pub fill_same : (old now : Option (List ℕ)) (held rest other all : List ℕ) → rest ≡ other → IsFilling old now held rest all → IsFilling old now held other all
fill_same old now held rest other all e f = subst (λ (rest : List ℕ). IsFilling old now held rest all) e f

-- if the rest is empty, the page has taken the whole text
pub fill_end : (old now : Option (List ℕ)) (held all : List ℕ) → IsFilling old now held [] all → Gathered old now held all
fill_end old now held all f = subst (Gathered old now held) (sym (append-nil f.text) ∙ f.left) f.gathered

-- the page takes the last piece, or fails
pub fill_last : {T E : Type 0} (old mid new : Option (List ℕ)) (held after piece all : List ℕ) (result : Result T E) → IsFilling old mid held (piece ++ []) all →
    Gathers mid new after (held ++ piece) result → Gathers old new after all result
fill_last old mid new held after piece all (Ok x) f g = fill_end old new after all (fill_more old mid new held after piece [] all f g)
fill_last old mid new held after piece all (Err e) f g = (fill_failed old mid new held piece [] all f g.0, g.1)

-- the bytes held at the end are written
pub fill_put : {T E : Type 0} (old mid new : Option (List ℕ)) (held all : List ℕ) (result : Result T E) → IsFilling old mid held [] all → Puts mid new held result → Puts old new all result
fill_put old mid new held all result f p = Puts-after_Gathered old mid new held all result (fill_end old mid held all f) p
