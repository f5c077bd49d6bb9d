-- The growth of the prefix of a text.
use Rattle.roman_library.proofs.Common.{IfSome, List, None, Option, Some, ap, drop, length, length-append, subst, sym, take, ℕ, ◌++◌, ◌+◌, ◌∙◌, ◌≡◌, ◌≤◌, take-append-add, length-take-le, take-append-drop, Fetches, Texts, shelf_text}

-- the bytes are a prefix of the text
pub record IsPrefix (bytes text : List ℕ) : Type 0 where
  pub same : take (length bytes) text ≡ bytes

-- the text is its prefix followed by the rest
prefix_rest : (bytes text : List ℕ) → IsPrefix bytes text → bytes ++ drop (length bytes) text ≡ text
prefix_rest bytes text prefix = ap (λ xs. xs ++ drop (length bytes) text) (sym prefix.same) ∙ take-append-drop (length bytes) text

-- the prefix with the next bytes of the text
prefix_more : (bytes piece text : List ℕ) (n : ℕ) → IsPrefix bytes text → take n piece ≡ take n (drop (length bytes) text) →
    n ≤ length (drop (length bytes) text) → IsPrefix (bytes ++ take n piece) text
prefix_more bytes piece text n prefix same within =
    let size : length (bytes ++ take n piece) ≡ length bytes + n =
    rw same (length-append bytes (take n (drop (length bytes) text)) ∙ ap (λ m. length bytes + m) (length-take-le n (drop (length bytes) text) within)) in
    let taken : take (length bytes + n) (bytes ++ drop (length bytes) text) ≡ bytes ++ take n piece =
    take-append-add bytes (drop (length bytes) text) n ∙ ap (λ xs. bytes ++ xs) (sym same) in
    record { same = rw size (subst (λ t. take (length bytes + n) t ≡ bytes ++ take n piece) (prefix_rest bytes text prefix) taken) }

-- the same for a text of a shelf that exposes its texts
pub fetched_more : (o : Option Texts) (name bytes into : List ℕ) (n : ℕ) → IfSome o (λ ts. IsPrefix bytes (shelf_text ts name)) →
    IfSome o (λ ts. Fetches (shelf_text ts name) (length bytes) into n) → IfSome o (λ ts. IsPrefix (bytes ++ take n into) (shelf_text ts name))
fetched_more None name bytes into n prefix fetches = prefix
fetched_more (Some ts) name bytes into n prefix fetches = prefix_more bytes into (shelf_text ts name) n prefix fetches.bytes fetches.within
