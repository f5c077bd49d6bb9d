-- The lines of `resilience`, pushed one after another.
use Rattle.roman_top.proofs.Common.{IsFilling, fill_whole, head_for, ones_for, outlooks_for, twos_for, ◌≡◌, ℕ, ◌+◌, ◌<◌, ◌≤◌, List, [], ◌++◌, map, length, drop, codes, decimal, refl, ap, ap₂, ◌∙◌, arith, flat_map, append-nil, below, Pair, outlook, system_without, pair_without, Outlook, Way, from_place, from_end, NamedSys, system_of, outlook_words, service_names, lines_without, outlook_text, way_word, line_without, head_text, flat_map-append, Option}
use Rattle.roman_model.specs.declared.way.Way.TheVariants.{Freeze, Die}

-- Lines.

pub line_pieces : (parts : NamedSys) (K : List ℕ) (way : Way) (left : Outlook) (prefix words : List ℕ) → prefix ≡ codes "without" ++ service_names parts K ++ way_word way → words ≡ outlook_words left →
    prefix ++ (words ++ []) ≡ line_without parts K way left
line_pieces parts K way left prefix words is_prefix is_words = ap (λ (x : List ℕ). prefix ++ x) (append-nil words) ∙ ap₂ (λ (x y : List ℕ). x ++ y) is_prefix is_words

pub both_lines : (parts : NamedSys) (p : Pair) (K : List ℕ) (frozen gone : Outlook) → frozen ≡ outlook (system_without Freeze K (system_of parts)) (pair_without Freeze K p) →
    gone ≡ outlook (system_without Die K (system_of parts)) (pair_without Die K p) → line_without parts K Freeze frozen ++ (line_without parts K Die gone ++ []) ≡ lines_without parts p K
unfolding lines_without
both_lines parts p K frozen gone at_freeze at_die = grind (arith, append-nil)

pub head_pieces : (parts : NamedSys) (now : Outlook) (first words : List ℕ) → first ≡ codes "services " ++ decimal (length parts.seats) ++ codes "\nstart" → words ≡ outlook_words now →
    first ++ (words ++ []) ≡ head_text parts now
head_pieces parts now first words is_first is_words = ap (λ (x : List ℕ). first ++ x) (append-nil words) ∙ ap₂ (λ (x y : List ℕ). x ++ y) is_first is_words

-- The text of the places, one after another.

pub each_next : {X : Type 0} (g : ℕ → X) (f : X → List ℕ) (n k : ℕ) → k < n → flat_map f (map g (drop k (below n))) ≡ f (g k) ++ flat_map f (map g (drop (k + 1) (below n)))
each_next g f n k l = ap (λ (ks : List ℕ). flat_map f (map g ks)) (from_place n k l)

pub each_end : {X : Type 0} (g : ℕ → X) (f : X → List ℕ) (n k : ℕ) → n ≤ k → flat_map f (map g (drop k (below n))) ≡ []
each_end g f n k l = ap (λ (ks : List ℕ). flat_map f (map g ks)) (from_end n k l)

pub all_next : {X : Type 0} (h : ℕ → List X) (f : X → List ℕ) (n k : ℕ) → k < n →
    flat_map f (flat_map h (drop k (below n))) ≡ flat_map f (h k) ++ flat_map f (flat_map h (drop (k + 1) (below n)))
all_next h f n k l =
    ap (λ (ks : List ℕ). flat_map f (flat_map h ks)) (from_place n k l) ∙ flat_map-append f (h k) (flat_map h (drop (k + 1) (below n)))

pub all_end : {X : Type 0} (h : ℕ → List X) (f : X → List ℕ) (n k : ℕ) → n ≤ k → flat_map f (flat_map h (drop k (below n))) ≡ []
all_end h f n k l = ap (λ (ks : List ℕ). flat_map f (flat_map h ks)) (from_end n k l)

-- The whole text.

-- the text on an empty page, piece by piece
pub text_begun : (parts : NamedSys) (p : ℕ) (old : Option (List ℕ)) (held : List ℕ) → held ≡ [] →
    IsFilling old old held (head_for parts p ++ (ones_for parts p ++ (twos_for parts p ++ (codes "end\n" ++ [])))) (outlooks_for parts p)
unfolding outlook_text
text_begun parts p old held empty = fill_whole old held _ _ empty refl
