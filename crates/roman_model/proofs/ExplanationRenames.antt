-- Explanations carry over between arenas whose nodes correspond by a renaming.
use Rattle.roman_model.proofs.Common.{◌≡◌, ℕ, zero, suc, Bool, ◌&&◌, ◌||◌, List, [], ◌∷◌, map, Option, Some, None, filter, flat_map, find, option_map, refl, sym, ap, ap₂, ◌∙◌, arith, option_to_list, length-map, map-append, IsIn, below, Arena, Entry, is_among, is_listed, Sys, IsSys, arena, sizes_of, pair_at, numbered, entry_at, entries_before, answer, ready_seats, answers, rests_on, explanation, Reason, Final, Act}
use Rattle.roman_model.proofs.Lists.{any_same, list_any-map, filter_same, filter-map, from_flat_map, find_some}
use Rattle.roman_model.proofs.Renames.{Renames, renamed_entry, AreNodes, HaveNodes, among_renamed, listed_renamed}
use Rattle.roman_model.proofs.NumberedArena.{IsNumber, AreNumbers, numbers_rename}
use Rattle.roman_model.proofs.ExplanationLemmas.{from_option}

-- the first renamed element that passes, if the tests agree
find_renamed : {X Y : Type 0} (f : X → Y) (p : X → Bool) (q : Y → Bool) (xs : List X) → ((x : X) → IsIn x xs → p x ≡ q (f x)) → option_map f (find p xs) ≡ find q (map f xs)
find_renamed f p q [] same = refl
find_renamed {X} {Y} f p q (x ∷ xs) same = grind (arith, (find_renamed f p q xs))

map_option : {X Y : Type 0} (f : X → Y) (o : Option X) → map f (option_to_list o) ≡ option_to_list (option_map f o)
map_option f None = refl
map_option f (Some x) = refl

map_flat_options : {X Y : Type 0} (f : X → Y) (g : ℕ → Option X) (h : ℕ → Option Y) (ks : List ℕ) → ((k : ℕ) → option_map f (g k) ≡ h k) → map f (flat_map (λ k. option_to_list (g k)) ks) ≡ flat_map (λ k. option_to_list (h k)) ks
map_flat_options f g h [] same = refl
map_flat_options f g h (k ∷ ks) same = grind (arith, map-append, map_option, (map_flat_options f g h ks same))

module _ {N M : Type 0} (A : Arena N) (B : Arena M) (f : N → M) (Is : N → Type 0) (r : Renames A B f Is) (L : List (Entry N)) (have : HaveNodes Is L) where
  pub before_renamed_in : (K : List (Entry N)) (p : N) → HaveNodes Is K → Is p → map (renamed_entry f) (entries_before A K p) ≡ entries_before B (map (renamed_entry f) K) (f p)
  before_renamed_in [] p nodes is = refl
  before_renamed_in (x ∷ K) p nodes is = grind (arith, (before_renamed_in K p))

  before_nodes : (K : List (Entry N)) (p : N) → HaveNodes Is K → HaveNodes Is (entries_before A K p)
  before_nodes K p nodes x i = nodes x (before_in K p x i)
    where
      before_in : (K : List (Entry N)) (p : N) (x : Entry N) → IsIn x (entries_before A K p) → IsIn x K
      before_in [] p x i = i
      before_in (y ∷ K) p x i = grind (arith, (before_in K p x))

  pub answer_renamed : (p : N) (a k : ℕ) → Is p → option_map f (answer A L p a k) ≡ answer B (map (renamed_entry f) L) (f p) a k
  answer_renamed p a k is =
      find_renamed f (is_listed A (entries_before A L p)) (is_listed B (map (renamed_entry f) (entries_before A L p))) (A.outcomes p a k)
      (λ q i. listed_renamed A B f Is r (entries_before A L p) q (before_nodes L p have) (r.within p is a k q i))
      ∙ ap₂ (λ K qs. find (is_listed B K) qs) (before_renamed_in L p have is) (r.outcomes p is a k)

  pub ready_renamed : ready_seats A ≡ ready_seats B
  ready_renamed = filter_same A.ready B.ready (below A.seats) (λ k i. r.ready k) ∙ ap (λ n. filter B.ready (below n)) r.seats

  pub answers_renamed : (p : N) (reason : Reason) → Is p → map f (answers A L p reason) ≡ answers B (map (renamed_entry f) L) (f p) reason
  answers_renamed p Final is = refl
  answers_renamed p (Act a) is =
      map_flat_options f (λ k. answer A L p a k) (λ k. answer B (map (renamed_entry f) L) (f p) a k) (ready_seats A) (λ k. answer_renamed p a k is)
      ∙ ap (flat_map (λ k. option_to_list (answer B (map (renamed_entry f) L) (f p) a k))) ready_renamed

  answers_nodes : (p : N) (reason : Reason) → Is p → AreNodes Is (answers A L p reason)
  answers_nodes p Final is q i = absurd i
  answers_nodes p (Act a) is q i =
      let (k, j, m) = from_flat_map (λ k. option_to_list (answer A L p a k)) q (ready_seats A) i in
      r.within p is a k q (find_some (is_listed A (entries_before A L p)) (A.outcomes p a k) q (from_option q (answer A L p a k) m)).0

  pub rests_renamed : (n : ℕ) (p q : N) → Is p → Is q → rests_on A L n p q ≡ rests_on B (map (renamed_entry f) L) n (f p) (f q)
  rests_renamed zero p q is_p is_q = r.same q p is_q is_p
  rests_renamed (suc n) p q is_p is_q =
      ap₂ (λ x y. x || y) (rests_renamed n p q is_p is_q)
      (any_same (λ x. rests_on A L n p x.node && is_among A (answers A L x.node x.reason) q)
      (λ x. rests_on B (map (renamed_entry f) L) n (f p) (f x.node) && is_among B (answers B (map (renamed_entry f) L) (f x.node) x.reason) (f q)) L
      (λ x i. ap₂ (λ y z. y && z) (rests_renamed n p x.node is_p (have x i))
      (among_renamed A B f Is r (answers A L x.node x.reason) q (answers_nodes x.node x.reason (have x i)) is_q
      ∙ ap (λ qs. is_among B qs (f q)) (answers_renamed x.node x.reason (have x i))))
      ∙ sym (list_any-map (renamed_entry f) (λ x. rests_on B (map (renamed_entry f) L) n (f p) x.node && is_among B (answers B (map (renamed_entry f) L) x.node x.reason) (f q)) L))

  pub explanation_renamed : (p : N) → Is p → map (renamed_entry f) (explanation A L p) ≡ explanation B (map (renamed_entry f) L) (f p)
  explanation_renamed p is = grind (arith, filter_same, rests_renamed, filter-map, length-map)

-- explanations over numbers and over pairs agree
pub explanation_at : (s : Sys) → IsSys s → (L : List (Entry ℕ)) → AreNumbers s L → (i : ℕ) → IsNumber s i →
    map (entry_at s) (explanation (numbered s) L i) ≡ explanation (arena s) (map (entry_at s) L) (pair_at (sizes_of s) i)
explanation_at s sys L are i l = explanation_renamed (numbered s) (arena s) (pair_at (sizes_of s)) (IsNumber s) (numbers_rename s sys) L are i l

pub answer_at : (s : Sys) → IsSys s → (L : List (Entry ℕ)) → AreNumbers s L → (i : ℕ) → IsNumber s i → (a k : ℕ) →
    option_map (pair_at (sizes_of s)) (answer (numbered s) L i a k) ≡ answer (arena s) (map (entry_at s) L) (pair_at (sizes_of s) i) a k
answer_at s sys L are i l a k = answer_renamed (numbered s) (arena s) (pair_at (sizes_of s)) (IsNumber s) (numbers_rename s sys) L are i a k l
