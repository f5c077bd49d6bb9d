-- Target views and the system's actions.
use Rattle.roman_joint.proofs.Common.{◌≡◌, ℕ, ◌+◌, ◌/◌, ◌%◌, ◌<◌, ◌≤◌, IsFalse, List, [], ◌∷◌, ◌++◌, length, take, get_or, slice_index_or, inl, inr, sym, ap, ◌∙◌, subst, arith, get_or-append_seam, cases_eq, cases_lt, take_more, get_or_append_left, IsIn, Env, Beh, Sys, IsSys, sizes_of, pair_at, numbered, by_test, numbered_is_arena, from_push, TargetView, bit_of, HasBits, ArePermitted, IsTargetView}

-- one more number at which the list is empty
pub none_more : (xs : List ℕ) (i : ℕ) (f : ℕ → List ℕ) → i < length xs → f (get_or xs i 0) ≡ [] → ((e : ℕ) → IsIn e (take i xs) → f e ≡ []) → (e : ℕ) → IsIn e (take (i + 1) xs) → f e ≡ []
none_more xs i f l here before e j = elim (from_push e (get_or xs i 0) (take i xs) (subst (IsIn e) (take_more xs i 0 l) j)) [
  | inl k ↦ before e k
  | inr same ↦ ap f same ∙ here
]

-- one more target view
pub target_views_more : (env : Env) (target : Beh) (old new : List TargetView) (i : ℕ) (target_view : TargetView) → length old ≡ i → new ≡ old ++ target_view ∷ [] →
    ((j : ℕ) (x : TargetView) → j < i → x ≡ slice_index_or old j x → IsTargetView env target (j / env.states) (j % env.states) x) → IsTargetView env target (i / env.states) (i % env.states) target_view →
    (j : ℕ) (x : TargetView) → j < i + 1 → x ≡ slice_index_or new j x → IsTargetView env target (j / env.states) (j % env.states) x
target_views_more env target old new i target_view long is before here j x l at = grind (arith, cases_eq, get_or-append_seam, get_or_append_left)

-- the actions that a target view allows are those that are allowed at a pair
pub permitted_at : (s : Sys) (p bits : ℕ) → IsSys s → ArePermitted s.env s.target (pair_at (sizes_of s) p).t (pair_at (sizes_of s) p).e bits → HasBits bits ((numbered s).allows p)
permitted_at s p bits sys ok =
    let past : (a : ℕ) → s.env.actions ≤ a → IsFalse ((numbered s).allows p a) = λ a l.
    by_test ((numbered s).allows p a) (λ t. let within : a < s.env.actions = (numbered_is_arena s sys).allowed p a t in absurd (omega arith)) (λ f. f) in
    record { each = λ a m. elim (cases_lt a s.env.actions) [ inl less ↦ ok.each a less | inr more ↦ ok.rest a more ∙ sym (ap bit_of (past a more)) ] }
