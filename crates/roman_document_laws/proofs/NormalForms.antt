-- Normal forms rise, have the same steps, and are determined by them.
use Rattle.roman_document_laws.proofs.Common.{◌≡◌, ◌≢◌, ℕ, inl, inr, List, [], ◌∷◌, map, refl, sym, ◌∙◌, subst, arith, zero, suc, ◌<◌, Bool, ◌++◌, ap₂, filter, flat_map, IsIn, below, Triple, Env, Move, Beh, has_move, is_final, has_triple, normal_env, normal_beh, from_flat_map, from_map, number_listed, listed_number, triple_in, by_test, filter_in, from_append, from_below, step_listed, listed_step, listed_triple, has_triple-normal, has_move-normal, is_final-normal, Rises, IsLess, IsNormalEnv, IsNormalBeh, AreBefore, IsTripleBefore, IsMoveBefore, SameEnv, SameBeh, NormalFormsAreNormal, NormalFormsAreUnique, env_next, guarded_step, HasStep, cond-true, cond-false}

-- Rising lists

module _ {X : Type 0} (Before : X → X → Type 0) where
  pub rises_append : (xs ys : List X) → Rises Before xs → Rises Before ys → ((x y : X) → IsIn x xs → IsIn y ys → Before x y) → Rises Before (xs ++ ys)
  rises_append [] ys hx hy between = hy
  rises_append (x ∷ xs) ys hx hy between = (
    λ y i. elim (from_append y xs ys i) [ inl j ↦ hx.0 y j | inr j ↦ between x y (inl refl) j ],
    rises_append xs ys hx.1 hy (λ z y i j. between z y (inr i) j),
  )

  pub rises_filter : (p : X → Bool) (xs : List X) → Rises Before xs → Rises Before (filter p xs)
  rises_filter p [] h = tt
  rises_filter p (x ∷ xs) h = grind (arith, by_test, cond-true, filter_in, cond-false, (rises_filter p xs h.1))

  pub rises_flat : (f : ℕ → List X) (ks : List ℕ) → Rises IsLess ks → ((k : ℕ) → IsIn k ks → Rises Before (f k)) →
      ((j k : ℕ) (x y : X) → j < k → IsIn x (f j) → IsIn y (f k) → Before x y) → Rises Before (flat_map f ks)
  rises_flat f [] h each between = tt
  rises_flat f (k ∷ ks) h each between =
      rises_append (f k) (flat_map f ks) (each k (inl refl)) (rises_flat f ks h.1 (λ j i. each j (inr i)) between)
      (λ x y i j. let (l, il, iy) = from_flat_map f y ks j in between k l x y (h.0 l il) i iy)

  pub rises_map : (f : ℕ → X) (ks : List ℕ) → Rises IsLess ks → ((j k : ℕ) → j < k → Before (f j) (f k)) → Rises Before (map f ks)
  rises_map f [] h between = tt
  rises_map f (k ∷ ks) h between = (
    λ y i. let (l, il, same) = from_map f y ks i in subst (Before (f k)) (sym same) (between k l (h.0 l il)),
    rises_map f ks h.1 between,
  )

  -- no element comes before itself
  itself : (x z : X) → ((x y : X) → Before x y → Before y x → ⊥) → Before x z → z ≡ x → ⊥
  itself x z never h e = let b : Before x x = subst (Before x) e h in never x x b b

  -- two rising lists with the same elements are equal
  pub rises_same : (xs ys : List X) → ((x y : X) → Before x y → Before y x → ⊥) → Rises Before xs → Rises Before ys → ((x : X) → IsIn x xs → IsIn x ys) → ((x : X) → IsIn x ys → IsIn x xs) → xs ≡ ys
  rises_same [] [] never hx hy there back = refl
  rises_same [] (y ∷ ys) never hx hy there back = absurd (back y (inl refl))
  rises_same (x ∷ xs) [] never hx hy there back = absurd (there x (inl refl))
  rises_same (x ∷ xs) (y ∷ ys) never hx hy there back =
      let same : x ≡ y = elim (there x (inl refl)) [
        | inl e ↦ e
        | inr i ↦ elim (back y (inl refl)) [ inl e ↦ sym e | inr j ↦ absurd (never x y (hx.0 y j) (hy.0 x i)) ]
      ] in
      ap₂ (λ (x : X) (xs : List X). x ∷ xs) same (grind (arith, itself, (rises_same xs ys never hx.1 hy.1)))

pub rises_below : (n : ℕ) → Rises IsLess (below n)
rises_below zero = tt
rises_below (suc n) = rises_append IsLess (below n) (n ∷ []) (rises_below n) ((λ y i. absurd i), tt)
    (λ x y i j. elim j [ inl e ↦ let l = from_below n x i in omega arith | inr none ↦ absurd none ])

-- Normal forms rise

-- an environment's triples from one state by one action
tripled : ℕ → ℕ → ℕ → Triple
tripled e a e' = record { from = e; action = a; to = e' }

env_rises : (env : Env) → Rises IsTripleBefore (normal_env env).triples
unfolding tripled
env_rises env =
    rises_flat IsTripleBefore (λ e. flat_map (λ a. map (tripled e a) (env_next env e a)) (below env.actions)) (below env.states) (rises_below env.states) (λ e i.
    rises_flat IsTripleBefore (λ a. map (tripled e a) (env_next env e a)) (below env.actions) (rises_below env.actions)
    (λ a j. rises_map IsTripleBefore (tripled e a) (env_next env e a) (rises_filter IsLess (has_triple env e a) (below env.states) (rises_below env.states)) (λ j k less. inr (refl, inr (refl, less))))
    (grind (arith, from_map, tripled))) (grind (arith, from_flat_map, tripled, from_map))

-- a step with the guard, if it isn't empty
record IsGuarded (b a b' : ℕ) (es : List ℕ) (m : Move) : Type 0 where
  from : m.from ≡ b
  action : m.action ≡ a
  to : m.to ≡ b'
  guard : m.guard ≡ es
  some : m.guard ≢ []

guarded_is : (b a b' : ℕ) (es : List ℕ) (m : Move) → IsIn m (guarded_step b a b' es) → IsGuarded b a b' es m
guarded_is b a b' [] m i = absurd i
guarded_is b a b' (e ∷ es) m (inl same) = subst (IsGuarded b a b' (e ∷ es)) (sym same) (record { from = refl; action = refl; to = refl; guard = refl; some = λ none. cc })
guarded_is b a b' (e ∷ es) m (inr none) = absurd none

guarded_rises : (b a b' : ℕ) (es : List ℕ) → Rises IsMoveBefore (guarded_step b a b' es)
guarded_rises b a b' [] = tt
guarded_rises b a b' (e ∷ es) = ((λ y i. absurd i), tt)

before_by : (x y : Move) (a b c d e f : ℕ) → x.from ≡ a → x.action ≡ b → x.to ≡ c → y.from ≡ d → y.action ≡ e → y.to ≡ f → AreBefore (a, b, c) (d, e, f) → IsMoveBefore x y
before_by x y a b c d e f h1 h2 h3 h4 h5 h6 h = rw (h1, h2, h3, h4, h5, h6) h

-- the environment states in which the behaviour goes from b by a to b', rising
abbrev step_guard : ℕ → Beh → ℕ → ℕ → ℕ → List ℕ
step_guard env_states beh b a b' = filter (λ e. has_move beh b e a b') (below env_states)

module _ (env_states actions : ℕ) (beh : Beh) where
  by_to : ℕ → ℕ → ℕ → List Move
  by_to b a b' = guarded_step b a b' (step_guard env_states beh b a b')

  by_action : ℕ → ℕ → List Move
  by_action b a = flat_map (by_to b a) (below beh.states)

  by_state : ℕ → List Move
  by_state b = flat_map (by_action b) (below actions)

  to_is : (b a : ℕ) (m : Move) → IsIn m (by_action b a) → (b' : ℕ) × IsGuarded b a b' (step_guard env_states beh b a b') m
  unfolding by_action by_to
  to_is b a m i = let (b', j, k) = from_flat_map (by_to b a) m (below beh.states) i in (b', guarded_is b a b' (step_guard env_states beh b a b') m k)

  action_is : (b : ℕ) (m : Move) → IsIn m (by_state b) → (a : ℕ) × (b' : ℕ) × IsGuarded b a b' (step_guard env_states beh b a b') m
  unfolding by_state
  action_is b m i = let (a, j, k) = from_flat_map (by_action b) m (below actions) i in let (b', is) = to_is b a m k in (a, b', is)

  steps_rise : Rises IsMoveBefore (normal_beh env_states actions beh).steps
  unfolding by_state by_action by_to
  steps_rise =
      rises_flat IsMoveBefore by_state (below beh.states) (rises_below beh.states)
      (λ b i.
      rises_flat IsMoveBefore (by_action b) (below actions) (rises_below actions)
      (λ a j.
      rises_flat IsMoveBefore (by_to b a) (below beh.states) (rises_below beh.states) (λ b' k. guarded_rises b a b' (step_guard env_states beh b a b'))
      (grind (arith, guarded_is, before_by)))
      (grind (arith, to_is, before_by)))
      (grind (arith, action_is, before_by))

  guards_rise : (m : Move) → IsIn m (normal_beh env_states actions beh).steps → Rises IsLess m.guard × (m.guard ≢ [])
  unfolding by_state by_action by_to
  guards_rise m i = grind (arith, from_flat_map, action_is, rises_filter, rises_below)

pub forms_normal : NormalFormsAreNormal
forms_normal = record {
  env = λ env. record { form = record { triples = env_rises env }; states = refl; actions = refl; start = refl; same = λ e a e' he ha he'. has_triple-normal env e a e' he ha he' };
  beh = λ env_states actions beh. record {
    form = record {
      finals = rises_filter IsLess (is_final beh) (below beh.states) (rises_below beh.states);
      steps = steps_rise env_states actions beh;
      guards = guards_rise env_states actions beh;
    };
    states = refl;
    start = refl;
    final = λ b hb. is_final-normal env_states actions beh b hb;
    same = λ b e a b' hb he ha hb'. has_move-normal env_states actions beh b e a b' hb he ha hb';
  };
}

-- Normal forms are determined by their steps

never_both : (a b c x y z : ℕ) → AreBefore (a, b, c) (x, y, z) → AreBefore (x, y, z) (a, b, c) → ⊥
never_both a b c x y z less more = grind arith

less_both : (m n : ℕ) → IsLess m n → IsLess n m → ⊥
less_both m n h i = omega arith

triples_within : (x y : Env) → ((e a e' : ℕ) → has_triple x e a e' ≡ has_triple y e a e') → (t : Triple) → IsIn t x.triples → IsIn t y.triples
triples_within x y same t i = triple_in y t.from t.action t.to (sym (same t.from t.action t.to) ∙ listed_triple x t.from t.action t.to i)

env_unique : (x y : Env) → IsNormalEnv x → IsNormalEnv y → SameEnv x y → x ≡ y
env_unique x y hx hy same =
    let triples : x.triples ≡ y.triples = rises_same IsTripleBefore x.triples y.triples (λ t u. never_both t.from t.action t.to u.from u.action u.to) hx.triples hy.triples
    (triples_within x y same.steps) (triples_within y x (λ e a e'. sym (same.steps e a e'))) in
    λ k. record { states = same.states k; actions = same.actions k; start = same.start k; triples = triples k }

-- of two steps with the same states and action neither comes before the other
at_one_place : (m n : Move) → m.from ≡ n.from → m.action ≡ n.action → m.to ≡ n.to → IsMoveBefore m n → ⊥
at_one_place m n f a t less = grind arith

-- a rising list has one step with the same states and action
one_at_place : (ms : List Move) (m n : Move) → Rises IsMoveBefore ms → IsIn m ms → IsIn n ms → m.from ≡ n.from → m.action ≡ n.action → m.to ≡ n.to → m ≡ n
one_at_place [] m n h i j f a t = absurd i
one_at_place (x ∷ xs) m n h i j f a t = grind (arith, at_one_place, (one_at_place xs m n h.1))

pub first_of : (ns : List ℕ) → ns ≢ [] → (n : ℕ) × IsIn n ns
first_of [] some = absurd (some refl)
first_of (n ∷ ns) some = (n, inl refl)

-- the step of the other form with the same states and action
twin : (x y : Beh) (m : Move) (e : ℕ) → ((b e a b' : ℕ) → has_move x b e a b' ≡ has_move y b e a b') → IsIn m x.steps → IsIn e m.guard → HasStep y m.from e m.action m.to
twin x y m e same i g = grind (arith, listed_step, step_listed)

guard_within : (x y : Beh) (m n : Move) → IsNormalBeh y → ((b e a b' : ℕ) → has_move x b e a b' ≡ has_move y b e a b') → IsIn m x.steps → IsIn n y.steps → m.from ≡ n.from → m.action ≡ n.action → m.to ≡ n.to →
    (e : ℕ) → IsIn e m.guard → IsIn e n.guard
guard_within x y m n hy same i j f a t e g = grind (arith, one_at_place, (twin x y m e same i g))

moves_within : (x y : Beh) → IsNormalBeh x → IsNormalBeh y → ((b e a b' : ℕ) → has_move x b e a b' ≡ has_move y b e a b') → (m : Move) → IsIn m x.steps → IsIn m y.steps
moves_within x y hx hy same m i =
    let (e, g) = first_of m.guard (hx.guards m i).1 in
    let other = twin x y m e same i g in
    let n = other.step in
    let guard : m.guard ≡ n.guard = rises_same IsLess m.guard n.guard less_both (hx.guards m i).0 (hy.guards n other.listed).0
    (guard_within x y m n hy same i other.listed (sym other.from) (sym other.action) (sym other.to))
    (guard_within y x n m hx (λ b e a b'. sym (same b e a b')) other.listed i other.from other.action other.to) in
    let is : n ≡ m = λ k. record { from = other.from k; guard = (sym guard) k; action = other.action k; to = other.to k } in
    subst (λ (z : Move). IsIn z y.steps) is other.listed

beh_unique : (x y : Beh) → IsNormalBeh x → IsNormalBeh y → SameBeh x y → x ≡ y
beh_unique x y hx hy same =
    let finals : x.finals ≡ y.finals = grind (arith, rises_same, less_both, number_listed, listed_number) in
    let steps : x.steps ≡ y.steps = rises_same IsMoveBefore x.steps y.steps (λ t u. never_both t.from t.action t.to u.from u.action u.to) hx.steps hy.steps
    (moves_within x y hx hy same.steps) (moves_within y x hy hx (λ b e a b'. sym (same.steps b e a b'))) in
    λ k. record { states = same.states k; start = same.start k; finals = finals k; steps = steps k }

pub forms_unique : NormalFormsAreUnique
forms_unique = record { env = env_unique; beh = beh_unique }
