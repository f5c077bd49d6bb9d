-- Normal forms, characterised by properties alone.
use Rattle.std.specs.Prelude.{◌≡◌, ◌≢◌, ℕ, ◌<◌, ◌⊎◌, List, [], ◌∷◌}
use Rattle.roman_model.specs.Lists.{IsIn}
use Rattle.roman_model.specs.System.{Triple, Env, Move, Beh, has_triple, has_move, is_final}
use Rattle.roman_model.specs.Normal.{normal_env, normal_beh}

-- each element comes before all that follow it, so no element occurs twice
abbrev pub Rises : {X : Type 0} → (X → X → Type 0) → List X → Type 0
Rises Before [] = Unit {0}
Rises Before (x ∷ xs) = ((y : _) → IsIn y xs → Before x y) × Rises Before xs

-- the first number comes before the second
abbrev pub IsLess : ℕ → ℕ → Type 0
IsLess m n = m < n

-- the first three numbers come before the other three: by the first, then by the second, then by the third
abbrev pub AreBefore : ℕ × ℕ × ℕ → ℕ × ℕ × ℕ → Type 0
AreBefore x y = (x.0 < y.0) ⊎ ((x.0 ≡ y.0) × ((x.1 < y.1) ⊎ ((x.1 ≡ y.1) × (x.2 < y.2))))

-- the first triple comes before the second, by its state, its action and the state to which it leads
abbrev pub IsTripleBefore : Triple → Triple → Type 0
IsTripleBefore x y = AreBefore (x.from, x.action, x.to) (y.from, y.action, y.to)

-- the first step comes before the second, by its state, its action and the state to which it goes, whatever the guards are
abbrev pub IsMoveBefore : Move → Move → Type 0
IsMoveBefore x y = AreBefore (x.from, x.action, x.to) (y.from, y.action, y.to)

-- the triples rise
pub record IsNormalEnv (env : Env) : Type 0 where
  pub triples : Rises IsTripleBefore env.triples

-- the steps, the final states and each guard rise, and no guard is empty
pub record IsNormalBeh (beh : Beh) : Type 0 where
  pub finals : Rises IsLess beh.finals
  pub steps : Rises IsMoveBefore beh.steps
  pub guards : (m : Move) → IsIn m beh.steps → Rises IsLess m.guard × (m.guard ≢ [])

-- the second environment is a normal form of the first: it is normal, and has the same numbers, and the same triples for numbers in range
pub record IsNormalOfEnv (env normal : Env) : Type 0 where
  pub form : IsNormalEnv normal
  pub states : normal.states ≡ env.states
  pub actions : normal.actions ≡ env.actions
  pub start : normal.start ≡ env.start
  pub same : (e a e' : ℕ) → e < env.states → a < env.actions → e' < env.states → has_triple normal e a e' ≡ has_triple env e a e'

-- the second behaviour is a normal form of the first: it is normal, and has the same numbers, and the same steps and final states for numbers in range
pub record IsNormalOfBeh (env_states actions : ℕ) (beh normal : Beh) : Type 0 where
  pub form : IsNormalBeh normal
  pub states : normal.states ≡ beh.states
  pub start : normal.start ≡ beh.start
  pub final : (b : ℕ) → b < beh.states → is_final normal b ≡ is_final beh b
  pub same : (b e a b' : ℕ) → b < beh.states → e < env_states → a < actions → b' < beh.states → has_move normal b e a b' ≡ has_move beh b e a b'

-- normal forms are normal, and have the numbers, steps and final states of the original records
pub record NormalFormsAreNormal : Type 0 where
  pub env : (env : Env) → IsNormalOfEnv env (normal_env env)
  pub beh : (env_states actions : ℕ) (beh : Beh) → IsNormalOfBeh env_states actions beh (normal_beh env_states actions beh)

-- two environments have the same numbers and triples
pub record SameEnv (x y : Env) : Type 0 where
  pub states : x.states ≡ y.states
  pub actions : x.actions ≡ y.actions
  pub start : x.start ≡ y.start
  pub steps : (e a e' : ℕ) → has_triple x e a e' ≡ has_triple y e a e'

-- two behaviours have the same numbers, final states and steps
pub record SameBeh (x y : Beh) : Type 0 where
  pub states : x.states ≡ y.states
  pub start : x.start ≡ y.start
  pub finals : (b : ℕ) → is_final x b ≡ is_final y b
  pub steps : (b e a b' : ℕ) → has_move x b e a b' ≡ has_move y b e a b'

-- two normal forms with the same numbers, steps and final states are equal
pub record NormalFormsAreUnique : Type 0 where
  pub env : (x y : Env) → IsNormalEnv x → IsNormalEnv y → SameEnv x y → x ≡ y
  pub beh : (x y : Beh) → IsNormalBeh x → IsNormalBeh y → SameBeh x y → x ≡ y
