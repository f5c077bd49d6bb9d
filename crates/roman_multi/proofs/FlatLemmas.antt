-- A list of one state for each target is a pair with one target state and one environment state, so a shape numbers these lists.
use Rattle.roman_multi.proofs.Common.{◌≡◌, ℕ, ◌+◌, ◌<◌, ◌≤◌, List, map, length, get_or, slice_index, slice_set, All, sym, ap, ◌∙◌, subst, arith, ◌*◌, ◌%◌, AllZip, product_of, flat, count, states_number, states_at, pair_at, Sizes, IsPairOf, number, target_sizes, MAX_STATES, NamedEnv, IsTarget, machines, Named, mod-mul-add, IsPairOf-at, with_part}
use Rattle.roman_multi.proofs.KnownLemmas.{machines_known, size_is, starts_below}

pub count-flat : (sizes : List ℕ) → count (flat sizes) ≡ product_of sizes
count-flat sizes = omega arith

pub number-flat : (sizes bs : List ℕ) → number (flat sizes) (record { t = 0; e = 0; bs = bs }) ≡ states_number sizes bs
number-flat sizes bs = omega arith

pub pair_at-flat : (sizes : List ℕ) (i : ℕ) → i < product_of sizes → (pair_at (flat sizes) i).bs ≡ states_at sizes i
pair_at-flat sizes i l = ap (states_at sizes) (small i (product_of sizes) l)
  where
    zero_times : (i n : ℕ) → i ≡ 0 * n + i
    zero_times i n = omega arith

    small : (i n : ℕ) → i < n → i % n ≡ i
    small i n l = ap (λ m. m % n) (zero_times i n) ∙ mod-mul-add 0 n i l

-- ---- a shape over the sizes of the targets

-- the state of a target in a combined state
pub part_is : (sizes : List ℕ) (shape : Sizes) (t i state : ℕ) → shape ≡ flat sizes → t < product_of sizes → state ≡ slice_index (pair_at shape t).bs i → state ≡ slice_index (states_at sizes t) i
part_is sizes shape t i state same l is = is ∙ ap (λ (n : Sizes). slice_index (pair_at n t).bs i) same ∙ ap (λ xs. slice_index xs i) (pair_at-flat sizes t l)

pub part_below : (targets : List Named) (shape : Sizes) (i state : ℕ) (d : Named) → shape ≡ flat (target_sizes (machines targets)) → i < length targets → state < slice_index shape.seats i →
    state < (get_or targets i d).target.beh.states
part_below targets shape i state d same l h = subst (λ n. state < n) (ap (λ (n : Sizes). slice_index n.seats i) same ∙ size_is targets i d l) h

pub below_part : (targets : List Named) (shape : Sizes) (i state : ℕ) (d : Named) → shape ≡ flat (target_sizes (machines targets)) → i < length targets → state < (get_or targets i d).target.beh.states →
    state < slice_index shape.seats i
below_part targets shape i state d same l h = subst (λ n. state < n) (sym (ap (λ (n : Sizes). slice_index n.seats i) same ∙ size_is targets i d l)) h

-- the combined state with another state of one target
pub moved_is : (sizes : List ℕ) (shape : Sizes) (t k b next : ℕ) → shape ≡ flat sizes → t < product_of sizes → next ≡ number shape (with_part (pair_at shape t) k b) →
    next ≡ states_number sizes (slice_set (states_at sizes t) k b)
moved_is sizes shape t k b next same l is = grind (arith, IsPairOf-at, count-flat, number-flat, pair_at-flat)

-- the start states are a pair of the shape
pub starts_pair : (env : NamedEnv) (targets : List Named) (shape : Sizes) (starts : List ℕ) → All (λ named. IsTarget env named.target) targets → shape ≡ flat (target_sizes (machines targets)) →
    starts ≡ map (λ target. target.start) (machines targets) → IsPairOf shape (record { t = 0; e = 0; bs = starts })
starts_pair env targets shape starts known same is =
    subst (λ (n : Sizes). IsPairOf n (record { t = 0; e = 0; bs = starts })) (sym same) (record {
      t = omega arith;
      e = omega arith;
      bs = subst (λ xs. AllZip (λ size b. b < size) (target_sizes (machines targets)) xs) (sym is) (starts_below env.env (machines targets) (machines_known env targets known));
    })

-- a shape fits exactly when there are few enough combined states
pub fits_within : (sizes others : List ℕ) (cap : ℕ) → sizes ≡ others → cap ≡ MAX_STATES → count (flat sizes) ≤ cap → product_of others ≤ MAX_STATES
fits_within sizes others cap same is fits = subst (λ n. n ≤ MAX_STATES) (count-flat sizes ∙ ap product_of same) (subst (λ n. count (flat sizes) ≤ n) is fits)

pub within_fits : (sizes others : List ℕ) (cap : ℕ) → sizes ≡ others → cap ≡ MAX_STATES → product_of others ≤ MAX_STATES → count (flat sizes) ≤ cap
within_fits sizes others cap same is fits = subst (λ n. count (flat sizes) ≤ n) (sym is) (subst (λ n. n ≤ MAX_STATES) (sym (count-flat sizes ∙ ap product_of same)) fits)
