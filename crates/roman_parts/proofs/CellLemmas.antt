-- The cells of a table after one more step.
use Rattle.roman_parts.proofs.Common.{Bool, List, [], ap, ap₂, arith, false, get_or, inl, inr, length, replicate, set, subst, sym, take, true, ℕ, ◌%◌, ◌&&◌, ◌*◌, ◌+◌, ◌<◌, ◌≤◌, ◌==◌, ◌^◌, ◌||◌, ◌∙◌, ◌≡◌, refl, and_from, and_parts, cases_eq, cases_lt, eq-eqb, eqb-true, ne_eqb, get_or-replicate, get_or-set_other, get_or-set_same, get_or_past, length-replicate, list_any_more, same_from_place, bit_at-zero, bit_at_set_other, bit_at_set_same, bit_at, w64, bit_or, has_state, same_test, HasMoves, HasTriples, PutsIntoCell, PutsIntoCells, cell_has, ends, goes, leads, and-true, or-false, or-true}

-- the mask after n is added
pub has_set : (mask n m : ℕ) → n < 64 → has_state (bit_or mask (1 * 2 ^ n % 2 ^ 64)) m ≡ (has_state mask m || n == m)
has_set mask n m small = elim (cases_eq n m) [
  | inl e ↦
      ap (λ b. b == 1) (subst (λ j. bit_at (bit_or mask (1 * 2 ^ n % 2 ^ 64)) j ≡ 1) e (bit_at_set_same w64 mask n small))
      ∙ sym (or-true (has_state mask m))
      ∙ ap (λ b. has_state mask m || b) (sym (eq-eqb n m e))
  | inr ne ↦
      ap (λ b. b == 1) (bit_at_set_other w64 mask n small m (λ e. ne (sym e)))
      ∙ sym (or-false (has_state mask m))
      ∙ ap (λ b. has_state mask m || b) (sym (ne_eqb n m ne))
]

-- mask k after the bit of n is set
pub marks_set : (masks : List ℕ) (k n : ℕ) → k < length masks → n < 64 → PutsIntoCell masks (set masks k (bit_or (get_or masks k 0) (1 * 2 ^ n % 2 ^ 64))) k n
unfolding cell_has
marks_set masks k n within small = grind (arith, cases_eq, eq-eqb, get_or-set_other, get_or-set_same, has_set, ne_eqb, or-false)

pub ruleset marking = (marks_set)

-- Tables of steps

-- empty masks
empty_has : (size j m : ℕ) → cell_has (replicate size 0) j m ≡ false
unfolding cell_has
empty_has size j m = grind (arith, bit_at-zero, cases_lt, get_or-replicate, get_or_past, length-replicate)

pub triples_none : (back : Bool) (actions size : ℕ) → HasTriples back actions [] (replicate size 0)
triples_none back actions size = record { has = λ e a n ha. empty_has size _ n }

pub moves_none : (back : Bool) (env_states actions size : ℕ) → HasMoves back env_states actions [] (replicate size 0)
moves_none back env_states actions size = record { has = λ b e a n he ha. empty_has size _ n }

-- two places in a table are equal if their rows and columns are equal
same_place : (e a e1 a1 w : ℕ) → a < w → a1 < w → (e * w + a == e1 * w + a1) ≡ (e == e1 && a == a1)
same_place e a e1 a1 w h h1 = same_test (e * w + a == e1 * w + a1) (e == e1 && a == a1)
    (λ t. let (row, column) = same_from_place e a e1 a1 w h h1 (eqb-true (e * w + a) (e1 * w + a1) t) in and_from (e == e1) (a == a1) (eq-eqb e e1 row) (eq-eqb a a1 column))
    (λ t. let (row, column) = and_parts (e == e1) (a == a1) t in eq-eqb (e * w + a) (e1 * w + a1) (ap₂ (λ i j. i * w + j) (eqb-true e e1 row) (eqb-true a a1 column)))

-- the cells after the next triple t is added
pub triples_more : (back : Bool) (actions : ℕ) (steps : List (ℕ × ℕ × ℕ)) (i : ℕ) (d t : ℕ × ℕ × ℕ) (old new : List ℕ) → i < length steps → t ≡ get_or steps i d → t.1 < actions →
    HasTriples back actions (take i steps) old → PutsIntoCell old new ((ends back t.0 t.2).0 * actions + t.1) (ends back t.0 t.2).1 → HasTriples back actions (take (i + 1) steps) new
triples_more back actions steps i d t old new less is within cells puts = record {
  has = λ e a n ha.
      puts.has (e * actions + a) n
      ∙ ap (λ q. cell_has old (e * actions + a) n || (q && (ends back t.0 t.2).1 == n)) (same_place (ends back t.0 t.2).0 t.1 e a actions within ha)
      ∙ ap₂ (λ p s. p || leads back s e a n) (cells.has e a n ha) is
      ∙ sym (list_any_more (λ s. leads back s e a n) steps i d less);
}

-- the cells after the next step m is added
pub moves_more : (back : Bool) (env_states actions : ℕ) (steps : List (ℕ × ℕ × ℕ × ℕ)) (i : ℕ) (d m : ℕ × ℕ × ℕ × ℕ) (old new : List ℕ) → i < length steps → m ≡ get_or steps i d →
    HasMoves back env_states actions (take i steps) old → PutsIntoCells env_states actions old new (ends back m.0 m.3).0 m.1 m.2 (ends back m.0 m.3).1 → HasMoves back env_states actions (take (i + 1) steps) new
moves_more back env_states actions steps i d m old new less is cells puts = record {
  has = λ b e a n he ha.
      puts.has b e a n he ha ∙ ap₂ (λ p s. p || goes back s b e a n) (cells.has b e a n he ha) is ∙ sym (list_any_more (λ s. goes back s b e a n) steps i d less);
}

-- the cells of the environment states below the bound are marked, and the others aren't yet
pub record MarksBelow (bound env_states actions : ℕ) (old new : List ℕ) (at guard action n : ℕ) : Type 0 where
  pub marked : (b e a m : ℕ) → e < bound → a < actions →
      cell_has new ((b * env_states + e) * actions + a) m ≡ (cell_has old ((b * env_states + e) * actions + a) m || (at == b && action == a && has_state guard e && n == m))
  pub others : (b e a m : ℕ) → bound ≤ e → e < env_states → a < actions → cell_has new ((b * env_states + e) * actions + a) m ≡ cell_has old ((b * env_states + e) * actions + a) m

-- a test in the middle whose value is known
known_test : (x r y : Bool) → r ≡ true → ((x && r) && y) ≡ (x && y)
known_test true r y h = rw h
known_test false r y h = refl

failed_test : (x r y : Bool) → r ≡ false → ((x && r) && y) ≡ false
failed_test true r y h = rw h
failed_test false r y h = refl

module _ (env_states actions bound at guard action n : ℕ) (old : List ℕ) (within : bound < env_states) where
  -- the marked cells, after the cell of an environment state in the guard
  pub marks_more : (mid new : List ℕ) → action < actions → has_state guard bound ≡ true → MarksBelow bound env_states actions old mid at guard action n →
      PutsIntoCell mid new ((at * env_states + bound) * actions + action) n → MarksBelow (bound + 1) env_states actions old new at guard action n
  marks_more mid new acts has_it marks puts = record {
    marked = λ b e a m less ha. elim (cases_eq bound e) [
      | inl same ↦
          subst (λ x. cell_has new ((b * env_states + x) * actions + a) m ≡ (cell_has old ((b * env_states + x) * actions + a) m || (at == b && action == a && has_state guard x && n == m))) same
          (puts.has ((b * env_states + bound) * actions + a) m
          ∙ ap₂ (λ p q. p || (q && n == m)) (marks.others b bound a m (omega arith) within ha) (own b a ha)
          ∙ ap (λ q. cell_has old ((b * env_states + bound) * actions + a) m || q) (sym (known_test (at == b && action == a) (has_state guard bound) (n == m) has_it)))
      | inr ne ↦ kept b e a m (omega arith) ha ne ∙ marks.marked b e a m (omega arith) ha
    ];
    others = λ b e a m past he ha. kept b e a m he ha (λ same. omega arith) ∙ marks.others b e a m (omega arith) he ha;
  }
    where
      -- the cell of the next environment state
      own : (b a : ℕ) → a < actions → ((at * env_states + bound) * actions + action == (b * env_states + bound) * actions + a) ≡ (at == b && action == a)
      own b a ha =
          same_place (at * env_states + bound) action (b * env_states + bound) a actions acts ha
          ∙ ap (λ q. q && action == a) (same_place at bound b bound env_states within within ∙ rw (eq-eqb bound bound refl) (and-true (at == b)))

      -- the cell of another environment state
      kept : (b e a m : ℕ) → e < env_states → a < actions → (bound ≡ e → ⊥) → cell_has new ((b * env_states + e) * actions + a) m ≡ cell_has mid ((b * env_states + e) * actions + a) m
      kept b e a m he ha ne =
          puts.has ((b * env_states + e) * actions + a) m
          ∙ ap (λ q. cell_has mid ((b * env_states + e) * actions + a) m || (q && n == m)) (ne_eqb _ _ (λ same.
          let (row, column) = same_from_place (at * env_states + bound) action (b * env_states + e) a actions acts ha same in
          ne (same_from_place at bound b e env_states within he row).1))
          ∙ or-false _

  -- the marked cells stay the same after an environment state that isn't in the guard
  pub marks_same : (new : List ℕ) → has_state guard bound ≡ false → MarksBelow bound env_states actions old new at guard action n → MarksBelow (bound + 1) env_states actions old new at guard action n
  marks_same new lacks marks = record {
    marked = λ b e a m less ha. elim (cases_eq bound e) [
      | inl same ↦
          subst (λ x. cell_has new ((b * env_states + x) * actions + a) m ≡ (cell_has old ((b * env_states + x) * actions + a) m || (at == b && action == a && has_state guard x && n == m))) same
          (marks.others b bound a m (omega arith) within ha
          ∙ sym (or-false _)
          ∙ ap (λ q. cell_has old ((b * env_states + bound) * actions + a) m || q) (sym (failed_test (at == b && action == a) (has_state guard bound) (n == m) lacks)))
      | inr ne ↦ marks.marked b e a m (omega arith) ha
    ];
    others = λ b e a m past he ha. marks.others b e a m (omega arith) he ha;
  }

-- Steps and cells

-- swaps the first and the last of three tests
pub and_turned : (x y z : Bool) → ((x && y) && z) ≡ ((z && y) && x)
and_turned x y z = same_test _ _ (λ t. grind (arith, and_parts, and_from)) (λ t. grind (arith, and_parts, and_from))

pub four_turned : (x y z w : Bool) → (((x && y) && z) && w) ≡ (((w && y) && z) && x)
four_turned x y z w = same_test _ _ (λ t. grind (arith, and_parts, and_from)) (λ t. grind (arith, and_parts, and_from))
