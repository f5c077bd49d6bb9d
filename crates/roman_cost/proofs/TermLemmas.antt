-- The values of the terms of related pairs.
use Rattle.roman_cost.proofs.Common.{◌≡◌, ◌≢◌, ℕ, suc, ◌+◌, ◌-◌, Bool, true, false, List, [], ◌∷◌, ◌++◌, map, length, take, drop, filter, Option, Some, None, unwrap_or, IsTrue, refl, sym, ap, ap₂, ◌∙◌, inl, inr, subst, arith, append_assoc, append-nil, max, min, flat_map, take-append-drop, map-append, IsIn, below, Sys, Pair, is_allowed, sizes_of, pair_at, numbered, offers, Costs, max_over, least_from, first_least, least, least_at, choice, through, allowed_actions, filter_in, related_great, numbers_are_pairs, related_offers, in_append_right, related_pairs, ranked, IsOffered, AreLeastCosts, nothing_yet, worked_out, outcome_terms, service_terms, action_terms, pair_terms, cheaper_of, Term, Standing, flat_map-append, rest_is}
use Rattle.roman_cost.specs.declared.terms.Term.TheVariants as term
use Rattle.roman_cost.proofs.OfferedSeats.{cost_is, through_fits, offered}
use Rattle.roman_cost.proofs.Best.{filter_taken, filter_passed}
use Rattle.roman_cost.proofs.Ranks.{related_below, related_is}

-- Lists that grow.

-- the list after one more number below the bound, which passes or doesn't pass
pub flat_taken : {X : Type 0} (f : ℕ → List X) (p : ℕ → Bool) (k : ℕ) (old terms new : List X) → p k ≡ true → terms ≡ old ++ flat_map f (filter p (below k)) → new ≡ terms ++ f k →
    new ≡ old ++ flat_map f (filter p (below (k + 1)))
flat_taken f p k old terms new passes before is = grind (arith, append-nil, append_assoc, filter_taken, flat_map-append)

pub flat_passed : {X : Type 0} (f : ℕ → List X) (p : ℕ → Bool) (k : ℕ) (old terms : List X) → p k ≡ false → terms ≡ old ++ flat_map f (filter p (below k)) →
    terms ≡ old ++ flat_map f (filter p (below (k + 1)))
flat_passed f p k old terms fails before = grind (arith, filter_passed)

-- Values.

-- a state of the computation
abbrev standing : ℕ → Option ℕ → ℕ → Standing
standing w c d = record { worst = w; cheapest = c; dearest = d }

-- outcomes raise the greatest value so far
worked_outcomes : (ranks later qs : List ℕ) (rest : List Term) (w : ℕ) (c : Option ℕ) (d : ℕ) →
    worked_out later (outcome_terms ranks qs ++ rest) (standing w c d) ≡ worked_out later rest (standing w c (max d (max_over (ranked ranks later) qs)))
worked_outcomes ranks later [] rest w c d = let e : d ≡ max d 0 = omega arith in ap (λ m. worked_out later rest (standing w c m)) e
worked_outcomes ranks later (q ∷ qs) rest w c d =
    let v = ranked ranks later q in
    let m = max_over (ranked ranks later) qs in
    let e : max (max d v) m ≡ max d (max v m) = omega arith in
    worked_outcomes ranks later qs rest w c (max d v) ∙ ap (λ m. worked_out later rest (standing w c m)) e

-- the cost through the cheapest of some services, after the best cost so far
abbrev cheapest_of : (ℕ → ℕ) → Option ℕ → List ℕ → Option ℕ
cheapest_of f c [] = c
cheapest_of f c (k ∷ ks) = cheapest_of f (Some (cheaper_of c (f k))) ks

cheapest_from : (f : ℕ → ℕ) (k : ℕ) (ks : List ℕ) → cheapest_of f (Some (f k)) ks ≡ Some (f (least_from f k ks))
cheapest_from f k [] = refl
cheapest_from f k (j ∷ ks) = grind (arith, (cheapest_from f k ks), (cheapest_from f j ks))

cheapest_first : (f : ℕ → ℕ) (ks : List ℕ) → ks ≢ [] → cheapest_of f None ks ≡ Some (f (first_least f ks))
cheapest_first f [] some = absurd (some refl)
cheapest_first f (k ∷ ks) some = cheapest_from f k ks

module _ (s : Sys) (C : Costs) (h : ℕ) (ranks later : List ℕ) (known : AreLeastCosts s C h ranks later) where
  -- the cost of h + 1 requests of which the first is a and goes to seat k
  abbrev cost : ℕ → ℕ → ℕ → ℕ
  cost p a k = through s C (least s C h) (pair_at (sizes_of s) p) a k

  worked_services : (p a : ℕ) (ks : List ℕ) (rest : List Term) (w : ℕ) (c : Option ℕ) → ((k : ℕ) → IsIn k ks → IsOffered s p a k) →
      worked_out later (flat_map (service_terms s C ranks p a) ks ++ rest) (standing w c 0) ≡ worked_out later rest (standing w (cheapest_of (cost p a) c ks) 0)
  worked_services p a [] rest w c each = refl
  worked_services p a (k ∷ ks) rest w c each =
      let qs = (numbered s).outcomes p a k in
      let more = flat_map (service_terms s C ranks p a) ks ++ rest in
      let is = cost_is s C h p a k ranks later (each k (inl refl)) known in
      let small = through_fits s C h a k (pair_at (sizes_of s) p) ranks later known in
      let fits : min (C k a + max 0 (max_over (ranked ranks later) qs)) 4294967295 ≡ cost p a k = omega arith in
      ap (λ ts. worked_out later ts (standing w c 0))
      (append_assoc (service_terms s C ranks p a k) (flat_map (service_terms s C ranks p a) ks) rest ∙ append_assoc (outcome_terms ranks qs) (term.Service (C k a) ∷ []) more)
      ∙ worked_outcomes ranks later qs (term.Service (C k a) ∷ more) w c 0
      ∙ ap (λ n. worked_out later more (standing w (Some (cheaper_of c n)) 0)) fits
      ∙ worked_services p a ks rest w (Some (cheaper_of c (cost p a k))) (λ j i. each j (inr i))

  worked_action : (p a : ℕ) (rest : List Term) (w : ℕ) → IsIn p (related_pairs s) → IsTrue (is_allowed s (pair_at (sizes_of s) p) a) →
      worked_out later (action_terms s C ranks p a ++ rest) (standing w None 0) ≡ worked_out later rest (standing (max w (cost p a (choice s C h (pair_at (sizes_of s) p) a))) None 0)
  worked_action p a rest w i allowed =
      let P : Pair = pair_at (sizes_of s) p in
      let l = related_below s p i in
      let great = related_great s P known.system ((numbers_are_pairs s).pair p l) (related_is s p i) in
      ap (λ ts. worked_out later ts (standing w None 0)) (append_assoc (flat_map (service_terms s C ranks p a) (offers s P a)) (term.Action ∷ []) rest)
      ∙ worked_services p a (offers s P a) (term.Action ∷ rest) w None (λ k. offered s p a k known.system l)
      ∙ ap (λ (o : Option ℕ). worked_out later rest (standing (max w (unwrap_or o 0)) None 0)) (cheapest_first (cost p a) (offers s P a) (related_offers s P a known.system great allowed))

  worked_actions : (p : ℕ) (acts : List ℕ) (rest : List Term) (w : ℕ) → IsIn p (related_pairs s) → ((a : ℕ) → IsIn a acts → IsTrue (is_allowed s (pair_at (sizes_of s) p) a)) →
      worked_out later (flat_map (action_terms s C ranks p) acts ++ rest) (standing w None 0)
      ≡ worked_out later rest (standing (max w (max_over (λ a. cost p a (choice s C h (pair_at (sizes_of s) p) a)) acts)) None 0)
  worked_actions p [] rest w related allowed = let e : w ≡ max w 0 = omega arith in ap (λ m. worked_out later rest (standing m None 0)) e
  worked_actions p (a ∷ acts) rest w related allowed =
      let f : ℕ → ℕ = λ a. cost p a (choice s C h (pair_at (sizes_of s) p) a) in
      let e : max (max w (f a)) (max_over f acts) ≡ max w (max (f a) (max_over f acts)) = omega arith in
      ap (λ ts. worked_out later ts (standing w None 0)) (append_assoc (action_terms s C ranks p a) (flat_map (action_terms s C ranks p) acts) rest)
      ∙ worked_action p a (flat_map (action_terms s C ranks p) acts ++ rest) w related (allowed a (inl refl))
      ∙ worked_actions p acts rest (max w (f a)) related (λ b i. allowed b (inr i)) ∙ ap (λ m. worked_out later rest (standing m None 0)) e

  -- the terms of related pairs give their values for one more request
  pub worked_pairs : (ps : List ℕ) → ((p : ℕ) → IsIn p ps → IsIn p (related_pairs s)) → worked_out later (flat_map (pair_terms s C ranks) ps) nothing_yet ≡ map (least_at s C (suc h)) ps
  worked_pairs [] related = refl
  worked_pairs (p ∷ ps) related =
      let P : Pair = pair_at (sizes_of s) p in
      let rest = flat_map (pair_terms s C ranks) ps in
      let v : ℕ = least_at s C (suc h) p in
      let e : max 0 v ≡ v = omega arith in
      ap (λ ts. worked_out later ts nothing_yet) (append_assoc (flat_map (action_terms s C ranks p) (allowed_actions s P)) (term.Pair ∷ []) rest)
      ∙ worked_actions p (allowed_actions s P) (term.Pair ∷ rest) 0 (related p (inl refl)) (λ a i. (filter_in (is_allowed s P) a (below s.env.actions) i).1)
      ∙ ap (λ m. m ∷ worked_out later rest nothing_yet) e
      ∙ ap (λ vs. v ∷ vs) (worked_pairs ps (λ q i. related q (inr i)))

  -- the terms of one pair in an empty list give its value
  pub one_worked : (p : ℕ) (cleared terms : List Term) (values after : List ℕ) → IsIn p (related_pairs s) →
      cleared ≡ [] → terms ≡ cleared ++ pair_terms s C ranks p → after ≡ values ++ worked_out later terms nothing_yet → after ≡ values ++ least_at s C (suc h) p ∷ []
  one_worked p cleared terms values after i empty made worked =
      worked ∙ ap (λ ts. values ++ worked_out later ts nothing_yet) (made ∙ ap (λ ts. ts ++ pair_terms s C ranks p) empty ∙ sym (append-nil (pair_terms s C ranks p)))
      ∙ ap (λ vs. values ++ vs) (worked_pairs (p ∷ []) (λ q j. elim j [ inl e ↦ subst (λ m. IsIn m (related_pairs s)) (sym e) i | inr none ↦ absurd none ]))

pub rest_in : (xs : List ℕ) (n p : ℕ) → IsIn p (take (length xs - n) (drop n xs)) → IsIn p xs
rest_in xs n p i = subst (IsIn p) (take-append-drop n xs) (in_append_right p (take n xs) (drop n xs) (subst (IsIn p) (rest_is xs n) i))

-- the values of the first pairs, followed by those of the others, are the values of all pairs
pub values_whole : (f : ℕ → ℕ) (pairs none first all : List ℕ) (n : ℕ) → none ≡ [] → first ≡ none ++ map f (take n pairs) → all ≡ first ++ map f (take (length pairs - n) (drop n pairs)) → all ≡ map f pairs
values_whole f pairs none first all n empty one two =
    two ∙ ap₂ (λ (xs ys : List ℕ). xs ++ map f ys) (one ∙ ap (λ (xs : List ℕ). xs ++ map f (take n pairs)) empty) (rest_is pairs n) ∙ sym (map-append f (take n pairs) (drop n pairs)) ∙ ap (map f) (take-append-drop n pairs)
