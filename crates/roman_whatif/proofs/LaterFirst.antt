-- Two services that fail one after the other, the later one first.
use Rattle.roman_whatif.proofs.Common.{◌≡◌, ℕ, zero, suc, ◌<◌, true, List, [], ◌∷◌, remove, refl, sym, ap, ◌∙◌, Seat, Sys, Pair, has, leave_out, freeze_at, system_without, pair_without, Way, Freeze, Die, leave_one, freeze_one, leave_two, freeze_two, set_frozen}

leave_later : {X : Type 0} (k j : ℕ) (xs : List X) → k < j → leave_out (has (k ∷ [])) (leave_out (has (j ∷ [])) xs) ≡ leave_out (has (k ∷ j ∷ [])) xs
leave_later k j xs l = leave_one k (leave_out (has (j ∷ [])) xs) ∙ ap (λ ys. remove ys k) (leave_one j xs) ∙ sym (leave_two k j xs l)

-- two seats can freeze in either order
freeze_swap : (k j : ℕ) (seats : List Seat) → set_frozen (set_frozen seats j true) k true ≡ set_frozen (set_frozen seats k true) j true
freeze_swap k j [] = refl
freeze_swap zero zero (x ∷ xs) = refl
freeze_swap zero (suc j) (x ∷ xs) = refl
freeze_swap (suc k) zero (x ∷ xs) = refl
freeze_swap (suc k) (suc j) (x ∷ xs) = ap (λ ys. x ∷ ys) (freeze_swap k j xs)

freeze_later : (k j : ℕ) (seats : List Seat) → freeze_at (has (k ∷ [])) (freeze_at (has (j ∷ [])) seats) ≡ freeze_at (has (k ∷ j ∷ [])) seats
freeze_later k j seats =
    freeze_one k (freeze_at (has (j ∷ [])) seats) ∙ ap (λ ys. set_frozen ys k true) (freeze_one j seats) ∙ freeze_swap k j seats ∙ freeze_two k j seats

pub system_later : (way : Way) (k j : ℕ) (s : Sys) → k < j → system_without way (k ∷ []) (system_without way (j ∷ []) s) ≡ system_without way (k ∷ j ∷ []) s
system_later Freeze k j s l = ap (λ (seats : List Seat). let t : Sys = record { env = s.env; target = s.target; seats = seats } in t) (freeze_later k j s.seats)
system_later Die k j s l = ap (λ (seats : List Seat). let t : Sys = record { env = s.env; target = s.target; seats = seats } in t) (leave_later k j s.seats l)

pub pair_later : (way : Way) (k j : ℕ) (p : Pair) → k < j → pair_without way (k ∷ []) (pair_without way (j ∷ []) p) ≡ pair_without way (k ∷ j ∷ []) p
pair_later Freeze k j p l = refl
pair_later Die k j p l = ap (λ (bs : List ℕ). let q : Pair = record { t = p.t; e = p.e; bs = bs } in q) (leave_later k j p.bs l)
