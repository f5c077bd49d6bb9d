-- A system without some of its seats, and its pairs.
use Rattle.roman_laws.proofs.Common.{◌≡◌, ℕ, suc, ◌<◌, Bool, List, [], ◌∷◌, refl, ap, arith, AllZip, Seat, Sys, Pair, has, IsSys, IsPair, leave_out, freeze_at, system_without, pair_without, Way, related_great, great_related, sublist_length, sublist_skip, IsPair-alike, IsSys-alike, IsSys-seats, behaviours, sublist_in, ReducedAreSystems, IsSublist}
use Rattle.roman_model.specs.declared.way.Way.TheVariants as way

leave_out_part : {X : Type 0} (at : ℕ → Bool) (xs : List X) → IsSublist (leave_out at xs) xs
leave_out_part at [] = tt
leave_out_part at (x ∷ xs) = grind (arith, sublist_skip, (leave_out_part (λ i. at (suc i)) xs))

leave_out_below : (at : ℕ → Bool) (seats : List Seat) (bs : List ℕ) → AllZip (λ seat b. b < seat.beh.states) seats bs → AllZip (λ seat b. b < seat.beh.states) (leave_out at seats) (leave_out at bs)
leave_out_below at [] [] h = tt
leave_out_below at (seat ∷ seats) (b ∷ bs) h = grind (arith, (leave_out_below (λ i. at (suc i)) seats bs h.1))
leave_out_below _ _ _ h = absurd h

behaviours-freeze_at : (at : ℕ → Bool) (seats : List Seat) → behaviours (freeze_at at seats) ≡ behaviours seats
behaviours-freeze_at at [] = refl
behaviours-freeze_at at (seat ∷ seats) = ap (λ behs. seat.beh ∷ behs) (behaviours-freeze_at (λ i. at (suc i)) seats)

pub IsSys-reduced : (how : Way) (K : List ℕ) (s : Sys) → IsSys s → IsSys (system_without how K s)
IsSys-reduced way.Freeze K s = IsSys-alike s (freeze_at (has K) s.seats) (behaviours-freeze_at (has K) s.seats)
IsSys-reduced way.Die K s =
    let part : IsSublist (leave_out (has K) s.seats) s.seats = leave_out_part (has K) s.seats in
    IsSys-seats s (leave_out (has K) s.seats) (λ x i. (x, sublist_in x (leave_out (has K) s.seats) s.seats part i, refl)) (sublist_length (leave_out (has K) s.seats) s.seats part)

pub IsPair-reduced : (how : Way) (K : List ℕ) (s : Sys) (p : Pair) → IsPair s p → IsPair (system_without how K s) (pair_without how K p)
IsPair-reduced way.Freeze K s p = IsPair-alike s (freeze_at (has K) s.seats) p (behaviours-freeze_at (has K) s.seats)
IsPair-reduced way.Die K s p = λ pair. record { t = pair.t; e = pair.e; bs = leave_out_below (has K) s.seats p.bs pair.bs }

pub reduced_are : ReducedAreSystems
reduced_are how K s p ok pair = grind (arith, (IsSys-reduced how K s ok), (IsPair-reduced how K s p pair), (related_great (system_without how K s) (pair_without how K p) (IsSys-reduced how K s ok) (IsPair-reduced how K s p pair)), (great_related (system_without how K s) (pair_without how K p) (IsSys-reduced how K s ok)))
