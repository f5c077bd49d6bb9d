use Rattle.roman_text.proofs.Common.{◌≡◌, ℕ, ◌+◌, ◌<◌, true, None, Some, get_or, length, sym, ap, ◌∙◌, subst, arith, nat_eq, map, w8, position, position_or_len, length-chunk, bitmask_splat, trailing_mask_l, run_in_chunk_fails, run_in_chunk_stops, chunk, mask_l, is_newline, position_or_len_is, cond-true, lt-ltb, count_trailing_zeros}
use Rattle.roman_text.proofs.lines.newline_near.Goals as goal

pub returns : goal.returns
returns c =
    let xs = c.args.bytes.now in
    let v = chunk 0 16 xs in
    let long = length-chunk 0 16 xs c.requires in
    let mask = bitmask_splat w8 nat_eq v 16 10 long (omega arith) in
    let found = count_trailing_zeros 64 (mask_l (map is_newline v)) in
    let counted = trailing_mask_l is_newline 64 v (omega (arith, long)) (omega (arith, mask)) in
    subst (λ (m : ℕ). count_trailing_zeros 64 m < 16 → position is_newline xs ≡ Some (count_trailing_zeros 64 m)) (sym mask)
    (λ near.
    let here : 0 + found ≡ found = omega arith in
    let first : position_or_len is_newline xs ≡ found = position_or_len_is is_newline xs found 0 (omega (arith, c.requires)) (λ k l. run_in_chunk_fails is_newline xs 0 16 found 0 c.requires counted k (omega arith) (omega arith)) (λ _. subst (λ (i : ℕ). is_newline (get_or xs i 0) ≡ true) here (run_in_chunk_stops is_newline xs 0 16 found 0 c.requires counted near)) in
    let inside : position_or_len is_newline xs < length xs = omega (arith, first, c.requires) in
    cond-true _ _ None (lt-ltb _ _ inside) ∙ ap Some first)
