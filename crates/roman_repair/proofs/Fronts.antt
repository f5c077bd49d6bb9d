-- The lanes of words.
use Rattle.roman_repair.proofs.Common.{on_in, one_pow, set_lanes-joined, none_below, on_lowered, no_lane, not-not, and-true, ◌≡◌, ◌≢◌, ℕ, zero, suc, ◌+◌, ◌-◌, ◌*◌, ◌/◌, ◌%◌, ◌^◌, ◌<◌, ◌≤◌, Bool, true, false, not, ◌&&◌, List, [], ◌∷◌, ◌++◌, map, length, filter, cond, inl, inr, refl, sym, ap, ap₂, ◌∙◌, arith, append-nil, append_assoc, bit_and, eqb, length-append, cases_Bool, cases_lt, both_ways, and_parts, eq-eqb, false_from_ne_true, and_right, ne_eqb, trailing_zeros, w64, bit_not, map-append, length-map, IsIn, below, filter_below_more, map-map, filter_same, from_below, is_on, on_and, on_full, on_not, on_zero, on_less, on_ones, on_ones_above, on_full_past, set_lanes, as_entry, entries_in, Reason, entries_from, pow-lt, and_le_l, bit_at-trailing_zeros, shr_and_one, HasFront, HasLanesBetween, IsCutAt, IsFirstGroup}

-- ---- the first lane of a word

-- the first lane of a word, or 64
pub record IsFirst (word lane : ℕ) : Type 0 where
  pub few : lane ≤ 64
  pub on : lane < 64 → is_on word lane ≡ true
  pub before : (bit : ℕ) → bit < lane → is_on word bit ≡ false

pub first_lane : (word : ℕ) → word < 2 ^ 64 → IsFirst word (trailing_zeros w64 word)
unfolding is_on lib.Count.count_trailing_zeros
first_lane zero fits = record { few = omega arith; on = λ l. absurd (omega (arith, l)); before = λ bit l. on_zero bit }
first_lane (suc word) fits =
    let h = bit_at-trailing_zeros w64 (suc word) (omega arith) fits in
    record { few = omega (arith, h.0); on = λ l. eq-eqb _ 1 h.1; before = λ bit l. ap (λ n. eqb n 1) (h.2 bit l) }

-- the lanes of a word begin with its first
pub from_first : (word : ℕ) → word < 2 ^ 64 → (lane : ℕ) → is_on word lane ≡ true → trailing_zeros w64 word ≤ lane
from_first word fits lane on = elim (cases_lt lane (trailing_zeros w64 word)) [ inl under ↦ absurd (both_ways (is_on word lane) ((first_lane word fits).before lane under) on) | inr past ↦ past ]

-- a word with lanes has a first one
pub first_low : (word : ℕ) → word < 2 ^ 64 → 0 < length (set_lanes word) → trailing_zeros w64 word < 64
first_low word fits some = (bit_at-trailing_zeros w64 word (let ne = no_lane word some in omega (arith, ne)) fits).0

pub both_fit : (word end : ℕ) → word < 2 ^ 64 → bit_and word end < 2 ^ 64
both_fit word end fits = omega (arith, and_le_l word end)

-- ---- the numbers that pass

-- either all elements pass, or no element does
pub filter_alike : {X : Type 0} (p : X → Bool) (b : Bool) (xs : List X) → ((x : X) → IsIn x xs → p x ≡ b) → filter p xs ≡ cond b xs []
filter_alike p true [] same = refl
filter_alike p false [] same = refl
filter_alike p true (x ∷ xs) same = ap₂ (λ b ys. cond b (x ∷ ys) ys) (same x (inl refl)) (filter_alike p true xs (λ y i. same y (inr i)))
filter_alike p false (x ∷ xs) same = ap₂ (λ b ys. cond b (x ∷ ys) ys) (same x (inl refl)) (filter_alike p false xs (λ y i. same y (inr i)))

pub same_so_far : (p q : ℕ → Bool) (m : ℕ) → ((lane : ℕ) → lane < m → p lane ≡ q lane) → filter p (below m) ≡ filter q (below m)
same_so_far p q m same = filter_same p q (below m) (λ i j. same i (from_below m i j))

-- the numbers below b that pass, and those from b on
pub filter_split : (q : ℕ → Bool) (b m : ℕ) → filter q (below (b + m)) ≡ filter q (below b) ++ map (λ i. b + i) (filter (λ i. q (b + i)) (below m))
filter_split q b zero = grind (arith, append-nil)
filter_split q b (suc m) = grind (arith, append_assoc, filter_below_more, map-append, (filter_split q b m), (ap (λ n. filter q (below n)) (let next : b + suc m ≡ suc (b + m) = omega arith in next)))

-- no number below b passes, and the numbers from b on pass as others do from 0 on
pub moved_so_far : (p q : ℕ → Bool) (b m : ℕ) → ((i : ℕ) → i < b → q i ≡ false) → ((i : ℕ) → i < m → q (b + i) ≡ p i) → filter q (below (b + m)) ≡ map (λ i. b + i) (filter p (below m))
moved_so_far p q b m off same = filter_split q b m ∙ ap₂ (λ L M. L ++ map (λ i. b + i) M) (none_below q b off) (same_so_far (λ i. q (b + i)) p m same)

-- no number from b on passes
pub only_so_far : (q : ℕ → Bool) (b m : ℕ) → ((i : ℕ) → i < m → q (b + i) ≡ false) → filter q (below (b + m)) ≡ filter q (below b)
only_so_far q b m off = filter_split q b m ∙ ap (λ M. filter q (below b) ++ map (λ i. b + i) M) (none_below (λ i. q (b + i)) m off) ∙ append-nil (filter q (below b))

-- ---- a word that is split in two

-- the two parts of a word, as the code computes them
pub is_cut : (word cut : ℕ) → word < 2 ^ 64 → cut ≤ 64 → let front = bit_and word ((2 ^ 64 - 1) / 2 ^ (64 - cut)) in IsCutAt word front (bit_and word (bit_not w64 front)) cut
is_cut word cut fits few =
    let front : ℕ = bit_and word ((2 ^ 64 - 1) / 2 ^ (64 - cut)) in
    let rest : ℕ = bit_and word (bit_not w64 front) in
    let of_word : (mask lane : ℕ) → is_on (bit_and word mask) lane ≡ true → is_on word lane ≡ true = λ mask lane on. (and_parts (is_on word lane) (is_on mask lane) (sym (on_and word mask lane) ∙ on)).0 in
    let low : (lane : ℕ) → lane < cut → is_on front lane ≡ is_on word lane = λ lane l. on_and word _ lane ∙ ap (λ b. is_on word lane && b) (on_full cut lane few l) ∙ and-true (is_on word lane) in
    let high : (lane : ℕ) → cut ≤ lane → is_on front lane ≡ false = λ lane past. on_and word _ lane ∙ and_right (is_on word lane) _ (on_full_past cut lane few past) in
    let less : (lane : ℕ) → lane < 64 → is_on rest lane ≡ (is_on word lane && not (is_on front lane)) = λ lane l. on_less word front lane (both_fit word _ fits) l in
    record {
      parts = set_lanes-joined word front rest (λ lane l. grind (arith, cases_Bool, cases_lt, (low lane), (high lane), (less lane l))) (λ i j on there. grind (arith, both_ways, cases_lt, (low j), (high i), (less j), (of_word (bit_not w64 front) j there)));
      low = low;
      high = high;
      in_front = of_word ((2 ^ 64 - 1) / 2 ^ (64 - cut));
      in_rest = of_word (bit_not w64 front);
      fits = both_fit word (bit_not w64 front) fits;
    }

pub some_in : (xs : List ℕ) → 0 < length xs → (x : ℕ) × IsIn x xs
some_in [] some = absurd (omega arith)
some_in (x ∷ xs) some = (x, inl refl)

pub has_some : (xs : List ℕ) (x : ℕ) → IsIn x xs → 0 < length xs
has_some [] x i = absurd i
has_some (y ∷ xs) x i = omega arith

lane_some : (word lane : ℕ) → lane < 64 → is_on word lane ≡ true → 0 < length (set_lanes word)
lane_some word lane l on = has_some (set_lanes word) lane (on_in word lane l on)

-- a word that is cut at the first lane that differs has a front of alike lanes
abbrev pub IsFront : ℕ → ℕ → ℕ → Bool → Type 0
IsFront word held others holds = let end = trailing_zeros w64 others in ((0 < end) × (end ≤ 64)) × ((front rest : ℕ) → IsCutAt word front rest end → HasFront word held front rest holds)

-- the lanes before the first one in a mask are alike
alike_front : (word held mask : ℕ) (holds : Bool) → word < 2 ^ 64 → 0 < length (set_lanes word) → is_on mask (trailing_zeros w64 word) ≡ false → ((lane : ℕ) → lane < 64 → is_on mask lane ≡ false → is_on held lane ≡ holds) →
    IsFront word held (bit_and word mask) holds
alike_front word held mask holds fits some off same =
    let t : ℕ = trailing_zeros w64 word in
    let end : ℕ = trailing_zeros w64 (bit_and word mask) in
    let others : IsFirst (bit_and word mask) end = first_lane (bit_and word mask) (both_fit word mask fits) in
    let low : t < 64 = first_low word fits some in
    let less : t < end = elim (cases_lt t end) [
      | inl l ↦ l
      | inr past ↦
          let (here, there) = and_parts (is_on word end) (is_on mask end) (sym (on_and word mask end) ∙ others.on (omega (arith, past, low))) in
          let same : end ≡ t = omega (arith, past, from_first word fits end here) in
          absurd (both_ways (is_on mask t) off (ap (is_on mask) (sym same) ∙ there))
    ] in (
      (omega (arith, less), others.few),
      λ front rest cut. record {
        parts = cut.parts;
        some = lane_some front t low (cut.low t less ∙ (first_lane word fits).on low);
        alike = λ lane on. elim (cases_lt lane end) [
          | inl l ↦ same lane (omega (arith, l, others.few)) (sym (ap (λ b. b && is_on mask lane) (cut.in_front lane on)) ∙ sym (on_and word mask lane) ∙ others.before lane l)
          | inr past ↦ absurd (both_ways (is_on front lane) (cut.high lane past) on)
        ];
        in_front = cut.in_front;
        in_rest = cut.in_rest;
        fits = cut.fits;
      },
    )

-- a bit, as the code reads it
pub on_read : (a d : ℕ) → is_on a d ≡ eqb (bit_and (a / 2 ^ d) 1) 1
unfolding is_on
on_read a d = ap (λ n. eqb n 1) (sym (shr_and_one a d))

pub held_front : (word held : ℕ) → word < 2 ^ 64 → held < 2 ^ 64 → 0 < length (set_lanes word) → bit_and (held / 2 ^ trailing_zeros w64 word) 1 ≡ 1 → IsFront word held (bit_and word (bit_not w64 held)) true
held_front word held fits held_fits some one =
    alike_front word held (bit_not w64 held) true fits some (on_not held _ held_fits (first_low word fits some) ∙ ap not (on_read held _ ∙ eq-eqb _ 1 one)) (λ lane l off. sym (not-not _) ∙ ap not (sym (on_not held lane held_fits l) ∙ off))

pub other_front : (word held : ℕ) → word < 2 ^ 64 → 0 < length (set_lanes word) → bit_and (held / 2 ^ trailing_zeros w64 word) 1 ≢ 1 → IsFront word held (bit_and word held) false
other_front word held fits some ne = alike_front word held held false fits some (on_read held _ ∙ ne_eqb _ 1 ne) (λ lane l off. off)

-- the lanes of a group, moved to its first one
pub first_group_is : (word width i front rest cut : ℕ) → word < 2 ^ 64 → 0 < length (set_lanes word) → i * width ≤ trailing_zeros w64 word → trailing_zeros w64 word < i * width + width → cut ≤ i * width + width → cut ≤ 64 → trailing_zeros w64 word < cut →
    IsCutAt word front rest cut → IsFirstGroup word width i (front / 2 ^ (i * width)) rest
unfolding set_lanes
first_group_is word width i front rest cut fits some begun less end few here is =
    let t : ℕ = trailing_zeros w64 word in
    let begin : ℕ = i * width in
    let group : ℕ = front / 2 ^ begin in
    let low : t < 64 = first_low word fits some in
    let lowered : (lane : ℕ) → is_on group lane ≡ is_on front (begin + lane) = λ lane. on_lowered front begin lane in
    let moved : set_lanes front ≡ map (λ lane. begin + lane) (set_lanes group) =
    let whole : 64 ≡ begin + (64 - begin) = omega (arith, begun, low) in
    let turned : 64 ≡ 64 - begin + begin = omega (arith, begun, low) in
    ap (λ n. filter (is_on front) (below n)) whole
    ∙ moved_so_far (is_on group) (is_on front) begin (64 - begin)
    (λ lane l. false_from_ne_true (is_on front lane) (λ on. omega (arith, l, begun, from_first word fits lane (is.in_front lane on)))) (λ lane l. sym (lowered lane))
    ∙ ap (map (λ lane. begin + lane)) (sym (ap (λ n. filter (is_on group) (below n)) turned
    ∙ only_so_far (is_on group) (64 - begin) begin (λ lane l. lowered (64 - begin + lane) ∙ is.high (begin + (64 - begin + lane)) (omega (arith, few, begun, low))))) in
    record {
      parts = is.parts ∙ ap (λ ls. ls ++ set_lanes rest) moved;
      some = lane_some group (t - begin) (omega arith) (lowered (t - begin) ∙ ap (is_on front) (let place : begin + (t - begin) ≡ t = omega (arith, begun) in place) ∙ is.low t here ∙ (first_lane word fits).on low);
      in_group = λ lane on. (let at : is_on front (begin + lane) ≡ true = sym (lowered lane) ∙ on in
          (elim (cases_lt lane width) [ inl l ↦ l | inr past ↦ absurd (both_ways _ (is.high (begin + lane) (omega (arith, past, end))) at) ], is.in_front (begin + lane) at));
      in_rest = is.in_rest;
      fits = is.fits;
    }

-- ---- neighbouring lanes

-- the word of neighbouring lanes, as the code computes it
abbrev pub between : ℕ → ℕ → ℕ
between begin end = bit_and ((2 ^ 64 - 1) / 2 ^ (64 - end)) (bit_not w64 (1 * 2 ^ begin % 2 ^ 64 - 1))

pub is_between : (begin end : ℕ) → begin < end → end ≤ 64 → HasLanesBetween (between begin end) begin end
is_between begin end some few =
    let full : ℕ = (2 ^ 64 - 1) / 2 ^ (64 - end) in
    let less : begin < 64 = omega arith in
    let fits : 2 ^ begin - 1 < 2 ^ 64 = (let small : 2 ^ begin < 2 ^ 64 = pow-lt less in omega arith) in
    let same = λ (i : ℕ). ap (λ m. is_on (bit_and full (bit_not w64 (m - 1))) i) (one_pow begin less) in
    record {
      low = λ i l. same i ∙ on_less full (2 ^ begin - 1) i fits (omega arith) ∙ and_right (is_on full i) (not (is_on (2 ^ begin - 1) i)) (ap not (on_ones begin i l));
      mid = λ i l h. same i ∙ on_less full (2 ^ begin - 1) i fits (omega arith) ∙ ap₂ (λ a b. a && not b) (on_full end i few h) (on_ones_above begin i l);
      high = λ i l. same i ∙ on_and full (bit_not w64 (2 ^ begin - 1)) i ∙ ap (λ b. b && is_on (bit_not w64 (2 ^ begin - 1)) i) (on_full_past end i few l);
    }

-- ---- the entries of a word's lanes

-- the entries of a word's lanes are those of the first group, followed by those of the others
pub group_entries : (n x word width i group rest : ℕ) (reason : Reason) → IsFirstGroup word width i group rest → entries_in n x word reason ≡ entries_from (x * n + i * width) group reason ++ entries_in n x rest reason
group_entries n x word width i group rest reason is =
    let place : (lane : ℕ) → x * n + (i * width + lane) ≡ x * n + i * width + lane = λ lane. omega arith in
    let f = λ (lane : ℕ). as_entry (x * n + lane, reason) in
    ap (map f) is.parts ∙ map-append f (map (λ lane. i * width + lane) (set_lanes group)) (set_lanes rest)
    ∙ ap (λ L. L ++ entries_in n x rest reason) (map-map f (λ lane. i * width + lane) (set_lanes group) ∙ (λ j. map (λ (lane : ℕ). as_entry (place lane j, reason)) (set_lanes group)))

pub fewer_lanes : (word width i group rest : ℕ) → IsFirstGroup word width i group rest → length (set_lanes rest) < length (set_lanes word)
fewer_lanes word width i group rest is =
    let f = λ (lane : ℕ). i * width + lane in
    omega (arith, ap length is.parts, length-append (map f (set_lanes group)) (set_lanes rest), length-map (set_lanes group) f, is.some)

-- if all lanes of a word are below a bound, they are those that are found below it
pub lanes_below : (word n : ℕ) → n ≤ 64 → ((lane : ℕ) → is_on word lane ≡ true → lane < n) → filter (is_on word) (below n) ≡ set_lanes word
unfolding set_lanes
lanes_below word n few within =
    let whole : 64 ≡ n + (64 - n) = omega arith in
    sym (ap (λ m. filter (is_on word) (below m)) whole
    ∙ only_so_far (is_on word) n (64 - n) (λ i l. false_from_ne_true (is_on word (n + i)) (λ t. let past : n + i < n = within (n + i) t in omega (arith, past))))
