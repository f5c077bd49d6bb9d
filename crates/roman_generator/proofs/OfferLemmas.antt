-- The mask of a complete list is the set of offers.
use Rattle.roman_generator.proofs.Common.{◌≡◌, ◌≢◌, ℕ, ◌<◌, true, List, IsTrue, ap, ◌∙◌, subst, arith, bit_at, bit_at-zero, has, is_allowed, is_listed, mask, sizes_of, count, pair_at, is_related, offers, not_empty_in, ne_not_empty, listed_number, numbers_are_pairs, numbered_offers, related_offers, offer_is, related_great, HasBits, bit_of, NamedSys, system_of, IsNamedSys, Board, pairs_of, has_entry, arena_of, IsRelation, listed_numbers}

-- the mask of the list has the bits of the offers
pub mask_offers : (joint : NamedSys) (board : Board) (p a bits : ℕ) → IsNamedSys joint → IsRelation joint board → ((p : ℕ) → has_entry board.list p ≡ true → p < pairs_of board) →
    p < count (sizes_of (system_of joint)) → HasBits bits (has (mask (arena_of joint) (is_listed (arena_of joint) board.list) p a)) → HasBits bits (has (offers (system_of joint) (pair_at (sizes_of (system_of joint)) p) a))
mask_offers joint board p a bits known relation in_range l is =
    let s = system_of joint in
    subst (λ (ks : List ℕ). HasBits bits (has ks)) (numbered_offers s board.list p a known.system (listed_numbers s board relation.shaped.pairs in_range) relation.complete.list l) is

-- some offer exists, so some bit is set
pub offers_set : (joint : NamedSys) (p a bits : ℕ) → IsNamedSys joint → p < count (sizes_of (system_of joint)) →
    IsTrue (is_related (system_of joint) (pair_at (sizes_of (system_of joint)) p)) → IsTrue (is_allowed (system_of joint) (pair_at (sizes_of (system_of joint)) p) a) →
    HasBits bits (has (offers (system_of joint) (pair_at (sizes_of (system_of joint)) p) a)) → bits ≢ 0
offers_set joint p a bits known l related allowed has_bits zero =
    let s = system_of joint in
    let q = pair_at (sizes_of s) p in
    let pair = (numbers_are_pairs s).pair p l in
    let (k, i) = not_empty_in (offers s q a) (ne_not_empty (offers s q a) (related_offers s q a known.system (related_great s q known.system pair related) allowed)) in
    let (_, seated, _, _) = offer_is s q a k known.system pair i in
    let few = known.system.few in
    let small : k < 32 = omega arith in
    let bit : bit_at bits k ≡ bit_of (has (offers s q a) k) = has_bits.each k small in
    let one : bit_of (has (offers s q a) k) ≡ 1 = ap bit_of (listed_number (offers s q a) k i) in
    let none : bit_at bits k ≡ 0 = ap (λ n. bit_at n k) zero ∙ bit_at-zero k in
    absurd (omega arith)
