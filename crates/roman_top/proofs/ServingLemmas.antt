-- Outlooks are right: they count the related pairs, and the cases in which a seat serves an action.
use Rattle.roman_top.proofs.Common.{◌≡◌, ℕ, List, map, length, IsTrue, sym, ap, ◌∙◌, subst, arith, cond-true, cond-false, length-map, slice_get_within, IsIn, below, HasNoRepeats, Sys, Pair, IsSys, IsPair, pairs, is_allowed, offers, choice_count, outlook, by_test, in_map, from_map, from_flat_map, allowed_in, from_allowed, related_great, great_related, in_flat_map, in_below, HasNoRepeats-map, HasNoRepeats-flat_map, HasNoRepeats-filter, HasNoRepeats-below, sum_by_same, in_pairs, from_pairs, pairs_once, allowed_in_range, offers_are, offer_is, length-flat_map, Serving, IsServing, AreServings, IsRightOutlook, related_counted}
use Rattle.std.proofs.Common.{flat_map}

-- The cases in which a seat serves an action.

abbrev serving : Pair → ℕ → ℕ → Serving
serving p a k = record { pair = p; action = a; seat = k }

abbrev servings_for : Sys → Pair → ℕ → List Serving
servings_for s p a = map (serving p a) (offers s p a)

abbrev servings_at : Sys → Pair → List Serving
servings_at s p = flat_map (servings_for s p) (below s.env.actions)

abbrev all_servings : Sys → List Serving
all_servings s = flat_map (servings_at s) (pairs s)

servings_counted : (s : Sys) → length (all_servings s) ≡ choice_count s
servings_counted s = grind (arith, length-flat_map, length-map, sum_by_same)

offers_once : (s : Sys) (p : Pair) (a : ℕ) → HasNoRepeats (offers s p a)
offers_once s p a = grind (arith, HasNoRepeats-below, HasNoRepeats-filter, by_test, cond-false, cond-true)

servings_once : (s : Sys) → HasNoRepeats (all_servings s)
servings_once s =
    HasNoRepeats-flat_map (servings_at s) (pairs s)
    (λ p i. HasNoRepeats-flat_map (servings_for s p) (below s.env.actions)
    (λ a j. HasNoRepeats-map (serving p a) (offers s p a) (λ k l m n e. ap (λ x. x.seat) e) (offers_once s p a))
    (λ a b x j k l m. same_action p a b x l m)
    (HasNoRepeats-below s.env.actions))
    (λ p q x i j k l. same_pair_of p q x k l)
    (pairs_once s)
  where
    same_action : (p : Pair) (a b : ℕ) (x : Serving) → IsIn x (servings_for s p a) → IsIn x (servings_for s p b) → a ≡ b
    same_action p a b x i j =
        let (k, l, e) = from_map (serving p a) x (offers s p a) i in
        let (m, n, f) = from_map (serving p b) x (offers s p b) j in
        sym (ap (λ y. y.action) e) ∙ ap (λ y. y.action) f

    same_pair_of : (p q : Pair) (x : Serving) → IsIn x (servings_at s p) → IsIn x (servings_at s q) → p ≡ q
    same_pair_of p q x i j =
        let (a, k, l) = from_flat_map (servings_for s p) x (below s.env.actions) i in
        let (b, m, n) = from_flat_map (servings_for s q) x (below s.env.actions) j in
        let (c, o, e) = from_map (serving p a) x (offers s p a) l in
        let (d, r, f) = from_map (serving q b) x (offers s q b) n in
        sym (ap (λ y. y.pair) e) ∙ ap (λ y. y.pair) f

is_serving : (s : Sys) (x : Serving) → IsSys s → IsIn x (all_servings s) → IsServing s x
is_serving s x ok i =
    let (p, j, k) = from_flat_map (servings_at s) x (pairs s) i in
    let (a, l, m) = from_flat_map (servings_for s p) x (below s.env.actions) k in
    let (seat, n, e) = from_map (serving p a) x (offers s p a) m in
    let pair : IsPair s p = from_pairs s p j in
    let (allowed, within, some, all) = offer_is s p a seat ok pair n in
    subst (IsServing s) (sym e) (record {
      pair = pair;
      allowed = from_allowed s p a allowed;
      serves = (((offers_are s ok).offered p pair a allowed seat).0 n).1;
    })

from_serving : (s : Sys) (x : Serving) → IsSys s → IsServing s x → IsIn x (all_servings s)
from_serving s x ok is =
    let p : Pair = x.pair in
    let allowed : IsTrue (is_allowed s p x.action) = allowed_in s p x.action ok is.allowed in
    let (t', e', step) = is.allowed in
    let (bs', r) = (is.serves t' e' step).0 in
    in_flat_map (servings_at s) p x (pairs s) (in_pairs s p is.pair)
    (in_flat_map (servings_for s p) x.action x (below s.env.actions) (in_below s.env.actions x.action (allowed_in_range s p x.action ok allowed))
    (in_map (serving p x.action) x.seat (offers s p x.action) (((offers_are s ok).offered p is.pair x.action allowed x.seat).1 (slice_get_within s.seats x.seat r.seat r.seated, is.serves))))

servings_all : (s : Sys) → IsSys s → AreServings s (all_servings s)
servings_all s ok = record { once = servings_once s; each = λ x. (is_serving s x ok, from_serving s x ok) }

pub outlook_right : (s : Sys) (p : Pair) → IsSys s → IsPair s p → IsRightOutlook s p (outlook s p)
outlook_right s p ok pair = record {
  composes = (related_great s p ok pair, great_related s p ok);
  related = related_counted s ok;
  servings = all_servings s;
  serve = servings_all s ok;
  choices = sym (servings_counted s);
}
