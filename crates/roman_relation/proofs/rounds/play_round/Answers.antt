use Rattle.roman_relation.proofs.Common.{◌≡◌, ℕ, ◌/◌, ◌<◌, Bool, length, inl, inr, refl, ap, ◌∙◌, arith, rules, suc, true, false, List, IsTrue, IsFalse, sym, by_test, any_same, in_listed, any_true, same_test, justified_same, is_listed, IsOrder, Arena, Entry, is_justified, loses, is_marked, Board, has_entry, IsJudged, AddsTo, falls, Begins, IsSettled, HoldsLost, both_ways, or_cases, or_left, or_right, not_from_true, IsIn, below, Reason, Act, Final, IsNumbered, numbered_same}
use Rattle.roman_relation.proofs.Beginnings.{begins_length, begins_unlisted, same_list, listed_is, begins_listed}
use Rattle.roman_relation.proofs.rounds.play_round.Goals as goal

-- in bands that aren't marked, each allowed action is served
served_next : (A : Arena ℕ) → IsNumbered A → (lanes band : ℕ) (L : List (Entry ℕ)) (d : Board) → Begins L d.list →
    ((p q a k : ℕ) → p < length A.nodes → IsIn q (A.outcomes p a k) → IsTrue (is_listed A d.list q) → IsFalse (is_listed A L q) → is_marked d (p / lanes / band) ≡ true) →
    ((p : ℕ) → p < length A.nodes → IsJudged A (is_listed A L) d.list p) →
    (p a : ℕ) → p < length A.nodes → is_marked d (p / lanes / band) ≡ false → IsFalse (is_listed A d.list p) → IsFalse (is_justified A (is_listed A d.list) p (Act a))
served_next A ok lanes band L d begins marked done p a l certain off =
    let same : (k q : ℕ) → IsIn q (A.outcomes p a k) → is_listed A L q ≡ is_listed A d.list q = λ k q i. same_test (is_listed A L q) (is_listed A d.list q) (begins_listed A L d.list q begins)
    (λ t. by_test (is_listed A L q) (λ u. u) (λ f. absurd (both_ways (is_marked d (p / lanes / band)) certain (marked p q a k l i t f)))) in
    sym (justified_same (record A { outcomes = λ q b k. A.outcomes q a k }) (is_listed A L) (is_listed A d.list) p (Act a) (λ b k q i. same k q i)) ∙ done p l off a

-- a round on a list of the pairs that are lost within n requests makes a list of those within one more
lost_more : (A : Arena ℕ) → IsNumbered A → (May : ℕ → Type 0) (n : ℕ) (L M : List (Entry ℕ)) → AddsTo A (is_listed A L) (λ p. IsTrue (falls A (is_listed A L) p) × May p) L M →
    ((p : ℕ) → p < length A.nodes → IsJudged A (is_listed A L) M p) → HoldsLost A n L → HoldsLost A (suc n) M
lost_more A ok May n L M adds done holds = record {
  each = λ p l.
      let fall_same : falls A (is_listed A L) p ≡ falls A (loses A n) p = any_same (λ a. is_justified A (is_listed A L) p (Act a)) (λ a. is_justified A (loses A n) p (Act a)) (below A.actions)
      (λ a i. justified_same A (is_listed A L) (loses A n) p (Act a) (λ d k q j. holds.each q (ok.closed p d k q l j))) in
      same_test (is_listed A M p) (loses A (suc n) p)
      (λ t. elim (adds.because p t) [
        | inl old ↦ or_left (loses A n p) (falls A (loses A n) p) (sym (holds.each p l) ∙ old)
        | inr (fell, may) ↦ or_right (loses A n p) (falls A (loses A n) p) (sym fall_same ∙ fell)
      ])
      (λ t. elim (or_cases (loses A n p) (falls A (loses A n) p) t) [
        | inl old ↦ begins_listed A L M p adds.begins (holds.each p l ∙ old)
        | inr fell ↦ by_test (is_listed A M p) (λ u. u)
            (λ off. let (a, i, j) = any_true (λ a. is_justified A (is_listed A L) p (Act a)) (below A.actions) (fall_same ∙ fell) in absurd (both_ways (is_justified A (is_listed A L) p (Act a)) (done p l off a) j))
      ]);
}

-- a round that adds nothing is the last
settled_round : (A : Arena ℕ) → IsNumbered A → (L : List (Entry ℕ)) → IsOrder A L → ((p : ℕ) → p < length A.nodes → IsJudged A (is_listed A L) L p) →
    ((p : ℕ) → p < length A.nodes → IsFalse (is_listed A L p) → IsTrue (A.fine p)) → ((p : ℕ) → has_entry L p ≡ true → p < length A.nodes) → IsSettled A L
settled_round A ok L valid done fine in_range = record {
  nodes = λ x i. in_range x.node (sym (listed_is A ok L x.node) ∙ in_listed A (numbered_same A ok) L x i);
  order = valid;
  no_more = λ p l off reason. no_more p l off reason;
}
  where
    no_more : (p : ℕ) → p < length A.nodes → IsFalse (is_listed A L p) → (reason : Reason) → IsFalse (is_justified A (is_listed A L) p reason)
    no_more p l off Final = not_from_true (A.fine p) (fine p l off)
    no_more p l off (Act a) = done p l off a

pub judge_marked-requires-clause-kept : goal.judge_marked-requires-clause-kept
judge_marked-requires-clause-kept g c = (is_listed (g.J.Rules.arena c.args.joint.now) c.args.order.now.list, c.requires.ready.kept)

pub mark_losses-requires : goal.mark_losses-requires
mark_losses-requires g c =
    let A = g.J.Rules.arena c.args.joint.now in
    let b = c.args.order.now in
    let m = c.judge_marked.new.order in
    let ready = c.requires.ready in
    let begins : Begins b.list m.list = (c.judge_marked.ensures.adds (is_listed A b.list) ready.kept).begins in
    let start = c.len-start.ensures.value in
    let same : m.before ≡ b.before = ap (λ (y : Board). y.before) c.judge_marked.ensures.rest in
    record {
      shaped = rw c.judge_marked.ensures.rest (record { pairs = ready.shaped.pairs; lanes = ready.shaped.lanes });
      begun = omega (arith, start, begins_length b.list m.list begins);
      kept = rw (start, begins, same) ready.kept;
    }

pub returns : goal.returns
returns g c =
    let A = g.J.Rules.arena c.args.joint.now in
    let n = g.J.Rules.lanes c.args.joint.now in
    let w = g.J.Rules.band c.args.joint.now in
    let b = c.args.order.now in
    let m = c.judge_marked.new.order in
    let d = c.mark_losses.new.order in
    let ready = c.requires.ready in
    let ok = c.known.ensures.numbered in
    let gone : ℕ → Bool = is_listed A b.list in
    let adds = c.judge_marked.ensures.adds gone ready.kept in
    let start = c.len-start.ensures.value in
    let same : d.list ≡ m.list = ap (λ (y : Board). y.list) c.mark_losses.ensures.rest in
    let begins : Begins b.list d.list = rw same adds.begins in
    let valid : IsOrder A d.list = rw same (adds.valid (λ p t. t) ready.valid) in
    let done : (p : ℕ) → p < length A.nodes → IsJudged A gone d.list p = rw same (λ p l off a.
    by_test (is_marked b (p / n / w)) (λ t. c.judge_marked.ensures.done gone p ready.kept l t off a) (λ f. ready.served p a l f (begins_unlisted A b.list m.list p adds.begins off))) in
    record {
      ready = record {
        shaped = rw (c.mark_losses.ensures.rest, c.judge_marked.ensures.rest) (record { pairs = ready.shaped.pairs; lanes = ready.shaped.lanes });
        valid = valid;
        kept = c.mark_losses.ensures.kept;
        fine = λ p l off. ready.fine p l (begins_unlisted A b.list d.list p begins off);
        served = served_next A ok n w b.list d begins (λ p q a k l i t off. c.mark_losses.ensures.marked p q a k l i t (rw (start, begins) off)) done;
      };
      goes_on = record { valid = valid; begins = begins; rest = search rules };
      only = λ q t. elim (adds.because q (rw same at t)) [ inl old ↦ inl old | inr (fell, marked) ↦ inr marked ];
      lost = λ k holds. rw same (lost_more A ok _ k b.list m.list adds (rw same at done) holds);
      settled = λ as_long.
          let all : d.list ≡ b.list = same_list b.list d.list begins as_long in
          rw all (settled_round A ok b.list ready.valid (rw all at done) ready.fine (λ p t. omega (arith, c.known-2.ensures.in_range p t, ready.shaped.pairs)));
      cost = search rules;
      steps = c.mark_losses.ensures.steps ∙ rw (c.judge_marked.ensures.rest, start) refl;
    }
