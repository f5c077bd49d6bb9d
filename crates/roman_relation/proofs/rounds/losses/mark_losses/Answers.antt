use Rattle.roman_relation.proofs.Common.{◌≡◌, ◌+◌, ◌*◌, [], ◌++◌, length, take, drop, refl, sym, ap, ◌∙◌, subst, arith, ◌==◌, moves_noted, has_band, IsDistinct, nodes_of, as_entry, Board, set_lanes, fall_append, in_append_left, IsIn, entries_at, length-entries_at, drop_all, length-take, take-length, take-append_seam}
use Rattle.roman_relation.proofs.Losses.{batch_listed, in_entries}
use Rattle.roman_relation.proofs.Noting.{IsReached, kept_ends, more_new, new_band, none_moves, other_band, own_band, passed_unkept}
use Rattle.roman_relation.proofs.Pushing.{entry_new}
use Rattle.roman_relation.proofs.rounds.losses.mark_losses.Goals as goal

pub losses-init : goal.losses-init
losses-init g c =
    let b = c.args.order.now in
    let A = g.J.Rules.arena c.args.joint.now in
    let nothing = none_moves A (g.J.Rules.lanes c.args.joint.now) (g.J.Rules.band c.args.joint.now) (g.J.Rules.mid c.args.joint.now) b.rows in
    let none : drop c.args.start (take c.args.start b.list) ≡ [] = drop_all c.args.start (take c.args.start b.list) (omega (arith, length-take c.args.start b.list)) in
    record {
      start = omega arith;
      within = omega (arith, c.requires.begun, c.len-end.ensures.value);
      rest = refl;
      reached = rw none (record {
        noted = record { fresh = λ row l on. cc; stale = λ row l off. c.requires.kept.each row (omega (arith, l, c.known-2.ensures.before)); marked = λ p q a k l on. cc };
        spent = omega (arith, nothing);
        cost = omega arith;
      });
    }

pub mark_batch-requires-clause-listed : goal.mark_batch-requires-clause-listed
mark_batch-requires-clause-listed g c lane on = grind (arith, batch_listed)

pub losses-preserved : goal.losses-preserved
losses-preserved g c =
    let A = g.J.Rules.arena c.args.joint.now in
    let n = g.J.Rules.lanes c.args.joint.now in
    let w = g.J.Rules.band c.args.joint.now in
    let mid = g.J.Rules.mid c.args.joint.now in
    let start = c.args.start in
    let b = c.args.order.now in
    let d = c.losses.order in
    let i = c.losses.i in
    let e = c.batch_at-batch.result in
    let new = c.mark_batch.new.order in
    let j = i + c.len.result in
    let M = entries_at n e in
    let inv = c.losses.invariant in
    let rest = c.mark_batch.ensures.rest ∙ ap (λ (y : Board). record y { marks = new.marks; before = new.before }) inv.rest in
    let old : d.list ≡ b.list = ap (λ (y : Board). y.list) inv.rest in
    let list : new.list ≡ d.list = ap (λ (y : Board). y.list) c.mark_batch.ensures.rest in
    let distinct : IsDistinct (λ p q. p == q) (nodes_of d.list) = rw old c.known-2.ensures.distinct in
    let lanes : d.lanes ≡ n = ap (λ (y : Board). y.lanes) inv.rest ∙ c.requires.shaped.lanes in
    let batch = rw lanes at c.batch_at-batch.ensures.batch in
    let L = drop start (take i d.list) in
    let R = drop (i + length (set_lanes e.lanes)) d.list in
    let entries : drop i d.list ≡ M ++ R = rw lanes at c.batch_at-batch.ensures.entries in
    let long : c.len.result ≡ length M = c.len.ensures ∙ sym (length-entries_at n e) in
    let here : take c.len.result (drop i d.list) ≡ M = rw (long, entries) (take-append_seam M R) in
    let upto : drop start (take j new.list) ≡ L ++ M = rw list (more_new d.list start i c.len.result inv.start (omega (arith, c.batch_at-batch.ensures.within)) ∙ ap (λ N. L ++ N) here) in
    let (noted, moved) = c.mark_batch.ensures.noted start (has_band n w L) (has_band n w (L ++ M)) inv.reached.noted
    (λ lane on. entry_new A c.known.ensures.numbered d.list start i (as_entry (e.row * n + lane, e.reason)) distinct inv.start
    (subst (IsIn _) (sym entries) (in_append_left _ M R (in_entries n e.row e.lanes lane e.reason (omega (arith, batch.within lane on, c.known.ensures.lanes.1)) on))))
    (own_band n w L e batch) (λ z ne. other_band n w z L e batch ne) in
    let reached : IsReached A n w mid start c.args.steps.now c.mark_batch.new.steps (L ++ M) new = record {
      noted = noted;
      spent = omega (arith, inv.reached.spent, moved, ap (λ k. moves_noted A n w mid k (has_band n w (L ++ M))) (ap (λ (y : Board). y.rows) c.mark_batch.ensures.rest));
      cost = omega (arith, inv.reached.cost, c.mark_batch.ensures.cost, fall_append A L M);
    } in
    record {
      start = omega (arith, inv.start, c.next_loss-next.ensures.from);
      within = omega (arith, c.next_loss-next.ensures.to, c.len-end.ensures.value, ap length list, ap length old);
      rest = rest;
      reached = passed_unkept A n w mid start _ _ j _ new c.known.ensures.numbered (rw list distinct) (rw rest c.requires.shaped.lanes) c.known.ensures.lanes.0 (rw rest c.known-2.ensures.in_range) (omega (arith, inv.start)) c.next_loss-next.ensures (rw upto reached);
    }

pub returns : goal.returns
returns g c =
    let A = g.J.Rules.arena c.args.joint.now in
    let n = g.J.Rules.lanes c.args.joint.now in
    let w = g.J.Rules.band c.args.joint.now in
    let mid = g.J.Rules.mid c.args.joint.now in
    let start = c.args.start in
    let d = c.losses.order in
    let inv = c.losses.invariant in
    let end : c.losses.i ≡ length d.list = omega (arith, c.losses-test.false, inv.within, c.len-end.ensures.value, ap (λ (y : Board). length y.list) inv.rest) in
    let all : take c.losses.i d.list ≡ d.list = rw end (take-length d.list) in
    let reached : IsReached A n w mid start c.args.steps.now c.losses.steps (drop start d.list) d = rw all at inv.reached in
    record {
      kept = kept_ends A c.known.ensures.numbered n w start d c.known-3.ensures.before reached.noted;
      marked = λ p q a k l i t off. reached.noted.marked p q a k l (new_band A c.known.ensures.numbered n w start d.list q t off) i;
      rest = inv.rest;
      cost = reached.cost;
      steps = reached.spent ∙ ap (λ (y : Board). c.args.steps.now + moves_noted A n w mid y.rows (has_band n w (drop start d.list))) inv.rest;
    }
