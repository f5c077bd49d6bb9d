use Rattle.roman_repair.proofs.Common.{◌≡◌, [], ◌++◌, refl, sym, ap, ap₂, ◌∙◌, subst, arith, IsIn, sizes_of, in_append_left, in_append_right, system_of, lanes_in, Board, entries_at, IsBatch, listed_numbers, list_with, Renames}
use Rattle.roman_repair.proofs.DeathEntries.{renames_both, renames_front}
use Rattle.roman_repair.proofs.dying.renaming.rename_list.Goals as goal

pub waiting-init : goal.waiting-init
waiting-init c =
    let list : c.reopen.new.self.list ≡ [] = ap (λ (x : Board). x.list) c.reopen.ensures.moved in
    let waiting : c.reopen.new.self.waiting ≡ c.args.order.now.list = ap (λ (x : Board). x.waiting) c.reopen.ensures.moved in
    record {
      renamed = record { list = λ seat seated. ap₂ (list_with (sizes_of (system_of c.args.joint.now)) c.args.k seat) list waiting };
      waiting = λ x i. listed_numbers (system_of c.args.joint.now) c.args.order.now c.requires.shaped.pairs c.known-2.ensures.in_range x (subst (λ W. IsIn x W) waiting i);
      rest = refl;
    }

pub rename_row-requires-clause-within : goal.rename_row-requires-clause-within
rename_row-requires-clause-within c =
    let wide = ap (λ (b : Board). b.waiting_lanes) c.waiting.invariant.rest ∙ ap (λ (b : Board). b.waiting_lanes) c.reopen.ensures.moved ∙ c.requires.shaped.lanes in
    let e = c.in-Some.batch in
    record {
      batch = subst (λ m. IsBatch m e) wide c.in-Some.ensures.batch;
      nodes = λ x i. c.waiting.invariant.waiting x (subst (IsIn x) (sym c.in-Some.ensures.first) (in_append_left x (entries_at c.waiting.order.waiting_lanes e) c.next_waiting_batch.new.self.waiting (subst (λ m. IsIn x (entries_at m e)) (sym wide) i)));
    }

pub rename_row-requires-clause-ready : goal.rename_row-requires-clause-ready
rename_row-requires-clause-ready c = record { seat = c.requires.seat; shaped = grind arith; lanes = grind arith }

pub waiting-preserved : goal.waiting-preserved
waiting-preserved c =
    let n = lanes_in (system_of c.args.joint.now) in
    let e = c.in-Some.batch in
    let new = c.rename_row.new.order in
    let wide = ap (λ (b : Board). b.waiting_lanes) c.waiting.invariant.rest ∙ ap (λ (b : Board). b.waiting_lanes) c.reopen.ensures.moved ∙ c.requires.shaped.lanes in
    let first : c.waiting.order.waiting ≡ entries_at n e ++ new.waiting = c.in-Some.ensures.first ∙ ap₂ (λ m W. entries_at m e ++ W) wide (sym (ap (λ (y : Board). y.waiting) c.rename_row.ensures.rest)) in
    let same = ap (λ (y : Board). y.list) c.next_waiting_batch.ensures.rest in
    record {
      renamed = renames_both _ _ _ _ _ _ _ _ c.waiting.invariant.renamed (renames_front _ _ _ _ _ _ _ first (subst (λ K. Renames (system_of c.args.joint.now) c.args.k (entries_at n e) [] K new.list) same c.rename_row.ensures.list));
      waiting = λ y i. c.waiting.invariant.waiting y (subst (IsIn y) (sym first) (in_append_right y (entries_at n e) new.waiting i));
      rest = grind arith;
    }
