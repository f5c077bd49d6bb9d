use Rattle.roman_opening.specs.declared.status.Status.TheVariants as status
use Rattle.roman_top.proofs.Common.{ℕ, Err, false, refl, sym, ap, ◌∙◌, subst, limit_line, MAX_VALUES, sizes_of, pair_at, system_of, Told, advice_text, advised_by, Advising, line_text, SaysAdvice}
use Rattle.roman_text.specs.declared.report.ReportLine.TheVariants as line
use Rattle.roman_top.proofs.AdviseLemmas.{told_related, advised_unrelated, advised_many, advised_told, few_values}
use Rattle.roman_top.proofs.OpeningLemmas.{says_ends}
use Rattle.roman_top.proofs.advise.tell_relation.Goals as goal

pub returns-then-not-related : goal.returns-then-not-related
returns-then-not-related g c =
    let n = c.args.relation.now.joint in
    let s = system_of n in
    let p = pair_at (sizes_of s) c.args.start in
    let told = told_related s c.args.start _ c.known.ensures.system c.requires.start (c.if-not-related.ensures.great c.requires.relation.complete) in
    let none = advised_unrelated n c.args.costs.now.listed c.args.requests.count p (sym told) in
    says_ends (SaysAdvice (advised_by n c.args.costs.now.listed c.args.requests.count p)) _ _ _ _ (line_text (line.Answer false)) status.No c.finish.result c.put_unrelated.result tt
    (subst (λ (advising : Advising). SaysAdvice advising (line_text (line.Answer false)) status.No) (sym none) (refl, refl))
    c.put_unrelated.ensures.puts c.put_unrelated.ensures.cause c.finish.ensures

pub returns-in-Ok : goal.returns-in-Ok
returns-in-Ok g c =
    let n = c.args.relation.now.joint in
    let s = system_of n in
    let p = pair_at (sizes_of s) c.args.start in
    let told = told_related s c.args.start _ c.known.ensures.system c.requires.start (c.if-not-related.ensures.great c.requires.relation.complete) in
    let few = few_values s c.args.requests.count c.build.result (λ e. let f : ⊥ = cc in f) c.build.ensures.limit in
    let advice = advised_told n c.args.costs.now.listed c.args.requests.count p (sym told) few ∙ ap (λ (h : ℕ). Told (advice_text n c.args.costs.now.listed h p)) (sym c.in-Ok.ensures.requests) in
    let text = advice_text n c.args.costs.now.listed c.in-Ok.advice.requests p in
    says_ends (SaysAdvice (advised_by n c.args.costs.now.listed c.args.requests.count p)) _ _ _ _ text status.Done c.finish-in-Ok.result c.put_advice.result tt
    (subst (λ (advising : Advising). SaysAdvice advising text status.Done) (sym advice) (refl, refl))
    c.put_advice.ensures.puts c.put_advice.ensures.cause c.finish-in-Ok.ensures

pub put_advice-requires-clause-known : goal.put_advice-requires-clause-known
put_advice-requires-clause-known g c = record {
  complete = c.requires.relation;
  priced = c.requires.costs;
  advises = c.in-Ok.ensures.advises;
  pair = c.requires.start;
  related = sym (told_related (system_of c.args.relation.now.joint) c.args.start _ c.known.ensures.system c.requires.start (c.if-not-related.ensures.great c.requires.relation.complete));
}

pub returns-in-Err-Limit : goal.returns-in-Err-Limit
returns-in-Err-Limit g c =
    let n = c.args.relation.now.joint in
    let s = system_of n in
    let p = pair_at (sizes_of s) c.args.start in
    let told = told_related s c.args.start _ c.known.ensures.system c.requires.start (c.if-not-related.ensures.great c.requires.relation.complete) in
    let many = c.build.ensures.limit.0 (c.in-Err-Limit.is ∙ ap Err c.in-Err-Limit.field-0-is) in
    let past = advised_many n c.args.costs.now.listed c.args.requests.count p (sym told) many in
    says_ends (SaysAdvice (advised_by n c.args.costs.now.listed c.args.requests.count p)) _ _ _ _ (limit_line MAX_VALUES) status.Limit c.finish-in-Err-Limit.result c.put_limit.result tt
    (subst (λ (advising : Advising). SaysAdvice advising (limit_line MAX_VALUES) status.Limit) (sym past) (refl, refl))
    c.put_limit.ensures.puts c.put_limit.ensures.cause c.finish-in-Err-Limit.ensures
