use Rattle.roman_top.proofs.Common.{List, Listed, Advise, SaysAdvice, OnCosts, advised_by, costs_of, pair_at, sizes_of, system_of}
use Rattle.roman_top.proofs.AdviseLemmas.{advised, costs_refused}
use Rattle.roman_top.proofs.OpeningLemmas.{opened_both, work_does}
use Rattle.roman_top.proofs.advise.advise.Goals as goal

pub returns-in-Ok-open_costs : goal.returns-in-Ok-open_costs
returns-in-Ok-open_costs g c =
    let seated = c.in-Ok.seated in
    let read = c.in-Ok-open_costs.read in
    let n = c.args.requests.count in
    work_does _ read (λ texts. SaysAdvice (advised_by seated.joint read.listed n (pair_at (sizes_of (system_of seated.joint)) seated.start))) c.args.system.now (Advise c.args.costs.now n) _ _ _ c.tell_costs.result
    (opened_both _ _ seated read _ _ _ c.in-Ok.ensures.opens c.in-Ok-open_costs.ensures.opens)
    (λ texts is text ends says. advised texts c.args.system.now c.args.costs.now n seated text ends is.0 (rw is.1 says)) (c.tell_costs.ensures.ends _ _)

pub returns-in-Err-open_costs : goal.returns-in-Err-open_costs
returns-in-Err-open_costs g c =
    let seated = c.in-Ok.seated in
    let name = c.args.costs.now in
    let work = λ (listed : List Listed). SaysAdvice (advised_by seated.joint listed c.args.requests.count (pair_at (sizes_of (system_of seated.joint)) seated.start)) in
    work_does _ seated (λ texts. OnCosts name (λ listed out result. ⊥) (costs_of texts name seated.joint)) c.args.system.now (Advise name c.args.requests.count) _ _ _ c.in-Err-open_costs.status c.in-Ok.ensures.opens
    (λ texts accepts text ends away. advised texts c.args.system.now name c.args.requests.count seated text ends accepts (costs_refused name work (costs_of texts name seated.joint) text ends away)) c.in-Err-open_costs.ensures.opens.ends
