-- The text of `advise` is right by the greatest ND-simulation and by plans.
use Rattle.roman_top.proofs.Common.{ℕ, List, sym, subst, arith, Texts, Pair, IsSys, IsPair, is_related, related_count, by_test, related_great, great_related, NamedSys, system_of, PlainLibrary, parts_of, start_pair_of, Advising, advised_by, Listed, SaysAdvice, DoesAdvise, Status, TellsLeast, seat_costs, advice_least, AdvisesBy, FulfilsAdvise, related_counted}
use Rattle.roman_top.proofs.AdviseLemmas.{advised_unrelated, advised_many, advised_told}

-- the text by accepted costs keeps its promise
advises_by : (n : NamedSys) (listed : List Listed) (requests : ℕ) (p : Pair) (text : List ℕ) (result : Status) → IsSys (system_of n) → IsPair (system_of n) p →
    SaysAdvice (advised_by n listed requests p) text result → AdvisesBy n listed requests p text result
advises_by n listed requests p text result ok pair says = record {
  related = related_count (system_of n);
  great = related_counted (system_of n) ok;
  unrelated = λ unrelated. subst (λ (a : Advising). SaysAdvice a text result)
      (advised_unrelated n listed requests p (by_test (is_related (system_of n) p) (λ t. absurd (unrelated (related_great (system_of n) p ok pair t))) (λ f. f))) says;
  many = λ great more. subst (λ (a : Advising). SaysAdvice a text result) (advised_many n listed requests p (great_related (system_of n) p ok great) more) says;
  told = λ great few.
      let told = subst (λ (a : Advising). SaysAdvice a text result) (advised_told n listed requests p (great_related (system_of n) p ok great) few) says in
      (subst (TellsLeast n (seat_costs n listed) requests p) (sym told.0) (advice_least n listed requests p ok pair great), told.1);
}

pub fulfils_advice : (costs : List ℕ) (requests : ℕ) (texts : Texts) (library : PlainLibrary) (text : List ℕ) (result : Status) →
    IsSys (system_of (parts_of library)) → IsPair (system_of (parts_of library)) (start_pair_of library) → DoesAdvise costs requests texts library text result → FulfilsAdvise costs requests texts library text result
fulfils_advice costs requests texts library text result ok pair gives = grind (arith, advises_by)
