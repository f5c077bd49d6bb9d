-- Writing advice by accepted costs as part of a run.
use Rattle.roman_top.proofs.Common.{◌≡◌, ◌≢◌, ◌↔◌, ℕ, ◌*◌, ◌<◌, ◌≤◌, Bool, IsTrue, IsFalse, List, [], Result, Ok, Err, refl, sym, subst, arith, cond-true, cond-false, lt-ltb, cases_lt, le-ltb, Texts, Sys, Pair, IsSys, sizes_of, count, pair_at, is_related, related_count, by_test, related_great, great_related, numbers_are_pairs, same_test, NamedSys, system_of, PlainLibrary, IsSeated, Seated, Advising, Unrelated, TooMany, Told, advice_text, advised_by, Listed, SaysAdvice, DoesAdvise, OnCosts, Affords, Advise, IsAnswered, Accepts, document_opening, OnOpening, JobDoes, Status, PartError, Great, costs_of, AdviceError, MAX_VALUES, on_accepted, seated_start}
use Rattle.roman_cost.specs.declared.error.AdviceError.TheVariants as advice_error
use Rattle.roman_top.proofs.OpeningLemmas.{at_start}

-- ---- the result of a request for advice

-- a flag that is true exactly for a related pair equals `is_related`
pub told_related : (s : Sys) (p : ℕ) (told : Bool) → IsSys s → p < count (sizes_of s) → (IsTrue told ↔ Great s (pair_at (sizes_of s) p)) → told ≡ is_related s (pair_at (sizes_of s) p)
told_related s p told ok l great =
    let P = pair_at (sizes_of s) p in
    same_test told (is_related s P) (λ t. great_related s P ok (great.0 t)) (λ t. great.1 (related_great s P ok ((numbers_are_pairs s).pair p l) t))

pub advised_unrelated : (n : NamedSys) (listed : List Listed) (h : ℕ) (p : Pair) → IsFalse (is_related (system_of n) p) → advised_by n listed h p ≡ Unrelated
advised_unrelated n listed h p unrelated = cond-false (is_related (system_of n) p) _ Unrelated unrelated

pub advised_many : (n : NamedSys) (listed : List Listed) (h : ℕ) (p : Pair) → IsTrue (is_related (system_of n) p) → MAX_VALUES < related_count (system_of n) * h → advised_by n listed h p ≡ TooMany
advised_many n listed h p related many = grind (arith, cond-true, lt-ltb)

pub advised_told : (n : NamedSys) (listed : List Listed) (h : ℕ) (p : Pair) → IsTrue (is_related (system_of n) p) → related_count (system_of n) * h ≤ MAX_VALUES → advised_by n listed h p ≡ Told (advice_text n listed h p)
advised_told n listed h p related few = grind (arith, cond-false, cond-true, le-ltb)

-- if building the advice doesn't fail with `Limit`, the values are within the limit
pub few_values : {X : Type 0} (s : Sys) (h : ℕ) (built : Result X AdviceError) → (built ≡ Err advice_error.Limit → ⊥) → ((built ≡ Err advice_error.Limit) ↔ (MAX_VALUES < related_count s * h)) → related_count s * h ≤ MAX_VALUES
few_values s h built other limit = grind (arith, cases_lt)

-- ---- the whole command

-- the line that refuses costs ends each work by them
pub costs_refused : (name : List ℕ) (Work : List Listed → List ℕ → Status → Type 0) (reading : Result (List Listed) PartError) (text : List ℕ) (ends : Status) → OnCosts name (λ listed out result. ⊥) reading text ends → OnCosts name Work reading text ends
costs_refused name Work (Ok listed) text ends refused = absurd refused
costs_refused name Work (Err error) text ends refused = refused

-- the advice on the system of an accepted document is a run
pub advised : (texts : Texts) (system name : List ℕ) (requests : ℕ) (seated : Seated) (text : List ℕ) (ends : Status) → Accepts system texts (λ library. IsSeated library seated) →
    OnCosts name (λ listed. SaysAdvice (advised_by seated.joint listed requests (pair_at (sizes_of (system_of seated.joint)) seated.start))) (costs_of texts name seated.joint) text ends →
    OnOpening (JobDoes (Advise name requests) texts []) (document_opening texts system) text ends
advised texts system name requests seated text ends accepts says =
    on_accepted (JobDoes (Advise name requests) texts []) (document_opening texts system) accepts.library text ends accepts.accepted
    (at_start (λ (n : NamedSys) (p : Pair). OnCosts name (λ listed. SaysAdvice (advised_by n listed requests p)) (costs_of texts name n) text ends) seated.joint seated.start accepts.library
    accepts.holds.parts (seated_start accepts.library seated accepts.holds) says)

-- ---- conditions of an answer

-- advice is answered if the values aren't too many
advising_answered : (advising : Advising) (text : List ℕ) (result : Status) → advising ≢ TooMany → SaysAdvice advising text result → IsAnswered result
advising_answered Unrelated text result few says = subst IsAnswered (sym says.1) tt
advising_answered TooMany text result few says = absurd (few refl)
advising_answered (Told told) text result few says = subst IsAnswered (sym says.1) tt

-- values within the limit aren't too many
few_advised : (n : NamedSys) (listed : List Listed) (h : ℕ) (p : Pair) → related_count (system_of n) * h ≤ MAX_VALUES → advised_by n listed h p ≢ TooMany
few_advised n listed h p few many = grind (arith, advised_told, advised_unrelated, by_test)

-- advice is answered if the costs are accepted and the values are within the limit
pub advice_answered : (name : List ℕ) (requests : ℕ) (texts : Texts) (library : PlainLibrary) (text : List ℕ) (result : Status) → Affords name requests texts library → DoesAdvise name requests texts library text result → IsAnswered result
advice_answered name requests texts library text result affords gives = grind (arith, advising_answered, few_advised)
