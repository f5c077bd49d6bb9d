-- The check of a certificate, as part of a run.
use Rattle.roman_top.proofs.Common.{◌≡◌, ℕ, List, [], Option, None, Some, IfSome, sym, ap, ap₂, ◌∙◌, subst, Texts, shelf_text, rest_from, number, sizes_of, numbered, Verdict, cert_verdict, NamedSys, system_of, IsSeated, Seated, Check, Accepts, document_opening, library_system, OnOpening, start_pair_of, JobDoes, SaysVerdict, Status, Arena, HaveVerdict, on_accepted}
use Rattle.roman_top.proofs.OpeningLemmas.{text_source}

-- the verdict on the bytes of a source is the verdict on the shelf's text with which it began
pub found : (A : Arena ℕ) (start : ℕ) (told given : Option Texts) (name given_name : List ℕ) (at : ℕ) (verdict : Verdict) → given ≡ told → given_name ≡ name → at ≡ 0 → HaveVerdict A start (rest_from given given_name at) verdict →
    IfSome told (λ texts. cert_verdict A start (shelf_text texts name) ≡ verdict)
found A start told given name given_name at verdict same_texts same_name at_start have =
    of_text told (subst (λ (rest : Option (List ℕ)). HaveVerdict A start rest verdict) (text_source told given name given_name at same_texts same_name at_start) have)
  where
    of_text : (told : Option Texts) → HaveVerdict A start (rest_from told name 0) verdict → IfSome told (λ texts. cert_verdict A start (shelf_text texts name) ≡ verdict)
    of_text None have = tt
    of_text (Some texts) have = ap (cert_verdict A start) have.had ∙ have.judged

-- the verdict on the certificate is the verdict of the run
pub judged : (texts : Texts) (system name : List ℕ) (seated : Seated) (verdict : Verdict) (text : List ℕ) (ends : Status) → Accepts system texts (λ library. IsSeated library seated) →
    cert_verdict (numbered (system_of seated.joint)) seated.start (shelf_text texts name) ≡ verdict → SaysVerdict verdict text ends → OnOpening (JobDoes (Check name) texts []) (document_opening texts system) text ends
judged texts system name seated verdict text ends accepts finds says =
    let library = accepts.library in
    let same : cert_verdict (numbered (library_system library)) (number (sizes_of (library_system library)) (start_pair_of library)) (shelf_text texts name) ≡ verdict =
    ap₂ (λ (n : NamedSys) (start : ℕ). cert_verdict (numbered (system_of n)) start (shelf_text texts name)) (sym accepts.holds.parts) (sym accepts.holds.start) ∙ finds in
    on_accepted (JobDoes (Check name) texts []) (document_opening texts system) library text ends accepts.accepted (subst (λ (v : Verdict). SaysVerdict v text ends) (sym same) says)
