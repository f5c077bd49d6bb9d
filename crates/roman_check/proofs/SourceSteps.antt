-- Certificates that are taken from a source piece by piece.
use Rattle.roman_check.proofs.Common.{◌≡◌, ℕ, ◌+◌, ◌<◌, ◌≤◌, List, [], ◌∷◌, ◌++◌, length, take, drop, Option, Some, sym, ap, ◌∙◌, subst, arith, append_assoc, append-nil, length-append, length-take-le, None, length-drop, take-append-drop, take-take, take_at, length-take, Gave, EndsAt, GaveAtMost, IsAtEnd, Gave-then, gave_at_most, had_more, text_of_lines, ended_lines, Arena, MAX_CERTIFICATE_BYTES, Reader, Why, fault_of, IsAtFault, HasReached, ReadsPart, IsReading, faults, cert_verdict, ended_lines-text, ended_lines_last, faults_none, verdict_rejected, verdict_too_long, HaveVerdict, NoneAtFault}
use Rattle.roman_model.specs.Certificate as text

-- a source that gives nothing is at its end
pub at_end : (mid now : Option (List ℕ)) (into : List ℕ) (n : ℕ) → Gave mid now (take n into) → EndsAt mid n → n ≡ 0 → IsAtEnd now
at_end mid None into n gave ends none = tt
at_end None (Some new) into n gave ends none = absurd gave
at_end (Some old) (Some new) into n gave ends none = sym (gave ∙ ap (λ m. take m into ++ new) none) ∙ ends.0 none

-- after the limit at most one piece is taken
pub gave_within : (before mid now : Option (List ℕ)) (taken into : List ℕ) (count room : ℕ) → Gave before mid taken → Gave mid now (take count into) → count ≤ length into → length into ≡ 4096 → room + length taken ≡ MAX_CERTIFICATE_BYTES → GaveAtMost 268439552 before now
gave_within before mid now taken into count room first second bound piece left = gave_at_most 268439552 before mid now taken (take count into) first second (omega (arith, length-take-le count into bound))

-- A source that fails

-- the whole lines that are read are clean
ended_text : (A : Arena ℕ) (taken : List ℕ) (reader : Reader) (r : IsReading A taken reader) → ended_lines taken ≡ r.text
ended_text A taken reader r =
    ap ended_lines r.split.is ∙ ended_lines-text r.text r.partial r.split.whole ∙ ap (λ ls. r.text ++ ls) (ended_lines_last r.partial r.unended) ∙ append-nil r.text

pub failed_clean : (A : Arena ℕ) (before mid now : Option (List ℕ)) (taken : List ℕ) (reader : Reader) → IsReading A taken reader → Gave before mid taken → Gave mid now [] → NoneAtFault A before now
failed_clean A before mid now taken reader r first second = record {
  taken = taken;
  gave = subst (Gave before now) (append-nil taken) (Gave-then before mid now taken [] first second);
  none = ap (λ ls. faults A ls (length ls)) (ended_text A taken reader r) ∙ faults_none A r.text (length r.text) r.has.clean;
}

-- Pieces

-- the part of a piece that was read, of the first `due` bytes that were taken into `into`
pub first_part : (A : Arena ℕ) (lanes : ℕ) (old new : Reader) (into taken : List ℕ) (due to : ℕ) (fault : Option Why) → ReadsPart A lanes old new (take due into) 0 to fault → IsReading A taken old → HasReached A (taken ++ take to into) new fault
first_part A lanes old new into taken due to fault part r =
    subst (λ bs. HasReached A (taken ++ bs) new fault) (take-take to due into (omega (arith, part.high, length-take due into))) (part.reads taken (subst (λ bs. IsReading A bs old) (sym (append-nil taken)) r))

-- the bytes taken so far were read; then `count` bytes were taken into `into`, and those before a place were read; the verdict on the bytes that were read is that on all bytes
pub told : (A : Arena ℕ) (start : ℕ) (before mid now : Option (List ℕ)) (taken into : List ℕ) (count to : ℕ) (verdict : text.Verdict) → Gave before mid taken → Gave mid now (take count into) → to ≤ count → count ≤ length into →
    ((more : List ℕ) → length (taken ++ take to into) ≡ length taken + to → count ≤ to + length more → cert_verdict A start ((taken ++ take to into) ++ more) ≡ verdict) → HaveVerdict A start before verdict
told A start before mid now taken into count to verdict first second low bound judged =
    let got = take count into in
    let (after, had) = had_more before now (taken ++ got) (Gave-then before mid now taken got first second) in
    let more = drop to got ++ after in
    let cut : got ≡ take to into ++ drop to got = sym (take-append-drop to got) ∙ ap (λ bs. bs ++ drop to got) (take-take to count into low) in
    let whole : (taken ++ got) ++ after ≡ (taken ++ take to into) ++ more = ap (λ bs. (taken ++ bs) ++ after) cut ∙ simp append_assoc in
    record {
      bytes = (taken ++ got) ++ after;
      had = had;
      judged = ap (cert_verdict A start) whole ∙ judged more (omega (arith, length-append taken (take to into), length-take-le to into (omega arith)))
          (omega (arith, length-append (drop to got) after, length-drop to got, length-take-le count into bound));
    }

-- a line at fault ends within the limit
pub rejected_at : (A : Arena ℕ) (start : ℕ) (bytes more : List ℕ) (clean_lines : ℕ) (why : Why) → IsAtFault A bytes clean_lines why → length bytes ≤ MAX_CERTIFICATE_BYTES → cert_verdict A start (bytes ++ more) ≡ text.Rejected (clean_lines + 1) (fault_of why)
rejected_at A start bytes more clean_lines why at short =
    let lines = text_of_lines (at.text ++ at.line ∷ []) in
    verdict_rejected A start (bytes ++ more) at.text at.line (at.more ++ more) (fault_of why) (ap (λ bs. bs ++ more) at.split.is ∙ append_assoc lines at.more more) at.split.whole
    (omega (arith, ap length at.split.is, length-append lines at.more)) at.clean at.fault ∙ ap (λ m. text.Rejected (m + 1) (fault_of why)) (sym at.counted)

-- the limit is passed, and no line that ends within it is at fault
pub passed_limit : (A : Arena ℕ) (start : ℕ) (bytes more : List ℕ) (reader : Reader) → IsReading A bytes reader → length bytes ≡ MAX_CERTIFICATE_BYTES → 0 < length more → cert_verdict A start (bytes ++ more) ≡ text.TooLong
passed_limit A start bytes more reader r full some =
    verdict_too_long A start (bytes ++ more) r.text (omega (arith, length-append bytes more)) (ap ended_lines (take_at bytes more MAX_CERTIFICATE_BYTES full) ∙ ended_text A bytes reader r) r.has.clean
