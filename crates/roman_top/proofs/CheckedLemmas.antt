-- A certificate that `check` accepts lists exactly the pairs that aren't related, and each such certificate is accepted.
use Rattle.roman_top.proofs.Common.{◌≡◌, ℕ, ◌<◌, Bool, List, [], ◌∷◌, map, inl, inr, refl, sym, ap, ◌∙◌, subst, filter_map, lines, Sys, Pair, IsSys, IsPair, Entry, IsComplete, AreEntries, Verdict, Greatest, Rejected, TooLong, cert_text, cert_verdict, IsWithinCells, GreatestIsComplete, entries_on, entry_of, greatest, is_related, related_count, sizes_of, count, number, pair_at, numbered, entry_at, IsCompleteList, from_map, length-pairs, length-below, numbers_are_pairs, map-map, related_great, great_related, written_is_greatest, ListsUnrelated, numbered_entry, CertifiesUnrelated, SaysVerdict, greatest_text, Status, TellsGreatest, certified_entries, JudgesCertificate, related_counted}
use Rattle.roman_top.proofs.CertifiedLemmas.{lists_unrelated, complete_from}

-- Numbers.

pairs_back : (s : Sys) (L : List (Entry Pair)) → AreEntries s L → map (entry_at s) (map (numbered_entry s) L) ≡ L
pairs_back s L are = map-map (entry_at s) (numbered_entry s) L ∙ each L are
  where
    each : (M : List (Entry Pair)) → AreEntries s M → map (λ x. entry_at s (numbered_entry s x)) M ≡ M
    each [] are = refl
    each (x ∷ M) are =
        ap (λ (p : Pair). record { node = p; reason = x.reason } ∷ map (λ x. entry_at s (numbered_entry s x)) M) ((numbers_are_pairs s).back x.node (are x (inl refl)))
        ∙ ap (λ (ys : List (Entry Pair)). x ∷ ys) (each M (λ y i. are y (inr i)))

-- a certificate of exactly the pairs that aren't related has the verdict Greatest
certified_verdict : (s : Sys) (start : ℕ) (certificate : List ℕ) → IsSys s → IsWithinCells s → start < count (sizes_of s) → CertifiesUnrelated s certificate → cert_verdict (numbered s) start certificate ≡ greatest s start
certified_verdict s start certificate ok few within certifies =
    let complete : IsComplete s certifies.entries = complete_from s certifies.entries ok certifies.lists in
    let listed : IsCompleteList s (map (numbered_entry s) certifies.entries) = subst (IsComplete s) (sym (pairs_back s certifies.entries complete.pairs)) complete in
    ap (cert_verdict (numbered s) start) (certifies.says ∙ ap (λ n. cert_text n (map (numbered_entry s) certifies.entries)) (length-pairs s))
    ∙ written_is_greatest s start (map (numbered_entry s) certifies.entries) ok few within (λ x i.
    let (y, j, e) = from_map (numbered_entry s) x certifies.entries i in
    subst (λ (z : Entry ℕ). z.node < count (sizes_of s)) (sym e) ((numbers_are_pairs s).below y.node (complete.pairs y j))) listed

-- Verdicts.

-- the entries with the numbers of their pairs
entries_read : (s : Sys) (certificate : List ℕ) → map (entry_at s) (entries_on (numbered s) (lines certificate)) ≡ certified_entries s certificate
entries_read s certificate =
    ap (λ n. map (entry_at s) (filter_map (entry_of n s.env.actions) (lines certificate))) (length-below (count (sizes_of s)) ∙ sym (length-pairs s))

-- the text for an accepted certificate counts the related pairs
accepted_tells : GreatestIsComplete → (s : Sys) (p : Pair) (certificate : List ℕ) (related : ℕ) (starts : Bool) (text : List ℕ) → IsSys s → IsWithinCells s → IsPair s p →
    cert_verdict (numbered s) (number (sizes_of s) p) certificate ≡ Greatest related starts → text ≡ greatest_text related starts → ListsUnrelated s (certified_entries s certificate) × TellsGreatest s p text
accepted_tells law s p certificate related starts text ok few pair verdict says =
    let accepted = law s (number (sizes_of s) p) certificate related starts ok few ((numbers_are_pairs s).below p pair) verdict in
    let back : pair_at (sizes_of s) (number (sizes_of s) p) ≡ p = (numbers_are_pairs s).back p pair in
    let same : starts ≡ is_related s p = ap start_of accepted.said ∙ ap (is_related s) back in (
      subst (ListsUnrelated s) (entries_read s certificate) (lists_unrelated s (map (entry_at s) (entries_on (numbered s) (lines certificate))) ok accepted.complete),
      record {
        related = related_count s;
        great = related_counted s ok;
        starts = starts;
        start = (λ t. related_great s p ok pair (sym same ∙ t), λ great. same ∙ great_related s p ok great);
        says = says ∙ ap (λ n. greatest_text n starts) (ap related_of accepted.said);
      },
    )
  where
    related_of : Verdict → ℕ
    related_of (Greatest related starts) = related
    related_of (Rejected line why) = 0
    related_of TooLong = 0

    start_of : Verdict → Bool
    start_of (Greatest related starts) = starts
    start_of (Rejected line why) = is_related s p
    start_of TooLong = is_related s p

-- the meaning of a verdict, if each certificate of exactly the pairs that aren't related has the verdict `greatest`
judges : GreatestIsComplete → (s : Sys) (p : Pair) (certificate text : List ℕ) (result : Status) (verdict : Verdict) → IsSys s → IsWithinCells s → IsPair s p →
    cert_verdict (numbered s) (number (sizes_of s) p) certificate ≡ verdict → (CertifiesUnrelated s certificate → verdict ≡ greatest s (number (sizes_of s) p)) → SaysVerdict verdict text result → JudgesCertificate s p certificate text result
judges law s p certificate text result (Greatest related starts) ok few pair is only (says, done) = record {
  accepted = λ there. accepted_tells law s p certificate related starts text ok few pair is says;
  accepts = λ certifies. done;
  others = λ other. absurd (other done);
}
judges law s p certificate text result (Rejected line why) ok few pair is only (says, rejects) = record {
  accepted = λ done. absurd (let e : ⊥ = cc in e);
  accepts = λ certifies. let verdict = only certifies in absurd (let e : ⊥ = cc in e);
  others = λ other. inl (line, why, says, rejects);
}
judges law s p certificate text result TooLong ok few pair is only (says, long) = record {
  accepted = λ done. absurd (let e : ⊥ = cc in e);
  accepts = λ certifies. let verdict = only certifies in absurd (let e : ⊥ = cc in e);
  others = λ other. inr (says, long);
}

pub judges_certificate : GreatestIsComplete → (s : Sys) (p : Pair) (certificate text : List ℕ) (result : Status) → IsSys s → IsWithinCells s → IsPair s p →
    SaysVerdict (cert_verdict (numbered s) (number (sizes_of s) p) certificate) text result → JudgesCertificate s p certificate text result
judges_certificate law s p certificate text result ok few pair says =
    judges law s p certificate text result (cert_verdict (numbered s) (number (sizes_of s) p) certificate) ok few pair refl (certified_verdict s (number (sizes_of s) p) certificate ok few ((numbers_are_pairs s).below p pair)) says
