-- The definitions of certificates and explanations, computed for one small system.
use Rattle.roman_laws.proofs.Common.{◌≡◌, ℕ, false, List, [], ◌∷◌, ◌++◌, length, refl, codes, Pair, Entry, Final, Act, digits, numbered, Verdict, Form, Repeated, Unjustified, Unlisted, Greatest, Rejected, cert_text, cert_verdict, Names, explain_text}
use Rattle.roman_laws.proofs.Examples.{flaky_system, pair_of}

abbrev order : List (Entry ℕ)
order =
    record { node = 1; reason = Final } ∷ record { node = 2; reason = Act 0 } ∷ record { node = 3; reason = Act 1 } ∷ record { node = 5; reason = Act 1 }
    ∷ record { node = 0; reason = Act 0 } ∷ record { node = 4; reason = Act 1 } ∷ []

written : cert_text 6 order ≡ codes "roman-order 1\npairs 6\n1 f\n2 0\n3 1\n5 1\n0 0\n4 1\nend\n"
unfolding digits
written = refl

-- the verdict on a text that begins with the two first lines
abbrev Says : List ℕ → Verdict → Type 0
Says lines verdict = cert_verdict (numbered flaky_system) 0 (codes "roman-order 1\npairs 6\n" ++ lines) ≡ verdict

-- the verdicts on the list, on it with two of its entries exchanged, without an entry, without its end, with an entry twice, without the last newline, and with a line after its end
orders_are_judged :
    Says (codes "1 f\n2 0\n3 1\n5 1\n0 0\n4 1\nend\n") (Greatest 0 false)
    × Says (codes "1 f\n2 0\n3 1\n0 0\n5 1\n4 1\nend\n") (Rejected 6 Unjustified)
    × Says (codes "1 f\n2 0\n3 1\n5 1\n0 0\nend\n") (Rejected 8 (Unlisted 4))
    × Says (codes "1 f\n2 0\n3 1\n5 1\n0 0\n4 1\n") (Rejected 9 Form)
    × Says (codes "1 f\n1 f\n2 0\n3 1\n5 1\n0 0\n4 1\nend\n") (Rejected 4 Repeated)
    × Says (codes "1 f\n2 0\n3 1\n5 1\n0 0\n4 1\nend") (Greatest 0 false)
    × Says (codes "1 f\n2 0\n3 1\n5 1\n0 0\n4 1\nend\n\n") (Rejected 10 Form)
unfolding digits
orders_are_judged = (refl, refl, refl, refl, refl, refl, refl)

-- the verdicts on a leading zero, a number out of range, and an action that isn't allowed
entries_are_judged : Says (codes "01 f\n") (Rejected 3 Form) × Says (codes "6 f\n") (Rejected 3 Form) × Says (codes "1 f\n2 1\n") (Rejected 4 Unjustified)
unfolding digits
entries_are_judged = (refl, refl, refl)

empty : cert_verdict (numbered flaky_system) 0 [] ≡ Rejected 1 Form
unfolding digits
empty = refl

fifty_bytes : length (codes "roman-order 1\npairs 6\n1 f\n2 0\n3 1\n5 1\n0 0\n4 1\nend\n") ≡ 50
fifty_bytes = refl

-- the same list over pairs
abbrev pair_order : List (Entry Pair)
pair_order =
    record { node = pair_of 0 (1 ∷ []); reason = Final } ∷ record { node = pair_of 0 (2 ∷ []); reason = Act 0 } ∷ record { node = pair_of 1 (0 ∷ []); reason = Act 1 } ∷ record { node = pair_of 1 (2 ∷ []); reason = Act 1 }
    ∷ record { node = pair_of 0 (0 ∷ []); reason = Act 0 } ∷ record { node = pair_of 1 (1 ∷ []); reason = Act 1 } ∷ []

abbrev names : Names
names = record {
  target = codes "off" ∷ codes "on" ∷ [];
  env = (101 ∷ []) ∷ [];
  actions = codes "on" ∷ codes "off" ∷ [];
  seats = record { service = codes "f1"; states = codes "off" ∷ codes "on" ∷ codes "stuck" ∷ [] } ∷ [];
}

-- the explanations of a pair that is lost by an answer, and of one that is lost by clause 2
explained :
    (explain_text flaky_system names pair_order (pair_of 0 (0 ∷ [])) ≡ codes "lost on e stuck: off\n  f1 cannot\nlost off e off: on\n  f1 may answer stuck e\nend\n")
    × (explain_text flaky_system names pair_order (pair_of 0 (1 ∷ [])) ≡ codes "lost off e on: final\nend\n")
explained = (refl, refl)
