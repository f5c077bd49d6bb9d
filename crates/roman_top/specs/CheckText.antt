-- The lines that report the verdict on a certificate.
use Rattle.std.specs.Prelude.{ℕ, Bool, List, ◌++◌, codes, decimal}
use Rattle.roman_model.specs.Certificate.{Why, Form, Repeated, Unjustified, Unlisted}
use Rattle.roman_text.specs.Report.{line_text}
use Rattle.roman_text.specs.declared.report.ReportLine.TheVariants as line

-- the word of a fault; if a pair is missing, its number follows
abbrev pub why_text : Why → List ℕ
why_text Form = codes "form"
why_text Repeated = codes "repeated"
why_text Unjustified = codes "unjustified"
why_text (Unlisted pair) = codes "unlisted " ++ decimal pair

-- the lines that state how many pairs are related, and whether the start pair is
abbrev pub greatest_text : ℕ → Bool → List ℕ
greatest_text related start = codes "greatest " ++ decimal related ++ codes "\n" ++ line_text (line.Answer start)

-- the line that names the line at fault, and its fault
abbrev pub rejected_text : ℕ → Why → List ℕ
rejected_text line why = codes "rejected " ++ decimal line ++ codes " " ++ why_text why ++ codes "\n"
