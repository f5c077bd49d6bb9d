-- The bytes of report lines.
use Rattle.std.specs.Prelude.{ℕ, List, [], ◌++◌, codes, decimal, if◌then◌else◌}
use Rattle.roman_text.specs.Lines.{with_newline}
use Rattle.roman_text.specs.declared.report.ReportLine.{ReportLine}
use Rattle.roman_text.specs.declared.report.ReportLine.TheVariants as line

-- the bytes of a report line: a line, or a part of the line that lists services
abbrev pub line_text : ReportLine → List ℕ
line_text (line.Pairs n) = with_newline (codes "pairs " ++ decimal n)
line_text (line.Related n) = with_newline (codes "related " ++ decimal n)
line_text (line.Environment state) = with_newline (codes "environment " ++ state)
line_text (line.Target state is_final) = with_newline (codes "target " ++ state ++ (if is_final then codes " final" else codes " running"))
line_text (line.Service name behaviour state frozen loose) =
    with_newline (codes "service " ++ name ++ codes " " ++ behaviour ++ codes " " ++ state
    ++ (if frozen then codes " frozen" else codes " ready")
    ++ (if loose then codes " loose" else []))
line_text (line.Answer composes) = with_newline (codes "answer " ++ (if composes then codes "composition" else codes "none"))
line_text (line.Offer action) = codes "offer " ++ action ++ codes ":"
line_text (line.Serves service) = codes " " ++ service
line_text line.Stop = codes "\n"
line_text line.End = with_newline (codes "end")
