-- Certificates: the verdict of a checker on the text that was written, and lines that are made from the line before.
use Rattle.std.specs.Prelude.{◌≡◌, ℕ, ◌+◌, ◌*◌, ◌<◌, ◌≤◌, List, Option, take, slice_index, decimal}
use Rattle.roman_io.specs.Sink.{Wrote}
use Rattle.roman_io.specs.declared.sink.Sink.{Ghosts as SinkView}
use Rattle.roman_model.specs.System.{Sys}
use Rattle.roman_model.specs.Numbers.{sizes_of, count, numbered, IsCompleteList}
use Rattle.roman_model.specs.Certificate.{cert_text, cert_verdict, greatest}
use Rattle.roman_joint.specs.NamedSys.{system_of}
use Rattle.roman_relation.specs.declared.relation.Relation.{Relation}
use Rattle.roman_cert.specs.declared.template.Template.{Template}

-- a certificate was written that a checker accepts: the verdict states the greatest ND-simulation
pub record WroteGreatest (s : Sys) (before now : Option (List ℕ)) : Type 0 where
  pub bytes : List ℕ
  pub wrote : Wrote before now bytes
  pub accepted : (start : ℕ) → start < count (sizes_of s) → cert_verdict (numbered s) start bytes ≡ greatest s start

-- the certificate of a relation
abbrev pub cert_of : Relation → List ℕ
cert_of relation = cert_text (count (sizes_of (system_of relation.joint))) relation.order.list

-- the list of the relation is complete
abbrev pub HasFullList : Relation → Type 0
HasFullList relation = IsCompleteList (system_of relation.joint) relation.order.list

-- a certificate of the greatest ND-simulation of the relation's system was written
abbrev pub WritesGreatest : {X : Type 0} → SinkView X → X → X → Relation → Type 0
WritesGreatest O old new relation = WroteGreatest (system_of relation.joint) (O.written old) (O.written new)

-- the template's text begins with the digits of a number, two more bytes, a space, the letter and a newline
pub record IsTemplate (t : Template) : Type 0 where
  pub high : ℕ
  pub some : 0 < high
  pub base : t.base ≡ high * 100
  pub front : take t.place t.text ≡ decimal high
  pub space : slice_index t.text (t.place + 2) ≡ 32
  pub reason : slice_index t.text (t.place + 3) ≡ t.letter
  pub newline : slice_index t.text (t.place + 4) ≡ 10
  pub len : t.len ≡ t.place + 5
  pub fits : t.len ≤ 16
