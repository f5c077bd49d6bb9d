-- The content of a handle: the texts of a shelf, or a session with its last reply.
use Rattle.std.specs.Prelude.{◌≡◌, ◌⊎◌, ℕ, List, [], Option, None, Some}
use Rattle.roman_io.specs.Faults.{Rose}
use Rattle.roman_io.specs.Memory.{texts_of}
use Rattle.roman_io.specs.Shelf.{Texts}
use Rattle.roman_session.specs.Situations.{Situation}
use Rattle.roman_c.specs.declared.content.Content.{Content}
use Rattle.roman_c.specs.declared.content.Content.TheVariants as content

-- the names and texts of a shelf; a handle that holds no shelf has none
abbrev pub texts_in : Option Content → Texts
texts_in (Some (content.Shelf shelf)) = texts_of shelf.files.items
texts_in _ = []

-- the number of fetches of texts that a shelf lacks
abbrev pub missing_in : Option Content → ℕ
missing_in (Some (content.Shelf shelf)) = shelf.missing
missing_in _ = 0

-- the shelf had no texts, or a text that it lacks was fetched
abbrev pub IsMissing : Option Content → Option Content → Type 0
IsMissing old new = (texts_in old ≡ []) ⊎ Rose (missing_in old) (missing_in new)

-- the open session, if there is one
abbrev pub session_in : Option Content → Option Situation
session_in (Some (content.Talk talk)) = talk.session
session_in _ = None

-- the last reply; it is empty if the handle holds no session
abbrev pub reply_in : Option Content → List ℕ
reply_in (Some (content.Talk talk)) = talk.reply.bytes.items
reply_in _ = []
