-- The effect of `roman_synth` and `roman_check` on a handle: the program's text for the same texts, and its status.
use Rattle.std.specs.Prelude.{◌≡◌, ◌≢◌, ℕ, List, [], ◌∷◌, Option, None, Some}
use Rattle.roman_io.specs.Shelf.{Texts}
use Rattle.roman_model.specs.Lists.{IsIn}
use Rattle.roman_opening.specs.Endings.{EndsBare, Writes}
use Rattle.roman_opening.specs.Numbers.{status_number}
use Rattle.roman_opening.specs.Opening.{document_opening, OnOpening}
use Rattle.roman_opening.specs.declared.status.Status.{Status}
use Rattle.roman_opening.specs.declared.status.Status.TheVariants as status
use Rattle.roman_top.specs.Command.{Job, Synth, Check}
use Rattle.roman_top.specs.Run.{JobDoes}
use Rattle.roman_c.specs.Contents.{reply_in, session_in, texts_in}
use Rattle.roman_c.specs.declared.content.Content.{Content}
use Rattle.roman_c.specs.declared.opening.Begun.{Begun}

-- the job: to check the certificate of that name, or to report if there is none
abbrev pub job_of : Option (List ℕ) → Job
job_of None = Synth
job_of (Some certificate) = Check certificate

-- the number of a status; it is that of out of memory if a text couldn't be written
abbrev pub job_number : Status → ℕ
job_number status.WriteFault = 9
job_number end = status_number end

-- a run of the job by the program ends with this number, and with the reply as its text; for a missing text and out of memory
-- `Writes` states nothing, and `EndsBare` states that the reply is empty
pub record HasDone (job : Job) (texts : Texts) (name reply : List ℕ) (number : ℕ) : Type 0 where
  pub end : Status
  pub numbered : number ≡ job_number end
  pub writes : Writes (OnOpening (JobDoes job texts []) (document_opening texts name)) (Some []) (Some reply) end
  pub bare : EndsBare (Some []) (Some reply) end

-- the numbers that a job returns
abbrev pub IsJobNumber : ℕ → Type 0
IsJobNumber n = IsIn n (0 ∷ 1 ∷ 3 ∷ 4 ∷ 5 ∷ 8 ∷ 9 ∷ 10 ∷ [])

-- the job of that certificate, or the report, was done with the reply and the number of this result, which has no session
pub record HasWorked (certificate : Option (List ℕ)) (texts : Texts) (name : List ℕ) (begun : Begun) : Type 0 where
  pub among : IsJobNumber begun.status
  pub none : begun.talk.session ≡ None
  pub done : HasDone (job_of certificate) texts name begun.talk.reply.bytes.items begun.status

-- a job is done on the handles before and after an export, unless a name isn't UTF-8
abbrev pub HasDoneIn : Job → Option Content → List ℕ → Option Content → ℕ → Type 0
HasDoneIn job shelf name session number = number ≢ 10 → HasDone job (texts_in shelf) name (reply_in session) number

-- the job of that certificate, or the report, is done on the handles, and no session is open
pub record HasWorkedIn (certificate : Option (List ℕ)) (shelf : Option Content) (name : List ℕ) (session : Option Content) (number : ℕ) : Type 0 where
  pub among : IsJobNumber number
  pub none : session_in session ≡ None
  pub done : HasDoneIn (job_of certificate) shelf name session number
