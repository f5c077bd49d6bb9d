-- The bytes of replies, and the numbers of refusals.
use Rattle.std.specs.Prelude.{ℕ, List, ◌++◌, codes, decimal, Option, None, Some}
use Rattle.roman_text.specs.Lines.{with_newline}
use Rattle.roman_text.specs.declared.replies.Reply.{Reply}
use Rattle.roman_text.specs.declared.replies.Reply.TheVariants as reply

-- the bytes of a reply: a line, or a part of the line that lists services
abbrev pub reply_text : Reply → List ℕ
reply_text reply.Offer = codes "offer"
reply_text (reply.Serves service) = codes " " ++ service
reply_text reply.Stop = codes "\n"
reply_text (reply.Using service) = with_newline (codes "using " ++ service)
reply_text (reply.Now target env) = with_newline (codes "now " ++ target ++ codes " " ++ env)
reply_text reply.Aborted = with_newline (codes "aborted")
reply_text (reply.Kept kept added) = with_newline (codes "kept " ++ decimal kept ++ codes " added " ++ decimal added)
reply_text reply.Jumped = with_newline (codes "jumped")
reply_text reply.Bye = with_newline (codes "bye")
reply_text reply.ErrorLine = with_newline (codes "error line")
reply_text reply.ErrorName = with_newline (codes "error name")
reply_text reply.ErrorBusy = with_newline (codes "error busy")
reply_text reply.ErrorIdle = with_newline (codes "error idle")
reply_text reply.NoComposition = with_newline (codes "no composition")
reply_text reply.NotAllowed = with_newline (codes "not allowed")
reply_text reply.NotOffered = with_newline (codes "not offered")
reply_text reply.Impossible = with_newline (codes "impossible")
reply_text reply.ErrorFrozen = with_newline (codes "error frozen")
reply_text reply.ErrorReady = with_newline (codes "error ready")
reply_text reply.ErrorTaken = with_newline (codes "error taken")
reply_text reply.ErrorFull = with_newline (codes "error full")
reply_text reply.ErrorLimit = with_newline (codes "error limit")
reply_text reply.ErrorRelated = with_newline (codes "error related")

-- the number of a refusal; None for any other reply
abbrev pub refusal_number : Reply → Option ℕ
refusal_number reply.ErrorLine = Some 1
refusal_number reply.ErrorName = Some 2
refusal_number reply.ErrorBusy = Some 3
refusal_number reply.ErrorIdle = Some 4
refusal_number reply.NoComposition = Some 5
refusal_number reply.NotAllowed = Some 6
refusal_number reply.NotOffered = Some 7
refusal_number reply.Impossible = Some 8
refusal_number reply.ErrorFrozen = Some 9
refusal_number reply.ErrorReady = Some 10
refusal_number reply.ErrorTaken = Some 11
refusal_number reply.ErrorFull = Some 12
refusal_number reply.ErrorLimit = Some 13
refusal_number reply.ErrorRelated = Some 14
refusal_number _ = None
