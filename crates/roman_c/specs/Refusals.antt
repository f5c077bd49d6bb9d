-- The numbers of refusals for C programs.
use Rattle.std.specs.Prelude.{ℕ, List, if◌then◌else◌}
use Rattle.std.specs.Str.{bytes_eq}
use Rattle.roman_text.specs.Replies.{reply_text}
use Rattle.roman_text.specs.declared.replies.Reply.TheVariants as reply

-- 100 plus the number of the refusal with this text, or 0 if the text isn't a refusal
abbrev pub refusal_status : List ℕ → ℕ
refusal_status text =
    if bytes_eq text (reply_text reply.ErrorLine) then 101
    else if bytes_eq text (reply_text reply.ErrorName) then 102
    else if bytes_eq text (reply_text reply.ErrorBusy) then 103
    else if bytes_eq text (reply_text reply.ErrorIdle) then 104
    else if bytes_eq text (reply_text reply.NoComposition) then 105
    else if bytes_eq text (reply_text reply.NotAllowed) then 106
    else if bytes_eq text (reply_text reply.NotOffered) then 107
    else if bytes_eq text (reply_text reply.Impossible) then 108
    else if bytes_eq text (reply_text reply.ErrorFrozen) then 109
    else if bytes_eq text (reply_text reply.ErrorReady) then 110
    else if bytes_eq text (reply_text reply.ErrorTaken) then 111
    else if bytes_eq text (reply_text reply.ErrorFull) then 112
    else if bytes_eq text (reply_text reply.ErrorLimit) then 113
    else if bytes_eq text (reply_text reply.ErrorRelated) then 114
    else 0
