-- The names of the services of a mask.
use Rattle.std.specs.Prelude.{ℕ, List, ◌++◌, map, length, codes}
use Rattle.std.specs.List.{filter, flat_map}
use Rattle.roman_model.specs.Lists.{below}
use Rattle.roman_model.specs.Explanation.{name_at}
use Rattle.roman_model.specs.Offers.{offers}
use Rattle.roman_rules.specs.Bits.{has_seat}
use Rattle.roman_text.specs.Replies.{reply_text}
use Rattle.roman_text.specs.declared.replies.Reply.TheVariants as reply
use Rattle.roman_joint.specs.NamedSys.{NamedSys}
use Rattle.roman_joint.specs.Names.{seat_name}
use Rattle.roman_session.specs.Situations.{Situation, present_system}

-- the seats below n that the mask has
abbrev pub seats_set : ℕ → ℕ → List ℕ
seats_set mask n = filter (has_seat mask) (below n)

-- a space and the name of seat k
abbrev pub served : NamedSys → ℕ → List ℕ
served parts k = codes " " ++ name_at (map seat_name parts.seats) k

-- the names of the seats, each after a space
unfoldable pub served_text : NamedSys → List ℕ → List ℕ
served_text parts ks = flat_map (served parts) ks

-- the names of the seats of a mask, each after a space, and the end of the line
abbrev pub served_line : NamedSys → ℕ → List ℕ
served_line parts mask = served_text parts (seats_set mask (length parts.seats)) ++ codes "\n"

-- the name of the service at place k
abbrev pub service_at : Situation → ℕ → List ℕ
service_at s k = name_at (map seat_name s.parts.seats) k

-- the line that names the services that are offered for action a
unfoldable pub offer_text : Situation → ℕ → List ℕ
offer_text s a =
    reply_text reply.Offer ++ flat_map (λ k. reply_text (reply.Serves (service_at s k))) (offers (present_system s) s.here a) ++ reply_text reply.Stop
