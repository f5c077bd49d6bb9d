-- Jobs that end with an empty reply.
use Rattle.roman_c.proofs.Common.{◌≡◌, ℕ, List, [], refl, Texts, Job, HasDone}
use Rattle.roman_opening.specs.declared.status.Status.TheVariants as status

-- a job is done if a text is missing
pub missing_done : (job : Job) (texts : Texts) (name reply : List ℕ) → reply ≡ [] → HasDone job texts name reply 5
missing_done job texts name reply none = record { end = status.ShelfFault; numbered = refl; writes = tt; bare = none }

-- a job is done if memory runs out
pub memory_done : (job : Job) (texts : Texts) (name reply : List ℕ) → reply ≡ [] → HasDone job texts name reply 9
memory_done job texts name reply none = record { end = status.Memory; numbered = refl; writes = tt; bare = none }
