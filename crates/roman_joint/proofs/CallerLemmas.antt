-- The lemmas of this crate that proofs of other crates may cite. All else in proofs/ can be renamed freely.

-- Searches for the first element that passes, step by step.
pub use Rattle.roman_joint.proofs.Finds.{if_some, no_numbers}
-- Services and their behaviours, read one after another.
pub use Rattle.roman_joint.proofs.SeatLemmas.{seat_beh_read, states_range}
-- The system after a service is frozen, dropped or added.
pub use Rattle.roman_joint.proofs.SeatChanges.{frozen_known, frozen_system, gone_known, gone_system, joined_known, joined_system}
-- Arenas over numbers keep the laws of arenas.
pub use Rattle.roman_joint.proofs.ArenaFacts.{joint_numbered}
-- The lanes of a word that is shifted up.
pub use Rattle.roman_joint.proofs.WordLemmas.{on_below, on_shl}
-- The sizes of services.
pub use Rattle.roman_joint.proofs.GoodLemmas.{in_sizes}
-- Facts about the behaviour of a service.
pub use Rattle.roman_joint.proofs.BehaviourLemmas.{Behaves, beh_read, behaves, seat_read, seat_within, states_named}
