-- The lemmas of this crate that proofs of other crates may cite. All else in proofs/ can be renamed freely.

-- The requests of several targets: each is an action by which its target has a step; and a turn of the system that combines them.
pub use Rattle.roman_laws.proofs.RequestLemmas.{request_at, turns_of}
-- The tests of triples and of steps are membership in their lists.
pub use Rattle.roman_laws.proofs.OutcomeLemmas.{listed_step, listed_triple, step_listed}
