-- The lemmas of this crate that proofs of other crates may cite. All else in proofs/ can be renamed freely.

-- Consequences of offers and outcomes.
pub use Rattle.roman_session.proofs.AnswerLemmas.{observed_great}
pub use Rattle.roman_session.proofs.StepLemmas.{delegation_serves, requests_offered}
-- The steps of events, and the tests of their conditions.
pub use Rattle.roman_session.proofs.RuleLemmas.{delegate_opens, explains, great_tests, may_tests, offered_tests, offers_said, ready_tests, reports}
-- Offers, counts and reports are right by the greatest ND-simulation.
pub use Rattle.roman_session.proofs.ReportLemmas.{reports_afresh}
-- The library that begins in the present states has the present services.
pub use Rattle.roman_session.proofs.ReportLemmas.{services_again}
pub use Rattle.roman_session.proofs.WordLemmas.{lost_counted, offers_serving, reports_great}
-- The situation in the fields of a session, and the results of calls on its parts.
pub use Rattle.roman_session.proofs.SituationLemmas.{jumped_pair, mapped_at}
-- Places of names.
pub use Rattle.roman_session.proofs.NameLemmas.{in_place, place_there}
-- Cells within the limit.
pub use Rattle.roman_session.proofs.ChangedLemmas.{is_within}
