-- The lemmas of this crate that proofs of other crates may cite. All else in proofs/ can be renamed freely.

-- The text of advice states least costs.
pub use Rattle.roman_cost.proofs.LawLemmas.{advice_least}
