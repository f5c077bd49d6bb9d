use Rattle.roman_parts.proofs.Common.{ap, slice_get_within}
use Rattle.roman_parts.proofs.TableLemmas.{env_lists}
use Rattle.roman_parts.proofs.environment.Environment.next.Goals as goal

pub list-requires : goal.list-requires
list-requires c = slice_get_within _ _ _ (env_lists _ _ _ _ _ _ _ c.self.invariant (ap (λ v. v.env) c.self.view_is) c.requires.state c.requires.action c.len-width.ensures.len).0
