-- Arenas over numbers keep the laws of arenas.
use Rattle.roman_rules.proofs.Common.{ℕ, ◌<◌, length, sym, subst, arith, rules, eqb-true, eq-eqb, IsIn, HasNoRepeats, Arena, in_below, from_below, HasNoRepeats-below, IsSame, IsArena, IsNumbered}

pub numbered_same : (A : Arena ℕ) → IsNumbered A → IsSame A
numbered_same A ok = grind (arith, eq-eqb, eqb-true)

-- a number below the count of the nodes is a node
pub in_nodes : (A : Arena ℕ) → IsNumbered A → (p : ℕ) → p < length A.nodes → IsIn p A.nodes
in_nodes A ok p l = subst (λ ps. IsIn p ps) (sym ok.nodes) (in_below (length A.nodes) p l)

pub from_nodes : (A : Arena ℕ) → IsNumbered A → (p : ℕ) → IsIn p A.nodes → p < length A.nodes
from_nodes A ok p i = from_below (length A.nodes) p (subst (λ ps. IsIn p ps) ok.nodes i)

pub numbered_arena : (A : Arena ℕ) → IsNumbered A → IsArena A
numbered_arena A ok =
    let once : HasNoRepeats A.nodes = subst HasNoRepeats (sym ok.nodes) (HasNoRepeats-below (length A.nodes)) in
    search (rules, from_nodes, in_nodes, numbered_same, ok.allowed, ok.closed, ok.served)
