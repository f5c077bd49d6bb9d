-- Arenas over numbers keep the laws of arenas.
use Rattle.roman_joint.proofs.Common.{◌≡◌, ℕ, ◌*◌, Bool, true, ◌||◌, length, refl, sym, ap, arith, list_any, IsIn, below, Arena, is_beaten, by_test, not_empty_in, in_below, from_below, length-below, numbered_is_arena, IsArena, sizes_of, count, numbered, NamedSys, system_of, IsNamedSys, IsNumbered}
use Rattle.roman_joint.proofs.Rows.{count_fits}

-- a joint's system is an arena over numbers
pub joint_numbered : (n : NamedSys) → IsNamedSys n → IsNumbered (numbered (system_of n))
joint_numbered n known =
    let s = system_of n in
    let arena : IsArena (numbered s) = numbered_is_arena s known.system in
    let nodes : length (below (count (sizes_of s))) ≡ count (sizes_of s) = length-below (count (sizes_of s)) in
    let cells : length (below (count (sizes_of s))) * s.env.actions ≡ count (sizes_of s) * s.env.actions = ap (λ m. m * s.env.actions) nodes in
    record {
      same = λ p q. refl;
      nodes = ap below (sym nodes);
      few_actions = known.system.env.actions.1;
      few_seats = known.system.few;
      few_nodes = omega (arith, nodes, count_fits n known);
      few_cells = omega (arith, cells, known.fits, known.limit.1);
      allowed = arena.allowed;
      closed = λ p a k q l i.
          let inside = from_below (count (sizes_of s)) q (arena.closed p (in_below (count (sizes_of s)) p (omega (arith, nodes))) a k q i) in
          omega (arith, nodes, inside);
      served = arena.served;
    }

-- a delegation without an outcome is beaten
pub beaten_where : (A : Arena ℕ) (gone : ℕ → Bool) (p a k : ℕ) → ((q : ℕ) → IsIn q (A.outcomes p a k) → ⊥) → is_beaten A gone p a k ≡ true
beaten_where A gone p a k none =
    by_test _ (λ empty. ap (λ b. b || list_any gone (A.outcomes p a k)) empty) (λ some. let (q, i) = not_empty_in _ some in absurd (none q i))

-- the number of nodes is the number of pairs
pub ruleset pair_count = (length-below)
