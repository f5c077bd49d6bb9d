-- An order whose marks are lent.
use Rattle.std.specs.Prelude.{ℕ, ◌++◌, List, take, drop, length}
use Rattle.std.specs.Borrow.{Lends, MutBor, Fml, Array, u64}
use Rattle.roman_order.specs.Board.{Board}
use Rattle.roman_order.specs.contracts.order.Order.{the_row}

-- the table with its front overwritten, as long as before
abbrev pub rewritten : List ℕ → List ℕ → List ℕ
rewritten xs ys = take (length xs) (ys ++ drop (length ys) xs)

-- when the loan ends, the last words of r have replaced the front of the marks, and the order is otherwise unchanged
abbrev pub LendsMarks : MutBor Board → MutBor (List ℕ) → Fml
LendsMarks s r = Lends the_row (Array u64 0) s r (λ w. record s.now { marks = rewritten s.now.marks w })
