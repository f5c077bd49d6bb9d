use Rattle.roman_text.proofs.Common.{◌≡◌, ℕ, ◌+◌, ◌≤◌, List, ◌++◌, length, take, ap, ap₂, ◌∙◌, arith, take-add, length-take-le, length-take, take_at, drop_at, take-append-le}
use Rattle.roman_text.proofs.page.Page.add_bare.Goals as goal

-- the bytes after a prefix, of which the first are kept
behind : (held bytes rest : List ℕ) (len n : ℕ) → length held ≡ len → n ≤ length bytes → take (len + n) (held ++ (bytes ++ rest)) ≡ held ++ take n bytes
behind held bytes rest len n long few =
    take-add len n (held ++ (bytes ++ rest)) ∙ ap₂ ◌++◌ (take_at held (bytes ++ rest) len long) (ap (take n) (drop_at held (bytes ++ rest) len long) ∙ take-append-le n bytes rest few)

pub returns-clause-text : goal.returns-clause-text
returns-clause-text c =
    let a = c.self.inside in
    let name = c.padded.result.now in
    let long = length-take-le a.len a.bytes (omega arith) in
    let few : length c.bytes.result.now ≤ length name = omega (arith, ap length c.bytes.ensures.bytes, ap length c.padded.ensures, length-take (length c.args.name.now) name) in
    rw c.copy_name.ensures (behind (take a.len a.bytes) name _ a.len (length c.bytes.result.now) long few ∙ ap₂ ◌++◌ c.self.view_is (ap (λ (n : ℕ). take n name) (ap length c.bytes.ensures.bytes) ∙ c.padded.ensures))
