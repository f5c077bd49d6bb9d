-- The meaning of a guard, by its variants.
use Rattle.roman_guard.proofs.Common.{◌≡◌, ℕ, true, false, map, Vec, Box, Global, rules, holds, is_one_of, complement, intersection, union, Guard, All, Never, Among, Not, Both, Either, the_lemmas}

pub holds-All : holds All ≡ (λ _. true)
holds-All = search (rules, the_lemmas)

pub holds-Never : holds Never ≡ (λ _. false)
holds-Never = search (rules, the_lemmas)

pub holds-Among : (states : Vec ℕ Global) → holds (Among states) ≡ is_one_of states.items
holds-Among states = search (rules, the_lemmas)

pub holds-Not : (g : Box Guard Global) → holds (Not g) ≡ complement (holds g.value)
holds-Not g = search (rules, the_lemmas)

pub holds-Both : (parts : Vec Guard Global) → holds (Both parts) ≡ intersection (map holds parts.items)
holds-Both parts = search (rules, the_lemmas)

pub holds-Either : (parts : Vec Guard Global) → holds (Either parts) ≡ union (map holds parts.items)
holds-Either parts = search (rules, the_lemmas)
