use Rattle.roman_joint.proofs.Common.{◌<◌, ℕ, List, length, slice_index, sym, ap₂, ◌∙◌, subst, Some, [], ap, slice_get, ◌-◌, ◌≡◌, name_at, sizes_of, system_of, IsNamedSys, NamedSys, IsSeatBehaviour, NamedBeh, below, get_or_from_slice_get, size_at}
use Rattle.roman_joint.proofs.joint.Joint.state_name.Goals as goal
use Rattle.roman_joint.proofs.BehaviourLemmas.{behaves, states_named}

-- a service has as many states as its behaviour
state_within : (n : NamedSys) (k b : ℕ) (beh : NamedBeh) → IsNamedSys n → IsSeatBehaviour n k beh → length beh.states ≡ beh.beh.states → b < slice_index (sizes_of (system_of n)).seats k → b < length beh.states
state_within n k b beh known of states below =
    let at = behaves n k beh known of in
    subst (λ m. b < m) (size_at (system_of n).seats k at.seat at.seated ∙ ap (λ y. y.states) at.is ∙ sym states) below

-- the name at a place
name_there : (names : List (List ℕ)) (i : ℕ) (name : List ℕ) → slice_get names i ≡ Some name → name ≡ name_at names i
name_there names i name e = sym (get_or_from_slice_get names i name [] e)

pub at-requires : goal.at-requires
at-requires c =
    let n = c.args.self.now in
    let within = state_within n c.args.k c.from.result c.behaviour.result.now c.known.ensures c.behaviour.ensures c.states.ensures.count (subst (λ (b : ℕ). b < slice_index (sizes_of (system_of n)).seats c.args.k) (sym c.from.ensures) c.requires.state) in
    subst (λ (names : List (List ℕ)). c.from.result < length names) (sym c.states.ensures.names) within

pub returns : goal.returns
returns c =
    let n = c.args.self.now in
    name_there c.states.result.now c.from.result c.at.result.now c.at.ensures.name
    ∙ ap₂ name_at (c.states.ensures.names ∙ sym (states_named n c.args.k c.behaviour.result.now c.behaviour.ensures)) c.from.ensures
