-- A handle may be passed to another thread, because the box that it owns may be.
use Rattle.roman_c.proofs.Common.{Bool, true, false, Keyless, lone, Ptr, IsSend, owning_send, struct_send, sendable, RawPtr, bool, exits_of, shape, fields, to, Option, None, Some, quiet, lies, Global, frees, held_owns, the_row, the_type}
use mir.Raw.{raw}
use Rattle.std.proofs.alloc.Global.TheSendSync as heap
use Rattle.roman_c.specs.contracts.content.Content as content
use Rattle.roman_c.proofs.content.Content.TheSendSync as sent

holds : (a : Global) (p : Ptr) (full : Bool) (y : Option content.the_row.Denot) → Keyless (held_owns a content.the_row p full y)
holds a p true (Some x) = (lies content.the_row sent.the_send p x, frees.frees a (raw (lone content.the_row.mir)) p)
holds a p true None = tt
holds a p false (Some x) = tt
holds a p false None = tt

pub send : IsSend the_row
send = let ps : IsSend RawPtr = search sendable in let bs : IsSend bool = search sendable in
    owning_send the_type (ps, (bs, (heap.the_field_send, tt))) (λ d. holds d.alloc d.at d.full d.value)
    (λ k. quiet (to the_type) (exits_of k (fields the_type)) ((struct_send (shape the_type) (ps, (bs, (heap.the_field_send, tt)))).leaving k))
