use Rattle.roman_start.proofs.Common.{◌≡◌, ap, ◌∙◌, get_or, length, ◌<◌, arith, plain}
use Rattle.roman_start.proofs.ExtentLemmas.{sizes_push}
use Rattle.roman_start.proofs.extent.service_sizes.Goals as goal

pub loop-service-preserved : goal.loop-service-preserved
loop-service-preserved c =
    let library = plain c.args.library.now in
    let k = c.loop-service.service-index in
    let x = c.service-item.result in
    let at : x ≡ get_or library.services k x = c.service-item.is ∙ ap (λ services. get_or services k x) c.deref-service-items.ensures.value in
    let within : k < length library.services = omega (arith, c.loop-service-test.true, ap length c.deref-service-items.ensures.value) in
    let size = c.len.ensures.len ∙ ap length c.states.ensures.names ∙ c.states.ensures.count in
    c.in_ok-push.ensures.items ∙ sizes_push library c.requires.services.known k x c.index-behaviour.result.now c.loop-service.sizes.items c.len.result within at c.index-behaviour.ensures size c.loop-service.invariant
