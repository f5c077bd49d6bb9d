use Rattle.roman_make.proofs.Common.{◌∷◌, [], ◌∙◌, ap, refl}
use Rattle.roman_make.proofs.SystemLemmas.{library_is, library_known}
use Rattle.roman_make.proofs.system.make_library.Goals as goal

pub returns-clause-library : goal.returns-clause-library
returns-clause-library c =
    library_is _ c.args.n c.in_ok-environment.ensures.floor (c.in_ok-catalogue.ensures.items ∙ ap (λ x. x ∷ []) c.in_ok-worker.ensures.worker) c.in_ok-services.ensures c.in_ok-target.ensures.shift refl

pub returns-clause-known : goal.returns-clause-known
returns-clause-known c =
    library_known _ c.args.n c.in_ok-environment.environment c.in_ok-worker.worker c.in_ok-target.target (returns-clause-library c) c.requires
    c.in_ok-environment.ensures.floor c.in_ok-environment.ensures.known c.in_ok-worker.ensures.worker c.in_ok-worker.ensures.known c.in_ok-target.ensures.shift c.in_ok-target.ensures.known
