use Rattle.std.proofs.Common.{◌∙◌, ap}
use Rattle.vm_board.specs.States.{PassState}
use Rattle.guest_tests.proofs.tests.board.check_over.Goals as goal

pub returns : goal.returns
returns g c =
    let ended = c.in-None.ensures.none in
    ((ap (λ (p : PassState). p.board) ended ∙ c.requires.0, ap (λ (p : PassState). p.number) ended ∙ c.requires.1), ap (λ (p : PassState). p.over) ended)
