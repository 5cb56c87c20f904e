use Rattle.std.proofs.Common.{◌≡◌, true, false, sym, ap, ◌∙◌}
use Rattle.vm_pages.specs.Pages.{contains}
use Rattle.vm_pages.proofs.PageSets.{contains-no_pages}
use Rattle.pages_tests.proofs.tests.pages.apart_from.Goals as goal

pub returns-clause-apart : goal.returns-clause-apart
returns-clause-apart g c = λ page there.
    let gone : false ≡ true = sym (contains-no_pages c.args.size page) ∙ sym (ap (λ pages. contains pages page) c.no_pages.ensures.none) ∙ there in
    absurd (cc)
