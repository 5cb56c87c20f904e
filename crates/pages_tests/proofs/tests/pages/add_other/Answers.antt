use Rattle.std.proofs.Common.{sym, ap, ◌∙◌}
use Rattle.vm_pages.specs.Pages.{contains}
use Rattle.vm_pages.proofs.PageSets.{apart-insert}
use Rattle.pages_tests.proofs.tests.pages.add_other.Goals as goal

pub returns-then-not-contains-clause-apart : goal.returns-then-not-contains-clause-apart
returns-then-not-contains-clause-apart c = λ page there.
    apart-insert c.args.set.now c.args.others.now c.args.page c.requires.apart (sym c.contains.ensures ∙ c.if-not-contains.true) page
    (sym (ap (λ pages. contains pages page) c.insert.ensures.after) ∙ there)
