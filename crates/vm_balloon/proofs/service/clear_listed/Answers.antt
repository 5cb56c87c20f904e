use Rattle.std.proofs.Common.{ap, ◌∙◌}
use Rattle.vm_pages.specs.Pages.{remove_all}
use Rattle.vm_balloon.proofs.MarkLemmas.{remove_all-covered}
use Rattle.vm_balloon.proofs.service.clear_listed.Goals as goal

pub returns-clause-pages : goal.returns-clause-pages
returns-clause-pages c =
    c.remove_all.ensures.after
    ∙ ap (remove_all c.args.pages.now) c.deref.ensures.value
    ∙ remove_all-covered c.args.pages.now c.args.list.now.items c.requires.covered
