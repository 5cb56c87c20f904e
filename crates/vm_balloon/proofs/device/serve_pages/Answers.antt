use Rattle.std.proofs.Common.{ℕ, ◌<◌, ap, subst, ◌∙◌}
use Rattle.std.specs.Prelude.{All}
use Rattle.vm_pages.specs.Pages.{remove_all}
use Rattle.vm_balloon.specs.Service.{numbers_in, deflated_by}
use Rattle.vm_balloon.proofs.device.serve_pages.Goals as goal

pub returns-clause-deflated : goal.returns-clause-deflated
returns-clause-deflated c =
    c.serve_deflates-bad_deflates.ensures.deflated
    ∙ ap (λ pages. deflated_by pages c.args.early.now (numbers_in c.args.deflates.now.buffers)) c.serve_inflates-bad_inflates.ensures.balloon

pub returns-clause-balloon : goal.returns-clause-balloon
returns-clause-balloon c =
    c.serve_deflates-bad_deflates.ensures.balloon
    ∙ ap (λ pages. remove_all pages c.serve_deflates-bad_deflates.new.deflated.items) c.serve_inflates-bad_inflates.ensures.balloon

pub returns-clause-deflated_pages : goal.returns-clause-deflated_pages
returns-clause-deflated_pages c =
    subst (λ (n : ℕ). All (λ page. page < n) c.serve_deflates-bad_deflates.new.deflated.items) c.serve_inflates-bad_inflates.ensures.same_pages
    c.serve_deflates-bad_deflates.ensures.pages
