use Rattle.std.proofs.Common.{◌≡◌, ◌<◌, List, ℕ, length, ap, ◌∙◌, arith}
use Rattle.std.specs.Prelude.{◌==◌}
use Rattle.std.specs.List.{list_any}
use Rattle.vm_pages.specs.Pages.{contains}
use Rattle.vm_balloon.specs.Device.{is_named}
use Rattle.vm_balloon.specs.Posted.{PostedPages}
use Rattle.vm_balloon.proofs.MarkLemmas.{contains-marked, length-marked}
use Rattle.vm_balloon.proofs.page_queue.PageQueue.names.Goals as goal

pub contains-requires : goal.contains-requires
contains-requires c =
    let size = ap length c.self.invariant.marked ∙ length-marked c.self.inside.size c.self.inside.numbers.items in
    let is : c.self.inside.size ≡ c.args.self.now.size = ap (λ (q : PostedPages). q.size) c.self.view_is in
    omega (arith, size, is, c.requires)

pub returns : goal.returns
returns c =
    let page = c.args.page in
    let is : c.self.inside.size ≡ c.args.self.now.size = ap (λ (q : PostedPages). q.size) c.self.view_is in
    let within : page < c.self.inside.size = omega (arith, is, c.requires) in
    c.contains.ensures
    ∙ ap (λ pages. contains pages page) c.self.invariant.marked
    ∙ contains-marked c.self.inside.size c.self.inside.numbers.items page within
    ∙ ap (λ (numbers : List ℕ). list_any (λ number. number == page) numbers) c.self.invariant.numbers
    ∙ ap (λ (q : PostedPages). is_named q.buffers page) c.self.view_is
