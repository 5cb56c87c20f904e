use Rattle.std.proofs.Common.{◌%◌, sym, ap, ◌∙◌}
use Rattle.vm_pages.specs.Places.{place_in}
use Rattle.vm_pages.proofs.PlaceLemmas.{place_in-some}
use Rattle.vm_pages.proofs.page_table.place_of.Goals as goal

pub returns-then-start-eq0 : goal.returns-then-start-eq0
returns-then-start-eq0 c = ap (λ n. place_in n (c.args.page % 256)) (sym c.if-start-eq0.true ∙ c.start_of-start.ensures)

pub returns-else-start-eq0 : goal.returns-else-start-eq0
returns-else-start-eq0 c =
    place_in-some c.start_of-start.result (c.args.page % 256) c.if-start-eq0.false ∙ ap (λ n. place_in n (c.args.page % 256)) c.start_of-start.ensures
