use Rattle.std.proofs.Common.{ℕ, List, sym, ap, ◌∙◌}
use Rattle.std.specs.FinMap.{insert}
use Rattle.vm_swap.specs.Area.{Area}
use Rattle.vm_swap.proofs.area.SwapArea.save.Goals as goal

pub returns-in-Some-clause-area : goal.returns-in-Some-clause-area
returns-in-Some-clause-area c =
    let area : Area = c.args.self.now in
    c.put_few.ensures ∙ ap (λ (bytes : List ℕ). record area { pages = insert area.pages c.args.page bytes }) (sym c.in-Some.ensures.some)
