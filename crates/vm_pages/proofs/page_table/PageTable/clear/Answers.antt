use Rattle.std.proofs.Common.{◌≡◌, length, replicate, sym, ap, ◌∙◌, arith}
use Rattle.vm_pages.specs.Places.{items_of}
use Rattle.vm_pages.proofs.PlaceLemmas.{ArePlaces-none, items_of-none, length-items_of}
use Rattle.vm_pages.proofs.page_table.PageTable.clear.Goals as goal

pub invariant_of-self : goal.invariant_of-self
invariant_of-self g c =
    let invariant = c.self.invariant in (
      rw (c.clear.ensures.items, c.clear-2.ensures.items) (ArePlaces-none c.self.inside.size invariant.0.few),
      omega (arith, invariant.1, c.clear-2.ensures.capacity),
      omega (arith, invariant.2, c.clear.ensures.capacity),
    )

pub returns : goal.returns
returns g c =
    let t = c.self.inside in
    let list : items_of t.size t.first c.clear.new.self.items c.clear-2.new.self.items ≡ replicate (length (items_of t.size t.first t.blocks.items t.items.items)) t.first =
    rw (c.clear.ensures.items, c.clear-2.ensures.items) (items_of-none t.size t.first)
    ∙ ap (λ n. replicate n t.first) (sym (length-items_of t.size t.first t.blocks.items t.items.items)) in
    rw (← c.self.view_is) (λ i. record { first = t.first; list = list i })
