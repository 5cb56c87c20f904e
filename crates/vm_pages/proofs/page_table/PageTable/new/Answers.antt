use Rattle.std.proofs.Common.{◌≡◌, replicate, arith}
use Rattle.vm_pages.specs.Places.{items_of}
use Rattle.vm_pages.proofs.PlaceLemmas.{ArePlaces-none, items_of-none}
use Rattle.vm_pages.proofs.page_table.PageTable.new.Goals as goal

pub invariant_of-result : goal.invariant_of-result
invariant_of-result g c =
    let blocks = c.in_ok-with_capacity.ensures in
    let items = c.in_ok-with_capacity-2.ensures in
    (rw (blocks.items, items.items) (ArePlaces-none c.args.size (omega (arith, c.ranges.size.fits))), omega (arith, items.exact), omega (arith, blocks.exact, c.div_ceil.ensures))

pub returns-clause-table : goal.returns-clause-table
returns-clause-table g c =
    let list : items_of c.args.size c.args.first c.in_ok-with_capacity.field-0.items c.in_ok-with_capacity-2.field-0.items ≡ replicate c.args.size c.args.first =
    rw (c.in_ok-with_capacity.ensures.items, c.in_ok-with_capacity-2.ensures.items) (items_of-none c.args.size c.args.first) in
    λ i. record { first = c.args.first; list = list i }
