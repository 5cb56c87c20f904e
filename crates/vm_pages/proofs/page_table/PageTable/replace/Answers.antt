use Rattle.std.proofs.Common.{◌≡◌, set, ap, get_or, ◌∙◌, arith}
use Rattle.std.proofs.lemmas.List.{length-set}
use Rattle.vm_pages.specs.Places.{items_of}
use Rattle.vm_pages.proofs.PlaceLemmas.{below_size, item-written, items_of-set}
use Rattle.vm_pages.proofs.page_table.PageTable.replace.Goals as goal

pub place_for-place-requires-clause-in_range : goal.place_for-place-requires-clause-in_range
place_for-place-requires-clause-in_range g c =
    let t = c.self.inside in below_size t.size t.first t.blocks.items t.items.items c.args.page (rw (← c.self.view_is) at c.requires)

pub index-before-requires : goal.index-before-requires
index-before-requires g c =
    let t = c.self.inside in
    let there = below_size t.size t.first t.blocks.items t.items.items c.args.page (rw (← c.self.view_is) at c.requires) in
    let place = c.place_for-place.ensures in
    omega (arith, place.places.within c.args.page c.place_for-place.result there place.there, c.place_for-place.new.items.ok.0)

pub index_mut-requires : goal.index_mut-requires
index_mut-requires g c =
    let t = c.self.inside in
    let there = below_size t.size t.first t.blocks.items t.items.items c.args.page (rw (← c.self.view_is) at c.requires) in
    let place = c.place_for-place.ensures in
    omega (arith, place.places.within c.args.page c.place_for-place.result there place.there, c.place_for-place.new.items.ok.0)

pub invariant_of-self : goal.invariant_of-self
invariant_of-self g c =
    let place = c.place_for-place.ensures in
    (rw (length-set c.place_for-place.new.items.items c.place_for-place.result c.args.item) place.places, place.room, place.room_for_blocks)

pub returns-clause-before : goal.returns-clause-before
returns-clause-before g c =
    let t = c.self.inside in
    let there = below_size t.size t.first t.blocks.items t.items.items c.args.page (rw (← c.self.view_is) at c.requires) in
    let place = c.place_for-place.ensures in
    let blocks = c.place_for-place.new.blocks.items in
    let items = c.place_for-place.new.items.items in
    rw (← c.self.view_is)
    (item-written t.size t.first blocks items c.args.page c.place_for-place.result c.index-before.result.now place.places there place.there c.index-before.ensures
    ∙ ap (λ list. get_or list c.args.page t.first) place.same)

pub returns-clause-after : goal.returns-clause-after
returns-clause-after g c =
    let t = c.self.inside in
    let there = below_size t.size t.first t.blocks.items t.items.items c.args.page (rw (← c.self.view_is) at c.requires) in
    let place = c.place_for-place.ensures in
    let blocks = c.place_for-place.new.blocks.items in
    let items = c.place_for-place.new.items.items in
    let list : items_of t.size t.first blocks (set items c.place_for-place.result c.args.item) ≡ set (items_of t.size t.first t.blocks.items t.items.items) c.args.page c.args.item =
    items_of-set t.size t.first blocks items c.args.page c.place_for-place.result c.args.item place.places there place.there
    ∙ ap (λ old. set old c.args.page c.args.item) place.same in
    rw (← c.self.view_is) (λ i. record { first = t.first; list = list i })
