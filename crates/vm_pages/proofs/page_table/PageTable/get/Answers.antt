use Rattle.std.proofs.Common.{ℕ, List, sym, ap, ◌∙◌, arith}
use Rattle.vm_pages.specs.Places.{place_of}
use Rattle.vm_pages.proofs.PlaceLemmas.{below_size, item-unwritten, item-written}
use Rattle.vm_pages.proofs.page_table.PageTable.get.Goals as goal

pub index-requires : goal.index-requires
index-requires g c =
    let t = c.self.inside in
    let there = below_size t.size t.first t.blocks.items t.items.items c.args.page (rw (← c.self.view_is) at c.requires) in
    let at = sym (c.place_of.ensures ∙ ap (λ (blocks : List ℕ). place_of blocks c.args.page) c.deref.ensures.value) ∙ c.in-Some.is in
    omega (arith, c.self.invariant.0.within c.args.page c.in-Some.place there at, t.items.ok.0)

pub returns-in-Some : goal.returns-in-Some
returns-in-Some g c =
    let t = c.self.inside in
    let there = below_size t.size t.first t.blocks.items t.items.items c.args.page (rw (← c.self.view_is) at c.requires) in
    let at = sym (c.place_of.ensures ∙ ap (λ (blocks : List ℕ). place_of blocks c.args.page) c.deref.ensures.value) ∙ c.in-Some.is in
    rw (← c.self.view_is) (item-written t.size t.first t.blocks.items t.items.items c.args.page c.in-Some.place c.index.result.now c.self.invariant.0 there at c.index.ensures)

pub returns-in-None : goal.returns-in-None
returns-in-None g c =
    let t = c.self.inside in
    let there = below_size t.size t.first t.blocks.items t.items.items c.args.page (rw (← c.self.view_is) at c.requires) in
    let none = sym (c.place_of.ensures ∙ ap (λ (blocks : List ℕ). place_of blocks c.args.page) c.deref.ensures.value) ∙ c.in-None.is in
    rw (← c.self.view_is) (item-unwritten t.size t.first t.blocks.items t.items.items c.args.page there none)
