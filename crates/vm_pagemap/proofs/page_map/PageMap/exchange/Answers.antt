use Rattle.std.proofs.Common.{◌≡◌, ℕ, get_or, set, refl, sym, ap, ◌∙◌, arith}
use Rattle.std.specs.FinMap as slots
use Rattle.std.specs.Prelude.{unwrap_or}
use Rattle.std.specs.Vec.{with_item}
use Rattle.std.proofs.lemmas.List.{get_or_default, get_or_read}
use Rattle.vm_pages.specs.Pages.{insert, remove}
use Rattle.vm_pages.specs.PageTable.{Items}
use Rattle.vm_swap.specs.Area.{zero_bytes}
use Rattle.vm_pagemap.specs.declared.page_map.Held.{Held}
use Rattle.vm_pagemap.specs.declared.page_map.Page.TheVariants.{In, Out}
use Rattle.vm_pagemap.specs.PageMap.{bytes_of, frame_of}
use Rattle.vm_pagemap.specs.Kept.{held_at, nothing_held}
use Rattle.vm_pagemap.proofs.Exchanged.{kept_exchanged, shown_exchanged}
use Rattle.vm_pagemap.proofs.Kept.{shown-held, shown-within, slot-reached, slot-within}
use Rattle.vm_pagemap.proofs.page_map.PageMap.exchange.Goals as goal

pub get-slot-requires : goal.get-slot-requires
get-slot-requires c =
    slot-reached c.self.inside c.args.self.now c.self.view_is c.self.invariant c.args.victim c.requires.victim_in_range c.requires.victim_is_in

pub remove-requires : goal.remove-requires
remove-requires c = shown-within c.self.inside c.args.self.now c.args.victim c.self.view_is c.requires.victim_in_range

pub insert-requires : goal.insert-requires
insert-requires c =
    omega (arith, shown-within c.self.inside c.args.self.now c.args.victim c.self.view_is c.requires.victim_in_range, c.self.invariant.same_size)

pub insert-requires-2 : goal.insert-requires-2
insert-requires-2 c =
    omega (arith, shown-within c.self.inside c.args.self.now c.args.page c.self.view_is c.requires.in_range, c.remove.ensures.size)

pub remove-page_was_out-requires : goal.remove-page_was_out-requires
remove-page_was_out-requires c =
    omega (arith, shown-within c.self.inside c.args.self.now c.args.page c.self.view_is c.requires.in_range, c.self.invariant.same_size, c.insert.ensures.size)

pub set-requires : goal.set-requires
set-requires c =
    omega (arith, shown-within c.self.inside c.args.self.now c.args.page c.self.view_is c.requires.in_range, c.self.invariant.slotted.sized)

pub index_mut-requires : goal.index_mut-requires
index_mut-requires c =
    let reached = slot-reached c.self.inside c.args.self.now c.self.view_is c.self.invariant c.args.victim c.requires.victim_in_range c.requires.victim_is_in in
    let within = slot-within c.self.inside c.args.self.now c.self.view_is c.self.invariant c.args.victim c.requires.victim_in_range c.requires.victim_is_in in
    let slot = c.get-slot.ensures ∙ get_or_default c.self.inside.slots.list c.args.victim _ 0 reached in
    omega (arith, within, slot, c.self.inside.held.ok.0)

pub invariant_of-self : goal.invariant_of-self
invariant_of-self c =
    let reached = slot-reached c.self.inside c.args.self.now c.self.view_is c.self.invariant c.args.victim c.requires.victim_in_range c.requires.victim_is_in in
    let slot = c.get-slot.ensures ∙ get_or_default c.self.inside.slots.list c.args.victim _ 0 reached in
    kept_exchanged c.self.inside c.args.self.now c.self.view_is c.self.invariant
    (record { resident = c.insert-2.new.self; out = c.remove-page_was_out.new.self; slots = c.set.new.self; held = with_item c.self.inside.held c.get-slot.result c.trade_held.new.held })
    c.args.page c.args.victim c.get-slot.result c.trade_held.new.held c.requires.in_range c.requires.not_in c.requires.victim_in_range c.requires.victim_is_in c.trade_held.ensures.page slot
    (c.insert-2.ensures.after ∙ ap (λ r. insert r c.args.page) c.remove.ensures.after)
    (c.remove-page_was_out.ensures.after ∙ ap (λ o. remove o c.args.page) c.insert.ensures.after)
    (ap (λ (t : Items ℕ). t.list) c.set.ensures ∙ ap (set c.self.inside.slots.list c.args.page) slot) refl refl

-- the frame of the page that goes out
old-held : (c : goal.After-self-1) → c.index_mut.result.now ≡ held_at c.self.inside.held.items (get_or c.self.inside.slots.list c.args.victim 0)
old-held c =
    let reached = slot-reached c.self.inside c.args.self.now c.self.view_is c.self.invariant c.args.victim c.requires.victim_in_range c.requires.victim_is_in in
    let within = slot-within c.self.inside c.args.self.now c.self.view_is c.self.invariant c.args.victim c.requires.victim_in_range c.requires.victim_is_in in
    let slot = c.get-slot.ensures ∙ get_or_default c.self.inside.slots.list c.args.victim _ 0 reached in
    get_or_read c.self.inside.held.items _ _ (omega (arith, slot, within)) c.index_mut.ensures.value nothing_held ∙ ap (held_at c.self.inside.held.items) slot

pub returns-clause-area : goal.returns-clause-area
returns-clause-area c =
    let shown = shown-held c.self.inside c.args.self.now c.self.view_is c.self.invariant c.args.victim c.requires.victim_in_range c.requires.victim_is_in in
    let bytes = ap (λ (h : Held). h.frame.bytes) (old-held c) ∙ sym (ap bytes_of shown) in
    c.trade_held.ensures.area ∙ (λ i. record { pages = slots.insert (slots.remove c.args.area.now.pages c.args.page) c.args.victim (bytes i); capacity = c.args.area.now.capacity })

pub returns-clause-pages : goal.returns-clause-pages
returns-clause-pages c =
    let reached = slot-reached c.self.inside c.args.self.now c.self.view_is c.self.invariant c.args.victim c.requires.victim_in_range c.requires.victim_is_in in
    let slot = c.get-slot.ensures ∙ get_or_default c.self.inside.slots.list c.args.victim _ 0 reached in
    let shown = shown-held c.self.inside c.args.self.now c.self.view_is c.self.invariant c.args.victim c.requires.victim_in_range c.requires.victim_is_in in
    let number = ap (λ (h : Held). h.frame.number) (old-held c) ∙ sym (ap (λ p. (frame_of p).number) shown) in
    let frame = c.trade_held.ensures.frame ∙ (λ i. record { number = number i; bytes = unwrap_or (slots.get c.args.area.now.pages c.args.page) zero_bytes }) in
    shown_exchanged c.self.inside c.args.self.now c.self.view_is c.self.invariant
    (record { resident = c.insert-2.new.self; out = c.remove-page_was_out.new.self; slots = c.set.new.self; held = with_item c.self.inside.held c.get-slot.result c.trade_held.new.held })
    c.args.page c.args.victim c.get-slot.result c.trade_held.new.held c.requires.in_range c.requires.not_in c.requires.victim_in_range c.requires.victim_is_in c.trade_held.ensures.page slot
    (c.insert-2.ensures.after ∙ ap (λ r. insert r c.args.page) c.remove.ensures.after)
    (c.remove-page_was_out.ensures.after ∙ ap (λ o. remove o c.args.page) c.insert.ensures.after)
    (ap (λ (t : Items ℕ). t.list) c.set.ensures ∙ ap (set c.self.inside.slots.list c.args.page) slot) refl
    ∙ ap (λ f. set (set c.args.self.now c.args.victim Out) c.args.page (In f)) frame
