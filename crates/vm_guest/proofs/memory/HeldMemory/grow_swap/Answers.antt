use Rattle.std.proofs.Common.{◌≡◌, ℕ, ◌+◌, length, is_some, subst, sym, ap}
use Rattle.std.specs.Prelude.{Err, Ok, OnErr, OnOk, Result, map}
use Rattle.std.specs.FinMap as slots
use Rattle.vm_pagemap.specs.PageMap.{page_at}
use Rattle.vm_pages.specs.Pages.{count}
use Rattle.vm_swap.specs.Area.{Area}
use Rattle.vm_guest.specs.Holding.{Holding, Slots, content_of, holding_of, is_out}
use Rattle.vm_guest.proofs.AllottedLemmas.{on-err, on-ok}
use Rattle.vm_guest.proofs.memory.HeldMemory.grow_swap.Goals as goal

grown-slots : {E : Type 0} (result : Result (Unit {0}) E) (old new : Area) (more : ℕ) → OnOk result (new ≡ record old { capacity = old.capacity + more }) → OnErr result (new ≡ old) → new.pages ≡ old.pages
grown-slots (Ok done) old new more grown same = ap (λ (a : Area). a.pages) grown
grown-slots (Err refused) old new more grown same = ap (λ (a : Area). a.pages) same

pub invariant_of-self : goal.invariant_of-self
invariant_of-self c =
    let m = c.self.inside in
    let holding = c.self.invariant.holding in
    let same = sym (grown-slots c.grow.result m.swap c.grow.new.self c.args.more c.grow.ensures.ok c.grow.ensures.err) in
    record {
      holding = record {
        few_pages = holding.few_pages;
        once = holding.once;
        bytes = subst (λ (kept : Slots). (page : ℕ) → length (content_of kept page (page_at m.pages page)) ≡ 4096) same holding.bytes;
        kept = subst (λ (kept : Slots). (page : ℕ) → is_some (slots.get kept page) ≡ is_out (page_at m.pages page)) same holding.kept;
        swapped = subst (λ (kept : Slots). slots.len kept ≡ count (map is_out m.pages)) same holding.swapped;
        few_held = holding.few_held;
      };
      room = c.self.invariant.room;
    }

pub returns-clause-ok : goal.returns-clause-ok
returns-clause-ok c =
    let m = c.self.inside in
    let more = c.args.more in
    rw (← c.self.view_is)
    (on-ok c.grow.result (c.grow.new.self ≡ record m.swap { capacity = m.swap.capacity + more }) _
    (λ is. ap {B = Holding} (λ (a : Area). holding_of m.pages a m.spares.items) is) c.grow.ensures.ok)

pub returns-clause-err : goal.returns-clause-err
returns-clause-err c =
    let m = c.self.inside in
    rw (← c.self.view_is)
    (on-err c.grow.result (c.grow.new.self ≡ m.swap) _
    (λ is. ap {B = Holding} (λ (a : Area). holding_of m.pages a m.spares.items) is) c.grow.ensures.err)
