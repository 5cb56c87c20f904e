use Rattle.std.proofs.Common.{◌≡◌, ◌∙◌, ◌<◌, ◌+◌, List, ℕ, ap, arith, drop, get_or, length, map, sym}
use Rattle.std.proofs.lemmas.List.{length-map}
use Rattle.vm_steer.specs.Entries.{EntryView, names_in}
use Rattle.vm_steer.proofs.NameLemmas.{stands_in}
use Rattle.vm_log.specs.Seen.{held_left, left_in}
use Rattle.vm_log.proofs.EntryLemmas.{left_at, left_end, left_front, left_next}
use Rattle.vm_log.proofs.entries.left_in.Goals as goal

pub loop-entry-init : goal.loop-entry-init
loop-entry-init c =
    let e = left_front c.args.entries.now c.args.name.now in
    let at = ap (λ (p : ℕ). left_in c.args.name.now (drop p c.args.entries.now)) c.place_of-place.ensures.exact in
    record {
      done = omega (arith, e, at);
      behind = omega (arith, c.place_of-place.ensures.exact);
      within = c.place_of-place.ensures.within;
    }

pub bounds-entries-place : goal.bounds-entries-place
bounds-entries-place c =
    let all : length (names_in c.args.entries.now) ≡ length c.args.entries.now = length-map c.args.entries.now (λ (e : EntryView). e.name) in
    let within = stands_in (names_in c.args.entries.now) c.loop-entry.place c.args.name.now (sym c.is_at.ensures ∙ c.loop-entry-test.true) in
    omega (arith, all, within)

pub loop-entry-smaller : goal.loop-entry-smaller
loop-entry-smaller c =
    let all : length (names_in c.args.entries.now) ≡ length c.args.entries.now = length-map c.args.entries.now (λ (e : EntryView). e.name) in
    let within = stands_in (names_in c.args.entries.now) c.loop-entry.place c.args.name.now (sym c.is_at.ensures ∙ c.loop-entry-test.true) in
    omega (arith, all, within)

pub loop-entry-preserved : goal.loop-entry-preserved
loop-entry-preserved c =
    let e = c.index-entries-place.result in
    let here = left_at c.args.entries.now c.args.name.now c.loop-entry.place e (sym c.is_at.ensures ∙ c.loop-entry-test.true) c.index-entries-place.is in
    let held = c.held_left.ensures ∙ ap (λ (x : EntryView). held_left x.fate) c.entry.view_is in
    record {
      done = left_next c.args.entries.now c.args.name.now c.loop-entry.place e c.loop-entry.most c.held_left.result c.max-most.result (left_in c.args.name.now c.args.entries.now) here.0 c.index-entries-place.is here.1 held c.max-most.ensures c.loop-entry.invariant.done;
      behind = omega (arith, c.loop-entry.invariant.behind);
      within = omega (arith, here.0);
    }

pub returns : goal.returns
returns c =
    let end = left_end c.args.entries.now c.args.name.now c.loop-entry.place c.requires c.loop-entry.invariant.behind (sym c.is_at.ensures ∙ c.loop-entry-test.false) in
    omega (arith, end, c.loop-entry.invariant.done)
