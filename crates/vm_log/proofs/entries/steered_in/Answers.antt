use Rattle.std.proofs.Common.{◌≡◌, ◌∙◌, ◌<◌, List, ℕ, ap, arith, get_or, length, map, sym}
use Rattle.std.proofs.lemmas.List.{length-map}
use Rattle.vm_steer.specs.Entries.{EntryView, names_in}
use Rattle.vm_steer.specs.Names.{stands_at}
use Rattle.vm_steer.proofs.NameLemmas.{stands_in}
use Rattle.vm_log.specs.Seen.{as_steered}
use Rattle.vm_log.proofs.EntryLemmas.{steered_none, steered_there}
use Rattle.vm_log.proofs.entries.steered_in.Goals as goal

pub bounds-entries-place : goal.bounds-entries-place
bounds-entries-place c =
    let all : length (names_in c.args.entries.now) ≡ length c.args.entries.now = length-map c.args.entries.now (λ (e : EntryView). e.name) in
    let within = stands_in (names_in c.args.entries.now) c.place_of-place.result c.args.name.now (sym c.is_at.ensures ∙ c.if-is_at.true) in
    omega (arith, all, within)

pub returns-then-is_at : goal.returns-then-is_at
returns-then-is_at c =
    c.as_steered.ensures
    ∙ (ap as_steered (ap (λ (e : EntryView). e.fate) c.entry.view_is)
    ∙ steered_there c.args.entries.now c.args.name.now c.place_of-place.result c.index-entries-place.result c.requires c.place_of-place.ensures.exact (sym c.is_at.ensures ∙ c.if-is_at.true) c.index-entries-place.is)

pub returns-else-is_at : goal.returns-else-is_at
returns-else-is_at c =
    steered_none c.args.entries.now c.args.name.now c.place_of-place.result c.requires c.place_of-place.ensures.exact (sym c.is_at.ensures ∙ c.if-is_at.false)
