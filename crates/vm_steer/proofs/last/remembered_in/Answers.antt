use Rattle.std.proofs.Common.{◌∙◌, List, ℕ, Bor, length, map, arith, sym, ap}
use Rattle.std.proofs.lemmas.List.{length-map}
use Rattle.vm_steer.specs.Entries.{EntryView}
use Rattle.vm_steer.proofs.LastLemmas.{remembered_not, remembered_there}
use Rattle.vm_steer.proofs.NameLemmas.{stands_in}
use Rattle.vm_steer.proofs.last.remembered_in.Goals as goal

pub remembered_at-requires : goal.remembered_at-requires
remembered_at-requires c =
    let names = map (λ (n : Bor (List ℕ)). n.now) c.args.names.now in
    let within = stands_in names c.place_near-place.result c.args.name.now (sym c.is_at.ensures ∙ c.if-is_at.true) in
    let all = ap length c.requires.names ∙ length-map c.args.entries.now (λ (e : EntryView). e.name) in
    omega (arith, within, all)

pub returns-then-is_at : goal.returns-then-is_at
returns-then-is_at c =
    let names = map (λ (n : Bor (List ℕ)). n.now) c.args.names.now in
    c.remembered_at.ensures ∙ remembered_there c.args.entries.now names c.args.name.now c.place_near-place.result c.requires.rising c.requires.names c.place_near-place.ensures.exact (sym c.is_at.ensures ∙ c.if-is_at.true)

pub returns-else-is_at : goal.returns-else-is_at
returns-else-is_at c =
    let names = map (λ (n : Bor (List ℕ)). n.now) c.args.names.now in
    remembered_not c.args.entries.now names c.args.name.now c.place_near-place.result c.requires.rising c.requires.names c.place_near-place.ensures.exact (sym c.is_at.ensures ∙ c.if-is_at.false)
