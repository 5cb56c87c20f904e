use Rattle.std.proofs.Common.{◌∙◌, List, ℕ, true, Bor, map, sym}
use Rattle.vm_steer.proofs.NameLemmas.{not_there, twice_at}
use Rattle.vm_steer.proofs.names.stands_twice.Goals as goal

pub returns-then-is_at : goal.returns-then-is_at
returns-then-is_at c =
    let names = map (λ (n : Bor (List ℕ)). n.now) c.args.names.now in
    twice_at names c.args.name.now c.place_near-place.result true _ c.requires c.place_near-place.ensures.exact (sym c.is_at.ensures ∙ c.if-is_at.true) c.is_at-then-is_at.ensures

pub returns-else-is_at : goal.returns-else-is_at
returns-else-is_at c =
    let names = map (λ (n : Bor (List ℕ)). n.now) c.args.names.now in
    c.if-is_at.false ∙ not_there names c.args.name.now c.place_near-place.result c.requires c.place_near-place.ensures.exact (sym c.is_at.ensures ∙ c.if-is_at.false)
