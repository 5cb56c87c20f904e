use Rattle.std.proofs.Common.{◌≡◌, ◌∙◌, List, ℕ, ap, map, sym}
use Rattle.vm_steer.specs.Names.{stands_at}
use Rattle.vm_log.proofs.GatherLemmas.{among-place}
use Rattle.vm_log.proofs.named.is_among.Goals as goal

pub returns : goal.returns
returns g c =
    let names = map g.T.Named.name_of c.args.items.now in
    c.is_at.ensures ∙ (ap (λ (p : ℕ). stands_at names p c.args.name.now) c.place_of.ensures.exact ∙ sym (among-place c.args.name.now names c.requires))
