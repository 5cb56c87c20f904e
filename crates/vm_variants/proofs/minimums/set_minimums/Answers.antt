use Rattle.std.proofs.Common.{ap, map, ◌∙◌}
use Rattle.std.proofs.lemmas.List.{with_items_is}
use Rattle.vm_domains.specs.Domains.{configs_of}
use Rattle.vm_variants.specs.Variants.{with_min_percent}
use Rattle.vm_variants.proofs.PartLemmas.{each-part, put-back}
use Rattle.vm_variants.proofs.minimums.set_minimums.Goals as goal

pub returns : goal.returns
returns c =
    let config = c.args.config.now in
    let taken = c.take_guests-names in
    let change = with_min_percent c.args.percent in
    let new = c.set_each.new.guests in
    let back = with_items_is taken.result.1 new (c.set_each.auto.guests ∙ c.deref_mut.ensures.len) in
    let before = c.deref_mut.ensures.value ∙ taken.ensures.guests in
    put-back config taken.new.config c.put_guests.new.config taken.result.0 _ (map change (configs_of config.domains)) _
    taken.ensures.rest taken.ensures.names (back ∙ c.set_each.ensures.guests ∙ ap (map change) before)
    (each-part change config.domains) c.put_guests.ensures
