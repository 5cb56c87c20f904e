use Rattle.std.proofs.Common.{ap, set, sym, ◌∙◌}
use Rattle.vm_variants.specs.Guests.{with_value}
use Rattle.vm_variants.proofs.ListLemmas.{changed-set}
use Rattle.vm_variants.proofs.setting.set_at.Goals as goal

pub returns-clause-ok : goal.returns-clause-ok
returns-clause-ok c =
    let guests = c.args.guests.now in
    let change = with_value c.args.setting c.args.value in
    ap (set guests c.args.place) c.set_value.ensures.guest
    ∙ sym (changed-set c.args.place change guests c.index-guests-place.result)
