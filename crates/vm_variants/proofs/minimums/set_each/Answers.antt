use Rattle.std.proofs.lemmas.List.Elements.{All-set}
use Rattle.vm_guest.specs.Config.{IsWithinLimits}
use Rattle.vm_variants.specs.Variants.{with_min_percent}
use Rattle.vm_variants.proofs.ListLemmas.{end-first_mapped, step-first_mapped}
use Rattle.vm_variants.proofs.minimums.set_each.Goals as goal

pub loop-guest-preserved : goal.loop-guest-preserved
loop-guest-preserved c =
    let i = c.loop-guest.guest-index in
    let new = c.set_minimum.new.guest in
    record {
      guests = step-first_mapped (with_min_percent c.args.percent) c.loop-guest.guests c.args.guests.now i new c.guest-item.result
          c.loop-guest.invariant.guests c.loop-guest-test.true c.set_minimum.ensures.guest;
      limits = All-set IsWithinLimits c.loop-guest.guests i new c.set_minimum.ensures.limits c.loop-guest.invariant.limits;
    }

pub returns-clause-guests : goal.returns-clause-guests
returns-clause-guests c =
    end-first_mapped (with_min_percent c.args.percent) c.loop-guest.guests c.args.guests.now c.loop-guest.guest-index
    c.loop-guest.invariant.guests c.loop-guest.auto.guest-index-end c.loop-guest-test.false

pub returns-clause-limits : goal.returns-clause-limits
returns-clause-limits c = c.loop-guest.invariant.limits
