use Rattle.std.proofs.lemmas.List.Elements.{All-set}
use Rattle.vm_guest.specs.Config.{IsWithinLimits}
use Rattle.vm_variants.specs.Variants.{with_seed_added}
use Rattle.vm_variants.proofs.ListLemmas.{end-first_mapped, step-first_mapped}
use Rattle.vm_variants.proofs.seeds.add_to_each.Goals as goal

pub loop-guest-preserved : goal.loop-guest-preserved
loop-guest-preserved c =
    let i = c.loop-guest.guest-index in
    let new = c.add_to_seed.new.guest in
    record {
      guests = step-first_mapped (with_seed_added c.args.added) c.loop-guest.guests c.args.guests.now i new c.guest-item.result
          c.loop-guest.invariant.guests c.loop-guest-test.true c.add_to_seed.ensures.guest;
      limits = All-set IsWithinLimits c.loop-guest.guests i new c.add_to_seed.ensures.limits c.loop-guest.invariant.limits;
    }

pub returns-clause-guests : goal.returns-clause-guests
returns-clause-guests c =
    end-first_mapped (with_seed_added c.args.added) c.loop-guest.guests c.args.guests.now c.loop-guest.guest-index
    c.loop-guest.invariant.guests c.loop-guest.auto.guest-index-end c.loop-guest-test.false

pub returns-clause-limits : goal.returns-clause-limits
returns-clause-limits c = c.loop-guest.invariant.limits
