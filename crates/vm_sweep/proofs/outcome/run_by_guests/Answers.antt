use Rattle.std.proofs.Common.{◌∙◌, ap}
use Rattle.vm_domains.specs.Domains.{names_of}
use Rattle.vm_tally.specs.GuestSummary.{guest_summaries_of}
use Rattle.vm_tally.specs.GuestTable.{guest_records}
use Rattle.vm_sweep.specs.Combinations.{numbers_of}
use Rattle.vm_sweep.proofs.outcome.run_by_guests.Goals as goal

pub returns-clause-told : goal.returns-clause-told
returns-clause-told c =
    let rebalancing = c.args.rebalancing in
    let variant = c.args.variant.now in
    let names = c.in_ok-names.ensures.names in
    let summaries = c.deref.ensures.value ∙ c.in_ok-summaries.ensures.summaries ∙ ap guest_summaries_of c.guest_names.ensures.unchanged in
    c.in_ok-records.ensures ∙ ap (λ list. guest_records rebalancing variant.combination (numbers_of variant) list c.deref.result.now) names
    ∙ ap (guest_records rebalancing variant.combination (numbers_of variant) (names_of c.args.config.domains)) summaries

pub returns-clause-back : goal.returns-clause-back
returns-clause-back c = c.in_ok-summaries.ensures.back ∙ c.guest_names.ensures.unchanged
