use Rattle.std.proofs.Common.{◌≤◌, map, inl, sym, vec_len, rules, ◌∙◌}
use Rattle.std.proofs.Math.Nat.{le_trans}
use Rattle.vm_json.specs.View.{view}
use Rattle.vm_config.specs.declared.place.Key.TheVariants.{Guests, Commands}
use Rattle.vm_config.specs.declared.place.Part.TheVariants.{Root}
use Rattle.vm_config.specs.declared.place.Place.TheVariants as place
use Rattle.vm_config.proofs.KeysLemmas.{commands_fail, failed, guests_fail, keys_are, numbers_fail, objects_fail, schedule_fails}
use Rattle.vm_config.proofs.StepLemmas.{failure, failure_of, fails, placed_fault, placed_holds, placed_value, value_wanted}
use Rattle.vm_config.proofs.reading.keys.Goals as goal

pub returns-in_err-numbers : goal.returns-in_err-numbers
returns-in_err-numbers c =
    let f = c.in_err-numbers.field-0.0 in
    let is = fails c.from_residual.result f c.from_residual.ensures.1 in
    failed c.args.limits.now (view c.args.root) c.from_residual.result f is
    (failure _ _ f is (numbers_fail c.args.limits.now (view c.args.root) f (sym c.numbers_of.ensures.numbers ∙ c.in_err-numbers.was)))

pub returns-in_err-at : goal.returns-in_err-at
returns-in_err-at c =
    let f = c.in_err-at.field-0.0 in
    let is = fails c.from_residual-in_err-at.result f c.from_residual-in_err-at.ensures.1 in
    let objects = placed_fault (place.Key Root Guests) c.objects.result (λ vs. map view vs.now) _ c.at.result f c.objects.ensures.objects c.at.ensures c.in_err-at.was in
    failed c.args.limits.now (view c.args.root) c.from_residual-in_err-at.result f is
    (failure _ _ f is (objects_fail c.args.limits.now (view c.args.root) c.in_ok-numbers.numbers f (sym c.numbers_of.ensures.numbers ∙ c.in_ok-numbers.was) objects))

pub returns-in_err-schedule : goal.returns-in_err-schedule
returns-in_err-schedule c =
    let f = c.in_err-schedule.field-0.0 in
    let is = fails c.from_residual-in_err-schedule.result f c.from_residual-in_err-schedule.ensures.1 in
    let objects = placed_value (place.Key Root Guests) c.objects.result (λ vs. map view vs.now) _ c.at.result c.in_ok-at.field-0 c.objects.ensures.objects c.at.ensures c.in_ok-at.was in
    let schedule = placed_fault (place.Key Root Commands) c.objects_or_none-schedule.result (λ vs. map view vs.now) _ c.at-2.result f c.objects_or_none-schedule.ensures c.at-2.ensures c.in_err-schedule.was in
    failed c.args.limits.now (view c.args.root) c.from_residual-in_err-schedule.result f is
    (failure _ _ f is (schedule_fails c.args.limits.now (view c.args.root) c.in_ok-numbers.numbers _ f (sym c.numbers_of.ensures.numbers ∙ c.in_ok-numbers.was) objects schedule))

pub returns-in_err-objects : goal.returns-in_err-objects
returns-in_err-objects c =
    let f = c.in_err-objects.field-0.0 in
    let is = fails c.from_residual-in_err-objects.result f c.from_residual-in_err-objects.ensures.1 in
    let objects = placed_fault (place.Key Root Guests) c.take_objects.result (λ vs. map view vs.items) _ c.at-3.result f c.take_objects.ensures.objects c.at-3.ensures c.in_err-objects.was in
    failed c.args.limits.now (view c.args.root) c.from_residual-in_err-objects.result f is
    (failure _ _ f is (objects_fail c.args.limits.now (view c.args.root) c.in_ok-numbers.numbers f (sym c.numbers_of.ensures.numbers ∙ c.in_ok-numbers.was) objects))

pub returns-in_err-domains : goal.returns-in_err-domains
returns-in_err-domains c =
    let f = c.in_err-domains.field-0.0 in
    let is = fails c.from_residual-in_err-domains.result f c.from_residual-in_err-domains.ensures.1 in
    let objects = placed_value (place.Key Root Guests) c.take_objects.result (λ vs. map view vs.items) _ c.at-3.result c.in_ok-objects.objects c.take_objects.ensures.objects c.at-3.ensures c.in_ok-objects.was in
    let schedule = placed_value (place.Key Root Commands) c.objects_or_none-schedule.result (λ vs. map view vs.now) _ c.at-2.result c.in_ok-schedule.schedule c.objects_or_none-schedule.ensures c.at-2.ensures c.in_ok-schedule.was in
    failed c.args.limits.now (view c.args.root) c.from_residual-in_err-domains.result f is
    (failure_of _ _ c.guests.result _ f is c.guests.ensures.guests c.in_err-domains.was
    (guests_fail c.args.limits.now (view c.args.root) c.in_ok-numbers.numbers _ _ f (sym c.numbers_of.ensures.numbers ∙ c.in_ok-numbers.was) objects schedule))

pub returns-in_err-commands : goal.returns-in_err-commands
returns-in_err-commands c =
    let f = c.in_err-commands.field-0.0 in
    let is = fails c.from_residual-in_err-commands.result f c.from_residual-in_err-commands.ensures.1 in
    let objects = placed_value (place.Key Root Guests) c.take_objects.result (λ vs. map view vs.items) _ c.at-3.result c.in_ok-objects.objects c.take_objects.ensures.objects c.at-3.ensures c.in_ok-objects.was in
    let schedule = placed_value (place.Key Root Commands) c.objects_or_none-schedule.result (λ vs. map view vs.now) _ c.at-2.result c.in_ok-schedule.schedule c.objects_or_none-schedule.ensures c.at-2.ensures c.in_ok-schedule.was in
    let guests = value_wanted c.guests.result _ c.in_ok-domains.field-0 c.guests.ensures.guests c.in_ok-domains.was in
    failed c.args.limits.now (view c.args.root) c.from_residual-in_err-commands.result f is
    (failure_of _ _ c.commands-commands.result _ f is c.commands-commands.ensures c.in_err-commands.was
    (commands_fail c.args.limits.now (view c.args.root) c.in_ok-numbers.numbers _ _ c.in_ok-domains.field-0 f (sym c.numbers_of.ensures.numbers ∙ c.in_ok-numbers.was) objects schedule guests))

pub returns-clause-config : goal.returns-clause-config
returns-clause-config c =
    let objects = placed_value (place.Key Root Guests) c.take_objects.result (λ vs. map view vs.items) _ c.at-3.result c.in_ok-objects.objects c.take_objects.ensures.objects c.at-3.ensures c.in_ok-objects.was in
    let schedule = placed_value (place.Key Root Commands) c.objects_or_none-schedule.result (λ vs. map view vs.now) _ c.at-2.result c.in_ok-schedule.schedule c.objects_or_none-schedule.ensures c.at-2.ensures c.in_ok-schedule.was in
    let guests = value_wanted c.guests.result _ c.in_ok-domains.field-0 c.guests.ensures.guests c.in_ok-domains.was in
    let commands = value_wanted c.commands-commands.result _ c.in_ok-commands.field-0 c.commands-commands.ensures c.in_ok-commands.was in
    inl (sym (keys_are c.args.limits.now (view c.args.root) c.in_ok-numbers.numbers _ _ c.in_ok-domains.field-0 c.in_ok-commands.field-0 (sym c.numbers_of.ensures.numbers ∙ c.in_ok-numbers.was) objects schedule guests commands))

pub guests-requires : goal.guests-requires
guests-requires c =
    let few = placed_holds (λ vs. vec_len vs ≤ c.args.limits.now.guests) (place.Key Root Guests) c.take_objects.result c.at-3.result c.in_ok-objects.objects c.take_objects.ensures.few c.at-3.ensures c.in_ok-objects.was in
    record {
      limits = c.requires;
      few = le_trans few c.requires.guests;
      some_quantum = c.in_ok-numbers.ensures.quantum.0;
      short_quantum = c.in_ok-numbers.ensures.quantum.1;
      some_kib = c.in_ok-numbers.ensures.page.0;
      few_kib = c.in_ok-numbers.ensures.page.1;
    }

pub returns-clause-limits : goal.returns-clause-limits
returns-clause-limits c = record {
  machine = search rules;
  domains = c.in_ok-domains.ensures.within;
  few = c.in_ok-domains.ensures.few;
  autostart = c.in_ok-domains.ensures.autostart;
}

pub returns-clause-tax : goal.returns-clause-tax
returns-clause-tax c = c.in_ok-numbers.ensures.tax

pub returns-clause-percent : goal.returns-clause-percent
returns-clause-percent c = c.in_ok-numbers.ensures.percent
