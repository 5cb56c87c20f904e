use Rattle.std.proofs.Common.{◌≡◌, ◌≤◌, All, length, rules, ℕ, List, [], None, Result, subst, map, inl, sym, ap, ◌∙◌}
use Rattle.vm_trace.specs.Limits.{IsStep, IsWithin}
use Rattle.vm_domains.specs.Domains.{position_of}
use Rattle.vm_json.specs.View.{items_seen, view}
use Rattle.vm_trace.specs.declared.step.Step.{Step}
use Rattle.vm_config.specs.declared.place.Key.TheVariants.{Name, Trace}
use Rattle.vm_config.specs.declared.place.Part.TheVariants.{Guest}
use Rattle.vm_config.specs.declared.place.Place.TheVariants as place
use Rattle.vm_config.specs.Keys.{text_of}
use Rattle.vm_config.specs.Outcomes.{IsOrMemory}
use Rattle.vm_config.specs.Reading.{steps_from}
use Rattle.vm_config.specs.declared.error.ConfigError.{ConfigError}
use Rattle.vm_config.specs.Named.{listed_seen}
use Rattle.vm_config.specs.declared.version.Limits.{Limits}
use Rattle.vm_config.proofs.GuestKeysLemmas.{ReadsKeys, choices_fail, failed, guest_is, name_fails, numbered, pages_fail, rates_fail, texts_fail, trace_fails}
use Rattle.vm_config.proofs.StepLemmas.{failure, failure_of, fails, placed_fault, placed_holds, placed_memory, placed_value, value_wanted}
use Rattle.vm_config.proofs.guests.guest.Goals as goal

-- the steps are read for the guest that comes after the earlier ones
same_number : (limits : Limits) (size number count : ℕ) (texts : List (List ℕ)) (answer : Result (List Step) ConfigError)
    → number ≡ count → IsOrMemory answer (steps_from limits size number 0 texts []) → IsOrMemory answer (steps_from limits size count 0 texts [])
same_number limits size number count texts answer is read = subst (λ n. IsOrMemory answer (steps_from limits size n 0 texts [])) is read

pub returns-in_err-name : goal.returns-in_err-name
returns-in_err-name c =
    let f = c.in_err-name.field-0.0 in
    let answer = c.from_residual.result in
    let is = fails answer f c.from_residual.ensures.1 in
    let number = c.len.result in
    let d = view c.args.object.now in
    let limits = c.args.limits.now in
    let earlier = c.args.earlier.now in
    let name = placed_fault (place.Key (Guest number) Name) c.fresh_name.result (λ s. s.now) _ c.at.result f c.fresh_name.ensures.name c.at.ensures c.in_err-name.was in
    failed limits c.args.quantum c.args.page d earlier answer f is
    (failure (listed_seen answer) _ f (ap listed_seen is) (numbered limits c.args.quantum c.args.page d earlier number _ c.len.ensures
    (name_fails limits c.args.quantum c.args.page d earlier (Guest number) f name)))

pub returns-in_err-pages : goal.returns-in_err-pages
returns-in_err-pages c =
    let f = c.in_err-pages.field-0.0 in
    let answer = c.from_residual-in_err-pages.result in
    let is = fails answer f c.from_residual-in_err-pages.ensures.1 in
    let number = c.len.result in
    let d = view c.args.object.now in
    let limits = c.args.limits.now in
    let earlier = c.args.earlier.now in
    let name = placed_value (place.Key (Guest number) Name) c.fresh_name.result (λ s. s.now) _ c.at.result c.in_ok-name.name c.fresh_name.ensures.name c.at.ensures c.in_ok-name.was in
    failed limits c.args.quantum c.args.page d earlier answer f is
    (failure (listed_seen answer) _ f (ap listed_seen is) (numbered limits c.args.quantum c.args.page d earlier number _ c.len.ensures
    (pages_fail limits c.args.quantum c.args.page d earlier (Guest number) _ f name (sym c.pages_of.ensures.pages ∙ c.in_err-pages.was))))

pub returns-in_err-rates : goal.returns-in_err-rates
returns-in_err-rates c =
    let f = c.in_err-rates.field-0.0 in
    let answer = c.from_residual-in_err-rates.result in
    let is = fails answer f c.from_residual-in_err-rates.ensures.1 in
    let number = c.len.result in
    let d = view c.args.object.now in
    let limits = c.args.limits.now in
    let earlier = c.args.earlier.now in
    let name = placed_value (place.Key (Guest number) Name) c.fresh_name.result (λ s. s.now) _ c.at.result c.in_ok-name.name c.fresh_name.ensures.name c.at.ensures c.in_ok-name.was in
    let pages = sym c.pages_of.ensures.pages ∙ c.in_ok-pages.was in
    failed limits c.args.quantum c.args.page d earlier answer f is
    (failure (listed_seen answer) _ f (ap listed_seen is) (numbered limits c.args.quantum c.args.page d earlier number _ c.len.ensures
    (rates_fail limits c.args.quantum c.args.page d earlier (Guest number) _ c.in_ok-pages.pages f name pages (sym c.rates_of.ensures.rates ∙ c.in_err-rates.was))))

pub returns-in_err-choices : goal.returns-in_err-choices
returns-in_err-choices c =
    let f = c.in_err-choices.field-0.0 in
    let answer = c.from_residual-in_err-choices.result in
    let is = fails answer f c.from_residual-in_err-choices.ensures.1 in
    let number = c.len.result in
    let d = view c.args.object.now in
    let limits = c.args.limits.now in
    let earlier = c.args.earlier.now in
    let name = placed_value (place.Key (Guest number) Name) c.fresh_name.result (λ s. s.now) _ c.at.result c.in_ok-name.name c.fresh_name.ensures.name c.at.ensures c.in_ok-name.was in
    let pages = sym c.pages_of.ensures.pages ∙ c.in_ok-pages.was in
    let rates = sym c.rates_of.ensures.rates ∙ c.in_ok-rates.was in
    failed limits c.args.quantum c.args.page d earlier answer f is
    (failure (listed_seen answer) _ f (ap listed_seen is) (numbered limits c.args.quantum c.args.page d earlier number _ c.len.ensures
    (choices_fail limits c.args.quantum c.args.page d earlier (Guest number) _ c.in_ok-pages.pages c.in_ok-rates.rates f name pages rates (sym c.choices_of.ensures ∙ c.in_err-choices.was))))

pub returns-in_err-texts : goal.returns-in_err-texts
returns-in_err-texts c =
    let f = c.in_err-texts.field-0.0 in
    let answer = c.from_residual-in_err-texts.result in
    let is = fails answer f c.from_residual-in_err-texts.ensures.1 in
    let number = c.len.result in
    let d = view c.args.object.now in
    let limits = c.args.limits.now in
    let earlier = c.args.earlier.now in
    let name = placed_value (place.Key (Guest number) Name) c.fresh_name.result (λ s. s.now) _ c.at.result c.in_ok-name.name c.fresh_name.ensures.name c.at.ensures c.in_ok-name.was in
    let keys : ReadsKeys limits d (Guest number) c.in_ok-pages.pages c.in_ok-rates.rates c.in_ok-choices.choices = record {
      pages_are = sym c.pages_of.ensures.pages ∙ c.in_ok-pages.was;
      rates_are = sym c.rates_of.ensures.rates ∙ c.in_ok-rates.was;
      choices_are = sym c.choices_of.ensures ∙ c.in_ok-choices.was;
    } in
    let texts = placed_fault (place.Key (Guest number) Trace) c.texts_or_none.result (λ items. map text_of (items_seen items)) _ c.at-2.result f c.texts_or_none.ensures.texts c.at-2.ensures c.in_err-texts.was in
    failed limits c.args.quantum c.args.page d earlier answer f is
    (failure (listed_seen answer) _ f (ap listed_seen is) (numbered limits c.args.quantum c.args.page d earlier number _ c.len.ensures
    (texts_fail limits c.args.quantum c.args.page d earlier (Guest number) _ _ _ _ f name keys texts)))

pub returns-in_err-trace : goal.returns-in_err-trace
returns-in_err-trace c =
    let f = c.in_err-trace.field-0.0 in
    let answer = c.from_residual-in_err-trace.result in
    let is = fails answer f c.from_residual-in_err-trace.ensures.1 in
    let number = c.len.result in
    let d = view c.args.object.now in
    let limits = c.args.limits.now in
    let earlier = c.args.earlier.now in
    let name = placed_value (place.Key (Guest number) Name) c.fresh_name.result (λ s. s.now) _ c.at.result c.in_ok-name.name c.fresh_name.ensures.name c.at.ensures c.in_ok-name.was in
    let keys : ReadsKeys limits d (Guest number) c.in_ok-pages.pages c.in_ok-rates.rates c.in_ok-choices.choices = record {
      pages_are = sym c.pages_of.ensures.pages ∙ c.in_ok-pages.was;
      rates_are = sym c.rates_of.ensures.rates ∙ c.in_ok-rates.was;
      choices_are = sym c.choices_of.ensures ∙ c.in_ok-choices.was;
    } in
    let texts = placed_value (place.Key (Guest number) Trace) c.texts_or_none.result (λ items. map text_of (items_seen items)) _ c.at-2.result c.in_ok-texts.texts c.texts_or_none.ensures.texts c.at-2.ensures c.in_ok-texts.was in
    let steps = placed_memory (place.Key (Guest number) Trace) c.trace-trace.result _ c.at-3.result (same_number limits c.in_ok-pages.pages.size _ _ _ c.trace-trace.result c.len-2.ensures c.trace-trace.ensures.steps) c.at-3.ensures in
    failed limits c.args.quantum c.args.page d earlier answer f is
    (failure_of (listed_seen answer) _ c.at-3.result _ f (ap listed_seen is) steps c.in_err-trace.was
    (λ err. numbered limits c.args.quantum c.args.page d earlier number _ c.len.ensures (trace_fails limits c.args.quantum c.args.page d earlier (Guest number) _ _ _ _ _ f name keys texts err)))

pub returns-clause-guest : goal.returns-clause-guest
returns-clause-guest c =
    let number = c.len.result in
    let d = view c.args.object.now in
    let limits = c.args.limits.now in
    let earlier = c.args.earlier.now in
    let name = placed_value (place.Key (Guest number) Name) c.fresh_name.result (λ s. s.now) _ c.at.result c.in_ok-name.name c.fresh_name.ensures.name c.at.ensures c.in_ok-name.was in
    let keys : ReadsKeys limits d (Guest number) c.in_ok-pages.pages c.in_ok-rates.rates c.in_ok-choices.choices = record {
      pages_are = sym c.pages_of.ensures.pages ∙ c.in_ok-pages.was;
      rates_are = sym c.rates_of.ensures.rates ∙ c.in_ok-rates.was;
      choices_are = sym c.choices_of.ensures ∙ c.in_ok-choices.was;
    } in
    let texts = placed_value (place.Key (Guest number) Trace) c.texts_or_none.result (λ items. map text_of (items_seen items)) _ c.at-2.result c.in_ok-texts.texts c.texts_or_none.ensures.texts c.at-2.ensures c.in_ok-texts.was in
    let steps = placed_memory (place.Key (Guest number) Trace) c.trace-trace.result _ c.at-3.result (same_number limits c.in_ok-pages.pages.size _ _ _ c.trace-trace.result c.len-2.ensures c.trace-trace.ensures.steps) c.at-3.ensures in
    let trace = value_wanted c.at-3.result _ c.in_ok-trace.trace steps c.in_ok-trace.was in
    inl (sym (numbered limits c.args.quantum c.args.page d earlier number _ c.len.ensures
    (guest_is limits c.args.quantum c.args.page d earlier (Guest number) _ _ _ _ _ c.in_ok-trace.trace name keys texts trace)))

pub returns-clause-new_name : goal.returns-clause-new_name
returns-clause-new_name c =
    placed_holds (λ s. position_of s.now c.args.earlier.now ≡ None) (place.Key (Guest c.len.result) Name) c.fresh_name.result c.at.result
    c.in_ok-name.name c.fresh_name.ensures.new_name c.at.ensures c.in_ok-name.was

pub trace-trace-requires : goal.trace-trace-requires
trace-trace-requires c = c.requires.limits

pub returns-clause-within : goal.returns-clause-within
returns-clause-within c =
    let pages = c.in_ok-pages.ensures in
    let rates = c.in_ok-rates.ensures in
    let trace = c.trace-trace.ensures in
    let read = c.in_ok-trace.was in
    let place = place.Key (Guest c.len.result) Trace in
    record {
      some_frames = pages.some;
      min_within = pages.within;
      few_pages = pages.few;
      some_shares = rates.shares.0;
      few_shares = rates.shares.1;
      some_samples = rates.samples.0;
      few_samples = rates.samples.1;
      some_period = rates.period.0;
      short_period = rates.period.1;
      some_rate = rates.rate.0;
      low_rate = rates.rate.1;
      some_quantum = c.requires.some_quantum;
      short_quantum = c.requires.short_quantum;
      seed_fits = search rules;
      stream_fits = search rules;
      short_trace = placed_holds (λ steps. length steps ≤ 1000000) place c.trace-trace.result c.at-3.result c.in_ok-trace.trace trace.count c.at-3.ensures read;
      page_from = c.requires.some_kib;
      page_to = c.requires.few_kib;
      steps = placed_holds (All (IsWithin c.in_ok-pages.pages.size)) place c.trace-trace.result c.at-3.result c.in_ok-trace.trace trace.within c.at-3.ensures read;
      bounded = placed_holds (All IsStep) place c.trace-trace.result c.at-3.result c.in_ok-trace.trace trace.bounded c.at-3.ensures read;
    }
