use Rattle.std.proofs.Common.{◌≡◌, ◌≤◌, ℕ, Result, Ok, Err, IfOk, refl, sym, ◌∙◌}
use Rattle.serde_json.specs.Data.{Data}
use Rattle.vm_domains.specs.Machine.{MachineConfig}
use Rattle.vm_json.specs.View.{view}
use Rattle.vm_plan.specs.declared.thresholds.Percents.{Percents}
use Rattle.vm_config.specs.declared.fault.Fault.{Fault}
use Rattle.vm_config.specs.declared.machine.Additions.{Additions}
use Rattle.vm_config.specs.declared.place.Key.TheVariants.{Frames, Swap, Overhead, Tax, Percent, PageRate}
use Rattle.vm_config.specs.declared.place.Part.TheVariants.{Root}
use Rattle.vm_config.specs.declared.version.Limits.{Limits}
use Rattle.vm_config.specs.Located.{additions_at, machine_at}
use Rattle.vm_config.specs.Places.{number_at, number_or_at, percents_or_at}
use Rattle.vm_config.proofs.StepLemmas.{fails, no_value}
use Rattle.vm_config.proofs.machine.machine.Goals as goal

-- what is promised of an answer, and holds of a failure
abbrev Promises : Limits → Data → Result MachineConfig Fault → Type 0
Promises l d answer = record {
  machine : answer ≡ machine_at l d;
  tax : IfOk answer (λ m. m.tax ≤ l.tax);
  percent : IfOk answer (λ m. m.percent.high ≤ l.percent);
}

failed : (l : Limits) (d : Data) (answer : Result MachineConfig Fault) (f : Fault)
    → answer ≡ Err f → machine_at l d ≡ Err f → Promises l d answer
failed l d answer f is should = record {
  machine = is ∙ sym should;
  tax = no_value (λ m. m.tax ≤ l.tax) answer f is;
  percent = no_value (λ m. m.percent.high ≤ l.percent) answer f is;
}

frames_fails : (limits : Limits) (d : Data) (f : Fault)
    → number_at d Root Frames 1 limits.frames ≡ Err f → machine_at limits d ≡ Err f
unfolding machine_at
frames_fails limits d f is = rw is refl

swap_fails : (limits : Limits) (d : Data) (frames : ℕ) (f : Fault)
    → number_at d Root Frames 1 limits.frames ≡ Ok frames → number_or_at d Root Swap 0 limits.swap 0 ≡ Err f → machine_at limits d ≡ Err f
unfolding machine_at
swap_fails limits d frames f read_frames is = rw (read_frames, is) refl

overhead_fails : (limits : Limits) (d : Data) (frames : ℕ) (swap : ℕ) (f : Fault)
    → number_at d Root Frames 1 limits.frames ≡ Ok frames → number_or_at d Root Swap 0 limits.swap 0 ≡ Ok swap → number_or_at d Root Overhead 0 1024 0 ≡ Err f → machine_at limits d ≡ Err f
unfolding machine_at
overhead_fails limits d frames swap f read_frames read_swap is = rw (read_frames, read_swap, is) refl

tax_fails : (limits : Limits) (d : Data) (frames : ℕ) (swap : ℕ) (overhead : ℕ) (f : Fault)
    → number_at d Root Frames 1 limits.frames ≡ Ok frames → number_or_at d Root Swap 0 limits.swap 0 ≡ Ok swap → number_or_at d Root Overhead 0 1024 0 ≡ Ok overhead → number_or_at d Root Tax 0 limits.tax limits.default_tax ≡ Err f → machine_at limits d ≡ Err f
unfolding machine_at
tax_fails limits d frames swap overhead f read_frames read_swap read_overhead is = rw (read_frames, read_swap, read_overhead, is) refl

percent_fails : (limits : Limits) (d : Data) (frames : ℕ) (swap : ℕ) (overhead : ℕ) (tax : ℕ) (f : Fault)
    → number_at d Root Frames 1 limits.frames ≡ Ok frames → number_or_at d Root Swap 0 limits.swap 0 ≡ Ok swap → number_or_at d Root Overhead 0 1024 0 ≡ Ok overhead → number_or_at d Root Tax 0 limits.tax limits.default_tax ≡ Ok tax → percents_or_at d Root Percent limits.percent limits.default_percent ≡ Err f → machine_at limits d ≡ Err f
unfolding machine_at
percent_fails limits d frames swap overhead tax f read_frames read_swap read_overhead read_tax is = rw (read_frames, read_swap, read_overhead, read_tax, is) refl

page_rate_fails : (limits : Limits) (d : Data) (frames : ℕ) (swap : ℕ) (overhead : ℕ) (tax : ℕ) (percent : Percents) (f : Fault)
    → number_at d Root Frames 1 limits.frames ≡ Ok frames → number_or_at d Root Swap 0 limits.swap 0 ≡ Ok swap → number_or_at d Root Overhead 0 1024 0 ≡ Ok overhead → number_or_at d Root Tax 0 limits.tax limits.default_tax ≡ Ok tax → percents_or_at d Root Percent limits.percent limits.default_percent ≡ Ok percent → number_or_at d Root PageRate 1 256 16 ≡ Err f → machine_at limits d ≡ Err f
unfolding machine_at
page_rate_fails limits d frames swap overhead tax percent f read_frames read_swap read_overhead read_tax read_percent is = rw (read_frames, read_swap, read_overhead, read_tax, read_percent, is) refl

additions_fail : (limits : Limits) (d : Data) (frames : ℕ) (swap : ℕ) (overhead : ℕ) (tax : ℕ) (percent : Percents) (page_rate : ℕ) (f : Fault)
    → number_at d Root Frames 1 limits.frames ≡ Ok frames → number_or_at d Root Swap 0 limits.swap 0 ≡ Ok swap → number_or_at d Root Overhead 0 1024 0 ≡ Ok overhead → number_or_at d Root Tax 0 limits.tax limits.default_tax ≡ Ok tax → percents_or_at d Root Percent limits.percent limits.default_percent ≡ Ok percent → number_or_at d Root PageRate 1 256 16 ≡ Ok page_rate → additions_at limits d ≡ Err f → machine_at limits d ≡ Err f
unfolding machine_at
additions_fail limits d frames swap overhead tax percent page_rate f read_frames read_swap read_overhead read_tax read_percent read_page_rate is = rw (read_frames, read_swap, read_overhead, read_tax, read_percent, read_page_rate, is) refl

machine_is : (limits : Limits) (d : Data) (frames : ℕ) (swap : ℕ) (overhead : ℕ) (tax : ℕ) (percent : Percents) (page_rate : ℕ) (additions : Additions)
    → number_at d Root Frames 1 limits.frames ≡ Ok frames → number_or_at d Root Swap 0 limits.swap 0 ≡ Ok swap → number_or_at d Root Overhead 0 1024 0 ≡ Ok overhead → number_or_at d Root Tax 0 limits.tax limits.default_tax ≡ Ok tax → percents_or_at d Root Percent limits.percent limits.default_percent ≡ Ok percent → number_or_at d Root PageRate 1 256 16 ≡ Ok page_rate → additions_at limits d ≡ Ok additions → machine_at limits d ≡ Ok (record { frames = frames; swap = swap; overhead = overhead; tax = tax; percent = percent; page_rate = page_rate; rebalance = additions.rebalance; page = additions.page })
unfolding machine_at
machine_is limits d frames swap overhead tax percent page_rate additions read_frames read_swap read_overhead read_tax read_percent read_page_rate read_additions = rw (read_frames, read_swap, read_overhead, read_tax, read_percent, read_page_rate, read_additions) refl

pub returns-in_err-frames : goal.returns-in_err-frames
returns-in_err-frames c =
    let f = c.in_err-frames.field-0.0 in
    let is = fails c.from_residual.result f c.from_residual.ensures.1 in
    failed c.args.limits.now (view c.args.object.now) c.from_residual.result f is
    (frames_fails c.args.limits.now (view c.args.object.now) f
    (sym c.number.ensures.value ∙ c.in_err-frames.was))

pub returns-in_err-swap : goal.returns-in_err-swap
returns-in_err-swap c =
    let f = c.in_err-swap.field-0.0 in
    let is = fails c.from_residual-in_err-swap.result f c.from_residual-in_err-swap.ensures.1 in
    failed c.args.limits.now (view c.args.object.now) c.from_residual-in_err-swap.result f is
    (swap_fails c.args.limits.now (view c.args.object.now) c.in_ok-frames.frames f
    (sym c.number.ensures.value ∙ c.in_ok-frames.was)
    (sym c.number_or_default.ensures.value ∙ c.in_err-swap.was))

pub returns-in_err-overhead : goal.returns-in_err-overhead
returns-in_err-overhead c =
    let f = c.in_err-overhead.field-0.0 in
    let is = fails c.from_residual-in_err-overhead.result f c.from_residual-in_err-overhead.ensures.1 in
    failed c.args.limits.now (view c.args.object.now) c.from_residual-in_err-overhead.result f is
    (overhead_fails c.args.limits.now (view c.args.object.now) c.in_ok-frames.frames c.in_ok-swap.swap f
    (sym c.number.ensures.value ∙ c.in_ok-frames.was)
    (sym c.number_or_default.ensures.value ∙ c.in_ok-swap.was)
    (sym c.number_or_default-2.ensures.value ∙ c.in_err-overhead.was))

pub returns-in_err-tax : goal.returns-in_err-tax
returns-in_err-tax c =
    let f = c.in_err-tax.field-0.0 in
    let is = fails c.from_residual-in_err-tax.result f c.from_residual-in_err-tax.ensures.1 in
    failed c.args.limits.now (view c.args.object.now) c.from_residual-in_err-tax.result f is
    (tax_fails c.args.limits.now (view c.args.object.now) c.in_ok-frames.frames c.in_ok-swap.swap c.in_ok-overhead.overhead f
    (sym c.number.ensures.value ∙ c.in_ok-frames.was)
    (sym c.number_or_default.ensures.value ∙ c.in_ok-swap.was)
    (sym c.number_or_default-2.ensures.value ∙ c.in_ok-overhead.was)
    (sym c.number_or_default-3.ensures.value ∙ c.in_err-tax.was))

pub returns-in_err-percent : goal.returns-in_err-percent
returns-in_err-percent c =
    let f = c.in_err-percent.field-0.0 in
    let is = fails c.from_residual-in_err-percent.result f c.from_residual-in_err-percent.ensures.1 in
    failed c.args.limits.now (view c.args.object.now) c.from_residual-in_err-percent.result f is
    (percent_fails c.args.limits.now (view c.args.object.now) c.in_ok-frames.frames c.in_ok-swap.swap c.in_ok-overhead.overhead c.in_ok-tax.tax f
    (sym c.number.ensures.value ∙ c.in_ok-frames.was)
    (sym c.number_or_default.ensures.value ∙ c.in_ok-swap.was)
    (sym c.number_or_default-2.ensures.value ∙ c.in_ok-overhead.was)
    (sym c.number_or_default-3.ensures.value ∙ c.in_ok-tax.was)
    (sym c.percents_or_default.ensures.percents ∙ c.in_err-percent.was))

pub returns-in_err-page_rate : goal.returns-in_err-page_rate
returns-in_err-page_rate c =
    let f = c.in_err-page_rate.field-0.0 in
    let is = fails c.from_residual-in_err-page_rate.result f c.from_residual-in_err-page_rate.ensures.1 in
    failed c.args.limits.now (view c.args.object.now) c.from_residual-in_err-page_rate.result f is
    (page_rate_fails c.args.limits.now (view c.args.object.now) c.in_ok-frames.frames c.in_ok-swap.swap c.in_ok-overhead.overhead c.in_ok-tax.tax c.in_ok-percent.percent f
    (sym c.number.ensures.value ∙ c.in_ok-frames.was)
    (sym c.number_or_default.ensures.value ∙ c.in_ok-swap.was)
    (sym c.number_or_default-2.ensures.value ∙ c.in_ok-overhead.was)
    (sym c.number_or_default-3.ensures.value ∙ c.in_ok-tax.was)
    (sym c.percents_or_default.ensures.percents ∙ c.in_ok-percent.was)
    (sym c.number_or_default-4.ensures.value ∙ c.in_err-page_rate.was))

pub returns-in_err-additions : goal.returns-in_err-additions
returns-in_err-additions c =
    let f = c.in_err-additions.field-0.0 in
    let is = fails c.from_residual-in_err-additions.result f c.from_residual-in_err-additions.ensures.1 in
    failed c.args.limits.now (view c.args.object.now) c.from_residual-in_err-additions.result f is
    (additions_fail c.args.limits.now (view c.args.object.now) c.in_ok-frames.frames c.in_ok-swap.swap c.in_ok-overhead.overhead c.in_ok-tax.tax c.in_ok-percent.percent c.in_ok-page_rate.page_rate f
    (sym c.number.ensures.value ∙ c.in_ok-frames.was)
    (sym c.number_or_default.ensures.value ∙ c.in_ok-swap.was)
    (sym c.number_or_default-2.ensures.value ∙ c.in_ok-overhead.was)
    (sym c.number_or_default-3.ensures.value ∙ c.in_ok-tax.was)
    (sym c.percents_or_default.ensures.percents ∙ c.in_ok-percent.was)
    (sym c.number_or_default-4.ensures.value ∙ c.in_ok-page_rate.was)
    (sym c.additions_of.ensures.additions ∙ c.in_err-additions.was))

pub returns-clause-machine : goal.returns-clause-machine
returns-clause-machine c =
    sym (machine_is c.args.limits.now (view c.args.object.now) c.in_ok-frames.frames c.in_ok-swap.swap c.in_ok-overhead.overhead c.in_ok-tax.tax c.in_ok-percent.percent c.in_ok-page_rate.page_rate c.in_ok-additions.additions
    (sym c.number.ensures.value ∙ c.in_ok-frames.was)
    (sym c.number_or_default.ensures.value ∙ c.in_ok-swap.was)
    (sym c.number_or_default-2.ensures.value ∙ c.in_ok-overhead.was)
    (sym c.number_or_default-3.ensures.value ∙ c.in_ok-tax.was)
    (sym c.percents_or_default.ensures.percents ∙ c.in_ok-percent.was)
    (sym c.number_or_default-4.ensures.value ∙ c.in_ok-page_rate.was)
    (sym c.additions_of.ensures.additions ∙ c.in_ok-additions.was))

pub returns-clause-tax : goal.returns-clause-tax
returns-clause-tax c = c.in_ok-tax.ensures.within.1

pub returns-clause-percent : goal.returns-clause-percent
returns-clause-percent c = c.in_ok-percent.ensures.falling.high
