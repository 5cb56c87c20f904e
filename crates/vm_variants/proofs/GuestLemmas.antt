-- A guest with another value keeps its limits.
use Rattle.std.proofs.Common.{ℕ, ◌≤◌, ◌*◌, ◌%◌, ◌+◌, ◌^◌, ◌<◌, arith}
use Rattle.std.proofs.Math.Nat.{mul-le-mul_right, one-le-mul}
use Rattle.std.specs.Int.{div_ceil}
use Rattle.vm_guest.specs.Config.{GuestConfig, IsWithinLimits}
use Rattle.vm_variants.specs.declared.guest_setting.GuestSetting.{GuestSetting}
use Rattle.vm_variants.specs.declared.guest_setting.GuestSetting.TheVariants.{Min, Shares}
use Rattle.vm_variants.specs.Changes.{IsPercent}
use Rattle.vm_variants.specs.Guests.{IsInRange, with_value}
use Rattle.vm_variants.specs.Variants.{with_min_percent, with_seed_added}

with-min : (guest : GuestConfig) (n : ℕ) → 1 ≤ n → n ≤ guest.size → IsWithinLimits guest → IsWithinLimits (record guest { min = n })
with-min guest n some within is = record {
  some_frames = some;
  min_within = within;
  few_pages = is.few_pages;
  some_shares = is.some_shares;
  few_shares = is.few_shares;
  some_samples = is.some_samples;
  few_samples = is.few_samples;
  some_period = is.some_period;
  short_period = is.short_period;
  some_rate = is.some_rate;
  low_rate = is.low_rate;
  some_quantum = is.some_quantum;
  short_quantum = is.short_quantum;
  seed_fits = is.seed_fits;
  stream_fits = is.stream_fits;
  page_from = is.page_from;
  page_to = is.page_to;
  short_trace = is.short_trace;
  steps = is.steps;
  bounded = is.bounded;
}

with-shares : (guest : GuestConfig) (n : ℕ) → 1 ≤ n → n ≤ 1000000 → IsWithinLimits guest → IsWithinLimits (record guest { shares = n })
with-shares guest n some few is = record {
  some_frames = is.some_frames;
  min_within = is.min_within;
  few_pages = is.few_pages;
  some_shares = some;
  few_shares = few;
  some_samples = is.some_samples;
  few_samples = is.few_samples;
  some_period = is.some_period;
  short_period = is.short_period;
  some_rate = is.some_rate;
  low_rate = is.low_rate;
  some_quantum = is.some_quantum;
  short_quantum = is.short_quantum;
  seed_fits = is.seed_fits;
  stream_fits = is.stream_fits;
  page_from = is.page_from;
  page_to = is.page_to;
  short_trace = is.short_trace;
  steps = is.steps;
  bounded = is.bounded;
}

with-seed : (guest : GuestConfig) (n : ℕ) → n < 2 ^ 64 → IsWithinLimits guest → IsWithinLimits (record guest { seed = n })
with-seed guest n fits is = record {
  some_frames = is.some_frames;
  min_within = is.min_within;
  few_pages = is.few_pages;
  some_shares = is.some_shares;
  few_shares = is.few_shares;
  some_samples = is.some_samples;
  few_samples = is.few_samples;
  some_period = is.some_period;
  short_period = is.short_period;
  some_rate = is.some_rate;
  low_rate = is.low_rate;
  some_quantum = is.some_quantum;
  short_quantum = is.short_quantum;
  seed_fits = fits;
  stream_fits = is.stream_fits;
  page_from = is.page_from;
  page_to = is.page_to;
  short_trace = is.short_trace;
  steps = is.steps;
  bounded = is.bounded;
}

pub with_value-limits : (setting : GuestSetting) (value : ℕ) (guest : GuestConfig) → IsInRange setting value guest → IsWithinLimits guest
    → IsWithinLimits (with_value setting value guest)
with_value-limits Min value guest inside is = with-min guest value inside.least inside.greatest is
with_value-limits Shares value guest inside is = with-shares guest value inside.least inside.greatest is

-- ---- a percentage, rounded up

pub ceil-enough : (x : ℕ) → x ≤ 100 * div_ceil x 100
ceil-enough x = omega arith

pub ceil-least : (x pages : ℕ) → x ≤ 100 * pages → div_ceil x 100 ≤ pages
ceil-least x pages enough = omega arith

ceil-some : (x : ℕ) → 1 ≤ x → 1 ≤ div_ceil x 100
ceil-some x some = omega arith

part-some : (percent size : ℕ) → 1 ≤ percent → 1 ≤ size → 1 ≤ percent * size
part-some percent size some pages = one-le-mul some pages

part-within : (percent size : ℕ) → percent ≤ 100 → percent * size ≤ 100 * size
part-within percent size within = mul-le-mul_right size within

pub with_min_percent-limits : (percent : ℕ) (guest : GuestConfig) → IsPercent percent → IsWithinLimits guest
    → IsWithinLimits (with_min_percent percent guest)
with_min_percent-limits percent guest part is =
    let pages : 1 ≤ guest.size = omega (arith, is.some_frames, is.min_within) in
    with-min guest (div_ceil (percent * guest.size) 100)
    (ceil-some (percent * guest.size) (part-some percent guest.size part.some pages))
    (ceil-least (percent * guest.size) guest.size (part-within percent guest.size part.within)) is

pub with_seed_added-limits : (added : ℕ) (guest : GuestConfig) → IsWithinLimits guest → IsWithinLimits (with_seed_added added guest)
with_seed_added-limits added guest is = with-seed guest ((guest.seed + added) % 2 ^ 64) (omega arith) is
