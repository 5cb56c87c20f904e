-- A setting with another value.
use Rattle.std.proofs.Common.{◌≡◌, ℕ, refl}
use Rattle.vm_config.specs.declared.config.Config.{Config}
use Rattle.vm_config.specs.declared.settings.Setting.{Setting}
use Rattle.vm_config.specs.declared.settings.Setting.TheVariants.{Frames, Swap, Tax, PageRate, Rebalance}
use Rattle.vm_domains.specs.Machine.{IsMachine}
use Rattle.vm_config.specs.Limits.{IsConfig}
use Rattle.vm_config.specs.Settings.{setting_of, with_setting, IsInRange}

pub with_setting-machine : (setting : Setting) (value : ℕ) (c : Config) → IsInRange setting value → IsMachine c.machine → IsMachine (with_setting setting value c).machine
with_setting-machine Frames value c inside is = record {
  some_frames = inside.least;
  few_frames = inside.greatest;
  small_swap = is.small_swap;
  small_overhead = is.small_overhead;
  part_taxed = is.part_taxed;
  falling = is.falling;
  some_paging = is.some_paging;
  slow_paging = is.slow_paging;
  few_moves = is.few_moves;
  page_from = is.page_from;
  page_to = is.page_to;
}
with_setting-machine Swap value c inside is = record {
  some_frames = is.some_frames;
  few_frames = is.few_frames;
  small_swap = inside.greatest;
  small_overhead = is.small_overhead;
  part_taxed = is.part_taxed;
  falling = is.falling;
  some_paging = is.some_paging;
  slow_paging = is.slow_paging;
  few_moves = is.few_moves;
  page_from = is.page_from;
  page_to = is.page_to;
}
with_setting-machine Tax value c inside is = record {
  some_frames = is.some_frames;
  few_frames = is.few_frames;
  small_swap = is.small_swap;
  small_overhead = is.small_overhead;
  part_taxed = inside.greatest;
  falling = is.falling;
  some_paging = is.some_paging;
  slow_paging = is.slow_paging;
  few_moves = is.few_moves;
  page_from = is.page_from;
  page_to = is.page_to;
}
with_setting-machine PageRate value c inside is = record {
  some_frames = is.some_frames;
  few_frames = is.few_frames;
  small_swap = is.small_swap;
  small_overhead = is.small_overhead;
  part_taxed = is.part_taxed;
  falling = is.falling;
  some_paging = inside.least;
  slow_paging = inside.greatest;
  few_moves = is.few_moves;
  page_from = is.page_from;
  page_to = is.page_to;
}
with_setting-machine Rebalance value c inside is = record {
  some_frames = is.some_frames;
  few_frames = is.few_frames;
  small_swap = is.small_swap;
  small_overhead = is.small_overhead;
  part_taxed = is.part_taxed;
  falling = is.falling;
  some_paging = is.some_paging;
  slow_paging = is.slow_paging;
  few_moves = inside.greatest;
  page_from = is.page_from;
  page_to = is.page_to;
}

pub with_setting-limits : (setting : Setting) (value : ℕ) (c : Config) → IsInRange setting value → IsConfig c → IsConfig (with_setting setting value c)
with_setting-limits Frames value c inside is =
    record { machine = with_setting-machine Frames value c inside is.machine; domains = is.domains; few = is.few; autostart = is.autostart }
with_setting-limits Swap value c inside is =
    record { machine = with_setting-machine Swap value c inside is.machine; domains = is.domains; few = is.few; autostart = is.autostart }
with_setting-limits Tax value c inside is =
    record { machine = with_setting-machine Tax value c inside is.machine; domains = is.domains; few = is.few; autostart = is.autostart }
with_setting-limits PageRate value c inside is =
    record { machine = with_setting-machine PageRate value c inside is.machine; domains = is.domains; few = is.few; autostart = is.autostart }
with_setting-limits Rebalance value c inside is =
    record { machine = with_setting-machine Rebalance value c inside is.machine; domains = is.domains; few = is.few; autostart = is.autostart }

pub with_setting-stands : (setting : Setting) (value : ℕ) (c : Config) → setting_of setting (with_setting setting value c) ≡ value
with_setting-stands Frames value c = refl
with_setting-stands Swap value c = refl
with_setting-stands Tax value c = refl
with_setting-stands PageRate value c = refl
with_setting-stands Rebalance value c = refl

pub with_setting-same : (setting : Setting) (c : Config) → with_setting setting (setting_of setting c) c ≡ c
with_setting-same Frames c = refl
with_setting-same Swap c = refl
with_setting-same Tax c = refl
with_setting-same PageRate c = refl
with_setting-same Rebalance c = refl
