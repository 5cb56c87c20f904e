-- The estimate of a guest's active fraction by samples of its pages (Waldspurger, OSDI 2002, section 5.3), in fixed point.
use Rattle.std.specs.Prelude.{ℕ, Bool, ◌+◌, ◌*◌, ◌/◌, List, count_by, max, nat_eq, if◌then◌else◌}
use Rattle.rand_pcg.specs.Lcg.{Lcg}
use Rattle.vm_sampling.specs.Words.{words_after, draws}
use Rattle.vm_pages.specs.Pages.{no_pages, contains, insert}

-- what a contract sees of a sampler
pub record Sampling : Type 0 where
  -- how many pages are drawn for each period
  pub n : ℕ
  -- how many executed steps a period has
  pub period : ℕ
  -- the pages of the guest
  pub size : ℕ
  -- the pages drawn for this period, in the order of the draws
  pub drawn : List ℕ
  -- the set of the pages touched in this period
  pub touched : List Bool
  -- the executed steps of this period
  pub steps : ℕ
  -- the moving averages of the touched fraction, in parts of 65536
  pub slow : ℕ
  pub fast : ℕ

-- all of something, in fixed point
abbrev pub whole : ℕ
whole = 65536

-- a new sampler, whose pages the generator draws
abbrev pub sampler_of : ℕ → ℕ → ℕ → Lcg → Sampling
sampler_of n period size g = record {
  n = n;
  period = period;
  size = size;
  drawn = draws n size g;
  touched = no_pages size;
  steps = 0;
  slow = whole;
  fast = whole;
}

-- how many of the draws, repeats counted, gave a page that was touched in this period
abbrev pub touched_draws : Sampling → ℕ
touched_draws s = count_by (λ page. contains s.touched page) s.drawn

-- the fraction of the draws whose page was touched in this period
abbrev pub touched_fraction : Sampling → ℕ
touched_fraction s = touched_draws s * whole / s.n

-- the slow average after a period
abbrev pub next_slow : Sampling → ℕ
next_slow s = (7 * s.slow + touched_fraction s) / 8

-- the fast average after a period
abbrev pub next_fast : Sampling → ℕ
next_fast s = (s.fast + touched_fraction s) / 2

-- the active fraction, the greatest of three estimates: the fast average as it would be now counts too, so that a guest that
-- becomes active is seen at once
abbrev pub active : Sampling → ℕ
active s = max (max s.slow s.fast) (next_fast s)

-- a page was touched
abbrev pub with_touch : Sampling → ℕ → Sampling
with_touch s page = record s { touched = insert s.touched page }

-- the next period begins, with pages that the generator draws
abbrev pub next_period : Sampling → Lcg → Sampling
next_period s g = record s {
  drawn = draws s.n s.size g;
  touched = no_pages s.size;
  steps = 0;
  slow = next_slow s;
  fast = next_fast s;
}

-- the sampler after a step, which may be the last one of its period
abbrev pub stepped : Sampling → Lcg → Sampling
stepped s g = if nat_eq (s.steps + 1) s.period then next_period s g else record s { steps = s.steps + 1 }

-- the generator after a step
abbrev pub words_after_step : Sampling → Lcg → Lcg
words_after_step s g = if nat_eq (s.steps + 1) s.period then words_after s.n g else g
