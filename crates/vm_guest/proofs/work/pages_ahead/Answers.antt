use Rattle.std.proofs.Common.{◌≡◌, ℕ, ◌-◌, min, max, refl, sym, ◌∙◌, arith}
use Rattle.vm_guest.proofs.work.pages_ahead.Goals as goal

-- a balloon of the wanted size moves no page
nothing_ahead : (rate wanted ballooned free : ℕ) → wanted ≡ ballooned → 0 ≡ min rate (max (min (wanted - ballooned) free) (ballooned - wanted))
nothing_ahead rate wanted ballooned free same = omega arith

pub returns-clause-value : goal.returns-clause-value
returns-clause-value c =
    rw (c.from.ensures, c.within_rate.ensures.value, c.max-distance.ensures, c.min-growth.ensures, c.saturating_sub.ensures, c.saturating_sub-2.ensures, c.num_pages-wanted.ensures, c.balloon_len-ballooned.ensures.value, c.free_len.ensures) refl

pub returns-then-wanted-ballooned-clause-value : goal.returns-then-wanted-ballooned-clause-value
returns-then-wanted-ballooned-clause-value c = nothing_ahead _ _ _ _ (sym c.num_pages-wanted.ensures ∙ c.if-wanted-ballooned.true ∙ c.balloon_len-ballooned.ensures.value)
