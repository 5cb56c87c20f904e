use Rattle.std.proofs.Common.{◌≡◌, All}
use Rattle.vm_guest.specs.Config.{IsWithinLimits}
use Rattle.vm_variants.specs.Variants.{with_min_percent}
use Rattle.vm_variants.proofs.ListLemmas.{first_mapped}
use Rattle.vm_variants.proofs.minimums.set_each.Given as goal

-- the first guests have their minimums
abbrev pub invariant-loop-guest : goal.invariant-loop-guest
invariant-loop-guest l = record {
  guests : l.guests ≡ first_mapped (with_min_percent l.percent) l.guest-index l.fn.guests;
  limits : All IsWithinLimits l.guests;
}
