use Rattle.std.proofs.Common.{◌≡◌, All}
use Rattle.vm_guest.specs.Config.{IsWithinLimits}
use Rattle.vm_variants.specs.Variants.{with_seed_added}
use Rattle.vm_variants.proofs.ListLemmas.{first_mapped}
use Rattle.vm_variants.proofs.seeds.add_to_each.Given as goal

-- the first guests have their seeds
abbrev pub invariant-loop-guest : goal.invariant-loop-guest
invariant-loop-guest l = record {
  guests : l.guests ≡ first_mapped (with_seed_added l.added) l.guest-index l.fn.guests;
  limits : All IsWithinLimits l.guests;
}
