-- Guests of worked examples of rebalancing.
use Rattle.std.specs.Prelude.{ℕ, List}
use Rattle.vm_tax.specs.Ratio.{hundredths}
use Rattle.vm_plan.specs.Row.{Row}
use Rattle.vm_plan.specs.Rebalancing.{rebalancing_list}

-- a guest all of whose pages are active
abbrev pub guest : (shares floor cap target demand : ℕ) → Row
guest shares floor cap target demand = record { shares = shares; active = 65536; min = floor; cap = cap; target = target; held = target; used = 0; demand = demand }

-- who gives, with the tax of 75 percent
abbrev pub givers_of : (limit : ℕ) → List Row → List ℕ
givers_of limit rows = rebalancing_list (hundredths 7500) limit rows
