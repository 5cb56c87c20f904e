use Rattle.std.proofs.Common.{◌≡◌, ℕ, ◌≤◌, arith, max}
use Rattle.vm_reclaim.proofs.room.raise_row.Goals as goal

-- the target rises to the minimum, within the cap
from_least : (told target least : ℕ) → told ≡ max target least → least ≤ told
from_least told target least is = omega arith

to_cap : (told target least cap : ℕ) → told ≡ max target least → target ≤ cap → least ≤ cap → told ≤ cap
to_cap told target least cap is within fits = omega arith

pub invariant_of-result : goal.invariant_of-result
invariant_of-result c =
    let row = c.args.row.now in
    record {
      some_shares = row.some_shares;
      few_shares = row.few_shares;
      part_active = row.part_active;
      some_min = c.requires.from;
      above_min = from_least c.max.result row.target c.args.least c.max.ensures;
      within_cap = to_cap c.max.result row.target c.args.least row.cap c.max.ensures row.within_cap c.requires.to;
      few_pages = row.few_pages;
    }

pub returns : goal.returns
returns c =
    let row = c.args.row.now in
    λ i. record { shares = row.shares; active = row.active; min = c.args.least; cap = row.cap; target = c.max.ensures i; held = row.held; used = row.used; demand = row.demand }
