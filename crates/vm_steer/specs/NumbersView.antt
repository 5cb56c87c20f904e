-- The numbers of a steered domain in one sample, before anything is decided.
use Rattle.std.specs.Prelude.{ℕ, ◌≤◌, max}
use Rattle.vm_plan.specs.Row.{Row}
use Rattle.vm_steer.specs.declared.limits.Limits.{Limits}
use Rattle.vm_steer.specs.declared.measures.Measures.{Measures}

pub record NumbersView : Type 0 where
  pub measures : Measures
  pub limits : Limits
  pub shares : ℕ
  -- in units
  pub demand : ℕ
  pub size : ℕ
  -- the KiB that stand for its size in an order
  pub full : ℕ

-- what the policy of memory knows of it: what was promised and isn't taken yet counts as held
abbrev pub row_of : NumbersView → Row
row_of n = record {
  shares = n.shares;
  active = n.measures.active;
  min = n.limits.min;
  cap = n.limits.cap;
  target = n.limits.target;
  held = max n.measures.held n.limits.target;
  used = n.measures.used;
  demand = n.demand;
}

-- the ranges of its numbers
pub record AreInRange (n : NumbersView) : Type 0 where
  pub some_shares : 1 ≤ n.shares
  pub few_shares : n.shares ≤ 1000000
  pub part_active : n.measures.active ≤ 65536
  pub part_slow : n.measures.slow ≤ 65536
  pub part_fast : n.measures.fast ≤ 65536
  pub some_min : 1 ≤ n.limits.min
  pub above_min : n.limits.min ≤ n.limits.target
  pub within_cap : n.limits.target ≤ n.limits.cap
  pub within_size : n.limits.cap ≤ n.size
  pub held : n.measures.held ≤ n.size
  pub few_pages : n.size ≤ 262144
