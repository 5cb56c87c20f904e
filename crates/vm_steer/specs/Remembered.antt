-- What is remembered of a domain from sample to sample.
use Rattle.std.specs.Prelude.{ℕ, ◌≤◌}

pub record RememberedView : Type 0 where
  -- what it is meant to hold, in units
  pub target : ℕ
  -- the averages of what it uses of what it holds, of 65536
  pub slow : ℕ
  pub fast : ℕ
  -- KiB that its guest read from swap
  pub swap_in : ℕ
  -- what it held, in units
  pub held : ℕ
  -- in how many samples its balloon didn't follow
  pub still : ℕ

-- parts of what it holds
pub record AreParts (m : RememberedView) : Type 0 where
  pub slow : m.slow ≤ 65536
  pub fast : m.fast ≤ 65536
