-- What adding up the lines of whole reports by hand gives.
use Rattle.std.specs.Prelude.{ℕ}
use Rattle.vm_tally.specs.declared.summary.Summary.{Summary}

-- the numbers of a run that are in its report too
pub record Numbers : Type 0 where
  -- `state` lines
  pub high : ℕ
  pub soft : ℕ
  pub hard : ℕ
  pub low : ℕ
  -- lines `error 8 ..` and `error 9 ..`
  pub no_memory : ℕ
  pub no_swap : ℕ
  -- the numbers of `revoke`, `page` and `grant` lines
  pub revoked : ℕ
  pub paged : ℕ
  pub granted : ℕ
  -- `block` and `stall` lines
  pub blocked : ℕ
  pub stalls : ℕ
  -- what the guests' lines at the end say
  pub swapped : ℕ
  pub balloon : ℕ

abbrev pub numbers_told : Summary → Numbers
numbers_told s = record {
  high = s.high;
  soft = s.soft;
  hard = s.hard;
  low = s.low;
  no_memory = s.no_memory;
  no_swap = s.no_swap;
  revoked = s.revoked;
  paged = s.paged;
  granted = s.granted;
  blocked = s.blocked;
  stalls = s.stalls;
  swapped = s.swapped;
  balloon = s.balloon;
}

abbrev pub both_books_numbers : Numbers
both_books_numbers = record {
  high = 1;
  soft = 0;
  hard = 0;
  low = 0;
  no_memory = 1;
  no_swap = 1;
  revoked = 0;
  paged = 0;
  granted = 0;
  blocked = 0;
  stalls = 0;
  swapped = 0;
  balloon = 0;
}

abbrev pub drawn_20_numbers : Numbers
drawn_20_numbers = record {
  high = 3;
  soft = 1;
  hard = 1;
  low = 1;
  no_memory = 0;
  no_swap = 0;
  revoked = 7;
  paged = 3;
  granted = 13;
  blocked = 1;
  stalls = 1;
  swapped = 3;
  balloon = 13;
}
