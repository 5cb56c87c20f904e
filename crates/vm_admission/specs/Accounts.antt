-- What the books of a machine hold, and what admission does to them (Waldspurger, OSDI 2002, section 6.2: "a
-- sufficient amount of unreserved memory and swap space must be available": min and overhead, and max - min).
use Rattle.std.specs.Prelude.{ℕ, ◌+◌, ◌-◌, ◌<◌, ◌≤◌, refl}
use Rattle.std.specs.Coded.{Coded, code_by, coded×, coded_ℕ}

-- the machine's limits, the number of running guests, and two sums over them
pub record Accounts : Type 0 where
  -- the frames of the machine
  pub frames : ℕ
  -- the pages of its swap
  pub swap : ℕ
  -- the frames that each guest takes beside its minimum
  pub overhead : ℕ
  -- the running guests
  pub guests : ℕ
  -- the sum of their minimums, each with the overhead
  pub memory : ℕ
  -- the sum of their reserves of swap
  pub reserved : ℕ

-- accounts are stored as the tuple of their fields
abbrev pub accounts_code : Coded Accounts
accounts_code =
    code_by (ℕ × (ℕ × (ℕ × (ℕ × (ℕ × ℕ)))))
    (coded× coded_ℕ (coded× coded_ℕ (coded× coded_ℕ (coded× coded_ℕ (coded× coded_ℕ coded_ℕ)))))
    (λ a. (a.frames, (a.swap, (a.overhead, (a.guests, (a.memory, a.reserved))))))
    (λ p. record { frames = p.0; swap = p.1.0; overhead = p.1.1.0; guests = p.1.1.1.0; memory = p.1.1.1.1.0; reserved = p.1.1.1.1.1 })
    (λ _. refl)

-- the accounts of a machine on which no guest runs
abbrev pub empty_accounts : ℕ → ℕ → ℕ → Accounts
empty_accounts frames swap overhead =
    record { frames = frames; swap = swap; overhead = overhead; guests = 0; memory = 0; reserved = 0 }

-- one guest more, with this minimum and this reserve
abbrev pub with_guest : Accounts → ℕ → ℕ → Accounts
with_guest a min reserve =
    record a { guests = a.guests + 1; memory = a.memory + (min + a.overhead); reserved = a.reserved + reserve }

-- one guest less, with this minimum and this reserve
abbrev pub without_guest : Accounts → ℕ → ℕ → Accounts
without_guest a min reserve =
    record a { guests = a.guests - 1; memory = a.memory - (min + a.overhead); reserved = a.reserved - reserve }

-- a guest's minimum goes from old to new, and so much more swap is reserved
abbrev pub with_minimum : Accounts → ℕ → ℕ → ℕ → Accounts
with_minimum a old new more_reserve =
    record a { memory = a.memory - old + new; reserved = a.reserved + more_reserve }

-- the machine's frames cover what the guests were promised
abbrev pub FitsFrames : Accounts → Type 0
FitsFrames a = a.memory ≤ a.frames

-- the machine's swap covers the guests' reserves
abbrev pub FitsSwap : Accounts → Type 0
FitsSwap a = a.reserved ≤ a.swap

-- the guests were promised more frames than there are
abbrev pub ExceedsFrames : Accounts → Type 0
ExceedsFrames a = a.frames < a.memory

-- the guests' reserves are more swap than there is
abbrev pub ExceedsSwap : Accounts → Type 0
ExceedsSwap a = a.swap < a.reserved

-- a guest is counted, and the sum of minimums has room to give this one and the overhead back
abbrev pub IsMinimumBooked : Accounts → ℕ → Type 0
IsMinimumBooked a min = (1 ≤ a.guests) × (min + a.overhead ≤ a.memory)

-- a guest is counted, and the sum of reserves has room to give this one back
abbrev pub IsReserveBooked : Accounts → ℕ → Type 0
IsReserveBooked a reserve = (1 ≤ a.guests) × (reserve ≤ a.reserved)
