-- How a host's memory is shared among its domains, as plain data, and the ranges that each policy keeps.
use Rattle.std.specs.Prelude.{ℕ, ◌+◌, ◌*◌, ◌^◌, ◌<◌, ◌≤◌, ◌≡◌, All, Bool, true, List, map, length, bytes_eq, Option, IfSome}
use Rattle.std.specs.List.{IsDistinct}
use Rattle.vm_plan.specs.declared.thresholds.Percents.{Percents}
use Rattle.vm_samples.specs.Names.{is_name}

-- how one guest is steered; memory is counted in units
pub record GuestPolicyView : Type 0 where
  -- the bytes of the name
  pub name : List ℕ
  pub min : Option ℕ
  pub max : Option ℕ
  pub shares : ℕ
  pub steer : Bool

pub record PolicyView : Type 0 where
  -- in KiB
  pub unit : ℕ
  -- in units: what all domains together may hold, and what the host needs for each beside that
  pub memory : ℕ
  pub overhead : ℕ
  -- in units: by how much one sample may lower a domain, and what may be on its way from domain to domain
  pub rate : ℕ
  pub rebalance : ℕ
  -- in hundredths of a percent (Waldspurger, OSDI 2002, sections 5.2 and 6.3)
  pub tax : ℕ
  pub percents : Percents
  -- in percent
  pub headroom : ℕ
  pub cache : ℕ
  pub most : ℕ
  -- in samples
  pub patience : ℕ
  pub guests : List GuestPolicyView

-- ---- ranges

-- the first is at most so much, and none is above the one before it
pub record AreFalling (greatest : ℕ) (p : Percents) : Type 0 where
  pub high : p.high ≤ greatest
  pub soft : p.soft ≤ p.high
  pub hard : p.hard ≤ p.soft
  pub low : p.low ≤ p.hard

pub record IsGuestPolicy (g : GuestPolicyView) : Type 0 where
  pub name : is_name g.name ≡ true
  pub some_min : IfSome g.min (λ n. 1 ≤ n)
  pub least : IfSome g.min (λ n. n ≤ 2 ^ 54)
  pub some_max : IfSome g.max (λ n. 1 ≤ n)
  pub greatest : IfSome g.max (λ n. n ≤ 2 ^ 54)
  pub some_shares : 1 ≤ g.shares
  pub few_shares : g.shares ≤ 1000000

-- the names of guests, in order
abbrev pub names_of : List GuestPolicyView → List (List ℕ)
names_of guests = map (λ g. g.name) guests

pub record IsPolicy (p : PolicyView) : Type 0 where
  pub unit_from : 4 ≤ p.unit
  pub unit_to : p.unit ≤ 1048576
  pub some_memory : 1 ≤ p.memory
  pub few_memory : p.memory ≤ 262144
  pub small_overhead : p.overhead ≤ 1024
  pub some_rate : 1 ≤ p.rate
  pub small_rate : p.rate ≤ 262144
  pub few_moves : p.rebalance ≤ 262144
  pub part_taxed : p.tax ≤ 9999
  pub falling : AreFalling 10000 p.percents
  pub small_headroom : p.headroom ≤ 1000
  pub part_cached : p.cache ≤ 100
  -- so that what is counted as used never asks for all of the cache again
  pub settles : (100 + p.headroom) * p.cache < 10000
  pub not_all : p.most ≤ 99
  pub some_patience : 1 ≤ p.patience
  pub small_patience : p.patience ≤ 10000
  pub few_guests : length p.guests ≤ 256
  pub guests : All IsGuestPolicy p.guests
  pub names_differ : IsDistinct bytes_eq (names_of p.guests)
