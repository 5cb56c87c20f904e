-- What is told of the domains of a host at one moment.
use Rattle.std.specs.Prelude.{ℕ, ◌≤◌, List, length, Option}

-- what `virsh domstats` tells of one domain: the bytes between the quotes, its state, and memory in KiB
pub record DomainView : Type 0 where
  pub name : List ℕ
  pub state : Option ℕ
  pub current : Option ℕ
  pub maximum : Option ℕ
  pub usable : Option ℕ
  pub unused : Option ℕ
  pub swap_in : Option ℕ

-- at least one domain, and at most 256
pub record IsSample (domains : List DomainView) : Type 0 where
  pub some : 1 ≤ length domains
  pub few : length domains ≤ 256
