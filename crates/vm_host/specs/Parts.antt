-- The parts of a host as a world, and what is true of them.
use Rattle.std.specs.Prelude.{◌≡◌, ◌≢◌}
use Rattle.vm_admission.specs.Accounts.{Accounts}
use Rattle.vm_domains.specs.Domains.{ArePaired}
use Rattle.vm_host.specs.declared.parts.Parts.{Parts}
use Rattle.vm_host.specs.declared.phase.Phase.TheVariants.{Failed}
use Rattle.vm_host.specs.Books.{books_of}
use Rattle.vm_host.specs.Sound.{IsSoundWorld}
use Rattle.vm_host.specs.World.{World, Conserves}

abbrev pub world_of : Parts → World
world_of p = record { machine = p.spec; names = p.names; pool = p.pool; state = p.state; phase = p.phase }

-- Each domain has its configuration and frames add up, always. Where no boundary failed, all that is true of a host is, and the books tell what its guests were promised.
pub record IsTied (p : Parts) (books : Accounts) : Type 0 where
  pub paired : ArePaired (world_of p).names (world_of p).pool.configs
  pub adds_up : Conserves (world_of p)
  pub sound : p.phase ≢ Failed → IsSoundWorld (world_of p)
  pub booked : p.phase ≢ Failed → books ≡ books_of (world_of p)
