-- What a host shows.
use Rattle.std.specs.Prelude.{ℕ, List, Option, Some, None}
use Rattle.vm_host.specs.declared.phase.Phase.{Phase}
use Rattle.vm_host.specs.declared.phase.Phase.TheVariants.{Waiting, Ready, Failed}
use Rattle.vm_domains.specs.Domains.{place_of}
use Rattle.vm_pool.specs.Pool.{overhead_frames as frames_aside}
use Rattle.vm_pool.specs.Readers.{peeked as page_of}
use Rattle.vm_host.specs.World.{World, guest_at}

-- frames set aside for the tables that the host keeps of each running guest (Waldspurger, OSDI 2002, section 6.2)
abbrev pub overhead_frames : World → ℕ
overhead_frames w = frames_aside w.pool

-- the bytes of a page that is below the guest's size, by the guest's position
abbrev pub page_at : World → Option ℕ → ℕ → Option (List ℕ)
page_at w None page = None
page_at w (Some position) page = page_of (guest_at w position) page

-- a failed host shows no memory
abbrev pub unless_failed : Phase → Option (List ℕ) → Option (List ℕ)
unless_failed Waiting bytes = bytes
unless_failed Ready bytes = bytes
unless_failed Failed bytes = None

-- guest memory by the guest's name: nothing where no running guest has the name, the page is not below its size, or the host
-- has failed
abbrev pub peeked : World → List ℕ → ℕ → Option (List ℕ)
peeked w name page = unless_failed w.phase (page_at w (place_of name w.names) page)
