-- The rows of a run: what is seen of its host after each epoch.
use Rattle.std.specs.Prelude.{ℕ, suc, List, map, Option, if◌then◌else◌}
use Rattle.std.specs.List.{range_with_len}
use Rattle.std.specs.Option.{option_map}
use Rattle.vm_config.specs.declared.config.Config.{Config}
use Rattle.vm_domains.specs.Domains.{names_of}
use Rattle.vm_guest.specs.declared.view.GuestView.{GuestView}
use Rattle.vm_guest.specs.View.{view_of}
use Rattle.vm_host.specs.World.{World, guest_at}
use Rattle.vm_plan.specs.declared.state.State.{State}
use Rattle.vm_sim.specs.Course.{world_after}
use Rattle.vm_sim.specs.Report.{positions}

pub record Row : Type 0 where
  -- the number of the epoch, from 0
  pub epoch : ℕ
  -- how much memory is free after it, in four degrees
  pub state : State
  -- the frames that are free after it
  pub free : ℕ
  -- by position, what is shown of the guest that runs there
  pub views : List (Option GuestView)

-- what a host shows of the guest at a position, if one runs there
abbrev pub view_at : World → ℕ → Option GuestView
view_at w position = option_map view_of (guest_at w position)

-- what is seen of a host after an epoch
abbrev pub row_of_host : ℕ → World → Row
row_of_host epoch w = record { epoch = epoch; state = w.state; free = w.pool.free; views = map (view_at w) (positions w) }

-- what is seen after epoch k of the run of a configuration
unfoldable pub row_of : Config → ℕ → Row
row_of c k = row_of_host k (world_after c (suc k))

-- the rows of the epochs before epoch k
abbrev pub rows_before : Config → ℕ → List Row
rows_before c k = map (row_of c) (range_with_len 0 k)

-- the pages that touches of a guest sent to swap in its epoch, for want of a frame: its demand, where it wasn't blocked
abbrev pub evicted_of : GuestView → ℕ
evicted_of g = if g.blocked then 0 else g.demand

pub record Rows : Type 0 where
  -- the machine's frames
  pub frames : ℕ
  -- how many KiB a page stands for
  pub page : ℕ
  -- the domains, by position
  pub names : List (List ℕ)
  -- one row for each epoch
  pub rows : List Row

-- the rows of the run of a configuration
abbrev pub rows_of : Config → Rows
rows_of c = record {
  frames = c.machine.frames;
  page = c.machine.page;
  names = names_of c.domains;
  rows = rows_before c c.epochs;
}
