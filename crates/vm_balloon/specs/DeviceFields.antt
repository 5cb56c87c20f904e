-- How a device's fields keep its state.
use Rattle.std.specs.Prelude.{ℕ, ◌≡◌, ◌+◌, ◌*◌, ◌<◌, ◌≤◌, ◌==◌, Bool, true, false, List, [], All, length}
use Rattle.std.specs.List.{list_any}
use Rattle.std.specs.Vec.{vec_capacity}
use Rattle.vm_pages.specs.Pages.{contains, count}
use Rattle.vm_balloon.specs.Device.{DeviceState, AreApart}
use Rattle.vm_balloon.specs.declared.device.Device.TheInside.{Inside}

abbrev pub state_of : Inside → DeviceState
state_of d = record {
  size = d.size;
  buffers = d.buffers;
  balloon = d.balloon;
  early = d.early;
  inflates = d.inflates.buffers;
  deflates = d.deflates.buffers;
  statistics = d.reports.list;
  num_pages = d.num_pages;
  actual = d.actual;
  stats = d.reports.stats;
}

-- each page of the set is in the list, which has pages of the guest alone
pub record AreListed (pages : List Bool) (listed : List ℕ) (size : ℕ) : Type 0 where
  pub in_range : All (λ page. page < size) listed
  pub covered : (page : ℕ) → contains pages page ≡ true → list_any (λ number. number == page) listed ≡ true

-- the room for all that can be posted, served and used early was made with the device
pub record IsDevice (d : Inside) : Type 0 where
  pub few_pages : d.size ≤ 262144
  pub balloon_size : length d.balloon ≡ d.size
  pub early_size : length d.early ≡ d.size
  pub inflates_size : d.inflates.size ≡ d.size
  pub deflates_size : d.deflates.size ≡ d.size
  pub apart : AreApart d.balloon d.early
  pub early_listed : AreListed d.early d.early_list.items d.size
  pub early_left : count d.balloon + length d.early_list.items ≤ d.size
  pub room_early : d.size ≤ vec_capacity d.early_list
  pub few_buffers : d.buffers ≤ 256
  pub posted : length d.inflates.buffers + length d.deflates.buffers + length d.reports.list ≤ d.buffers
  -- where the device says so, no inflate buffer is posted, or no deflate buffer
  pub no_inflates : d.has_inflates ≡ false → d.inflates.buffers ≡ []
  pub no_deflates : d.has_deflates ≡ false → d.deflates.buffers ≡ []
  pub room_inflates : d.buffers ≤ d.inflates.room
  pub room_deflates : d.buffers ≤ d.deflates.room
  pub room_reports : d.buffers ≤ d.reports.room
  pub room_inflated : 256 * d.buffers ≤ vec_capacity d.served.inflated
  pub room_deflated : 256 * d.buffers ≤ vec_capacity d.served.deflated
