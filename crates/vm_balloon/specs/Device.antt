-- The state of a memory balloon device (OASIS VIRTIO 1.2, section 5.5), and what its calls make of it.
use Rattle.std.specs.Prelude.{ℕ, ◌≡◌, ◌≤◌, ◌+◌, ◌==◌, Bool, true, false, None, List, [], ◌∷◌, ◌++◌, length, option_map, unwrap_or}
use Rattle.std.specs.List.{list_any}
use Rattle.vm_balloon.specs.declared.device.Queue.{Queue}
use Rattle.vm_balloon.specs.declared.device.Queue.TheVariants.{Inflate, Deflate, Statistics}
use Rattle.vm_balloon.specs.declared.stats.Stats.{Stats}
use Rattle.vm_pages.specs.Pages.{no_pages, contains, insert, remove, insert_all, remove_all}
use Rattle.vm_balloon.specs.Service.{numbers_in, refused, inflated_by, deflated_by}
use Rattle.vm_balloon.specs.Statistics.{last}
use Rattle.vm_balloon.specs.StatsOf.{stats_of}

-- what a contract sees of a device
pub record DeviceState : Type 0 where
  -- the pages of the guest
  pub size : ℕ
  -- the most buffers that may be posted
  pub buffers : ℕ
  pub balloon : List Bool
  -- pages that the guest took out of the balloon by itself, since the last service
  pub early : List Bool
  -- the bytes of each posted buffer, by queue, in order of posting
  pub inflates : List (List ℕ)
  pub deflates : List (List ℕ)
  pub statistics : List (List ℕ)
  -- the two numbers of the configuration space
  pub num_pages : ℕ
  pub actual : ℕ
  pub stats : Stats

-- statistics of which the driver said nothing
abbrev pub no_stats : Stats
no_stats = record {
  swap_in = None;
  swap_out = None;
  major_faults = None;
  minor_faults = None;
  free = None;
  total = None;
  available = None;
}

-- a new device
abbrev pub device_of : ℕ → ℕ → DeviceState
device_of size buffers = record {
  size = size;
  buffers = buffers;
  balloon = no_pages size;
  early = no_pages size;
  inflates = [];
  deflates = [];
  statistics = [];
  num_pages = 0;
  actual = 0;
  stats = no_stats;
}

-- how many buffers are posted
abbrev pub posted_count : DeviceState → ℕ
posted_count d = length d.inflates + length d.deflates + length d.statistics

-- no page is in both sets
abbrev pub AreApart : List Bool → List Bool → Type 0
AreApart balloon early = (page : ℕ) → contains balloon page ≡ true → contains early page ≡ false

-- what is true of every device, whoever posts to it
pub record IsGood (d : DeviceState) : Type 0 where
  pub few_pages : d.size ≤ 262144
  pub balloon_size : length d.balloon ≡ d.size
  pub early_size : length d.early ≡ d.size
  pub apart : AreApart d.balloon d.early
  pub few_buffers : d.buffers ≤ 256
  pub room : posted_count d ≤ d.buffers

-- a buffer is posted to a queue
abbrev pub with_posted : DeviceState → Queue → List ℕ → DeviceState
with_posted d Inflate bytes = record d { inflates = d.inflates ++ bytes ∷ [] }
with_posted d Deflate bytes = record d { deflates = d.deflates ++ bytes ∷ [] }
with_posted d Statistics bytes = record d { statistics = d.statistics ++ bytes ∷ [] }

-- a page number in the page buffers is this page
abbrev pub is_named : List (List ℕ) → ℕ → Bool
is_named buffers page = list_any (λ number. number == page) (numbers_in buffers)

-- a ballooned page is used before the device took it out
abbrev pub with_early_use : DeviceState → ℕ → DeviceState
with_early_use d page = record d { balloon = remove d.balloon page; early = insert d.early page }

-- the pages that a service puts into the balloon, in order
abbrev pub inflated : DeviceState → List ℕ
inflated d = inflated_by d.balloon (numbers_in d.inflates)

-- the balloon once the inflate buffers are served
abbrev pub filled : DeviceState → List Bool
filled d = insert_all d.balloon (inflated d)

-- the pages that a service then gives back to the guest, in order
abbrev pub deflated : DeviceState → List ℕ
deflated d = deflated_by (filled d) d.early (numbers_in d.deflates)

-- how many items of the page buffers a service ignores
abbrev pub bad : DeviceState → ℕ
bad d = refused d.inflates (inflated d) + refused d.deflates (deflated d)

-- what the last of the statistics buffers says, if there is one; else what was said before
abbrev pub last_stats : Stats → List (List ℕ) → Stats
last_stats stats buffers = unwrap_or (option_map stats_of (last buffers)) stats

-- the device after a service
abbrev pub served : DeviceState → DeviceState
served d = record d {
  balloon = remove_all (filled d) (deflated d);
  early = no_pages d.size;
  inflates = [];
  deflates = [];
  statistics = [];
  stats = last_stats d.stats d.statistics;
}
