-- A queue of posted page buffers.
use Rattle.std.specs.Prelude.{◌≡◌, ◌*◌, ◌<◌, ◌≤◌, true, All, length, vec_capacity}
use Rattle.vm_pages.specs.Pages.{no_pages, insert_all}
use Rattle.vm_balloon.specs.Service.{numbers_in, ragged}
use Rattle.vm_balloon.specs.declared.page_queue.PageQueue.TheInside.{Inside}
use Rattle.vm_balloon.specs.PageBuffers.{bytes_of, numbers_of}
use Rattle.vm_balloon.specs.Posted.{PostedPages}

abbrev pub posted_of : Inside → PostedPages
posted_of q = record { size = q.size; room = vec_capacity q.ends; buffers = bytes_of q.numbers.items q.ends.items }

-- the page numbers of the buffers stand in one list, and the pages that they name are marked, where they are the guest's
pub record IsPageQueue (q : Inside) : Type 0 where
  pub few_pages : q.size ≤ 262144
  pub all_numbers : length q.numbers.items ≡ numbers_of q.ends.items
  pub marked : q.named ≡ insert_all (no_pages q.size) q.numbers.items
  pub numbers : q.numbers.items ≡ numbers_in (bytes_of q.numbers.items q.ends.items)
  pub few_numbers : length q.numbers.items ≤ 256 * length q.ends.items
  pub room_numbers : 256 * vec_capacity q.ends ≤ vec_capacity q.numbers
  pub in_range : q.in_range ≡ true → All (λ number. number < q.size) q.numbers.items
  pub ragged : q.ragged_buffers ≡ ragged (bytes_of q.numbers.items q.ends.items)
  pub few_ragged : q.ragged_buffers ≤ length q.ends.items
