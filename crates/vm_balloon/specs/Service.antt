-- What serving posted page buffers does to the balloon (OASIS VIRTIO 1.2, section 5.5.6). The standard leaves open what a device
-- makes of numbers that it can't use: here they are ignored and counted.
use Rattle.std.specs.Prelude.{ℕ, Bool, ◌+◌, ◌-◌, ◌%◌, ◌==◌, ◌&&◌, ◌||◌, not, nat_lt, List, [], ◌∷◌, count_by, filter, length}
use Rattle.std.specs.List.{flat_map}
use Rattle.vm_pages.specs.Pages.{contains}
use Rattle.vm_balloon.specs.Virtio.{page_numbers}

-- the page numbers of page buffers, buffer by buffer
abbrev pub numbers_in : List (List ℕ) → List ℕ
numbers_in buffers = flat_map page_numbers buffers

-- how many page buffers end in one to three bytes that are no page number
abbrev pub ragged : List (List ℕ) → ℕ
ragged buffers = count_by (λ bytes. not (length bytes % 4 == 0)) buffers

-- how many items of page buffers are ignored where these pages are accepted: page numbers that are not,
-- and bytes left over at a buffer's end
abbrev pub refused : List (List ℕ) → List ℕ → ℕ
refused buffers accepted = ragged buffers + (length (numbers_in buffers) - length accepted)

-- the different numbers of a list, each where it comes first
unfoldable pub distinct : List ℕ → List ℕ
distinct [] = []
distinct (x ∷ xs) = x ∷ filter (λ y. not (y == x)) (distinct xs)

-- the page is one of the guest's that is not in the balloon yet
abbrev pub can_inflate : List Bool → ℕ → Bool
can_inflate balloon page = nat_lt page (length balloon) && not (contains balloon page)

-- the page is one of the guest's that is in the balloon, or was used early
abbrev pub can_deflate : List Bool → List Bool → ℕ → Bool
can_deflate balloon early page = nat_lt page (length balloon) && (contains balloon page || contains early page)

-- the pages that inflate buffers of these numbers put into the balloon, in order
abbrev pub inflated_by : List Bool → List ℕ → List ℕ
inflated_by balloon numbers = distinct (filter (can_inflate balloon) numbers)

-- the pages that deflate buffers of these numbers give back to the guest, in order
abbrev pub deflated_by : List Bool → List Bool → List ℕ → List ℕ
deflated_by balloon early numbers = distinct (filter (can_deflate balloon early) numbers)
