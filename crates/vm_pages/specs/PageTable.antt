-- An item for each page of a guest, as a contract sees a table of them.
use Rattle.std.specs.Prelude.{ℕ, ◌≡◌, ◌*◌, ◌≤◌, List, length, refl, replicate, slice_set}
use Rattle.std.specs.Coded.{Coded, code_by, coded×, coded_list}

-- the item that each page began with, and the item of each page
pub record Items (T : Type 0) : Type 0 where
  pub first : T
  pub list : List T

-- such items are stored as the pair of both
abbrev pub items_code : {T : Type 0} → Coded T → Coded (Items T)
items_code {T} code =
    code_by (T × List T) (coded× code (coded_list code))
    (λ t. (t.first, t.list)) (λ p. record { first = p.0; list = p.1 }) (λ _. refl)

-- each of `size` pages has the first item
abbrev pub first_items : {T : Type 0} → T → ℕ → Items T
first_items first size = record { first = first; list = replicate size first }

-- another item for one page
abbrev pub with_item : {T : Type 0} → Items T → ℕ → T → Items T
with_item items page item = record items { list = slice_set items.list page item }

-- words with a bit for each of `size` pages, all of which began without any
pub record AreWords (size : ℕ) (words : Items ℕ) : Type 0 where
  pub marks : size ≤ length words.list * 64
  pub from_zero : words.first ≡ 0
