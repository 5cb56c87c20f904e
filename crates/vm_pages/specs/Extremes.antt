-- The greatest and the least pages of a set, where a part of its pages has been looked at.
use Rattle.std.specs.Prelude.{ℕ, Bool, List, reverse, take, drop}
use Rattle.vm_pages.specs.Pages.{members, members_from}

-- the greatest pages among those from `page` on, at most `most` of them, greatest first
unfoldable pub greatest_from : List Bool → ℕ → ℕ → List ℕ
greatest_from pages page most = take most (reverse (members_from page (drop page pages)))

-- the least pages among those below `page`, at most `most` of them, least first
unfoldable pub least_below : List Bool → ℕ → ℕ → List ℕ
least_below pages page most = take most (members (take page pages))
