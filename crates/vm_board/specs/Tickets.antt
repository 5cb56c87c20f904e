-- The rule of a board: what holds between any two atomic steps, whatever the number of passes.
-- Word 0 is the ticket, the least number that waits. Word n + 1 is 1 once the number n is done, else 0. Slot n keeps the job n.
use Rattle.std.specs.Prelude.{◌≡◌, ◌<◌, ◌≤◌, ℕ, ◌+◌, ◌^◌, true, List, length, ◌&&◌, Option, Some, None, [], nat_lt, slice_get, slice_index}
use Rattle.std.specs.List.{All}
use mathlib.Core.Option.{some}
use lib.ListN.{get_elem?}
use Rattle.atomic_table.specs.Table.{State}
use Rattle.vm_board.specs.declared.plays.Hand.{Hand}
use Rattle.vm_board.specs.Sums.{total, times, one_if}
use Rattle.vm_board.specs.Pieces.{finished}
use Rattle.vm_board.specs.Hands.{has, over_weight}

-- 1 where the number was drawn: it is below the ticket, and there is such a job
abbrev pub once : ℕ → ℕ → ℕ → ℕ
once n ticket count = one_if (nat_lt n ticket && nat_lt n count)

abbrev pub ticket : List ℕ → ℕ
ticket words = slice_index words 0

abbrev pub mark : List ℕ → ℕ → ℕ
mark words n = slice_index words (n + 1)

pub record HandOk (count ticket : ℕ) (v : Hand) : Type 0 where
  pub idle : v.weight ≡ 0 → (v.drawn ≡ []) × (v.number ≡ None)
  pub listed : (n : ℕ) → v.number ≡ Some n → 0 < times n v.drawn
  pub found : v.over ≡ true → 0 < v.weight → count ≤ ticket

module _ {J : Type 0} (ready : J → Type 0) (pieces : J → ℕ) (piece : ℕ → J → J) where
  pub record IsKept (jobs : List J) (seats : ℕ) (s : State (Option J) Hand) : Type 0 where
    pub wide : length s.words ≡ length jobs + 1
    pub long : length s.homes ≡ length jobs
    pub small : length jobs + seats < 2 ^ 63
    pub fit : All ready jobs
    pub weights : total (λ v. v.weight) s.views ≡ seats
    -- each number below the ticket was drawn once, by one pass
    pub drawn : (n : ℕ) → total (λ v. times n v.drawn) s.views ≡ once n (ticket s.words) (length jobs)
    -- and it is in one hand, or done
    pub hands : (n : ℕ) → total (λ v. has n v.number) s.views + mark s.words n ≡ once n (ticket s.words) (length jobs)
    -- each pass goes past the last number once at most
    pub bound : ticket s.words ≤ length jobs + total over_weight s.views
    pub each_hand : (k : ℕ) (v : Hand) → get_elem? s.views k ≡ some v → HandOk (length jobs) (ticket s.words) v
    pub waits : (n : ℕ) (j : J) → slice_get jobs n ≡ Some j → ticket s.words ≤ n → get_elem? s.homes n ≡ some (some (Some j))
    pub done : (n : ℕ) (j : J) → slice_get jobs n ≡ Some j → mark s.words n ≡ 1 → get_elem? s.homes n ≡ some (some (Some (finished pieces piece j)))
