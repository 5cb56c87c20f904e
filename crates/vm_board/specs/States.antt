-- A board and a pass as their callers see them.
use Rattle.std.specs.Prelude.{◌≡◌, ◌+◌, ◌<◌, ◌≤◌, ℕ, Bool, List, Option, length, refl}
use Rattle.std.specs.Coded.{Coded, code_by, coded×, coded_ℕ, coded_bool, coded_list, coded_option}
use Rattle.atomic_table.specs.Seated.{TableId, table_id_coded}

pub record BoardState (J : Type 0) : Type 0 where
  -- which board it is
  pub id : TableId
  -- the jobs that were put in, by number
  pub jobs : List J
  -- how many passes it was made with
  pub seats : ℕ

-- a word for the ticket and one for each number, a slot for each number, and at least one pass
pub record IsLaid {J : Type 0} (id : TableId) (jobs : List J) (seats : ℕ) : Type 0 where
  pub words : id.words ≡ length jobs + 1
  pub slots : id.slots ≡ length jobs
  pub few : length jobs ≤ 256
  pub some_seat : 0 < seats
  pub few_seats : seats ≤ 64

pub record PassState : Type 0 where
  -- whose pass it is
  pub board : TableId
  -- the numbers that it drew, in order
  pub drawn : List ℕ
  -- the number in its hand: drawn, and not finished yet
  pub number : Option ℕ
  -- it has found the ticket at the number of jobs or more
  pub over : Bool

-- both are stored as the tuple of their fields
abbrev pub board_code : {J : Type 0} → Coded J → Coded (BoardState J)
board_code {J} code =
    code_by
    (TableId × (List J × ℕ))
    (coded× table_id_coded (coded× (coded_list code) coded_ℕ))
    (λ b. (b.id, (b.jobs, b.seats)))
    (λ p. record { id = p.0; jobs = p.1.0; seats = p.1.1 })
    (λ _. refl)

abbrev pub pass_code : Coded PassState
pass_code =
    code_by
    (TableId × (List ℕ × (Option ℕ × Bool)))
    (coded× table_id_coded (coded× (coded_list coded_ℕ) (coded× (coded_option coded_ℕ) coded_bool)))
    (λ p. (p.board, (p.drawn, (p.number, p.over))))
    (λ p. record { board = p.0; drawn = p.1.0; number = p.1.1.0; over = p.1.1.1 })
    (λ _. refl)
