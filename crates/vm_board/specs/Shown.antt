-- How a board shows the round: where its words, and what its seats know, put each number.
use Rattle.std.specs.Prelude.{◌≡◌, ◌<◌, ◌≤◌, ℕ, ◌+◌, ◌^◌, false, true, List, [], ◌∷◌, ◌++◌, length, map, replicate, Option, Some, None, nat_lt, if◌then◌else◌, slice_get, slice_set}
use Rattle.std.specs.List.{All}
use mathlib.Core.Option.{none, some}
use lib.ListN.{get_elem?}
use Rattle.atomic_table.specs.Table.{State, opening}
use Rattle.vm_board.specs.declared.plays.Hand.{Hand}
use Rattle.vm_board.specs.Pieces.{finished}
use Rattle.vm_board.specs.Rounds.{Place, waiting, with_worker, done, Entry, draw, step, finish, start, happens}
use Rattle.vm_board.specs.Hands.{hand, newcomer, one_less, merged, spent}
use Rattle.vm_board.specs.Tickets.{ticket, mark, IsKept}

-- the words, slots and views of a board of these jobs
abbrev Table : Type 0 → Type 0
Table J = State (Option J) Hand

module _ {J : Type 0} where
  -- the seat w has the view v
  abbrev pub Knows : Table J → ℕ → Hand → Type 0
  Knows s w v = get_elem? s.views w ≡ some v

  -- A worker is a seat. How many pieces are done is known to the holder alone: no word shows it.
  abbrev pub StandsIn : Table J → ℕ → Place → Type 0
  StandsIn s n waiting = ticket s.words ≤ n
  StandsIn s n (with_worker w k) = (v : Hand) × Knows s w v × (v.number ≡ Some n)
  StandsIn s n done = mark s.words n ≡ 1

  -- the table shows a round of these jobs
  pub record Shows (jobs : List J) (s : Table J) (round : List (Entry J)) : Type 0 where
    pub numbers : map (λ e. e.put) round ≡ jobs
    pub places : (n : ℕ) (e : Entry J) → slice_get round n ≡ Some e → StandsIn s n e.place

  -- the table after the seat w, which knew v, drew: by the ticket word a number is left, or none
  abbrev pub after_draw : ℕ → Table J → ℕ → Hand → Table J
  after_draw count s w v = if nat_lt (ticket s.words) count
      then record { words = slice_set s.words 0 (ticket s.words + 1); homes = slice_set s.homes (ticket s.words) none; views = slice_set s.views w (hand v.weight (v.drawn ++ ticket s.words ∷ []) (Some (ticket s.words)) v.over) }
      else record { words = slice_set s.words 0 (ticket s.words + 1); homes = s.homes; views = slice_set s.views w (hand v.weight v.drawn v.number true) }

  -- the table after the seat w, which knew v, finished n with this result
  abbrev pub after_finish : Table J → ℕ → Hand → ℕ → J → Table J
  after_finish s w v n result = record { words = slice_set s.words (n + 1) 1; homes = slice_set s.homes n (some (Some result)); views = slice_set s.views w (hand v.weight v.drawn None v.over) }

  -- the table after the seat w, which knew v, gave one of its passes to a new seat
  abbrev pub after_split : Table J → ℕ → Hand → Table J
  after_split s w v = record { words = s.words; homes = s.homes; views = slice_set s.views w (one_less v) ++ newcomer 1 ∷ [] }

  -- the table after the seat w, which knew v, took in what the seat other knew
  abbrev pub after_join : Table J → ℕ → Hand → ℕ → Hand → Table J
  after_join s w v other u = record { words = s.words; homes = s.homes; views = slice_set (slice_set s.views w (merged v u)) other spent }

-- a seat that may draw
pub record MayDraw (v : Hand) : Type 0 where
  pub some_weight : 0 < v.weight
  pub not_over : v.over ≡ false
  pub empty : v.number ≡ None

module _ {J : Type 0} (ready : J → Type 0) (pieces : J → ℕ) (piece : ℕ → J → J) where
  -- the rule holds of the table, and it shows the round
  abbrev pub Agrees : List J → ℕ → Table J → List (Entry J) → Type 0
  Agrees jobs seats s round = IsKept ready pieces piece jobs seats s × Shows jobs s round

  -- What holds of a board of these jobs, whatever its table and its round are: it begins with the round in which all wait, each draw and each finish on its words is that event of the round, and its other steps leave the round as it is
  pub record ShowsRounds (jobs : List J) (seats : ℕ) : Type 0 where
    pub begins : 0 < seats → length jobs + seats < 2 ^ 63 → All ready jobs → Agrees jobs seats (opening (replicate (length jobs + 1) 0) (map Some jobs) (newcomer seats)) (start jobs)
    pub draws : (s : Table J) (round : List (Entry J)) (w : ℕ) (v : Hand) → Agrees jobs seats s round → Knows s w v → MayDraw v → Agrees jobs seats (after_draw (length jobs) s w v) (happens pieces piece (draw w) round)
    pub steps : (s : Table J) (round : List (Entry J)) (w : ℕ) → Agrees jobs seats s round → Agrees jobs seats s (happens pieces piece (step w) round)
    pub finishes : (s : Table J) (round : List (Entry J)) (w : ℕ) (v : Hand) (n : ℕ) (e : Entry J) → Agrees jobs seats s round → Knows s w v → 0 < v.weight → v.number ≡ Some n
        → slice_get round n ≡ Some e → e.place ≡ with_worker w (pieces e.put)
        → Agrees jobs seats (after_finish s w v n (finished pieces piece e.put)) (happens pieces piece (finish w) round)
    pub splits : (s : Table J) (round : List (Entry J)) (w : ℕ) (v : Hand) → Agrees jobs seats s round → Knows s w v → 1 < v.weight → v.over ≡ false → Agrees jobs seats (after_split s w v) round
    pub joins : (s : Table J) (round : List (Entry J)) (w : ℕ) (v : Hand) (other : ℕ) (u : Hand) → Agrees jobs seats s round → Knows s w v → Knows s other u → ¬ (other ≡ w)
        → 0 < v.weight → v.over ≡ true → u.over ≡ true → v.number ≡ None → u.number ≡ None → Agrees jobs seats (after_join s w v other u) round
