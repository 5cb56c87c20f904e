-- An epoch of a guest, piece by piece, so that guests can run their epochs piece by piece beside one another (this project's profile).
use Rattle.std.specs.Prelude.{ℕ, zero, suc, ◌+◌, nat_le, List, [], ◌++◌, if◌then◌else◌}
use Rattle.vm_guest.specs.Epoch.{opened_epoch, closed}
use Rattle.vm_guest.specs.Happenings.{Happening, step_happenings}
use Rattle.vm_guest.specs.Record.{GuestRecord}
use Rattle.vm_guest.specs.Steps.{one_step}

-- a piece of an epoch, counted from 0: how it begins, a step, or how it ends
abbrev pub unblocked_piece : ℕ → GuestRecord → GuestRecord
unblocked_piece zero g = opened_epoch g
unblocked_piece (suc k) g = if nat_le (suc k) g.config.quantum then one_step g else closed g

abbrev pub piece : ℕ → GuestRecord → GuestRecord
piece k g = if g.progress.blocked then g else unblocked_piece k g

-- the guest after its first pieces
abbrev pub after_pieces : ℕ → GuestRecord → GuestRecord
after_pieces zero g = g
after_pieces (suc k) g = piece k (after_pieces k g)

-- how many pieces an epoch has
abbrev pub pieces : GuestRecord → ℕ
pieces g = g.config.quantum + 2

-- an epoch: all its pieces, one after the other
abbrev pub epoch_by_pieces : GuestRecord → GuestRecord
epoch_by_pieces g = after_pieces (pieces g) g

-- what happens in a piece, counted from 0: in a step's piece what happens in the step, and nothing in the first and the last one
abbrev pub unblocked_piece_happenings : ℕ → GuestRecord → List Happening
unblocked_piece_happenings zero g = []
unblocked_piece_happenings (suc k) g = if nat_le (suc k) g.config.quantum then step_happenings g else []

abbrev pub piece_happenings : ℕ → GuestRecord → List Happening
piece_happenings k g = if g.progress.blocked then [] else unblocked_piece_happenings k g

-- what happens in the first pieces of an epoch
abbrev pub pieces_happenings : ℕ → GuestRecord → List Happening
pieces_happenings zero g = []
pieces_happenings (suc k) g = pieces_happenings k g ++ piece_happenings k (after_pieces k g)
