-- Which starts are admitted, one after the other, and what a machine lacks for the others (admission: Waldspurger, OSDI 2002,
-- section 6.2).
use Rattle.std.specs.Prelude.{ℕ, ◌-◌, ◌==◌, Bool, List, [], ◌∷◌, ◌++◌, if◌then◌else◌, nat_lt, slice_get, Option, Some, None}
use Rattle.std.specs.List.{fold, list_any}
use Rattle.std.specs.Option.{option_map_or}
use Rattle.vm_admission.specs.Accounts.{Accounts, empty_accounts, with_guest}
use Rattle.vm_domains.specs.Machine.{MachineConfig}
use Rattle.vm_guest.specs.Config.{GuestConfig}
use Rattle.vm_check.specs.declared.admissions.Refusal.{Refusal}
use Rattle.vm_check.specs.declared.what.What.{What}
use Rattle.vm_check.specs.declared.what.What.TheVariants.{FewFrames, LittleSwap}

-- what came of the starts so far: the sums of those that were admitted, who they are, and the refusals
pub record AdmissionsView : Type 0 where
  pub books : Accounts
  pub admitted : List ℕ
  pub refusals : List Refusal

abbrev pub begun : MachineConfig → AdmissionsView
begun m = record { books = empty_accounts m.frames m.swap m.overhead; admitted = []; refusals = [] }

abbrev pub is_admitted : AdmissionsView → ℕ → Bool
is_admitted s guest = list_any (λ known. known == guest) s.admitted

-- what a machine lacks for these sums; frames are looked at first
abbrev pub lack_of : (frames swap memory reserved : ℕ) → Option What
lack_of frames swap memory reserved =
    if nat_lt frames memory then Some (FewFrames memory frames)
    else if nat_lt swap reserved then Some (LittleSwap reserved swap)
    else None

abbrev pub lack_in : Accounts → Option What
lack_in a = lack_of a.frames a.swap a.memory a.reserved

-- the answer to a start that would make these the books: one that is refused counts in no sum
abbrev pub answered : AdmissionsView → (guest : ℕ) → Accounts → Option What → AdmissionsView
answered s guest books None = record s { books = books; admitted = s.admitted ++ guest ∷ [] }
answered s guest books (Some lack) = record s { refusals = s.refusals ++ record { guest = guest; lack = lack } ∷ [] }

-- with its minimum and its reserve
abbrev pub with_start : AdmissionsView → (guest min reserve : ℕ) → AdmissionsView
with_start s guest min reserve = answered s guest (with_guest s.books min reserve) (lack_in (with_guest s.books min reserve))

-- a guest that was admitted isn't looked at again
abbrev pub started : AdmissionsView → (guest min reserve : ℕ) → AdmissionsView
started s guest min reserve = if is_admitted s guest then s else with_start s guest min reserve

-- the guest of a number; its reserve is its size without its minimum
abbrev pub started_at : List GuestConfig → AdmissionsView → ℕ → AdmissionsView
started_at configs s guest = option_map_or (λ c. started s guest c.min (c.size - c.min)) (slice_get configs guest) s

abbrev pub refusals_of : MachineConfig → List GuestConfig → List ℕ → List Refusal
refusals_of m configs starts = (fold (started_at configs) (begun m) starts).refusals
