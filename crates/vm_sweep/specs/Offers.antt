-- Jobs on the board.
use Rattle.std.specs.Prelude.{◌≡◌, ℕ, List, map, Some, slice_get}
use Rattle.vm_board.specs.Values.{values}
use Rattle.vm_sweep.specs.declared.offer.Offer.{Offer}

module _ {J : Type 0} where
  abbrev pub offered : J → Offer J
  offered job = record { job = Some job }

  -- the jobs that nobody took, in order
  abbrev pub jobs_of : List (Offer J) → List J
  jobs_of offers = values (map (λ o. o.job) offers)

  -- this job was put up at the number
  abbrev pub IsAt : List (Offer J) → ℕ → J → Type 0
  IsAt offers n job = slice_get offers n ≡ Some (offered job)
