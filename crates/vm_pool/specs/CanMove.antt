-- Lists of moves that can be done, one after the other: positions whose guests lose a page of their targets, or are granted one
-- (Waldspurger, OSDI 2002, sections 5.1 and 6.3).
use Rattle.std.specs.Prelude.{ℕ, ◌<◌, ◌≤◌, ⊤, List, [], ◌∷◌, IfSome, length}
use Rattle.vm_guest.specs.Boundary.{revoked}
use Rattle.vm_pool.specs.Changes.{changed, frames_to_grant, granted_at}
use Rattle.vm_pool.specs.Pool.{PoolView, guest_at}

-- each of these can, one after the other, where a step is what is done at a position
abbrev pub CanDo : (PoolView → ℕ → Type 0) → (PoolView → ℕ → PoolView) → PoolView → List ℕ → Type 0
CanDo Can step pool [] = ⊤
CanDo Can step pool (position ∷ moves) = Can pool position × CanDo Can step (step pool position) moves

-- the guest at the position can lose a page of its target
pub record IsTakeable (pool : PoolView) (position : ℕ) : Type 0 where
  pub within : position < length pool.guests
  pub above : IfSome (guest_at pool position) (λ g. g.allotment.min < g.allotment.target)

abbrev pub CanRevoke : PoolView → List ℕ → Type 0
CanRevoke pool moves = CanDo IsTakeable (changed revoked) pool moves

-- the guest at the position can be granted a page
pub record IsGrantableAt (pool : PoolView) (position : ℕ) : Type 0 where
  pub within : position < length pool.guests
  pub demand : IfSome (guest_at pool position) (λ g. 0 < g.allotment.demand)
  pub room : IfSome (guest_at pool position) (λ g. g.allotment.target < g.allotment.cap)
  pub enough : frames_to_grant (guest_at pool position) ≤ pool.free

abbrev pub CanGrant : PoolView → List ℕ → Type 0
CanGrant pool moves = CanDo IsGrantableAt granted_at pool moves
