-- Whose memory is taken, in the words of the subject: each revocation takes a page from a guest above its minimum whose adjusted ratio
-- of shares to pages is least (min-funding revocation with a tax on idle memory: Waldspurger, OSDI 2002, sections 5.1 and 5.2). And who
-- gives pages to guests that would pay more (section 6.3).
use Rattle.std.specs.Prelude.{ℕ, ⊤, List, [], ◌∷◌, None, Result, Ok, Err}
use Rattle.vm_commands.specs.declared.command.Command.{Command}
use Rattle.vm_commands.specs.declared.command.Command.TheVariants.{Start, Destroy, SetMemory, SetMinimum, SetShares, ShowStatistics}
use Rattle.vm_guest.specs.Boundary.{revoked}
use Rattle.vm_host.specs.declared.boundary.Refusal.{Refusal}
use Rattle.vm_host.specs.Boundary.{after_grants, opened_boundary, rebalances, revocations, settled}
use Rattle.vm_host.specs.Commands.{after_line}
use Rattle.vm_reclaim.specs.Room.{lacking_at, needed_to_start, raise_to}
use Rattle.vm_host.specs.Decisions.{Admitted, decision_on_line}
use Rattle.vm_pool.specs.Changes.{changed}
use Rattle.vm_pool.specs.Pool.{PoolView}
use Rattle.vm_reclaim.specs.Fairness.{GivesFromCheapest, TakesFairly, TakesFromCheapest}
use Rattle.vm_reclaim.specs.Policy.{Policy}
use Rattle.vm_host.specs.World.{World}

-- ---- the revocations that a command needs

-- what a command takes for room, it takes fairly
abbrev pub IsFairCommand : Policy → PoolView → ℕ → Command → Type 0
IsFairCommand policy pool position (Start domain) = TakesFairly policy None (needed_to_start pool position) pool
IsFairCommand policy pool position (SetMinimum domain least) =
    TakesFairly policy (raise_to position least) (lacking_at pool position least) pool
IsFairCommand policy pool position (Destroy domain) = ⊤
IsFairCommand policy pool position (SetMemory domain cap) = ⊤
IsFairCommand policy pool position (SetShares domain shares) = ⊤
IsFairCommand policy pool position (ShowStatistics domain) = ⊤

-- what an obeyed command takes for room, it takes fairly; a refused one takes nothing
abbrev pub IsFairDecision : Policy → PoolView → Result Admitted Refusal → Type 0
IsFairDecision policy pool (Ok admitted) = IsFairCommand policy pool admitted.position admitted.command
IsFairDecision policy pool (Err refusal) = ⊤

-- what each line takes for room, it takes fairly, from the host that the lines before it left
abbrev pub AreFairLines : Policy → World → List (List ℕ) → Type 0
AreFairLines policy w [] = ⊤
AreFairLines policy w (line ∷ lines) =
    IsFairDecision policy w.pool (decision_on_line w line) × AreFairLines policy (after_line policy w line) lines

-- ---- a boundary

-- a boundary revokes fairly, in its lines and in its own step
pub record IsFairBoundary (policy : Policy) (w : World) (lines : List (List ℕ)) : Type 0 where
  pub of_lines : AreFairLines policy (opened_boundary w) lines
  pub of_boundary : TakesFromCheapest policy.tax (changed revoked) (settled policy w lines).pool (revocations policy (settled policy w lines))

-- Once its targets rose, each page that a boundary moves is given by a guest above its minimum and above what it uses, whose adjusted ratio
-- is least of those that are, to the guest that would pay most for it, and more than that.
pub record IsFairRebalancing (policy : Policy) (w : World) (lines : List (List ℕ)) : Type 0 where
  pub gives : let granted = after_grants policy (settled policy w lines) in
      GivesFromCheapest policy.tax granted.pool.guests (rebalances policy granted)
