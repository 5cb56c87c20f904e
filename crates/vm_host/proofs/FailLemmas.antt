-- A host that fails.
use Rattle.std.proofs.Common.{◌≡◌, ◌∙◌, ℕ, List, ap, sym, subst}
use Rattle.vm_domains.specs.Domains.{ArePaired}
use Rattle.vm_domains.specs.Machine.{MachineConfig}
use Rattle.vm_guest.specs.Config.{GuestConfig}
use Rattle.vm_host.specs.declared.phase.Phase.TheVariants.{Failed}
use Rattle.vm_host.specs.Boundary.{FailsAfterSome, opened_boundary}
use Rattle.vm_host.specs.Commands.{IsAfterSome}
use Rattle.vm_host.specs.Sound.{IsSoundWorld}
use Rattle.vm_host.specs.World.{Conserves, FailsFrom, KeepsDomains, World, with_phase}
use Rattle.vm_pool.specs.Pool.{Conserves as PoolConserves}
use Rattle.vm_reclaim.specs.Policy.{policy_of}

pub fails-from : (w mid new : World) → KeepsDomains w mid → new ≡ with_phase mid Failed → FailsFrom w new
fails-from w mid new kept failed = record {
  machine = ap (λ (v : World). v.machine) failed ∙ kept.machine;
  names = ap (λ (v : World). v.names) failed ∙ kept.names;
  configs = ap (λ (v : World). v.pool.configs) failed ∙ kept.setup.configs;
  phase = ap (λ (v : World). v.phase) failed;
}

-- after the lines that it obeyed
pub fails-some : (w mid new : World) (lines : List (List ℕ)) → IsAfterSome (policy_of w.machine) (opened_boundary w) lines mid → new ≡ with_phase mid Failed → FailsAfterSome w lines new
fails-some w mid new lines some failed = record { count = some.count; is = failed ∙ ap (λ v. with_phase v Failed) some.is }

-- its frames still add up to the machine
pub fails-whole : (w mid new : World) → IsSoundWorld w → KeepsDomains w mid → new ≡ with_phase mid Failed → PoolConserves new.pool → Conserves new
fails-whole w mid new sound kept failed all =
    all
    ∙ (ap (λ (v : World). v.pool.frames) failed
    ∙ (kept.setup.frames
    ∙ (sound.frames_are
    ∙ sym (ap (λ (v : World). v.machine.frames) failed ∙ ap (λ (m : MachineConfig). m.frames) kept.machine))))

-- its domains still have their configurations
pub paired-kept : (w new : World) → FailsFrom w new → ArePaired w.names w.pool.configs → ArePaired new.names new.pool.configs
paired-kept w new from paired =
    subst (λ (names : List (List ℕ)). ArePaired names new.pool.configs) (sym from.names)
    (subst (λ (configs : List GuestConfig). ArePaired w.names configs) (sym from.configs) paired)
