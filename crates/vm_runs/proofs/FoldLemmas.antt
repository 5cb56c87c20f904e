-- The fold of a host's runs: for callers.
use Rattle.std.proofs.Common.{◌≡◌, ◌∙◌, ℕ, zero, suc, List, refl, ap}
use Rattle.vm_domains.specs.Domains.{Domain, names_of}
use Rattle.vm_domains.specs.Machine.{MachineConfig}
use Rattle.vm_host.specs.Boundary.{past_boundary_by}
use Rattle.vm_host.specs.Epoch.{after_epoch}
use Rattle.vm_host.proofs.KeptLemmas.{machine-bounded, names-bounded}
use Rattle.vm_host.proofs.PolicyLemmas.{DecideAlike, bounded-alike}
use Rattle.vm_reclaim.specs.Policy.{Policy}
use Rattle.vm_runs.specs.Course.{Run, host_after, host_left, run_by}

module _ (machine : MachineConfig) (domains : List Domain) (lines : ℕ → List (List ℕ)) (epochs : ℕ) where
  abbrev run : Policy → Run
  run policy = run_by policy machine domains lines epochs

  -- the machine and the names of the domains stay
  pub machine-after : (policy : Policy) (k : ℕ) → (host_after (run policy) k).machine ≡ machine
  machine-after policy zero = refl
  machine-after policy (suc k) = machine-bounded policy (host_after (run policy) k) (lines k) ∙ machine-after policy k

  pub names-after : (policy : Policy) (k : ℕ) → (host_after (run policy) k).names ≡ names_of domains
  names-after policy zero = refl
  names-after policy (suc k) = names-bounded policy (host_after (run policy) k) (lines k) ∙ names-after policy k

  -- two policies that decide alike give the same hosts
  module _ (p q : Policy) (alike : DecideAlike p q) where
    -- a boundary of the same host
    next-alike : (k : ℕ) → host_after (run p) k ≡ host_after (run q) k → host_left (run p) (suc k) ≡ host_left (run q) (suc k)
    next-alike k same = ap (λ w. past_boundary_by p w (lines k)) same ∙ bounded-alike p q alike (host_after (run q) k) (lines k)

    pub after-alike : (k : ℕ) → host_after (run p) k ≡ host_after (run q) k
    after-alike zero = refl
    after-alike (suc k) = ap after_epoch (next-alike k (after-alike k))

    pub left-alike : (k : ℕ) → host_left (run p) k ≡ host_left (run q) k
    left-alike zero = refl
    left-alike (suc k) = next-alike k (after-alike k)
