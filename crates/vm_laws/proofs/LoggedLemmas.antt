-- The text of a host log is read.
use Rattle.std.proofs.Common.{◌≡◌, ℕ, ◌≤◌, List, Ok, Result}
use Rattle.vm_samples.specs.declared.sample.BadSample.{BadSample}
use Rattle.vm_samples.specs.Blocks.{blocks_of}
use Rattle.vm_samples.specs.LogSteps.{first_or_all}
use Rattle.vm_samples.specs.Policies.{IsPolicy, PolicyView}
use Rattle.vm_samples.specs.Samples.{DomainView}
use Rattle.vm_steer.specs.Streams.{policy_in, samples_in}
use Rattle.vm_log.specs.HostOf.{host_of}
use Rattle.vm_log.specs.Taking.{taken_of}
use Rattle.vm_log.proofs.RangeLemmas.{in_range}
use Rattle.vm_log.proofs.RangeTextLemmas.{short}
use Rattle.vm_laws.specs.Recorded.{IsHostRead}
use Rattle.vm_laws.specs.Logged.{IsLogRead}
use Rattle.vm_laws.proofs.LoggedPolicyLemmas.{policy_range}
use Rattle.vm_laws.proofs.RecordedLawLemmas.{host-read}

pub samples-read : (policy : PolicyView) → IsPolicy policy → (every : ℕ) → 1 ≤ every → (samples : List (Result (List DomainView) BadSample))
    → IsHostRead (host_of policy every (taken_of every policy samples).samples)
samples-read policy is every some samples =
    host-read (host_of policy every (taken_of every policy samples).samples) (in_range policy is every some samples)

pub log-read : (every : ℕ) → 1 ≤ every → (bytes : List ℕ) (policy : PolicyView) → policy_in bytes ≡ Ok policy → IsLogRead every policy bytes
log-read every some bytes policy found =
    let is = policy_range (first_or_all (blocks_of bytes) bytes) policy found in
    record { read = samples-read policy is every some (samples_in bytes); short = short policy is every some (samples_in bytes) }
