-- What is written of a host log, a stream of bytes.
use Rattle.std.specs.Prelude.{◌≡◌, ◌⊎◌, ℕ, zero, suc, ◌≤◌, ◌^◌, Bool, true, List, [], ◌∷◌, ◌++◌, drop, is_ok, length, map, nat_lt, take, IfSome, Option, Some, None, Result, Ok, Err}
use Rattle.std.specs.Io.KnownBytes.{Appends, Keeps}
use Rattle.std.specs.List.{position_from}
use Rattle.vm_samples.specs.declared.fault.PolicyError.{PolicyError}
use Rattle.vm_samples.specs.declared.fault.PolicyError.TheVariants as policy
use Rattle.vm_samples.specs.declared.fault.PolicyFault.{PolicyFault}
use Rattle.vm_samples.specs.declared.host_log.LogError.{LogError}
use Rattle.vm_samples.specs.declared.host_log.LogError.TheVariants as log
use Rattle.vm_samples.specs.declared.sample.BadSample.{BadSample}
use Rattle.vm_samples.specs.Blocks.{blocks_of, unended_of}
use Rattle.vm_samples.specs.LogSteps.{first_or_all}
use Rattle.vm_samples.specs.Policies.{PolicyView}
use Rattle.vm_samples.specs.PolicyOf.{policy_of}
use Rattle.vm_samples.specs.SampleOf.{sample_of}
use Rattle.vm_samples.specs.Samples.{DomainView}
use Rattle.vm_steer.specs.declared.form.Form.{Form}
use Rattle.vm_steer.specs.declared.steer_error.SteerError.{SteerError}
use Rattle.vm_steer.specs.declared.steer_error.SteerError.TheVariants.{Policy, Read, TooLong, Write, Memory}
use Rattle.vm_steer.specs.Fold.{header_in, texts_from}
use Rattle.vm_steer.specs.Steering.{begun}
use Rattle.vm_streams.specs.Streams.{AppendsFront}

-- ---- a log

-- the policy of a log: that of its first block, or of all bytes where there is no line `---`
abbrev pub policy_in : List ℕ → Result PolicyView PolicyFault
policy_in bytes = policy_of (first_or_all (blocks_of bytes) bytes)

-- the samples that blocks are
abbrev pub samples_of : List (List ℕ) → List (Result (List DomainView) BadSample)
samples_of blocks = map sample_of blocks

-- the samples of a log: all blocks behind the policy; what stands behind the last line `---` is none
abbrev pub samples_in : List ℕ → List (Result (List DomainView) BadSample)
samples_in bytes = samples_of (drop 1 (blocks_of bytes))

-- what is written of samples: nothing where the policy is refused
abbrev pub output_by : Form → Result PolicyView PolicyFault → List (Result (List DomainView) BadSample) → List ℕ
output_by form (Err fault) samples = []
output_by form (Ok policy) samples = header_in form ++ texts_from form 0 (begun policy) samples

-- what is written of a log
abbrev pub output_in : Form → List ℕ → List ℕ
output_in form bytes = output_by form (policy_in bytes) (samples_in bytes)

-- what is written of its first samples
abbrev pub output_until : Form → (count : ℕ) → List ℕ → List ℕ
output_until form count bytes = output_by form (policy_in bytes) (take count (samples_in bytes))

-- what is written in front of a part, from 0: in front of the policy nothing
abbrev pub output_before : Form → (part : ℕ) → List ℕ → List ℕ
output_before form zero bytes = []
output_before form (suc count) bytes = output_until form count bytes

-- ---- its length

-- the blocks, and what stands behind the last line `---`
abbrev pub parts_of : List ℕ → List (List ℕ)
parts_of bytes = blocks_of bytes ++ unended_of bytes ∷ []

abbrev pub is_long : List ℕ → Bool
is_long part = nat_lt 16777216 (length part)

-- the first part that is too long
abbrev pub long_in : List ℕ → Option ℕ
long_in bytes = position_from is_long 0 (parts_of bytes)

-- a part is too long, or the numbers of samples end in front of it
abbrev pub IsLongPart : (part : ℕ) → List ℕ → Type 0
IsLongPart part bytes = (long_in bytes ≡ Some part) ⊎ ((2 ^ 64 ≤ length (blocks_of bytes)) × (part ≡ 2 ^ 64))

-- ---- what comes of it: of the source and the sink it names the bytes before and after, where they are known

module _ (form : Form) (read_old written_old written_new : Option (List ℕ)) where
  -- the policy isn't refused, no part is too long, and the output was written and nothing else
  abbrev pub Steers : Type 0
  Steers = IfSome read_old (λ bytes.
      (is_ok (policy_in bytes) ≡ true) × (long_in bytes ≡ None) × Appends written_old written_new (output_in form bytes))

  -- what stands in front of a part was written, and nothing else: of the policy nothing, else the header and the texts of whole samples
  abbrev pub WritesBefore : (part : ℕ) → List ℕ → Type 0
  WritesBefore part bytes = Appends written_old written_new (output_before form part bytes)

  -- .. of some part
  abbrev pub WritesWhole : Type 0
  WritesWhole = IfSome read_old (λ bytes. (part : ℕ) × WritesBefore part bytes)

  -- the cause of each error but `Memory`, which has none, and what was written by then
  abbrev pub Fails : (read_failed write_failed : Bool) → SteerError → Type 0
  Fails read_failed write_failed (Policy fault) =
      Keeps written_old written_new × IfSome read_old (λ bytes. policy_in bytes ≡ Err fault)
  Fails read_failed write_failed Read = WritesWhole × (read_failed ≡ true)
  Fails read_failed write_failed TooLong =
      IfSome read_old (λ bytes. (part : ℕ) × IsLongPart part bytes × WritesBefore part bytes)
  Fails read_failed write_failed Write =
      IfSome read_old (λ bytes. AppendsFront written_old written_new (output_in form bytes)) × (write_failed ≡ true)
  Fails read_failed write_failed Memory = WritesWhole

-- ---- errors

abbrev pub error_of_log : LogError → SteerError
error_of_log log.Read = Read
error_of_log log.TooLong = TooLong
error_of_log log.Memory = Memory

abbrev pub error_of_policy : PolicyError → SteerError
error_of_policy (policy.Fault fault) = Policy fault
error_of_policy policy.Memory = Memory
