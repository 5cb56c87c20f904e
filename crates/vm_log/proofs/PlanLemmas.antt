-- A whole host log: its policy, and the samples behind it.
use Rattle.std.proofs.Common.{◌≡◌, ◌∙◌, ◌⊎◌, inl, inr, ℕ, ◌+◌, ◌-◌, ◌≤◌, ◌^◌, Bool, true, false, Option, Some, None, List, [], ◌∷◌, length, drop, Result, Ok, Err, IfErr, IfOk, IfSome, IsErrAnd, refl, sym, ap, subst, arith}
use Rattle.std.proofs.lemmas.Bool.{false≢true}
use Rattle.std.specs.Io.KnownBytes.{Appends}
use Rattle.std.specs.Prelude.{option_map}
use Rattle.vm_recorded.specs.declared.limit.Limit.{Limit}
use Rattle.vm_recorded.specs.Hosts.{HostView}
use Rattle.vm_recorded.specs.Texts.{text_of}
use Rattle.vm_samples.specs.declared.fault.PolicyError.{PolicyError}
use Rattle.vm_samples.specs.declared.fault.PolicyError.TheVariants as policy
use Rattle.vm_samples.specs.declared.fault.PolicyFault.{PolicyFault}
use Rattle.vm_samples.specs.declared.host_log.LogError.{LogError}
use Rattle.vm_samples.specs.declared.host_log.LogError.TheVariants as log
use Rattle.vm_samples.specs.Blocks.{blocks_of}
use Rattle.vm_samples.specs.LogSteps.{beginning, left, Gives, IsTooLong, LogView}
use Rattle.vm_samples.specs.Policies.{PolicyView}
use Rattle.vm_samples.specs.PolicyOf.{policy_of}
use Rattle.vm_samples.specs.Seen.{ReadsPolicy}
use Rattle.vm_steer.specs.declared.form.Form.TheVariants.{Orders}
use Rattle.vm_steer.specs.Steering.{SteeringView, begun}
use Rattle.vm_steer.specs.Streams.{long_in, policy_in, samples_of}
use Rattle.vm_steer.proofs.BlockLemmas.{at_front}
use Rattle.vm_steer.proofs.WholeLemmas.{from_beginning, keeps_same, long_here, policy_at}
use Rattle.vm_streams.specs.Streams.{AppendsFront, NewlyFailed}
use Rattle.vm_log.specs.declared.log_error.PlanError.{PlanError}
use Rattle.vm_log.specs.declared.log_error.PlanError.TheVariants.{Policy, Read, TooLong, Write, Memory}
use Rattle.vm_log.specs.declared.planned.Planned.{Planned}
use Rattle.vm_log.specs.declared.stream.Course.{Course}
use Rattle.vm_log.specs.Courses.{AreTaken, EndsAlone, FailsToTake, TakesAll}
use Rattle.vm_log.specs.Epochs.{epochs_of}
use Rattle.vm_log.specs.Errors.{error_of_log, error_of_policy}
use Rattle.vm_log.specs.Growing.{hosted_in}
use Rattle.vm_log.specs.HostOf.{host_of}
use Rattle.vm_log.specs.Streams.{Fails, IsTold, Plans, taken_in, text_in}
use Rattle.vm_log.specs.Taking.{Taken, taken_from}
use Rattle.vm_log.proofs.CourseLemmas.{ended_none}

-- ---- the policy isn't read

long_front : (read : Option (List ℕ)) → IfSome read IsTooLong → IfSome read (λ bytes. ((part : ℕ) × (long_in bytes ≡ Some part)) ⊎ (2 ^ 64 ≤ length (blocks_of bytes)))
long_front None long = tt
long_front (Some bytes) long = inl (0, at_front 0 (blocks_of bytes) bytes long)

pub fails_reading : (every : ℕ) (from : LogView) (read written : Option (List ℕ)) (read_failed write_failed : Bool) (error : LogError) → from ≡ beginning
    → (error ≡ log.Read → read_failed ≡ true) → (error ≡ log.TooLong → IfSome (left from read) IsTooLong)
    → Fails every read written written read_failed write_failed (error_of_log error)
fails_reading every from read written read_failed write_failed log.Read is failure long = (keeps_same written, failure refl)
fails_reading every from read written read_failed write_failed log.TooLong is failure long =
    (keeps_same written, long_front read (subst (λ (l : Option (List ℕ)). IfSome l IsTooLong) (from_beginning from read is) (long refl)))
fails_reading every from read written read_failed write_failed log.Memory is failure long = keeps_same written

fault_in : (read after : Option (List ℕ)) (found : Bool) (block : List ℕ) (fault : PolicyFault) → Gives read found block after
    → policy_of block ≡ Err fault → IfSome read (λ bytes. policy_in bytes ≡ Err fault)
fault_in None after found block fault gives is = tt
fault_in (Some bytes) after found block fault gives is = policy_at found bytes block after gives ∙ is

pub fails_policy : (every : ℕ) (from : LogView) (read written after : Option (List ℕ)) (read_failed write_failed found : Bool) (block : List ℕ) (error : PolicyError)
    → from ≡ beginning → Gives (left from read) found block after → ReadsPolicy {A = PolicyView} (Err error) (policy_of block)
    → Fails every read written written read_failed write_failed (error_of_policy error)
fails_policy every from read written after read_failed write_failed found block (policy.Fault fault) is gives reads =
    (keeps_same written, fault_in read after found block fault (subst (λ (l : Option (List ℕ)). Gives l found block after) (from_beginning from read is) gives) reads)
fails_policy every from read written after read_failed write_failed found block policy.Memory is gives reads = keeps_same written

-- ---- the samples aren't read

long_behind : (read after : Option (List ℕ)) (block : List ℕ) (p : PolicyView) → Gives read true block after → length block ≤ 16777216 → policy_of block ≡ Ok p
    → IfSome after (λ bytes. ((part : ℕ) × (long_in bytes ≡ Some part)) ⊎ (2 ^ 64 - 1 ≤ length (blocks_of bytes)))
    → IfSome read (λ bytes. ((part : ℕ) × (long_in bytes ≡ Some part)) ⊎ (2 ^ 64 ≤ length (blocks_of bytes)))
long_behind None after block p gives few means long = tt
long_behind (Some bytes) None block p gives few means long = absurd gives
long_behind (Some bytes) (Some rest) block p gives few means (inl (part, at)) =
    inl (part + 1, long_here Orders bytes block rest p gives few means ∙ ap (option_map (λ n. n + 1)) at)
long_behind (Some bytes) (Some rest) block p gives few means (inr many) = inr (omega (arith, ap length gives.blocks, many))

pub fails_taking : (every : ℕ) (from : LogView) (read written after : Option (List ℕ)) (read_failed write_failed found : Bool) (block : List ℕ) (p : PolicyView) (error : PlanError)
    → from ≡ beginning → found ≡ true → Gives (left from read) found block after → length block ≤ 16777216 → policy_of block ≡ Ok p → FailsToTake after read_failed error
    → Fails every read written written read_failed write_failed error
fails_taking every from read written after read_failed write_failed found block p (Policy fault) is there gives few means fails = absurd fails
fails_taking every from read written after read_failed write_failed found block p Read is there gives few means fails = (keeps_same written, fails)
fails_taking every from read written after read_failed write_failed found block p TooLong is there gives few means fails =
    let given : Gives read true block after =
    subst (λ (l : Option (List ℕ)). Gives l true block after) (from_beginning from read is) (subst (λ (b : Bool). Gives (left from read) b block after) there gives) in
    (keeps_same written, long_behind read after block p given few means fails)
fails_taking every from read written after read_failed write_failed found block p Write is there gives few means fails = absurd fails
fails_taking every from read written after read_failed write_failed found block p Memory is there gives few means fails = keeps_same written

-- ---- all is read

-- the policy, and what was taken behind it
abbrev pub IsWhole : (every : ℕ) → (p : PolicyView) → (course : Course) → (limit : Option Limit) → List ℕ → Type 0
IsWhole every p course limit bytes = (policy_in bytes ≡ Ok p) × AreTaken every (taken_in every p bytes) (begun p) course limit

whole_behind : (every : ℕ) (read after : Option (List ℕ)) (block : List ℕ) (p : PolicyView) (old course : Course) (limit : Option Limit) → Gives read true block after → policy_of block ≡ Ok p
    → old.steering ≡ begun p → IfSome after (TakesAll every old course limit) → IfSome read (IsWhole every p course limit)
whole_behind every None after block p old course limit gives means starts takes = tt
whole_behind every (Some bytes) None block p old course limit gives means starts takes = absurd gives
whole_behind every (Some bytes) (Some rest) block p old course limit gives means starts takes =
    let same : taken_in every p bytes ≡ taken_from every (begun p) [] 0 (samples_of (blocks_of rest)) =
    ap (λ (bs : List (List ℕ)). taken_from every (begun p) [] 0 (samples_of (drop 1 bs))) gives.blocks in
    let taken : AreTaken every (taken_from every (begun p) [] 0 (samples_of (blocks_of rest))) (begun p) course limit =
    subst (λ (s : SteeringView). AreTaken every (taken_from every s [] 0 (samples_of (blocks_of rest))) s course limit) starts takes in
    (policy_at true bytes block (Some rest) gives ∙ means, subst (λ (t : Taken). AreTaken every t (begun p) course limit) (sym same) taken)

whole_alone : (every : ℕ) (read after : Option (List ℕ)) (block : List ℕ) (p : PolicyView) (old course : Course) (limit : Option Limit) → Gives read false block after → policy_of block ≡ Ok p
    → old.steering ≡ begun p → old.bad ≡ 0 → EndsAlone every old course limit → IfSome read (IsWhole every p course limit)
whole_alone every None after block p old course limit gives means starts none alone = tt
whole_alone every (Some bytes) None block p old course limit gives means starts none alone = absurd gives
whole_alone every (Some bytes) (Some rest) block p old course limit gives means starts none alone =
    let same : taken_in every p bytes ≡ taken_from every (begun p) [] 0 [] =
    ap (λ (bs : List (List ℕ)). taken_from every (begun p) [] 0 (samples_of (drop 1 bs))) gives.none in
    let policy_is : old.steering.policy ≡ p = ap (λ (s : SteeringView). s.policy) starts in
    let taken : AreTaken every (taken_from every old.steering [] 0 []) (begun p) course limit =
    ended_none every old.steering [] 0 course.recording limit (begun p) course policy_is (ap (λ (s : SteeringView). s.policy) alone.steering) refl (alone.bad ∙ none) alone.ended in
    let whole : AreTaken every (taken_from every (begun p) [] 0 []) (begun p) course limit =
    subst (λ (s : SteeringView). AreTaken every (taken_from every s [] 0 []) (begun p) course limit) starts taken in
    (policy_at false bytes block (Some rest) gives ∙ means, subst (λ (t : Taken). AreTaken every t (begun p) course limit) (sym same) whole)

pub whole : (every : ℕ) (from : LogView) (read after : Option (List ℕ)) (found : Bool) (block : List ℕ) (p : PolicyView) (old course : Course) (limit : Option Limit) → from ≡ beginning
    → Gives (left from read) found block after → policy_of block ≡ Ok p → old.steering ≡ begun p → old.bad ≡ 0 → (found ≡ true → IfSome after (TakesAll every old course limit))
    → (found ≡ false → EndsAlone every old course limit) → IfSome read (IsWhole every p course limit)
whole every from read after true block p old course limit is gives means starts none takes alone =
    whole_behind every read after block p old course limit (subst (λ (l : Option (List ℕ)). Gives l true block after) (from_beginning from read is) gives) means starts (takes refl)
whole every from read after false block p old course limit is gives means starts none takes alone =
    whole_alone every read after block p old course limit (subst (λ (l : Option (List ℕ)). Gives l false block after) (from_beginning from read is) gives) means starts none (alone refl)

-- ---- the text

module _ (every : ℕ) (p : PolicyView) (course : Course) (limit : Option Limit) (bytes : List ℕ) (is : IsWhole every p course limit bytes) where
  text_is : text_of (hosted_in course.steering.policy course.recording) ≡ text_in every p bytes
  text_is = ap (λ (q : PolicyView). text_of (hosted_in q course.recording)) is.1.policy ∙ ap text_of is.1.host.host

  epochs_are : course.recording.epochs ≡ length (epochs_of every (taken_in every p bytes).samples)
  unfolding host_of
  epochs_are = ap (λ (h : HostView). h.epochs) is.1.host.host

  told : IsTold every (taken_in every p bytes) (record { epochs = course.recording.epochs; limit = limit; bad = course.bad })
  told = record { epochs = epochs_are; bad = is.1.bad; limit = is.1.limit_is }

pub plans : (every : ℕ) (read written new : Option (List ℕ)) (p : PolicyView) (course : Course) (limit : Option Limit) (text : List ℕ) → IfSome read (IsWhole every p course limit)
    → text ≡ text_of (hosted_in course.steering.policy course.recording) → Appends written new text
    → Plans every read written new (record { epochs = course.recording.epochs; limit = limit; bad = course.bad })
plans every None written new p course limit text is same appends = tt
plans every (Some bytes) written new p course limit text is same appends =
    (p, is.0, told every p course limit bytes is, subst (λ (l : List ℕ). Appends written new l) (same ∙ text_is every p course limit bytes is) appends)

pub fails_writing : (every : ℕ) (read written new : Option (List ℕ)) (p : PolicyView) (course : Course) (limit : Option Limit) (text : List ℕ) (read_failed write_failed : Bool)
    → IfSome read (IsWhole every p course limit) → text ≡ text_of (hosted_in course.steering.policy course.recording) → AppendsFront written new text → write_failed ≡ true
    → Fails every read written new read_failed write_failed Write
fails_writing every None written new p course limit text read_failed write_failed is same front failed = (tt, failed)
fails_writing every (Some bytes) written new p course limit text read_failed write_failed is same front failed =
    ((p, is.0, subst (λ (l : List ℕ). AppendsFront written new l) (same ∙ text_is every p course limit bytes is) front), failed)

-- ---- who fails is told

-- a failed read is told
pub told_read : {A B : Type 0} (result : Result A PlanError) (error : LogError) (old new : Bool) → IsErrAnd result (λ e. e ≡ error_of_log error)
    → (◌≡◌ {A = Result B LogError} (Err error) (Err log.Read)) ⊎ (new ≡ old) → NewlyFailed old new → result ≡ Err Read
told_read result error old new is (inr stays) newly = absurd (false≢true (sym newly.0 ∙ sym stays ∙ newly.1))
told_read (Ok x) error old new is (inl same) newly = absurd is
told_read (Err e) error old new is (inl same) newly = let inner : error ≡ log.Read = cc in ap Err (is ∙ ap error_of_log inner)
