-- What the blocks of a log come to, one after the other.
use Rattle.std.proofs.Common.{◌≡◌, ◌∙◌, ◌⊎◌, inl, inr, ℕ, ◌+◌, ◌-◌, ◌≤◌, ◌^◌, Bool, true, false, Option, Some, None, List, [], ◌∷◌, ◌++◌, length, map, Result, Ok, Err, IfErr, IfSome, IsErrAnd, refl, sym, ap, subst, arith}
use Rattle.std.specs.Prelude.{⊤}
use Rattle.vm_recorded.specs.declared.limit.Limit.{Limit}
use Rattle.vm_recorded.specs.Hosts.{HostView}
use Rattle.vm_recorded.specs.Limits.{limit_with_bytes}
use Rattle.vm_samples.specs.declared.host_log.LogError.{LogError}
use Rattle.vm_samples.specs.declared.host_log.LogError.TheVariants as log
use Rattle.vm_samples.specs.declared.sample.BadSample.{BadSample}
use Rattle.vm_samples.specs.Blocks.{blocks_of}
use Rattle.vm_samples.specs.LogSteps.{Gives, IsTooLong}
use Rattle.vm_samples.specs.SampleOf.{sample_of}
use Rattle.vm_samples.specs.Policies.{PolicyView}
use Rattle.vm_samples.specs.Samples.{DomainView}
use Rattle.vm_steer.specs.declared.form.Form.TheVariants.{Orders}
use Rattle.vm_steer.specs.Blocks.{after_block, AreTakenOf, IsLongAt, WritesFirst}
use Rattle.vm_steer.specs.Entries.{EntryView}
use Rattle.vm_steer.specs.Fold.{after_sample}
use Rattle.vm_steer.specs.Names.{AreRising}
use Rattle.vm_steer.specs.Steering.{SteeringView, steered}
use Rattle.vm_steer.specs.Streams.{long_in, samples_of}
use Rattle.vm_steer.proofs.BlockLemmas.{none_taken, taken_long, taken_many, taken_next}
use Rattle.vm_log.specs.declared.log_error.PlanError.{PlanError}
use Rattle.vm_log.specs.declared.recording.Recording.{Recording}
use Rattle.vm_log.specs.declared.stream.Course.{Course}
use Rattle.vm_log.specs.declared.stream.Step.{Step}
use Rattle.vm_log.specs.declared.stream.Step.TheVariants.{Good, Bad}
use Rattle.vm_log.specs.Courses.{AreTaken, FailsToTake, GoesOn, IsOnWay, IsStep, IsWritable, TakesAll}
use Rattle.vm_log.specs.Errors.{error_of_log}
use Rattle.vm_log.specs.Following.{Follows, IsEndedWith, IsHostOf, IsTakenWith}
use Rattle.vm_log.specs.HostOf.{guest_of, host_of}
use Rattle.vm_log.specs.NamesSeen.{guest_names, is_steered}
use Rattle.vm_log.specs.Sampling.{IsUsable}
use Rattle.vm_log.specs.Steps.{names_of}
use Rattle.vm_log.specs.Taking.{ended_by, epochs_before, limit_at, Taken, taken_from}
use Rattle.vm_log.proofs.GatherLemmas.{names-rising, none-rising}
use Rattle.vm_log.proofs.GrowLemmas.{names-back}
use Rattle.vm_log.proofs.ToldLemmas.{usable}

-- an error is passed on
pub passed_on : {T : Type 0} (result : Result T PlanError) (error : PlanError) (P : PlanError → Type 0) → P error → IsErrAnd result (λ e. e ≡ error) → IfErr result P
passed_on (Ok x) error P holds same = absurd same
passed_on (Err e) error P holds same = subst P (sym same) holds

-- ---- one block

pub usable_then : (s now : SteeringView) (domains : List DomainView) → now ≡ steered s domains → IsUsable now.last.domains
usable_then s now domains is = subst (λ (v : SteeringView). IsUsable v.last.domains) (sym is) (usable s.policy s.last domains)

-- the policy stays
pub follows_then : (every : ℕ) (s now : SteeringView) (domains : List DomainView) (samples : List (List EntryView)) (r : Recording) → now ≡ steered s domains
    → Follows s.policy every samples r → Follows now.policy every samples r
follows_then every s now domains samples r is follows = subst (λ (v : SteeringView). Follows v.policy every samples r) (sym is) follows

pub step_good : (every : ℕ) (s now : SteeringView) (before : List (List EntryView)) (r : Recording) (limit : Option Limit) (wanted : Result (List DomainView) BadSample) (domains : List DomainView)
    → wanted ≡ Ok domains → now ≡ steered s domains → IsTakenWith now.policy every (before ++ now.last.domains ∷ []) r limit → IsStep every s now before r wanted (Good limit)
step_good every s now before r limit wanted domains wants is taken =
    subst (λ (w : Result (List DomainView) BadSample). IsStep every s now before r w (Good limit)) (sym wants)
    (is, subst (λ (v : SteeringView). IsTakenWith v.policy every (before ++ v.last.domains ∷ []) r limit) is taken)

pub step_bad : (every : ℕ) (s : SteeringView) (before : List (List EntryView)) (r : Recording) (wanted : Result (List DomainView) BadSample) (bad : BadSample)
    → wanted ≡ Err bad → Follows s.policy every before r → IsStep every s s before r wanted Bad
step_bad every s before r wanted bad wants follows =
    subst (λ (w : Result (List DomainView) BadSample). IsStep every s s before r w Bad) (sym wants) (refl, follows)

-- ---- what a block adds

pub record Adds (every : ℕ) (s now : SteeringView) (before after : List (List EntryView)) (bad more_bad : ℕ) (r : Recording) (wanted : Result (List DomainView) BadSample) : Type 0 where
  pub is : now ≡ after_sample s wanted
  pub policy : now.policy ≡ s.policy
  pub follows : Follows now.policy every after r
  pub goes_on : (more : List (Result (List DomainView) BadSample)) → taken_from every s before bad (wanted ∷ more) ≡ taken_from every now after more_bad more

adds_good : (every : ℕ) (s now : SteeringView) (before : List (List EntryView)) (bad : ℕ) (r : Recording) (wanted : Result (List DomainView) BadSample) → IsStep every s now before r wanted (Good None)
    → Adds every s now before (before ++ now.last.domains ∷ []) bad bad r wanted
adds_good every s now before bad r (Err fault) step = absurd step
adds_good every s now before bad r (Ok domains) step =
    let is : now ≡ steered s domains = step.0 in
    let taken : List (List EntryView) = before ++ (steered s domains).last.domains ∷ [] in
    record {
      is = is;
      policy = ap (λ (v : SteeringView). v.policy) is;
      follows = subst (λ (v : SteeringView). Follows v.policy every (before ++ v.last.domains ∷ []) r) (sym is) step.1.1;
      goes_on = λ more. ap (λ (l : Option Limit). ended_by every l taken bad (taken_from every (steered s domains) taken bad more)) step.1.0
          ∙ ap (λ (v : SteeringView). taken_from every v (before ++ v.last.domains ∷ []) bad more) (sym is);
    }

adds_bad : (every : ℕ) (s now : SteeringView) (before : List (List EntryView)) (bad : ℕ) (r : Recording) (wanted : Result (List DomainView) BadSample) → IsStep every s now before r wanted Bad
    → Adds every s now before before bad (bad + 1) r wanted
adds_bad every s now before bad r (Ok domains) step = absurd step
adds_bad every s now before bad r (Err fault) step = record {
  is = step.0;
  policy = ap (λ (v : SteeringView). v.policy) step.0;
  follows = subst (λ (v : SteeringView). Follows v.policy every before r) (sym step.0) step.1;
  goes_on = λ more. ap (λ (v : SteeringView). taken_from every v before (bad + 1) more) (sym step.0);
}

goes_further : (every : ℕ) (first s now : SteeringView) (before after : List (List EntryView)) (bad more_bad : ℕ) (r : Recording) (all rest behind : Option (List ℕ)) (block : List ℕ)
    → GoesOn every first s before bad all rest → Gives rest true block behind → Adds every s now before after bad more_bad r (sample_of block)
    → GoesOn every first now after more_bad all behind
goes_further every first s now before after bad more_bad r None rest behind block goes gives adds = tt
goes_further every first s now before after bad more_bad r (Some all) None behind block goes gives adds = absurd goes
goes_further every first s now before after bad more_bad r (Some all) (Some rest) None block goes gives adds = absurd gives
goes_further every first s now before after bad more_bad r (Some all) (Some rest) (Some behind) block goes gives adds =
    goes ∙ ap (λ (bs : List (List ℕ)). taken_from every s before bad (samples_of bs)) gives.blocks ∙ adds.goes_on (samples_of (blocks_of behind))

-- ---- on the way

pub started : (every : ℕ) (old : Course) (all : Option (List ℕ)) → old.bad ≡ 0 → Follows old.steering.policy every [] old.recording → IsOnWay every 0 old all old all
started every old all none follows = record {
  before = [];
  policy = refl;
  follows = follows;
  bad = omega (arith, none);
  blocks = none_taken Orders old.steering all None;
  goes_on = starts all;
}
  where
    starts : (bytes : Option (List ℕ)) → GoesOn every old.steering old.steering [] old.bad bytes bytes
    starts None = tt
    starts (Some bytes) = ap (λ (n : ℕ). taken_from every old.steering [] n (samples_of (blocks_of bytes))) (sym none)

module _ (every count : ℕ) (old course : Course) (first rest : Option (List ℕ)) (way : IsOnWay every count old first course rest) where
  pub goes : (now : SteeringView) (after : List (List EntryView)) (more_bad : ℕ) (r : Recording) (found : Bool) (block : List ℕ) (behind : Option (List ℕ)) → found ≡ true
      → Gives rest found block behind → length block ≤ 16777216 → more_bad ≤ count + 1 → Adds every course.steering now way.before after course.bad more_bad r (sample_of block)
      → IsOnWay every (count + 1) old first (record { steering = now; recording = r; bad = more_bad }) behind
  goes now after more_bad r found block behind there gives few bad adds =
      let given : Gives rest true block behind = subst (λ (b : Bool). Gives rest b block behind) there gives in
      record {
        before = after;
        policy = adds.policy ∙ way.policy;
        follows = adds.follows;
        bad = bad;
        blocks = taken_next Orders found count old.steering course.steering now None None None first rest behind block there way.blocks gives few (next found there) tt;
        goes_on = goes_further every old.steering course.steering now way.before after course.bad more_bad r first rest behind block way.goes_on given adds;
      }
    where
      next : (f : Bool) → f ≡ true → now ≡ after_block f course.steering block
      next f is = subst (λ (b : Bool). now ≡ after_block b course.steering block) (sym is) adds.is

-- ---- the end

rising_host : (policy : PolicyView) (every : ℕ) (samples : List (List EntryView)) (r : Recording) → IsHostOf policy every samples r → AreRising (names_of r.guests.items)
unfolding host_of
rising_host policy every samples r is =
    let guests : r.guests.items ≡ map (guest_of policy every samples) (guest_names samples) = ap (λ (h : HostView). h.guests) is.host in
    subst AreRising (sym (ap names_of guests ∙ names-back policy every samples (guest_names samples))) (names-rising is_steered [] samples none-rising)

writable_host : (policy : PolicyView) (every : ℕ) (samples : List (List EntryView)) (r : Recording) → IsHostOf policy every samples r → IsWritable r
writable_host policy every samples r is = record { few = is.few; rising = rising_host policy every samples r is }

pub writable_ended : (policy : PolicyView) (every : ℕ) (samples : List (List EntryView)) (r : Recording) (limit : Option Limit) → IsEndedWith policy every samples r limit → IsWritable r
writable_ended policy every samples r None ended = writable_host policy every samples r ended.1
writable_ended policy every samples r (Some limit) ended = writable_host policy every (epochs_before every samples) r ended.1

pub ended_none : (every : ℕ) (s : SteeringView) (before : List (List EntryView)) (bad : ℕ) (r : Recording) (limit : Option Limit) (old : SteeringView) (course : Course)
    → s.policy ≡ old.policy → course.steering.policy ≡ s.policy → course.recording ≡ r → course.bad ≡ bad → IsEndedWith s.policy every before r limit
    → AreTaken every (taken_from every s before bad []) old course limit
ended_none every s before bad r None old course policy same recording many ended =
    let is : taken_from every s before bad [] ≡ record { samples = before; bad = bad; limit = None } =
    ap (λ (l : Option Limit). ended_by every l before bad (record { samples = before; bad = bad; limit = None })) ended.0 in
    subst (λ (t : Taken). AreTaken every t old course None) (sym is) (record {
      policy = same ∙ policy;
      host = subst (λ (q : Recording). IsHostOf old.policy every before q) (sym recording) (subst (λ (p : PolicyView). IsHostOf p every before r) policy ended.1);
      bad = many;
      limit_is = refl;
    })
ended_none every s before bad r (Some limit) old course policy same recording many ended =
    let is : taken_from every s before bad [] ≡ record { samples = epochs_before every before; bad = bad; limit = Some limit } =
    ap (λ (l : Option Limit). ended_by every l before bad (record { samples = before; bad = bad; limit = None })) ended.0 in
    subst (λ (t : Taken). AreTaken every t old course (Some limit)) (sym is) (record {
      policy = same ∙ policy;
      host = subst (λ (q : Recording). IsHostOf old.policy every (epochs_before every before) q) (sym recording)
          (subst (λ (p : PolicyView). IsHostOf p every (epochs_before every before) r) policy ended.1);
      bad = many;
      limit_is = refl;
    })

-- a limit is passed with a sample
limited : (every : ℕ) (s now : SteeringView) (before : List (List EntryView)) (bad : ℕ) (r : Recording) (limit : Limit) (old : SteeringView) (wanted : Result (List DomainView) BadSample)
    (more : List (Result (List DomainView) BadSample)) → s.policy ≡ old.policy → IsStep every s now before r wanted (Good (Some limit))
    → AreTaken every (taken_from every s before bad (wanted ∷ more)) old (record { steering = now; recording = r; bad = bad }) (Some limit)
limited every s now before bad r limit old (Err fault) more policy step = absurd step
limited every s now before bad r limit old (Ok domains) more policy step =
    let taken : List (List EntryView) = before ++ (steered s domains).last.domains ∷ [] in
    let is : taken_from every s before bad (Ok domains ∷ more) ≡ record { samples = epochs_before every taken; bad = bad; limit = Some limit } =
    ap (λ (l : Option Limit). ended_by every l taken bad (taken_from every (steered s domains) taken bad more)) step.1.0 in
    subst (λ (t : Taken). AreTaken every t old (record { steering = now; recording = r; bad = bad }) (Some limit)) (sym is) (record {
      policy = ap (λ (v : SteeringView). v.policy) step.0 ∙ policy;
      host = subst (λ (p : PolicyView). IsHostOf p every (epochs_before every taken) r) policy step.1.1;
      bad = refl;
      limit_is = refl;
    })

writable_limited : (every : ℕ) (s now : SteeringView) (before : List (List EntryView)) (r : Recording) (limit : Limit) (wanted : Result (List DomainView) BadSample)
    → IsStep every s now before r wanted (Good (Some limit)) → IsWritable r
writable_limited every s now before r limit (Err fault) step = absurd step
writable_limited every s now before r limit (Ok domains) step = writable_host s.policy every (epochs_before every (before ++ (steered s domains).last.domains ∷ [])) r step.1.1

ended_known : (every : ℕ) (s : SteeringView) (before : List (List EntryView)) (bad : ℕ) (r : Recording) (limit : Option Limit) (old new : Course) (first rest behind : Option (List ℕ)) (block : List ℕ)
    → s.policy ≡ old.steering.policy → new.steering.policy ≡ s.policy → new.recording ≡ r → new.bad ≡ bad → IsEndedWith s.policy every before r limit
    → GoesOn every old.steering s before bad first rest → Gives rest false block behind → IfSome first (TakesAll every old new limit)
ended_known every s before bad r limit old new None rest behind block policy same recording many ended goes gives = tt
ended_known every s before bad r limit old new (Some all) None behind block policy same recording many ended goes gives = absurd goes
ended_known every s before bad r limit old new (Some all) (Some rest) None block policy same recording many ended goes gives = absurd gives
ended_known every s before bad r limit old new (Some all) (Some rest) (Some behind) block policy same recording many ended goes gives =
    let is : taken_from every old.steering [] 0 (samples_of (blocks_of all)) ≡ taken_from every s before bad [] =
    goes ∙ ap (λ (bs : List (List ℕ)). taken_from every s before bad (samples_of bs)) gives.none in
    subst (λ (t : Taken). AreTaken every t old.steering new limit) (sym is) (ended_none every s before bad r limit old.steering new policy same recording many ended)

limited_known : (every : ℕ) (s now : SteeringView) (before : List (List EntryView)) (bad : ℕ) (r : Recording) (limit : Limit) (old : Course) (first rest behind : Option (List ℕ)) (block : List ℕ)
    → s.policy ≡ old.steering.policy → IsStep every s now before r (sample_of block) (Good (Some limit))
    → GoesOn every old.steering s before bad first rest → Gives rest true block behind → IfSome first (TakesAll every old (record { steering = now; recording = r; bad = bad }) (Some limit))
limited_known every s now before bad r limit old None rest behind block policy step goes gives = tt
limited_known every s now before bad r limit old (Some all) None behind block policy step goes gives = absurd goes
limited_known every s now before bad r limit old (Some all) (Some rest) None block policy step goes gives = absurd gives
limited_known every s now before bad r limit old (Some all) (Some rest) (Some behind) block policy step goes gives =
    let is : taken_from every old.steering [] 0 (samples_of (blocks_of all)) ≡ taken_from every s before bad (sample_of block ∷ samples_of (blocks_of behind)) =
    goes ∙ ap (λ (bs : List (List ℕ)). taken_from every s before bad (samples_of bs)) gives.blocks in
    subst (λ (t : Taken). AreTaken every t old.steering (record { steering = now; recording = r; bad = bad }) (Some limit)) (sym is)
    (limited every s now before bad r limit old.steering (sample_of block) (samples_of (blocks_of behind)) policy step)

-- ---- of a call

module _ (every count : ℕ) (old course : Course) (first rest : Option (List ℕ)) (way : IsOnWay every count old first course rest) where
  pub adds_none : (now : SteeringView) (r : Recording) (found : Bool) (block : List ℕ) (behind : Option (List ℕ)) → found ≡ true → Gives rest found block behind → length block ≤ 16777216
      → IsStep every course.steering now way.before r (sample_of block) (Good None) → IsOnWay every (count + 1) old first (record { steering = now; recording = r; bad = course.bad }) behind
  adds_none now r found block behind there gives few step =
      goes every count old course first rest way now (way.before ++ now.last.domains ∷ []) course.bad r found block behind there gives few (omega (arith, way.bad))
      (adds_good every course.steering now way.before course.bad r (sample_of block) step)

  pub adds_one : (now : SteeringView) (r : Recording) (found : Bool) (block : List ℕ) (behind : Option (List ℕ)) → found ≡ true → Gives rest found block behind → length block ≤ 16777216
      → IsStep every course.steering now way.before r (sample_of block) Bad → IsOnWay every (count + 1) old first (record { steering = now; recording = r; bad = course.bad + 1 }) behind
  adds_one now r found block behind there gives few step =
      goes every count old course first rest way now way.before (course.bad + 1) r found block behind there gives few (omega (arith, way.bad))
      (adds_bad every course.steering now way.before course.bad r (sample_of block) step)

  pub ends : (r : Recording) (limit : Option Limit) (found : Bool) (block : List ℕ) (behind : Option (List ℕ)) → found ≡ false → Gives rest found block behind
      → IsEndedWith course.steering.policy every way.before r limit → IfSome first (TakesAll every old (record { steering = course.steering; recording = r; bad = course.bad }) limit)
  ends r limit found block behind none gives ended =
      ended_known every course.steering way.before course.bad r limit old (record { steering = course.steering; recording = r; bad = course.bad }) first rest behind block way.policy refl refl refl ended way.goes_on
      (subst (λ (b : Bool). Gives rest b block behind) none gives)

  pub ends_writable : (r : Recording) (limit : Option Limit) → IsEndedWith course.steering.policy every way.before r limit → IsWritable r
  ends_writable r limit ended = writable_ended course.steering.policy every way.before r limit ended

  pub passes : (now : SteeringView) (r : Recording) (limit : Limit) (found : Bool) (block : List ℕ) (behind : Option (List ℕ)) → found ≡ true → Gives rest found block behind
      → IsStep every course.steering now way.before r (sample_of block) (Good (Some limit)) → IfSome first (TakesAll every old (record { steering = now; recording = r; bad = course.bad }) (Some limit))
  passes now r limit found block behind there gives step =
      limited_known every course.steering now way.before course.bad r limit old first rest behind block way.policy step way.goes_on
      (subst (λ (b : Bool). Gives rest b block behind) there gives)

  pub passes_writable : (now : SteeringView) (r : Recording) (limit : Limit) (block : List ℕ) → IsStep every course.steering now way.before r (sample_of block) (Good (Some limit)) → IsWritable r
  passes_writable now r limit block step = writable_limited every course.steering now way.before r limit (sample_of block) step

  cause : (f : Option (List ℕ)) → IfSome f (λ bytes. (n : ℕ) × IsLongAt n bytes × WritesFirst Orders old.steering f None None n bytes)
      → IfSome f (λ bytes. ((part : ℕ) × (long_in bytes ≡ Some part)) ⊎ (2 ^ 64 - 1 ≤ length (blocks_of bytes)))
  cause None long = tt
  cause (Some bytes) (n, inl at, written) = inl (n, at)
  cause (Some bytes) (n, inr many, written) = inr many.0

  pub long : IfSome rest IsTooLong → IfSome first (λ bytes. ((part : ℕ) × (long_in bytes ≡ Some part)) ⊎ (2 ^ 64 - 1 ≤ length (blocks_of bytes)))
  long is = cause first (taken_long Orders count old.steering course.steering None None first rest way.blocks is)

  pub many : count ≡ 2 ^ 64 - 1 → IfSome first (λ bytes. ((part : ℕ) × (long_in bytes ≡ Some part)) ⊎ (2 ^ 64 - 1 ≤ length (blocks_of bytes)))
  many is = cause first (taken_many Orders count old.steering course.steering None None first rest way.blocks is)

  pub fails_next : (read_failed : Bool) (error : LogError) → (error ≡ log.Read → read_failed ≡ true) → (error ≡ log.TooLong → IfSome rest IsTooLong) → FailsToTake first read_failed (error_of_log error)
  fails_next read_failed log.Read failure too_long = failure refl
  fails_next read_failed log.TooLong failure too_long = long (too_long refl)
  fails_next read_failed log.Memory failure too_long = tt

-- what a block came to, by what it is
pub step_is : (every : ℕ) (s now : SteeringView) (before : List (List EntryView)) (r : Recording) (block same : List ℕ) (step wanted : Step) → same ≡ block → step ≡ wanted
    → IsStep every s now before r (sample_of same) step → IsStep every s now before r (sample_of block) wanted
step_is every s now before r block same step wanted is_block is taken =
    subst (λ (w : Step). IsStep every s now before r (sample_of block) w) is (subst (λ (b : List ℕ). IsStep every s now before r (sample_of b) step) is_block taken)

-- the policy by another name
pub ended_under : (q p : PolicyView) (every : ℕ) (samples : List (List EntryView)) (old new : Recording) (limit : Option Limit) → q ≡ p → Follows p every samples old
    → ((taken : List (List EntryView)) → Follows q every taken old → IsEndedWith q every taken new limit) → IsEndedWith p every samples new limit
ended_under q p every samples old new limit same follows ended =
    subst (λ (x : PolicyView). IsEndedWith x every samples new limit) same (ended samples (subst (λ (x : PolicyView). Follows x every samples old) (sym same) follows))
