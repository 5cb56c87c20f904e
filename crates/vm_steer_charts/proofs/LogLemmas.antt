-- A whole host log: its policy, and the blocks behind it.
use Rattle.std.proofs.Common.{◌≡◌, ◌∙◌, inl, inr, ℕ, ◌≤◌, Bool, true, false, Option, Some, None, List, [], drop, length, is_some, Ok, Err, IfSome, refl, sym, ap, subst, arith}
use Rattle.std.proofs.lemmas.Bool.{false≢true}
use Rattle.std.specs.Io.KnownBytes.{IsAtEnd, prepend_known}
use Rattle.std.specs.Prelude.{is_ok}
use Rattle.vm_drawing.specs.Picture.{svg_of}
use Rattle.vm_samples.specs.declared.fault.PolicyError.{PolicyError}
use Rattle.vm_samples.specs.declared.fault.PolicyError.TheVariants as policy
use Rattle.vm_samples.specs.declared.fault.PolicyFault.{PolicyFault}
use Rattle.vm_samples.specs.declared.host_log.LogError.{LogError}
use Rattle.vm_samples.specs.declared.host_log.LogError.TheVariants as log
use Rattle.vm_samples.specs.Blocks.{blocks_of}
use Rattle.vm_samples.specs.LogSteps.{beginning, first_or_all, left, Gives, IsFirstBlock, IsTooLong, LogView}
use Rattle.vm_samples.specs.Policies.{PolicyView}
use Rattle.vm_samples.specs.PolicyOf.{policy_of}
use Rattle.vm_samples.specs.Seen.{ReadsPolicy}
use Rattle.vm_steer.specs.declared.steer_error.SteerError.{SteerError}
use Rattle.vm_steer.specs.declared.steer_error.SteerError.TheVariants.{Policy, Read, TooLong, Write, Memory}
use Rattle.vm_steer.specs.Entries.{ToldView}
use Rattle.vm_steer.specs.Steering.{SteeringView, begun}
use Rattle.vm_steer.specs.Streams.{error_of_log, error_of_policy, long_in, policy_in, samples_in, samples_of}
use Rattle.vm_steer_charts.specs.Charts.{drawing_from, drawing_of}
use Rattle.vm_steer_charts.specs.Draws.{svg_by, IsLong}
use Rattle.vm_steer_charts.specs.Reading.{AllTaken, FailsToRead, FailsToTake, IsLongBehind, IsSeen}
use Rattle.vm_steer_charts.specs.Rows.{told_in}
use Rattle.vm_steer_charts.specs.Series.{SeriesView, begun_with, Shows}
use Rattle.vm_steer_charts.proofs.SeriesLemmas.{shows_begun}
use Rattle.vm_steer_charts.proofs.TakenLemmas.{gives_end, long_behind, long_here, none_is, none_long}

-- ---- where a log begins

at_beginning : (read : Option (List ℕ)) → left beginning read ≡ read
at_beginning None = refl
at_beginning (Some bytes) = refl

pub from_beginning : (from : LogView) (read : Option (List ℕ)) → from ≡ beginning → left from read ≡ read
from_beginning from read is = ap (λ (l : LogView). left l read) is ∙ at_beginning read

-- ---- the policy

policy_at : (found : Bool) (bytes block : List ℕ) (behind : Option (List ℕ)) → Gives (Some bytes) found block behind → policy_in bytes ≡ policy_of block
policy_at found bytes block None gives = absurd gives
policy_at true bytes block (Some rest) gives = ap (λ (bs : List (List ℕ)). policy_of (first_or_all bs bytes)) gives.blocks
policy_at false bytes block (Some rest) gives =
    ap (λ (bs : List (List ℕ)). policy_of (first_or_all bs bytes)) gives.none ∙ ap policy_of (sym gives.whole)

too_long : (read : Option (List ℕ)) → IfSome read IsTooLong → IfSome read IsLong
too_long None long = tt
too_long (Some bytes) long = inl (long_here bytes long)

-- no policy was read
pub fails_reading : (from : LogView) (read : Option (List ℕ)) (read_failed : Bool) (error : LogError) → from ≡ beginning
    → (error ≡ log.Read → read_failed ≡ true) → (error ≡ log.TooLong → IfSome (left from read) IsTooLong)
    → FailsToRead read read_failed (error_of_log error)
fails_reading from read read_failed log.Read is failure long = failure refl
fails_reading from read read_failed log.TooLong is failure long =
    too_long read (subst (λ (l : Option (List ℕ)). IfSome l IsTooLong) (from_beginning from read is) (long refl))
fails_reading from read read_failed log.Memory is failure long = tt

policy_fault : (read behind : Option (List ℕ)) (found : Bool) (block : List ℕ) (fault : PolicyFault) → Gives read found block behind
    → policy_of block ≡ Err fault → IfSome read (λ bytes. policy_in bytes ≡ Err fault)
policy_fault None behind found block fault gives is = tt
policy_fault (Some bytes) behind found block fault gives is = policy_at found bytes block behind gives ∙ is

refused : (read behind : Option (List ℕ)) (read_failed found : Bool) (block : List ℕ) (error : PolicyError) → Gives read found block behind
    → ReadsPolicy {A = PolicyView} (Err error) (policy_of block) → FailsToRead read read_failed (error_of_policy error)
refused read behind read_failed found block (policy.Fault fault) gives is = policy_fault read behind found block fault gives is
refused read behind read_failed found block policy.Memory gives is = tt

pub fails_policy : (from : LogView) (read behind : Option (List ℕ)) (read_failed found : Bool) (block : List ℕ) (error : PolicyError)
    → from ≡ beginning → Gives (left from read) found block behind → ReadsPolicy {A = PolicyView} (Err error) (policy_of block)
    → FailsToRead read read_failed (error_of_policy error)
fails_policy from read behind read_failed found block error is gives =
    refused read behind read_failed found block error
    (subst (λ (l : Option (List ℕ)). Gives l found block behind) (from_beginning from read is) gives)

-- ---- the drawing

drawn_by : (policy : PolicyView) (told : List ToldView) (s : SeriesView) → s.steering.policy ≡ policy → Shows told s
    → svg_of (drawing_of policy told) ≡ svg_of (drawing_from s.steering.policy s.first s.rows)
drawn_by policy told s is shown =
    ap svg_of (λ i. drawing_from (sym is i) (sym shown.first i) (sym shown.rows i))

seen_as : (bytes : List ℕ) (policy : PolicyView) (samples : List (List ℕ)) (s : SeriesView) → policy_in bytes ≡ Ok policy → samples_in bytes ≡ samples_of samples
    → long_in bytes ≡ None → s.steering.policy ≡ policy → Shows (told_in (begun policy) (samples_of samples)) s → IsSeen bytes s
seen_as bytes policy samples s means are short is shown = record {
  fine = ap is_ok means;
  short = short;
  drawn = (λ i. svg_by (means i) (are i)) ∙ drawn_by policy (told_in (begun policy) (samples_of samples)) s is shown;
}

-- ---- a policy alone

alone : (read behind : Option (List ℕ)) (block : List ℕ) (policy : PolicyView) (s : SeriesView) → Gives read false block behind → length block ≤ 16777216
    → policy_of block ≡ Ok policy → s ≡ begun_with policy → IfSome read (λ bytes. IsSeen bytes s)
alone None behind block policy s gives few means is = tt
alone (Some bytes) None block policy s gives few means is = absurd gives
alone (Some bytes) (Some rest) block policy s gives few means is =
    let short : length bytes ≤ 16777216 = subst (λ (l : List ℕ). length l ≤ 16777216) gives.whole few in
    let samples : samples_in bytes ≡ samples_of [] = ap (λ (bs : List (List ℕ)). samples_of (drop 1 bs)) gives.none in
    seen_as bytes policy [] s (policy_at false bytes block (Some rest) gives ∙ means) samples (none_long bytes gives.none short)
    (ap (λ (v : SeriesView). v.steering.policy) is) (subst (Shows []) (sym is) (shows_begun policy))

pub seen_alone : (found : Bool) (from : LogView) (read behind : Option (List ℕ)) (block : List ℕ) (policy : PolicyView) (s : SeriesView) → found ≡ false → from ≡ beginning
    → Gives (left from read) found block behind → length block ≤ 16777216 → policy_of block ≡ Ok policy → s ≡ begun_with policy → IfSome read (λ bytes. IsSeen bytes s)
seen_alone true from read behind block policy s not is gives few means fresh = absurd (false≢true (sym not))
seen_alone false from read behind block policy s not is gives few means fresh =
    alone read behind block policy s (subst (λ (l : Option (List ℕ)). Gives l false block behind) (from_beginning from read is) gives) few means fresh

pub ends_alone : (found : Bool) (from : LogView) (read : Option (List ℕ)) (ahead block : List ℕ) (remaining : Option (List ℕ)) → found ≡ false → from ≡ beginning
    → Gives (left from read) found block (prepend_known ahead remaining) → IfSome read (λ _. IsAtEnd remaining)
ends_alone true from read ahead block remaining not is gives = absurd (false≢true (sym not))
ends_alone false from read ahead block remaining not is gives =
    gives_end read ahead block remaining (subst (λ (l : Option (List ℕ)). Gives l false block (prepend_known ahead remaining)) (from_beginning from read is) gives)

-- ---- a policy, and samples behind it

long_on : (bytes block rest : List ℕ) → IsFirstBlock bytes block rest → length block ≤ 16777216 → IsLongBehind rest → IsLong bytes
long_on bytes block rest front few (inl long) = inl (long_behind bytes block rest front few ∙ long)
long_on bytes block rest front few (inr many) = inr (omega (arith, ap (λ (bs : List (List ℕ)). length bs) front.blocks, many))

seen_on : (read behind : Option (List ℕ)) (block : List ℕ) (policy : PolicyView) (s : SeriesView) → Gives read true block behind → length block ≤ 16777216
    → policy_of block ≡ Ok policy → IfSome behind (AllTaken (begun policy) s) → IfSome read (λ bytes. IsSeen bytes s)
seen_on None behind block policy s gives few means taken = tt
seen_on (Some bytes) None block policy s gives few means taken = absurd gives
seen_on (Some bytes) (Some rest) block policy s gives few means taken =
    seen_as bytes policy (blocks_of rest) s (policy_at true bytes block (Some rest) gives ∙ means)
    (ap (λ (bs : List (List ℕ)). samples_of (drop 1 bs)) gives.blocks)
    (none_is (long_in bytes) (long_behind bytes block rest gives few ∙ ap is_some taken.short))
    taken.policy taken.shown

ends_on : (read behind : Option (List ℕ)) (block : List ℕ) (E : Type 0) → Gives read true block behind → IfSome behind (λ _. E) → IfSome read (λ _. E)
ends_on None behind block E gives ends = tt
ends_on (Some bytes) None block E gives ends = absurd gives
ends_on (Some bytes) (Some rest) block E gives ends = ends

fails_on : (read behind : Option (List ℕ)) (block : List ℕ) (read_failed : Bool) (error : SteerError) → Gives read true block behind → length block ≤ 16777216
    → FailsToTake behind read_failed error → FailsToRead read read_failed error
fails_on read behind block read_failed (Policy fault) gives few fails = absurd fails
fails_on read behind block read_failed Read gives few fails = fails
fails_on None behind block read_failed TooLong gives few fails = tt
fails_on (Some bytes) None block read_failed TooLong gives few fails = absurd gives
fails_on (Some bytes) (Some rest) block read_failed TooLong gives few fails = long_on bytes block rest gives few fails
fails_on read behind block read_failed Write gives few fails = absurd fails
fails_on read behind block read_failed Memory gives few fails = tt

module _ (found : Bool) (from : LogView) (read behind : Option (List ℕ)) (block : List ℕ)
    (there : found ≡ true) (is : from ≡ beginning) (gives : Gives (left from read) found block behind) (few : length block ≤ 16777216) where
  given : Gives read true block behind
  given = subst (λ (l : Option (List ℕ)). Gives l true block behind) (from_beginning from read is) (subst (λ (b : Bool). Gives (left from read) b block behind) there gives)

  pub seen_behind : (policy : PolicyView) (start : SteeringView) (s : SeriesView) → policy_of block ≡ Ok policy → start ≡ begun policy
      → IfSome behind (AllTaken start s) → IfSome read (λ bytes. IsSeen bytes s)
  seen_behind policy start s means started taken =
      seen_on read behind block policy s given few means (subst (λ (v : SteeringView). IfSome behind (AllTaken v s)) started taken)

  pub ended_behind : (E : Type 0) → IfSome behind (λ _. E) → IfSome read (λ _. E)
  ended_behind E ends = ends_on read behind block E given ends

  pub failed_behind : (read_failed : Bool) (error : SteerError) → FailsToTake behind read_failed error → FailsToRead read read_failed error
  failed_behind read_failed error fails = fails_on read behind block read_failed error given few fails
