-- A whole host log: its policy, and the blocks behind it.
use Rattle.std.proofs.Common.{◌≡◌, ◌∙◌, inl, inr, ℕ, suc, ◌+◌, ◌≤◌, Bool, true, false, Option, Some, None, List, [], ◌∷◌, ◌++◌, drop, length, take, Result, Ok, Err, IfErr, IfSome, OnOk, refl, sym, ap, subst, arith}
use Rattle.std.proofs.lemmas.Bool.{cases_Bool, false≢true}
use Rattle.std.proofs.lemmas.List.{append-nil}
use Rattle.std.specs.Io.KnownBytes.{Appends, IsAtEnd, Keeps, prepend_known}
use Rattle.std.specs.List.{position_from}
use Rattle.std.specs.Prelude.{is_ok, option_map}
use Rattle.vm_samples.specs.declared.fault.PolicyError.{PolicyError}
use Rattle.vm_samples.specs.declared.fault.PolicyError.TheVariants as policy
use Rattle.vm_samples.specs.declared.fault.PolicyFault.{PolicyFault}
use Rattle.vm_samples.specs.declared.host_log.LogError.{LogError}
use Rattle.vm_samples.specs.declared.host_log.LogError.TheVariants as log
use Rattle.vm_samples.specs.Blocks.{blocks_of, taken_by}
use Rattle.vm_samples.specs.LogSteps.{beginning, first_or_all, left, Gives, IsFirstBlock, IsTooLong, LogView}
use Rattle.vm_samples.specs.Policies.{PolicyView}
use Rattle.vm_samples.specs.PolicyOf.{policy_of}
use Rattle.vm_samples.specs.Seen.{ReadsPolicy}
use Rattle.vm_steer.specs.declared.form.Form.{Form}
use Rattle.vm_steer.specs.declared.steer_error.SteerError.{SteerError}
use Rattle.vm_steer.specs.declared.steer_error.SteerError.TheVariants.{Policy, Read, TooLong, Write, Memory}
use Rattle.vm_steer.specs.Blocks.{FailsToTake, IsLongAt, TakesAll, WritesSome}
use Rattle.vm_steer.specs.Fold.{header_in, texts_from}
use Rattle.vm_steer.specs.Steering.{SteeringView, begun}
use Rattle.vm_steer.specs.Streams.{error_of_log, error_of_policy, is_long, long_in, output_by, output_in, output_until, parts_of, policy_in, samples_in, samples_of, Fails, IsLongPart, Steers, WritesBefore, WritesWhole}
use Rattle.vm_steer.proofs.BlockLemmas.{at_front, gives_end, short}
use Rattle.vm_streams.proofs.StreamLemmas.{Appends-then, Appends-then_front, AppendsFront-longer}
use Rattle.vm_streams.specs.Streams.{AppendsFront}

-- ---- nothing is written

pub keeps_same : (bytes : Option (List ℕ)) → Keeps bytes bytes
keeps_same None = tt
keeps_same (Some bytes) = refl

appends_none : (bytes : Option (List ℕ)) → Appends bytes bytes []
appends_none None = tt
appends_none (Some bytes) = sym (append-nil bytes)

pub unwritten : (form : Form) (read written : Option (List ℕ)) → WritesWhole form read written written
unwritten form None written = tt
unwritten form (Some bytes) written = (0, appends_none written)

-- ---- the policy

at_beginning : (read : Option (List ℕ)) → left beginning read ≡ read
at_beginning None = refl
at_beginning (Some bytes) = refl

pub from_beginning : (from : LogView) (read : Option (List ℕ)) → from ≡ beginning → left from read ≡ read
from_beginning from read is = ap (λ (l : LogView). left l read) is ∙ at_beginning read

pub policy_at : (found : Bool) (bytes block : List ℕ) (after : Option (List ℕ)) → Gives (Some bytes) found block after → policy_in bytes ≡ policy_of block
policy_at found bytes block None gives = absurd gives
policy_at true bytes block (Some rest) gives = ap (λ (bs : List (List ℕ)). policy_of (first_or_all bs bytes)) gives.blocks
policy_at false bytes block (Some rest) gives =
    ap (λ (bs : List (List ℕ)). policy_of (first_or_all bs bytes)) gives.none ∙ ap policy_of (sym gives.whole)

too_long : (form : Form) (read written : Option (List ℕ)) (read_failed write_failed : Bool) → IfSome read IsTooLong
    → Fails form read written written read_failed write_failed TooLong
too_long form None written read_failed write_failed long = tt
too_long form (Some bytes) written read_failed write_failed long = (0, inl (at_front 0 (blocks_of bytes) bytes long), appends_none written)

-- no policy was read
pub fails_reading : (form : Form) (from : LogView) (read written : Option (List ℕ)) (read_failed write_failed : Bool) (error : LogError) → from ≡ beginning
    → (error ≡ log.Read → read_failed ≡ true) → (error ≡ log.TooLong → IfSome (left from read) IsTooLong)
    → Fails form read written written read_failed write_failed (error_of_log error)
fails_reading form from read written read_failed write_failed log.Read is failure long = (unwritten form read written, failure refl)
fails_reading form from read written read_failed write_failed log.TooLong is failure long =
    too_long form read written read_failed write_failed (subst (λ (l : Option (List ℕ)). IfSome l IsTooLong) (from_beginning from read is) (long refl))
fails_reading form from read written read_failed write_failed log.Memory is failure long = unwritten form read written

policy_fault : (read written after : Option (List ℕ)) (found : Bool) (block : List ℕ) (fault : PolicyFault) → Gives read found block after
    → policy_of block ≡ Err fault → IfSome read (λ bytes. policy_in bytes ≡ Err fault)
policy_fault None written after found block fault gives is = tt
policy_fault (Some bytes) written after found block fault gives is = policy_at found bytes block after gives ∙ is

refused : (form : Form) (read written after : Option (List ℕ)) (read_failed write_failed found : Bool) (block : List ℕ) (error : PolicyError) → Gives read found block after
    → ReadsPolicy {A = PolicyView} (Err error) (policy_of block) → Fails form read written written read_failed write_failed (error_of_policy error)
refused form read written after read_failed write_failed found block (policy.Fault fault) gives is =
    (keeps_same written, policy_fault read written after found block fault gives is)
refused form read written after read_failed write_failed found block policy.Memory gives is = unwritten form read written

pub fails_policy : (form : Form) (from : LogView) (read written after : Option (List ℕ)) (read_failed write_failed found : Bool) (block : List ℕ) (error : PolicyError)
    → from ≡ beginning → Gives (left from read) found block after → ReadsPolicy {A = PolicyView} (Err error) (policy_of block)
    → Fails form read written written read_failed write_failed (error_of_policy error)
fails_policy form from read written after read_failed write_failed found block error is gives =
    refused form read written after read_failed write_failed found block error
    (subst (λ (l : Option (List ℕ)). Gives l found block after) (from_beginning from read is) gives)

-- ---- the header

front_of_all : (form : Form) (read written new after : Option (List ℕ)) (found : Bool) (block : List ℕ) (policy : PolicyView) → Gives read found block after
    → policy_of block ≡ Ok policy → AppendsFront written new (header_in form) → IfSome read (λ bytes. AppendsFront written new (output_in form bytes))
front_of_all form None written new after found block policy gives means front = tt
front_of_all form (Some bytes) written new after found block policy gives means front =
    let is : policy_in bytes ≡ Ok policy = policy_at found bytes block after gives ∙ means in
    let all : output_in form bytes ≡ header_in form ++ texts_from form 0 (begun policy) (samples_in bytes) =
    ap (λ (p : Result PolicyView PolicyFault). output_by form p (samples_in bytes)) is in
    subst (λ (l : List ℕ). AppendsFront written new l) (sym all) (AppendsFront-longer written new (header_in form) _ front)

-- it isn't written whole
pub fails_header : (form : Form) (from : LogView) (read written new after : Option (List ℕ)) (read_failed write_failed found : Bool) (block : List ℕ) (policy : PolicyView)
    → from ≡ beginning → Gives (left from read) found block after → policy_of block ≡ Ok policy → AppendsFront written new (header_in form) → write_failed ≡ true
    → Fails form read written new read_failed write_failed Write
fails_header form from read written new after read_failed write_failed found block policy is gives means front failed = (
  front_of_all form read written new after found block policy (subst (λ (l : Option (List ℕ)). Gives l found block after) (from_beginning from read is) gives) means front,
  failed,
)

-- ---- a policy alone

alone : (form : Form) (read written new after : Option (List ℕ)) (block : List ℕ) (policy : PolicyView) → Gives read false block after → length block ≤ 16777216
    → policy_of block ≡ Ok policy → Appends written new (header_in form) → Steers form read written new
alone form None written new after block policy gives few is header = tt
alone form (Some bytes) written new None block policy gives few is header = absurd gives
alone form (Some bytes) written new (Some rest) block policy gives few is header =
    let means : policy_in bytes ≡ Ok policy = policy_at false bytes block (Some rest) gives ∙ is in
    let parts : parts_of bytes ≡ bytes ∷ [] = ap (λ (bs : List (List ℕ)). bs ++ drop (taken_by bs) bytes ∷ []) gives.none in
    let last : is_long bytes ≡ false = ap is_long (sym gives.whole) ∙ short block few in
    let ends : position_from is_long 0 (bytes ∷ []) ≡ None = rw last refl in
    let samples : samples_in bytes ≡ [] = ap (λ (bs : List (List ℕ)). samples_of (drop 1 bs)) gives.none in
    let output : output_in form bytes ≡ header_in form = (λ i. output_by form (means i) (samples i)) ∙ append-nil (header_in form) in
    (ap is_ok means, ap (position_from is_long 0) parts ∙ ends, subst (λ (l : List ℕ). Appends written new l) (sym output) header)

pub steers_alone : (form : Form) (found : Bool) (from : LogView) (read written new after : Option (List ℕ)) (block : List ℕ) (policy : PolicyView) → found ≡ false
    → from ≡ beginning → Gives (left from read) found block after → length block ≤ 16777216 → policy_of block ≡ Ok policy → Appends written new (header_in form)
    → Steers form read written new
steers_alone form true from read written new after block policy not is gives few means header = absurd (false≢true (sym not))
steers_alone form false from read written new after block policy not is gives few means header =
    alone form read written new after block policy (subst (λ (l : Option (List ℕ)). Gives l false block after) (from_beginning from read is) gives) few means header

pub ends_alone : (found : Bool) (from : LogView) (read : Option (List ℕ)) (ahead block : List ℕ) (remaining : Option (List ℕ)) → found ≡ false → from ≡ beginning
    → Gives (left from read) found block (prepend_known ahead remaining) → IfSome read (λ _. IsAtEnd remaining)
ends_alone true from read ahead block remaining not is gives = absurd (false≢true (sym not))
ends_alone false from read ahead block remaining not is gives =
    gives_end read ahead block remaining (subst (λ (l : Option (List ℕ)). Gives l false block (prepend_known ahead remaining)) (from_beginning from read is) gives)

-- ---- a policy, and samples behind it

shifted : (index : ℕ) (parts : List (List ℕ)) → position_from is_long (index + 1) parts ≡ option_map (λ n. n + 1) (position_from is_long index parts)
shifted index [] = refl
shifted index (part ∷ parts) = elim (cases_Bool (is_long part)) [
  | inl long ↦ rw long refl
  | inr few ↦ rw few (shifted (index + 1) parts)
]

module _ (form : Form) (bytes block rest : List ℕ) (policy : PolicyView) (front : IsFirstBlock bytes block rest) (few : length block ≤ 16777216) (means : policy_of block ≡ Ok policy) where
  pub means_here : policy_in bytes ≡ Ok policy
  means_here = policy_at true bytes block (Some rest) front ∙ means

  output_here : output_in form bytes ≡ output_by form (Ok policy) (samples_of (blocks_of rest))
  output_here = λ i. output_by form (means_here i) (samples_of (drop 1 (front.blocks i)))

  until_here : (count : ℕ) → output_until form count bytes ≡ output_by form (Ok policy) (take count (samples_of (blocks_of rest)))
  until_here count = λ i. output_by form (means_here i) (take count (samples_of (drop 1 (front.blocks i))))

  parts_here : parts_of bytes ≡ block ∷ parts_of rest
  parts_here = λ i. front.blocks i ++ front.unended i ∷ []

  pub long_here : long_in bytes ≡ option_map (λ n. n + 1) (long_in rest)
  long_here =
      let behind : position_from is_long 0 (block ∷ parts_of rest) ≡ position_from is_long 1 (parts_of rest) = rw (short block few) refl in
      ap (position_from is_long 0) parts_here ∙ behind ∙ shifted 0 (parts_of rest)

  ok_here : is_ok (policy_in bytes) ≡ true
  ok_here = ap is_ok means_here

  long_behind : (count : ℕ) → IsLongAt count rest → IsLongPart (suc count) bytes
  long_behind count (inl at) =
      let next : count + 1 ≡ suc count = omega arith in
      inl (long_here ∙ ap (option_map (λ n. n + 1)) at ∙ ap Some next)
  long_behind count (inr (many, is)) = inr (omega (arith, ap length front.blocks, many), omega (arith, is))

  -- the header, and the texts of all behind it
  output_written : (written mid new : Option (List ℕ)) → Appends written mid (header_in form)
      → Appends mid new (texts_from form 0 (begun policy) (samples_of (blocks_of rest))) → Appends written new (output_in form bytes)
  output_written written mid new header all = subst (λ (l : List ℕ). Appends written new l) (sym output_here) (Appends-then written mid new _ _ header all)

  -- .. of the first so many
  until_written : (written mid new : Option (List ℕ)) (count : ℕ) → Appends written mid (header_in form)
      → Appends mid new (texts_from form 0 (begun policy) (take count (samples_of (blocks_of rest)))) → WritesBefore form (Some bytes) written new (suc count) bytes
  until_written written mid new count header all =
      subst (λ (l : List ℕ). Appends written new l) (sym (until_here count)) (Appends-then written mid new _ _ header all)

  -- .. of a front
  front_written : (written mid new : Option (List ℕ)) → Appends written mid (header_in form)
      → AppendsFront mid new (texts_from form 0 (begun policy) (samples_of (blocks_of rest))) → AppendsFront written new (output_in form bytes)
  front_written written mid new header all =
      subst (λ (l : List ℕ). AppendsFront written new l) (sym output_here) (Appends-then_front written mid new _ _ header all)

takes_behind : (form : Form) (read written mid new after : Option (List ℕ)) (block : List ℕ) (policy : PolicyView) → Gives read true block after → length block ≤ 16777216
    → policy_of block ≡ Ok policy → Appends written mid (header_in form) → TakesAll form (begun policy) after mid new → Steers form read written new
takes_behind form None written mid new after block policy gives few means header takes = tt
takes_behind form (Some bytes) written mid new None block policy gives few means header takes = absurd gives
takes_behind form (Some bytes) written mid new (Some rest) block policy gives few means header (none, all) = (
  ok_here form bytes block rest policy gives few means,
  long_here form bytes block rest policy gives few means ∙ ap (option_map (λ n. n + 1)) none,
  output_written form bytes block rest policy gives few means written mid new header all,
)

ends_behind : (read after : Option (List ℕ)) (block : List ℕ) (E : Type 0) → Gives read true block after → IfSome after (λ _. E) → IfSome read (λ _. E)
ends_behind None after block E gives ends = tt
ends_behind (Some bytes) None block E gives ends = absurd gives
ends_behind (Some bytes) (Some rest) block E gives ends = ends

writes_behind : (form : Form) (read written mid new after : Option (List ℕ)) (block : List ℕ) (policy : PolicyView) → Gives read true block after → length block ≤ 16777216
    → policy_of block ≡ Ok policy → Appends written mid (header_in form) → WritesSome form (begun policy) after mid new → WritesWhole form read written new
writes_behind form None written mid new after block policy gives few means header writes = tt
writes_behind form (Some bytes) written mid new None block policy gives few means header writes = absurd gives
writes_behind form (Some bytes) written mid new (Some rest) block policy gives few means header (count, all) =
    (suc count, until_written form bytes block rest policy gives few means written mid new count header all)

fails_behind : (form : Form) (read written mid new after : Option (List ℕ)) (block : List ℕ) (policy : PolicyView) (read_failed write_failed : Bool) (error : SteerError)
    → Gives read true block after → length block ≤ 16777216 → policy_of block ≡ Ok policy → Appends written mid (header_in form)
    → FailsToTake form (begun policy) after mid new read_failed write_failed error → Fails form read written new read_failed write_failed error
fails_behind form read written mid new after block policy read_failed write_failed (Policy fault) gives few means header fails = absurd fails
fails_behind form read written mid new after block policy read_failed write_failed Read gives few means header fails =
    (writes_behind form read written mid new after block policy gives few means header fails.0, fails.1)
fails_behind form None written mid new after block policy read_failed write_failed TooLong gives few means header fails = tt
fails_behind form (Some bytes) written mid new None block policy read_failed write_failed TooLong gives few means header fails = absurd gives
fails_behind form (Some bytes) written mid new (Some rest) block policy read_failed write_failed TooLong gives few means header (count, long, all) = (
  suc count,
  long_behind form bytes block rest policy gives few means count long,
  until_written form bytes block rest policy gives few means written mid new count header all,
)
fails_behind form None written mid new after block policy read_failed write_failed Write gives few means header fails = (tt, fails.1)
fails_behind form (Some bytes) written mid new None block policy read_failed write_failed Write gives few means header fails = absurd gives
fails_behind form (Some bytes) written mid new (Some rest) block policy read_failed write_failed Write gives few means header fails =
    (front_written form bytes block rest policy gives few means written mid new header fails.0, fails.1)
fails_behind form read written mid new after block policy read_failed write_failed Memory gives few means header fails =
    writes_behind form read written mid new after block policy gives few means header fails

-- ---- what samples behind a policy come to

if_err : {A : Type 0} {P Q : SteerError → Type 0} (result : Result A SteerError) → ((error : SteerError) → P error → Q error) → IfErr result P → IfErr result Q
if_err (Ok x) then holds = tt
if_err (Err e) then holds = then e holds

on_ok : {A P Q : Type 0} (result : Result A SteerError) → (P → Q) → OnOk result P → OnOk result Q
on_ok (Ok x) then holds = then holds
on_ok (Err e) then holds = tt

module _ {A : Type 0} (form : Form) (result : Result A SteerError) (found : Bool) (from : LogView) (s : SteeringView) (policy : PolicyView) (read after : Option (List ℕ)) (block : List ℕ)
    (there : found ≡ true) (is : from ≡ beginning) (started : s ≡ begun policy) (gives : Gives (left from read) found block after) (few : length block ≤ 16777216)
    (means : policy_of block ≡ Ok policy) where
  given : Gives read true block after
  given = subst (λ (l : Option (List ℕ)). Gives l true block after) (from_beginning from read is) (subst (λ (b : Bool). Gives (left from read) b block after) there gives)

  pub steers_behind : (written mid new : Option (List ℕ)) → Appends written mid (header_in form) → OnOk result (TakesAll form s after mid new)
      → OnOk result (Steers form read written new)
  steers_behind written mid new header takes =
      on_ok result (λ (all : TakesAll form s after mid new). takes_behind form read written mid new after block policy given few means header
      (subst (λ (v : SteeringView). TakesAll form v after mid new) started all)) takes

  pub ended_behind : (E : Type 0) → OnOk result (IfSome after (λ _. E)) → OnOk result (IfSome read (λ _. E))
  ended_behind E ends = on_ok result (ends_behind read after block E given) ends

  pub failed_behind : (written mid new : Option (List ℕ)) (read_failed write_failed : Bool) → Appends written mid (header_in form)
      → IfErr result (FailsToTake form s after mid new read_failed write_failed) → IfErr result (Fails form read written new read_failed write_failed)
  failed_behind written mid new read_failed write_failed header fails =
      if_err result (λ (error : SteerError) (f : FailsToTake form s after mid new read_failed write_failed error).
      fails_behind form read written mid new after block policy read_failed write_failed error given few means header
      (subst (λ (v : SteeringView). FailsToTake form v after mid new read_failed write_failed error) started f)) fails
