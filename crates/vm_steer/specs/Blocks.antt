-- How a host is steered block by block: for private contracts alone.
use Rattle.std.specs.Prelude.{◌≡◌, ◌⊎◌, ℕ, ◌≤◌, ◌^◌, ◌-◌, ⊤, Bool, true, false, List, [], ◌∷◌, ◌++◌, length, take, IfSome, Option, Some, None}
use Rattle.std.specs.Io.KnownBytes.{Appends}
use Rattle.vm_samples.specs.Blocks.{blocks_of, unended_of}
use Rattle.vm_samples.specs.LogSteps.{IsFirstBlock, IsTooLong}
use Rattle.vm_samples.specs.SampleOf.{sample_of}
use Rattle.vm_steer.specs.declared.form.Form.{Form}
use Rattle.vm_steer.specs.declared.steer_error.SteerError.{SteerError}
use Rattle.vm_steer.specs.declared.steer_error.SteerError.TheVariants.{Policy, Read, TooLong, Write, Memory}
use Rattle.vm_steer.specs.Fold.{after_sample, after_samples, text_in, texts_from}
use Rattle.vm_steer.specs.Steering.{SteeringView}
use Rattle.vm_steer.specs.Streams.{is_long, long_in, samples_of}
use Rattle.vm_streams.specs.Streams.{AppendsFront}

-- ---- one block

-- after a block, if there is one
abbrev pub after_block : (found : Bool) → SteeringView → List ℕ → SteeringView
after_block true s block = after_sample s (sample_of block)
after_block false s block = s

-- what is written of it
abbrev pub block_text : Form → (found : Bool) → (number : ℕ) → SteeringView → List ℕ → List ℕ
block_text form true number s block = text_in form number s (sample_of block)
block_text form false number s block = []

module _ (form : Form) (number : ℕ) (s : SteeringView) (left_old written_old written_new : Option (List ℕ)) where
  -- a front was written of the text of the next block
  abbrev pub WritesFrontOf : List ℕ → Type 0
  WritesFrontOf bytes = (block rest : List ℕ) × IsFirstBlock bytes block rest
      × AppendsFront written_old written_new (text_in form number s (sample_of block))

  -- why the next block isn't taken
  abbrev pub FailsAt : (read_failed write_failed : Bool) → SteerError → Type 0
  FailsAt read_failed write_failed (Policy fault) = ⊥
  FailsAt read_failed write_failed Read = (written_new ≡ written_old) × (read_failed ≡ true)
  FailsAt read_failed write_failed TooLong = (written_new ≡ written_old) × IfSome left_old IsTooLong
  FailsAt read_failed write_failed Write = IfSome left_old WritesFrontOf × (write_failed ≡ true)
  FailsAt read_failed write_failed Memory = written_new ≡ written_old

-- ---- all blocks behind the policy

abbrev pub AreShort : List (List ℕ) → Type 0
AreShort [] = ⊤
AreShort (block ∷ blocks) = (is_long block ≡ false) × AreShort blocks

-- so many blocks in front of the rest were taken as samples, from a state on
pub record AreTaken (form : Form) (count : ℕ) (s : SteeringView) (written_old written_new : Option (List ℕ))
    (now : SteeringView) (all rest : List ℕ) : Type 0 where
  pub blocks : List (List ℕ)
  pub count_is : count ≡ length blocks
  pub first : blocks_of all ≡ blocks ++ blocks_of rest
  pub unended : unended_of all ≡ unended_of rest
  pub short : AreShort blocks
  pub now_is : now ≡ after_samples s (samples_of blocks)
  pub written : Appends written_old written_new (texts_from form 0 s (samples_of blocks))

module _ (form : Form) (count : ℕ) (s : SteeringView) (written_old written_new : Option (List ℕ)) (now : SteeringView) where
  -- the same, where these bytes are known
  abbrev pub AreTakenOf : (all rest : Option (List ℕ)) → Type 0
  AreTakenOf None rest = ⊤
  AreTakenOf (Some all) None = ⊥
  AreTakenOf (Some all) (Some rest) = AreTaken form count s written_old written_new now all rest

-- a part is too long, so many blocks behind the policy, or there are too many
abbrev pub IsLongAt : (count : ℕ) → List ℕ → Type 0
IsLongAt count bytes = (long_in bytes ≡ Some count) ⊎ ((2 ^ 64 - 1 ≤ length (blocks_of bytes)) × (count ≡ 2 ^ 64 - 1))

module _ (form : Form) (s : SteeringView) (left_old written_old written_new : Option (List ℕ)) where
  -- all blocks are samples, whose texts were written
  abbrev pub TakesAll : Type 0
  TakesAll = IfSome left_old (λ bytes.
      (long_in bytes ≡ None) × Appends written_old written_new (texts_from form 0 s (samples_of (blocks_of bytes))))

  -- the texts of the first so many were written
  abbrev pub WritesFirst : (count : ℕ) → List ℕ → Type 0
  WritesFirst count bytes = Appends written_old written_new (texts_from form 0 s (take count (samples_of (blocks_of bytes))))

  abbrev pub WritesSome : Type 0
  WritesSome = IfSome left_old (λ bytes. (count : ℕ) × WritesFirst count bytes)

  -- why not all of them are taken
  abbrev pub FailsToTake : (read_failed write_failed : Bool) → SteerError → Type 0
  FailsToTake read_failed write_failed (Policy fault) = ⊥
  FailsToTake read_failed write_failed Read = WritesSome × (read_failed ≡ true)
  FailsToTake read_failed write_failed TooLong =
      IfSome left_old (λ bytes. (count : ℕ) × IsLongAt count bytes × WritesFirst count bytes)
  FailsToTake read_failed write_failed Write =
      IfSome left_old (λ bytes. AppendsFront written_old written_new (texts_from form 0 s (samples_of (blocks_of bytes))))
      × (write_failed ≡ true)
  FailsToTake read_failed write_failed Memory = WritesSome
