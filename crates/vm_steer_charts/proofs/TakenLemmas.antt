-- Blocks that are taken one after the other.
use Rattle.std.proofs.Common.{◌≡◌, ◌∙◌, inl, inr, ℕ, ◌+◌, ◌-◌, ◌<◌, ◌≤◌, ◌^◌, Bool, true, false, Option, Some, None, List, [], ◌∷◌, ◌++◌, drop, length, is_some, IfSome, refl, sym, ap, subst, arith, zero-add}
use Rattle.std.proofs.lemmas.Bool.{cases_Bool, false≢true, le-ltb, lt-ltb}
use Rattle.std.proofs.lemmas.List.{append-nil}
use Rattle.std.specs.Io.KnownBytes.{IsAtEnd, prepend_known}
use Rattle.std.specs.List.{position_from}
use Rattle.vm_samples.specs.Blocks.{blocks_of, taken_by}
use Rattle.vm_samples.specs.LogSteps.{first_or_all, Gives, IsFirstBlock, IsTooLong, IsUnended}
use Rattle.vm_samples.specs.SampleOf.{sample_of}
use Rattle.vm_steer.specs.declared.steer_error.SteerError.{SteerError}
use Rattle.vm_steer.specs.declared.steer_error.SteerError.TheVariants.{Policy, Read, TooLong, Write, Memory}
use Rattle.vm_steer.specs.Entries.{ToldView}
use Rattle.vm_steer.specs.Steering.{SteeringView}
use Rattle.vm_steer.specs.Streams.{is_long, long_in, parts_of, samples_of}
use Rattle.vm_steer_charts.specs.Reading.{AllTaken, AreTaken, AreTakenOf, FailsAt, FailsToTake, IsLongBehind}
use Rattle.vm_steer_charts.specs.Rows.{told_in}
use Rattle.vm_steer_charts.specs.Series.{SeriesView, after, after_block, Shows}
use Rattle.vm_steer_charts.proofs.SeriesLemmas.{Step, rows_within, step}

-- ---- long parts

pub short_part : (block : List ℕ) → length block ≤ 16777216 → is_long block ≡ false
short_part block few = le-ltb 16777216 (length block) few

-- whether there is one doesn't depend on where they are counted from
anywhere : (i j : ℕ) (parts : List (List ℕ)) → is_some (position_from is_long i parts) ≡ is_some (position_from is_long j parts)
anywhere i j [] = refl
anywhere i j (part ∷ parts) = elim (cases_Bool (is_long part)) [
  | inl long ↦ rw long refl
  | inr few ↦ rw few (anywhere (i + 1) (j + 1) parts)
]

pub parts_first : (bytes block rest : List ℕ) → IsFirstBlock bytes block rest → parts_of bytes ≡ block ∷ parts_of rest
parts_first bytes block rest front = λ i. front.blocks i ++ front.unended i ∷ []

-- behind a part that isn't long
behind_part : (part : List ℕ) (parts : List (List ℕ)) → is_long part ≡ false → is_some (position_from is_long 0 (part ∷ parts)) ≡ is_some (position_from is_long 0 parts)
behind_part part parts few = rw few (anywhere 1 0 parts)

pub long_behind : (bytes block rest : List ℕ) → IsFirstBlock bytes block rest → length block ≤ 16777216 → is_some (long_in bytes) ≡ is_some (long_in rest)
long_behind bytes block rest front few =
    ap (λ (ps : List (List ℕ)). is_some (position_from is_long 0 ps)) (parts_first bytes block rest front)
    ∙ behind_part block (parts_of rest) (short_part block few)

-- where all is one part
pub none_long : (bytes : List ℕ) → blocks_of bytes ≡ [] → length bytes ≤ 16777216 → long_in bytes ≡ None
none_long bytes none few =
    let parts : parts_of bytes ≡ bytes ∷ [] = ap (λ (bs : List (List ℕ)). bs ++ drop (taken_by bs) bytes ∷ []) none in
    let last : is_long bytes ≡ false = short_part bytes few in
    let ends : position_from is_long 0 (bytes ∷ []) ≡ None = rw last refl in
    ap (position_from is_long 0) parts ∙ ends

at_front : (blocks : List (List ℕ)) (bytes : List ℕ) → 16777216 < length (first_or_all blocks bytes)
    → is_some (position_from is_long 0 (blocks ++ drop (taken_by blocks) bytes ∷ [])) ≡ true
at_front [] bytes long = rw (lt-ltb 16777216 (length bytes) long) refl
at_front (b ∷ blocks) bytes long = rw (lt-ltb 16777216 (length b) long) refl

pub long_here : (bytes : List ℕ) → IsTooLong bytes → is_some (long_in bytes) ≡ true
long_here bytes long = at_front (blocks_of bytes) bytes long

pub none_is : {A : Type 0} (found : Option A) → is_some found ≡ false → found ≡ None
none_is None is = refl
none_is (Some x) is = absurd (false≢true (sym is))

-- ---- what was taken

module _ (count : ℕ) (from : SteeringView) (now : SeriesView) (all rest : List ℕ) (taken : AreTaken count from now all rest) where
  taken_more : (next : SeriesView) (block behind : List ℕ) → IsFirstBlock rest block behind → length block ≤ 16777216
      → next ≡ after now (sample_of block) → AreTaken (count + 1) from next all behind
  taken_more next block behind front few is =
      let one : Step taken.told now (sample_of block) = step taken.told now (sample_of block) taken.shown in
      subst (λ (s : SeriesView). AreTaken (count + 1) from s all behind) (sym is) (record {
        told = one.all;
        whole = taken.whole ∙ ap (λ (bs : List (List ℕ)). taken.told ++ told_in now.steering (samples_of bs)) front.blocks
            ∙ one.same (samples_of (blocks_of behind));
        shown = one.shown;
        policy = one.policy ∙ taken.policy;
        long = taken.long ∙ long_behind rest block behind front few;
        many = omega (arith, taken.many, ap (λ (bs : List (List ℕ)). length bs) front.blocks);
      })

  taken_whole : (block behind : List ℕ) → IsUnended rest block behind → length block ≤ 16777216 → AllTaken from now all
  taken_whole block behind unended few =
      let short : length rest ≤ 16777216 = subst (λ (l : List ℕ). length l ≤ 16777216) unended.whole few in
      let told : told_in from (samples_of (blocks_of all)) ≡ taken.told =
      taken.whole ∙ ap (λ (bs : List (List ℕ)). taken.told ++ told_in now.steering (samples_of bs)) unended.none ∙ append-nil taken.told in record {
        short = none_is (long_in all) (taken.long ∙ ap is_some (none_long rest unended.none short));
        policy = taken.policy;
        shown = subst (λ (l : List ToldView). Shows l now) (sym told) taken.shown;
      }

  taken_long : IsTooLong rest → IsLongBehind all
  taken_long long = inl (taken.long ∙ long_here rest long)

  taken_many : count ≡ 2 ^ 64 - 1 → IsLongBehind all
  taken_many is = inr (omega (arith, taken.many, is))

-- ---- where these bytes are known

pub none_taken : (from : SteeringView) (s : SeriesView) (all : Option (List ℕ)) → s.steering ≡ from → s.first ≡ 0 → s.rows ≡ [] → AreTakenOf 0 from s all all
none_taken from s None is first rows = tt
none_taken from s (Some all) is first rows = record {
  told = [];
  whole = ap (λ (v : SteeringView). told_in v (samples_of (blocks_of all))) (sym is);
  shown = record { first = first; rows = rows };
  policy = ap (λ (v : SteeringView). v.policy) is;
  long = refl;
  many = sym (zero-add (length (blocks_of all)));
}

taken_block : (count : ℕ) (from : SteeringView) (now next : SeriesView) (all rest behind : Option (List ℕ)) (block : List ℕ) → AreTakenOf count from now all rest
    → Gives rest true block behind → length block ≤ 16777216 → next ≡ after_block true now block → AreTakenOf (count + 1) from next all behind
taken_block count from now next None rest behind block taken gives few is = tt
taken_block count from now next (Some all) None behind block taken gives few is = absurd taken
taken_block count from now next (Some all) (Some rest) None block taken gives few is = absurd gives
taken_block count from now next (Some all) (Some rest) (Some behind) block taken gives few is =
    taken_more count from now all rest taken next block behind gives few is

taken_blocks : (count : ℕ) (from : SteeringView) (now next : SeriesView) (all rest behind : Option (List ℕ)) (block : List ℕ) → AreTakenOf count from now all rest
    → Gives rest false block behind → length block ≤ 16777216 → next ≡ now → IfSome all (AllTaken from next)
taken_blocks count from now next None rest behind block taken gives few is = tt
taken_blocks count from now next (Some all) None behind block taken gives few is = absurd taken
taken_blocks count from now next (Some all) (Some rest) None block taken gives few is = absurd gives
taken_blocks count from now next (Some all) (Some rest) (Some behind) block taken gives few is =
    subst (λ (s : SeriesView). AllTaken from s all) (sym is) (taken_whole count from now all rest taken block behind gives few)

nothing_behind : (front rest : List ℕ) → front ++ rest ≡ [] → rest ≡ []
nothing_behind [] rest is = is
nothing_behind (b ∷ front) rest is = absurd cc

at_end : (ahead bytes block : List ℕ) (remaining : Option (List ℕ)) → Gives (Some bytes) false block (prepend_known ahead remaining) → IsAtEnd remaining
at_end ahead bytes block None gives = tt
at_end ahead bytes block (Some rest) gives = nothing_behind ahead rest gives.nothing

pub gives_end : (old : Option (List ℕ)) (ahead block : List ℕ) (remaining : Option (List ℕ)) → Gives old false block (prepend_known ahead remaining)
    → IfSome old (λ _. IsAtEnd remaining)
gives_end None ahead block remaining gives = tt
gives_end (Some bytes) ahead block remaining gives = at_end ahead bytes block remaining gives

ended_at : (count : ℕ) (from : SteeringView) (now : SeriesView) (all rest : Option (List ℕ)) (ahead block : List ℕ) (remaining : Option (List ℕ))
    → AreTakenOf count from now all rest → Gives rest false block (prepend_known ahead remaining) → IfSome all (λ _. IsAtEnd remaining)
ended_at count from now None rest ahead block remaining taken gives = tt
ended_at count from now (Some all) None ahead block remaining taken gives = absurd taken
ended_at count from now (Some all) (Some rest) ahead block remaining taken gives = at_end ahead rest block remaining gives

pub long_at : (count : ℕ) (from : SteeringView) (now : SeriesView) (all rest : Option (List ℕ)) → AreTakenOf count from now all rest
    → IfSome rest IsTooLong → IfSome all IsLongBehind
long_at count from now None rest taken long = tt
long_at count from now (Some all) None taken long = absurd taken
long_at count from now (Some all) (Some rest) taken long = taken_long count from now all rest taken long

pub many_at : (count : ℕ) (from : SteeringView) (now : SeriesView) (all rest : Option (List ℕ)) → AreTakenOf count from now all rest
    → count ≡ 2 ^ 64 - 1 → IfSome all IsLongBehind
many_at count from now None rest taken is = tt
many_at count from now (Some all) None taken is = absurd taken
many_at count from now (Some all) (Some rest) taken is = taken_many count from now all rest taken is

-- a block that isn't taken ends the taking of all
pub fails_at : (count : ℕ) (from : SteeringView) (now : SeriesView) (all rest : Option (List ℕ)) (read_failed : Bool) (error : SteerError) → AreTakenOf count from now all rest
    → FailsAt rest read_failed error → FailsToTake all read_failed error
fails_at count from now all rest read_failed (Policy fault) taken fails = absurd fails
fails_at count from now all rest read_failed Read taken fails = fails
fails_at count from now all rest read_failed TooLong taken fails = long_at count from now all rest taken fails
fails_at count from now all rest read_failed Write taken fails = absurd fails
fails_at count from now all rest read_failed Memory taken fails = tt

-- ---- by whether there is a block

pub taken_next : (found : Bool) (count : ℕ) (from : SteeringView) (now next : SeriesView) (all rest behind : Option (List ℕ)) (block : List ℕ) → found ≡ true
    → AreTakenOf count from now all rest → Gives rest found block behind → length block ≤ 16777216 → next ≡ after_block found now block → AreTakenOf (count + 1) from next all behind
taken_next true count from now next all rest behind block is = taken_block count from now next all rest behind block
taken_next false count from now next all rest behind block is = absurd (false≢true is)

pub taken_all : (found : Bool) (count : ℕ) (from : SteeringView) (now next : SeriesView) (all rest behind : Option (List ℕ)) (block : List ℕ) → found ≡ false
    → AreTakenOf count from now all rest → Gives rest found block behind → length block ≤ 16777216 → next ≡ after_block found now block → IfSome all (AllTaken from next)
taken_all false count from now next all rest behind block is = taken_blocks count from now next all rest behind block
taken_all true count from now next all rest behind block is = absurd (false≢true (sym is))

pub taken_end : (found : Bool) (count : ℕ) (from : SteeringView) (now : SeriesView) (all rest : Option (List ℕ)) (ahead block : List ℕ) (remaining : Option (List ℕ))
    → found ≡ false → AreTakenOf count from now all rest → Gives rest found block (prepend_known ahead remaining) → IfSome all (λ _. IsAtEnd remaining)
taken_end false count from now all rest ahead block remaining is = ended_at count from now all rest ahead block remaining
taken_end true count from now all rest ahead block remaining is = absurd (false≢true (sym is))

-- as many rows at most as blocks
pub few_more : (found : Bool) (now next : SeriesView) (block : List ℕ) (count : ℕ) → next ≡ after_block found now block
    → now.first + length now.rows ≤ count → next.first + length next.rows ≤ count + 1
few_more true now next block count is few =
    let within = rows_within now (sample_of block) in
    omega (arith, within, few, ap (λ (s : SeriesView). s.first) is, ap (λ (s : SeriesView). length s.rows) is)
few_more false now next block count is few = omega (arith, few, ap (λ (s : SeriesView). s.first) is, ap (λ (s : SeriesView). length s.rows) is)
