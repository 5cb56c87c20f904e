-- Blocks that are taken one after the other.
use Rattle.std.proofs.Common.{◌≡◌, ◌∙◌, ℕ, ◌+◌, ◌-◌, ◌<◌, ◌≤◌, ◌^◌, inl, inr, Bool, true, false, Option, Some, None, List, [], ◌∷◌, ◌++◌, length, drop, take, append_assoc, refl, sym, ap, subst, arith}
use Rattle.std.proofs.Math.Seq.{take-append_seam}
use Rattle.std.proofs.lemmas.Bool.{false≢true, le-ltb, lt-ltb}
use Rattle.std.proofs.lemmas.List.{append-nil, length-append, length-map, map-append}
use Rattle.std.specs.Io.KnownBytes.{Appends, IsAtEnd, prepend_known}
use Rattle.std.specs.List.{position_from}
use Rattle.std.specs.Prelude.{IfSome, Result}
use Rattle.vm_samples.specs.declared.sample.BadSample.{BadSample}
use Rattle.vm_samples.specs.Blocks.{blocks_of, taken_by, unended_of}
use Rattle.vm_samples.specs.LogSteps.{first_or_all, Gives, IsFirstBlock, IsTooLong, IsUnended}
use Rattle.vm_samples.specs.SampleOf.{sample_of}
use Rattle.vm_samples.specs.Samples.{DomainView}
use Rattle.vm_steer.specs.declared.form.Form.{Form}
use Rattle.vm_steer.specs.Blocks.{after_block, block_text, AreShort, AreTaken, AreTakenOf, IsLongAt, TakesAll, WritesFirst, WritesFrontOf, WritesSome}
use Rattle.vm_steer.specs.Fold.{after_sample, after_samples, text_in, texts_from}
use Rattle.vm_steer.specs.Steering.{SteeringView}
use Rattle.vm_steer.specs.Streams.{is_long, long_in, parts_of, samples_of}
use Rattle.vm_streams.proofs.StreamLemmas.{Appends-then, Appends-then_front, AppendsFront-longer}
use Rattle.vm_streams.specs.Streams.{AppendsFront}

-- ---- samples behind others

after-append : (s : SteeringView) (samples more : List (Result (List DomainView) BadSample))
    → after_samples s (samples ++ more) ≡ after_samples (after_samples s samples) more
after-append s [] more = refl
after-append s (sample ∷ samples) more = after-append (after_sample s sample) samples more

texts-append : (form : Form) (number : ℕ) (s : SteeringView) (samples more : List (Result (List DomainView) BadSample))
    → texts_from form number s (samples ++ more) ≡ texts_from form number s samples ++ texts_from form (number + length samples) (after_samples s samples) more
texts-append form number s [] more = let none : number + 0 ≡ number = omega arith in ap (λ (n : ℕ). texts_from form n s more) (sym none)
texts-append form number s (sample ∷ samples) more =
    let next : number + 1 + length samples ≡ number + length (sample ∷ samples) = omega arith in
    ap (λ l. text_in form number s sample ++ l) (texts-append form (number + 1) (after_sample s sample) samples more
    ∙ ap (λ (n : ℕ). texts_from form (number + 1) (after_sample s sample) samples ++ texts_from form n (after_samples (after_sample s sample) samples) more) next)
    ∙ sym (append_assoc (text_in form number s sample) (texts_from form (number + 1) (after_sample s sample) samples) _)

-- ---- short parts

pub short : (block : List ℕ) → length block ≤ 16777216 → is_long block ≡ false
short block few = le-ltb 16777216 (length block) few

short-append : (blocks : List (List ℕ)) (block : List ℕ) → AreShort blocks → is_long block ≡ false → AreShort (blocks ++ block ∷ [])
short-append [] block are is = (is, tt)
short-append (b ∷ blocks) block are is = (are.0, short-append blocks block are.1 is)

behind_short : (index : ℕ) (blocks more : List (List ℕ)) → AreShort blocks
    → position_from is_long index (blocks ++ more) ≡ position_from is_long (index + length blocks) more
behind_short index [] more are = let none : index + 0 ≡ index = omega arith in ap (λ (n : ℕ). position_from is_long n more) (sym none)
behind_short index (b ∷ blocks) more are =
    let next : index + 1 + length blocks ≡ index + length (b ∷ blocks) = omega arith in
    rw are.0 (behind_short (index + 1) blocks more are.1 ∙ ap (λ (n : ℕ). position_from is_long n more) next)

pub at_front : (index : ℕ) (blocks : List (List ℕ)) (bytes : List ℕ) → 16777216 < length (first_or_all blocks bytes)
    → position_from is_long index (blocks ++ drop (taken_by blocks) bytes ∷ []) ≡ Some index
at_front index [] bytes long = rw (lt-ltb 16777216 (length bytes) long) refl
at_front index (b ∷ blocks) bytes long = rw (lt-ltb 16777216 (length b) long) refl

-- ---- what was taken

module _ (form : Form) (count : ℕ) (s : SteeringView) (old mid : Option (List ℕ)) (now : SteeringView) (all rest : List ℕ) (taken : AreTaken form count s old mid now all rest) where
  many : length (samples_of taken.blocks) ≡ count
  many = length-map taken.blocks sample_of ∙ sym taken.count_is

  texts_on : (more : List (List ℕ))
      → texts_from form 0 s (samples_of (taken.blocks ++ more)) ≡ texts_from form 0 s (samples_of taken.blocks) ++ texts_from form count now (samples_of more)
  texts_on more =
      let here : 0 + length (samples_of taken.blocks) ≡ count = omega (arith, many) in
      ap (texts_from form 0 s) (map-append sample_of taken.blocks more)
      ∙ texts-append form 0 s (samples_of taken.blocks) (samples_of more)
      ∙ (λ i. texts_from form 0 s (samples_of taken.blocks) ++ texts_from form (here i) (sym taken.now_is i) (samples_of more))

  parts_on : parts_of all ≡ taken.blocks ++ parts_of rest
  parts_on =
      (λ i. taken.first i ++ taken.unended i ∷ []) ∙ append_assoc taken.blocks (blocks_of rest) (unended_of rest ∷ [])

  long_on : long_in all ≡ position_from is_long count (parts_of rest)
  long_on =
      let here : 0 + length taken.blocks ≡ count = omega (arith, taken.count_is) in
      ap (position_from is_long 0) parts_on ∙ behind_short 0 taken.blocks (parts_of rest) taken.short
      ∙ ap (λ (n : ℕ). position_from is_long n (parts_of rest)) here

  taken_more : (new : Option (List ℕ)) (next : SteeringView) (block after : List ℕ) → IsFirstBlock rest block after → length block ≤ 16777216
      → next ≡ after_sample now (sample_of block) → Appends mid new (text_in form count now (sample_of block)) → AreTaken form (count + 1) s old new next all after
  taken_more new next block after front few is written = record {
    blocks = taken.blocks ++ block ∷ [];
    count_is = omega (arith, length-append taken.blocks (block ∷ []), taken.count_is);
    first = taken.first ∙ ap (λ l. taken.blocks ++ l) front.blocks ∙ sym (append_assoc taken.blocks (block ∷ []) (blocks_of after));
    unended = taken.unended ∙ front.unended;
    short = short-append taken.blocks block taken.short (short block few);
    now_is = is ∙ ap (λ (n : SteeringView). after_sample n (sample_of block)) taken.now_is
        ∙ sym (after-append s (samples_of taken.blocks) (sample_of block ∷ []))
        ∙ ap (after_samples s) (sym (map-append sample_of taken.blocks (block ∷ [])));
    written =
        let text : texts_from form count now (samples_of (block ∷ [])) ≡ text_in form count now (sample_of block) = append-nil _ in
        let whole = texts_on (block ∷ []) ∙ ap (λ l. texts_from form 0 s (samples_of taken.blocks) ++ l) text in
        subst (λ (l : List ℕ). Appends old new l) (sym whole) (Appends-then old mid new _ _ taken.written written);
  }

  taken_whole : (new : Option (List ℕ)) (block after : List ℕ) → IsUnended rest block after → length block ≤ 16777216 → Appends mid new []
      → (long_in all ≡ None) × Appends old new (texts_from form 0 s (samples_of (blocks_of all)))
  taken_whole new block after unended few written =
      let none = unended.none in
      let is_last : parts_of rest ≡ rest ∷ [] = ap (λ (bs : List (List ℕ)). bs ++ drop (taken_by bs) rest ∷ []) none in
      let last : is_long rest ≡ false = ap is_long (sym unended.whole) ∙ short block few in
      let ends : position_from is_long count (rest ∷ []) ≡ None = rw last refl in
      let blocks : blocks_of all ≡ taken.blocks = taken.first ∙ ap (λ l. taken.blocks ++ l) none ∙ append-nil taken.blocks in
      let texts : texts_from form 0 s (samples_of (blocks_of all)) ≡ texts_from form 0 s (samples_of taken.blocks) ++ [] =
      ap (λ (bs : List (List ℕ)). texts_from form 0 s (samples_of bs)) blocks ∙ sym (append-nil _) in (
        long_on ∙ ap (position_from is_long count) is_last ∙ ends,
        subst (λ (l : List ℕ). Appends old new l) (sym texts) (Appends-then old mid new _ _ taken.written written),
      )

  first_taken : take count (samples_of (blocks_of all)) ≡ samples_of taken.blocks
  first_taken =
      ap (λ (bs : List (List ℕ)). take count (samples_of bs)) taken.first
      ∙ ap (take count) (map-append sample_of taken.blocks (blocks_of rest))
      ∙ ap (λ (n : ℕ). take n (samples_of taken.blocks ++ samples_of (blocks_of rest))) (sym many)
      ∙ take-append_seam (samples_of taken.blocks) (samples_of (blocks_of rest))

  written_first : WritesFirst form s (Some all) old mid count all
  written_first = subst (λ (l : List (Result (List DomainView) BadSample)). Appends old mid (texts_from form 0 s l)) (sym first_taken) taken.written

  long_here : IsTooLong rest → long_in all ≡ Some count
  long_here long = long_on ∙ at_front count (blocks_of rest) rest long

  front_written : (new : Option (List ℕ)) (block after : List ℕ) → IsFirstBlock rest block after → AppendsFront mid new (text_in form count now (sample_of block))
      → AppendsFront old new (texts_from form 0 s (samples_of (blocks_of all)))
  front_written new block after front written =
      let blocks = taken.first ∙ ap (λ l. taken.blocks ++ l) front.blocks in
      let texts = ap (λ (bs : List (List ℕ)). texts_from form 0 s (samples_of bs)) blocks ∙ texts_on (block ∷ blocks_of after) in
      subst (λ (l : List ℕ). AppendsFront old new l) (sym texts)
      (Appends-then_front old mid new _ _ taken.written (AppendsFront-longer mid new (text_in form count now (sample_of block)) _ written))

-- ---- where these bytes are known

pub none_taken : (form : Form) (s : SteeringView) (first written : Option (List ℕ)) → AreTakenOf form 0 s written written s first first
none_taken form s None written = tt
none_taken form s (Some all) None = record { blocks = []; count_is = refl; first = refl; unended = refl; short = tt; now_is = refl; written = tt }
none_taken form s (Some all) (Some bytes) =
    record { blocks = []; count_is = refl; first = refl; unended = refl; short = tt; now_is = refl; written = sym (append-nil bytes) }

taken_by_block : (form : Form) (count : ℕ) (s now next : SteeringView) (old mid new first rest after : Option (List ℕ)) (block : List ℕ) → AreTakenOf form count s old mid now first rest
    → Gives rest true block after → length block ≤ 16777216 → next ≡ after_block true now block → Appends mid new (block_text form true count now block)
    → AreTakenOf form (count + 1) s old new next first after
taken_by_block form count s now next old mid new None rest after block taken gives few is written = tt
taken_by_block form count s now next old mid new (Some all) None after block taken gives few is written = absurd taken
taken_by_block form count s now next old mid new (Some all) (Some rest) None block taken gives few is written = absurd gives
taken_by_block form count s now next old mid new (Some all) (Some rest) (Some after) block taken gives few is written =
    taken_more form count s old mid now all rest taken new next block after gives few is written

taken_by_all : (form : Form) (count : ℕ) (s now : SteeringView) (old mid new first rest after : Option (List ℕ)) (block : List ℕ) → AreTakenOf form count s old mid now first rest
    → Gives rest false block after → length block ≤ 16777216 → Appends mid new [] → TakesAll form s first old new
taken_by_all form count s now old mid new None rest after block taken gives few written = tt
taken_by_all form count s now old mid new (Some all) None after block taken gives few written = absurd taken
taken_by_all form count s now old mid new (Some all) (Some rest) None block taken gives few written = absurd gives
taken_by_all form count s now old mid new (Some all) (Some rest) (Some after) block taken gives few written =
    taken_whole form count s old mid now all rest taken new block after gives few written

nothing_behind : (front rest : List ℕ) → front ++ rest ≡ [] → rest ≡ []
nothing_behind [] rest is = is
nothing_behind (b ∷ front) rest is = absurd cc

at_end : (ahead bytes block : List ℕ) (remaining : Option (List ℕ)) → Gives (Some bytes) false block (prepend_known ahead remaining) → IsAtEnd remaining
at_end ahead bytes block None gives = tt
at_end ahead bytes block (Some rest) gives = nothing_behind ahead rest gives.nothing

pub gives_end : (old : Option (List ℕ)) (ahead block : List ℕ) (remaining : Option (List ℕ)) → Gives old false block (prepend_known ahead remaining)
    → IfSome old (λ _. IsAtEnd remaining)
gives_end None ahead block remaining gives = tt
gives_end (Some bytes) ahead block remaining gives = at_end ahead bytes block remaining gives

taken_by_end : (form : Form) (count : ℕ) (s now : SteeringView) (old mid first rest : Option (List ℕ)) (ahead block : List ℕ) (remaining : Option (List ℕ))
    → AreTakenOf form count s old mid now first rest → Gives rest false block (prepend_known ahead remaining) → IfSome first (λ _. IsAtEnd remaining)
taken_by_end form count s now old mid None rest ahead block remaining taken gives = tt
taken_by_end form count s now old mid (Some all) None ahead block remaining taken gives = absurd taken
taken_by_end form count s now old mid (Some all) (Some rest) ahead block remaining taken gives = at_end ahead rest block remaining gives

pub taken_some : (form : Form) (count : ℕ) (s now : SteeringView) (old mid first rest : Option (List ℕ)) → AreTakenOf form count s old mid now first rest → WritesSome form s first old mid
taken_some form count s now old mid None rest taken = tt
taken_some form count s now old mid (Some all) None taken = absurd taken
taken_some form count s now old mid (Some all) (Some rest) taken = (count, written_first form count s old mid now all rest taken)

pub taken_long : (form : Form) (count : ℕ) (s now : SteeringView) (old mid first rest : Option (List ℕ)) → AreTakenOf form count s old mid now first rest → IfSome rest IsTooLong
    → IfSome first (λ bytes. (n : ℕ) × IsLongAt n bytes × WritesFirst form s first old mid n bytes)
taken_long form count s now old mid None rest taken long = tt
taken_long form count s now old mid (Some all) None taken long = absurd taken
taken_long form count s now old mid (Some all) (Some rest) taken long =
    (count, inl (long_here form count s old mid now all rest taken long), written_first form count s old mid now all rest taken)

pub taken_many : (form : Form) (count : ℕ) (s now : SteeringView) (old mid first rest : Option (List ℕ)) → AreTakenOf form count s old mid now first rest → count ≡ 2 ^ 64 - 1
    → IfSome first (λ bytes. (n : ℕ) × IsLongAt n bytes × WritesFirst form s first old mid n bytes)
taken_many form count s now old mid None rest taken is = tt
taken_many form count s now old mid (Some all) None taken is = absurd taken
taken_many form count s now old mid (Some all) (Some rest) taken is =
    let many : 2 ^ 64 - 1 ≤ length (blocks_of all) = omega (arith, taken.count_is, ap length taken.first, length-append taken.blocks (blocks_of rest)) in
    (count, inr (many, is), written_first form count s old mid now all rest taken)

pub taken_front : (form : Form) (count : ℕ) (s now : SteeringView) (old mid new first rest : Option (List ℕ)) → AreTakenOf form count s old mid now first rest
    → IfSome rest (WritesFrontOf form count now rest mid new) → IfSome first (λ bytes. AppendsFront old new (texts_from form 0 s (samples_of (blocks_of bytes))))
taken_front form count s now old mid new None rest taken front = tt
taken_front form count s now old mid new (Some all) None taken front = absurd taken
taken_front form count s now old mid new (Some all) (Some rest) taken (block, after, first, written) =
    front_written form count s old mid now all rest taken new block after first written

-- ---- by whether there is a block

pub taken_next : (form : Form) (found : Bool) (count : ℕ) (s now next : SteeringView) (old mid new first rest after : Option (List ℕ)) (block : List ℕ) → found ≡ true
    → AreTakenOf form count s old mid now first rest → Gives rest found block after → length block ≤ 16777216
    → next ≡ after_block found now block → Appends mid new (block_text form found count now block) → AreTakenOf form (count + 1) s old new next first after
taken_next form true count s now next old mid new first rest after block is = taken_by_block form count s now next old mid new first rest after block
taken_next form false count s now next old mid new first rest after block is = absurd (false≢true is)

pub taken_all : (form : Form) (found : Bool) (count : ℕ) (s now : SteeringView) (old mid new first rest after : Option (List ℕ)) (block : List ℕ) → found ≡ false
    → AreTakenOf form count s old mid now first rest → Gives rest found block after → length block ≤ 16777216 → Appends mid new (block_text form found count now block)
    → TakesAll form s first old new
taken_all form false count s now old mid new first rest after block is = taken_by_all form count s now old mid new first rest after block
taken_all form true count s now old mid new first rest after block is = absurd (false≢true (sym is))

pub taken_end : (form : Form) (found : Bool) (count : ℕ) (s now : SteeringView) (old mid first rest : Option (List ℕ)) (ahead block : List ℕ) (remaining : Option (List ℕ))
    → found ≡ false → AreTakenOf form count s old mid now first rest → Gives rest found block (prepend_known ahead remaining) → IfSome first (λ _. IsAtEnd remaining)
taken_end form false count s now old mid first rest ahead block remaining is = taken_by_end form count s now old mid first rest ahead block remaining
taken_end form true count s now old mid first rest ahead block remaining is = absurd (false≢true (sym is))
