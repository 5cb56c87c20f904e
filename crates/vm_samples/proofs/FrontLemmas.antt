-- The front of a host log, as it is looked for.
use Rattle.std.proofs.Common.{◌≡◌, ◌∙◌, ◌⊎◌, inl, inr, ℕ, ◌<◌, ◌≤◌, Option, Bool, true, false, List, [], ◌++◌, length, take, drop, Result, Ok, Err, append_assoc, sym, ap, subst, arith}
use Rattle.std.proofs.lemmas.List.{length-append}
use Rattle.std.specs.Io.KnownBytes.{IsAtEnd, prepend_known}
use Rattle.std.specs.Prelude.{IfOk, OnErr, OnOk}
use Rattle.vm_samples.specs.declared.front.Front.{Front}
use Rattle.vm_samples.specs.declared.front.Scan.{Scan}
use Rattle.vm_samples.specs.declared.host_log.LogError.{LogError}
use Rattle.vm_samples.specs.declared.host_log.LogError.TheVariants.{TooLong}
use Rattle.vm_samples.specs.Blocks.{blocks_of}
use Rattle.vm_samples.specs.LogSteps.{EndsBy, Gives, IsFront, IsMarked, IsPassed, IsScanned, IsScannedTo, LogView, Stays, blocks_at, front_of_all, left}
use Rattle.vm_samples.proofs.BlockLemmas.{grown}
use Rattle.vm_samples.proofs.LogLemmas.{gives_front}

pub found_mark : (text bytes : List ℕ) (seen : ℕ) (scan : Scan) → text ≡ bytes → IsScanned text seen scan → scan.is_found ≡ true → IsMarked bytes seen scan.place
found_mark text bytes seen scan same is found =
    subst (λ (l : List ℕ). IsMarked l seen scan.place) same (subst (λ (b : Bool). IsScannedTo text seen b scan.place) found is)

pub found_none : (text bytes : List ℕ) (seen : ℕ) (scan : Scan) → text ≡ bytes → IsScanned text seen scan → scan.is_found ≡ false → IsPassed bytes seen scan.place
found_none text bytes seen scan same is none =
    subst (λ (l : List ℕ). IsPassed l seen scan.place) same (subst (λ (b : Bool). IsScannedTo text seen b scan.place) none is)

-- without a block in what is there there was none at first
pub none_at_hand : {S : Type 0} (source first : S) (old bytes : List ℕ) → (blocks_of old ≡ []) ⊎ ((source ≡ first) × (bytes ≡ old)) → blocks_of bytes ≡ [] → blocks_of old ≡ []
none_at_hand source first old bytes (inl none) now = none
none_at_hand source first old bytes (inr same) now = ap blocks_of (sym same.1) ∙ now

-- the blocks once more bytes are there
pub grown_blocks : (old got new : List ℕ) (place : ℕ) → new ≡ old ++ got → place ≤ length old
    → ((more : List ℕ) → blocks_of (old ++ more) ≡ blocks_at old place more) → (more : List ℕ) → blocks_of (new ++ more) ≡ blocks_at new place more
grown_blocks old got new place is within blocks more =
    ap (λ l. blocks_of (l ++ more)) is ∙ ap blocks_of (append_assoc old got more) ∙ blocks (got ++ more)
    ∙ grown old got more place within ∙ ap (λ l. blocks_at l place more) (sym is)

pub grown_within : (old got new : List ℕ) (place : ℕ) → new ≡ old ++ got → place ≤ length old → place ≤ length new
grown_within old got new place is within = omega (arith, ap length is, length-append old got)

-- all bytes, where they are not too many
pub unended_front : (result : Result Front LogError) (bytes : List ℕ) (len : ℕ) → IfOk result (λ f. f ≡ front_of_all len) → OnOk result (len ≤ 16777216)
    → len ≡ length bytes → blocks_of bytes ≡ [] → IfOk result (IsFront bytes)
unended_front (Ok front) bytes len is few all none =
    subst (λ (f : Front). IsFront bytes f) (sym is) (record { few = few; block_is = all; used_is = all; none = none })
unended_front (Err error) bytes len is few all none = tt

pub unended_long : (result : Result Front LogError) (len : ℕ) → OnErr result ((result ≡ Err TooLong) × (16777216 < len)) → result ≡ Err TooLong → 16777216 < len
unended_long (Ok front) len long is = absurd (cc)
unended_long (Err error) len long is = long.1

-- the block is moved to its place, and what is behind it to another
pub gives_moved : (is_ended : Bool) (old kept block ahead : List ℕ) (before after : Option (List ℕ)) (front : Front) (log : LogView) (passed : List ℕ)
    → (let was : LogView = record { block = passed; ahead = old } in was) ≡ log
    → block ≡ take front.block kept → ahead ≡ drop front.used kept
    → Stays (prepend_known old before) (prepend_known kept after) → EndsBy is_ended kept front → (is_ended ≡ false → IsAtEnd after)
    → Gives (left log before) is_ended block (prepend_known ahead after)
gives_moved is_ended old kept block ahead before after front log passed view block_is ahead_is stays ends end =
    subst (λ (w : LogView). Gives (left w before) is_ended block (prepend_known ahead after)) view
    (subst (λ (l : List ℕ). Gives (prepend_known old before) is_ended block (prepend_known l after)) (sym ahead_is)
    (subst (λ (l : List ℕ). Gives (prepend_known old before) is_ended l (prepend_known (drop front.used kept) after)) (sym block_is)
    (gives_front is_ended old kept before after front stays ends end)))
