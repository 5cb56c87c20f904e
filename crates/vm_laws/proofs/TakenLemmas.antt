-- What is taken of a log passes no limit.
use Rattle.std.proofs.Common.{◌≡◌, ℕ, ◌+◌, ◌*◌, ◌/◌, ◌≤◌, inl, inr, Bool, true, false, nat_lt, if◌then◌else◌, List, [], ◌∷◌, ◌++◌, drop, length, take, Option, Some, None, Result, Ok, refl, sym, ap, subst, ◌∙◌, arith, length-append}
use Rattle.std.proofs.lemmas.Bool.{cases_lt, ltb-false}
use Rattle.std.proofs.lemmas.List.{length-take, take-append-le, take-take, take_all}
use Rattle.vm_import.specs.Guests.{Guest, epochs_of, guest_of}
use Rattle.vm_import.specs.Limits.{passed_by}
use Rattle.vm_import.specs.Settings.{Settings}
use Rattle.vm_import.specs.Taking.{Taken, taken_behind, unless_passed}
use Rattle.vm_import.specs.Texts.{text_of}
use Rattle.vm_import.specs.declared.limits.Limit.{Limit}
use Rattle.vm_import.specs.declared.limits.Limit.TheVariants.{Bytes, Epochs, Pages, Steps}
use Rattle.vm_laws.specs.Meaning.{AreWritten}
use Rattle.vm_import.specs.Logs.{FaultAt, log_of}
use Rattle.vm_import.specs.declared.access.Access.{Access}

-- no front of the accesses passes a limit, but for the empty one
abbrev PassNone : Settings → List Access → Type 0
PassNone settings accesses =
    (n : ℕ) → 1 ≤ n → n ≤ length accesses → passed_by settings (guest_of settings (take n accesses)) ≡ None

PassNone-nil : (settings : Settings) → PassNone settings []
PassNone-nil settings n some within = absurd (omega arith)

PassNone-more : (settings : Settings) (before : List Access) (access : Access) → PassNone settings before
    → passed_by settings (guest_of settings (before ++ access ∷ [])) ≡ None → PassNone settings (before ++ access ∷ [])
PassNone-more settings before access none here n some within =
    let long : length (before ++ access ∷ []) ≡ length before + 1 = length-append before (access ∷ []) in
    elim (cases_lt (length before) n) [
      | inl all ↦
          ap (λ (l : List Access). passed_by settings (guest_of settings l)) (take_all n (before ++ access ∷ []) (omega arith)) ∙ here
      | inr short ↦
          ap (λ (l : List Access). passed_by settings (guest_of settings l)) (take-append-le n before (access ∷ []) short) ∙ none n some short
    ]

PassNone-take : (settings : Settings) (before : List Access) (k : ℕ) → PassNone settings before → PassNone settings (take k before)
PassNone-take settings before k none n some within =
    elim (cases_lt k n) [
      | inl longer ↦ absurd (omega (arith, length-take k before))
      | inr shorter ↦
          ap (λ (l : List Access). passed_by settings (guest_of settings l)) (take-take n k before shorter)
          ∙ none n some (omega (arith, length-take k before))
    ]

same : (a b : Taken) → ◌≡◌ {A = Result Taken FaultAt} (Ok a) (Ok b) → a ≡ b
same a b is = cc

taken-none : (settings : Settings) (fault : Option FaultAt) (before accesses : List Access) (taken : Taken) → PassNone settings before
    → taken_behind settings fault before accesses ≡ Ok taken → PassNone settings taken.accesses
taken-none settings None before [] taken none is =
    subst (λ (t : Taken). PassNone settings t.accesses) (same (record { accesses = before; limit = None }) taken is) none
taken-none settings (Some fault) before [] taken none is = absurd (cc)
taken-none settings fault before (access ∷ accesses) taken none is =
    go (passed_by settings (guest_of settings (before ++ access ∷ []))) refl
    (λ here. taken-none settings fault (before ++ access ∷ []) accesses taken (PassNone-more settings before access none here)) is
  where
    go : (passed : Option Limit) → passed_by settings (guest_of settings (before ++ access ∷ [])) ≡ passed
        → (passed_by settings (guest_of settings (before ++ access ∷ [])) ≡ None
        → taken_behind settings fault (before ++ access ∷ []) accesses ≡ Ok taken → PassNone settings taken.accesses)
        → unless_passed passed settings before (taken_behind settings fault (before ++ access ∷ []) accesses) ≡ Ok taken
        → PassNone settings taken.accesses
    go None here others is = others here is
    go (Some limit) here others is =
        let count = length before / settings.interval * settings.interval in
        subst (λ (t : Taken). PassNone settings t.accesses) (same (record { accesses = take count before; limit = Some limit }) taken is)
        (PassNone-take settings before count none)

size-nil : (settings : Settings) → (guest_of settings []).size ≡ 0
unfolding guest_of
size-nil settings = refl

-- a guest with a page has accesses
some-accesses : (settings : Settings) (accesses : List Access) → 1 ≤ (guest_of settings accesses).size → 1 ≤ length accesses
some-accesses settings [] touched = absurd (omega (arith, size-nil settings))
some-accesses settings (access ∷ accesses) touched = omega arith

-- the guest of a text that is written passes no limit
passed-none : (settings : Settings) (log : List ℕ) (accesses : List Access) → AreWritten settings log accesses
    → passed_by settings (guest_of settings accesses) ≡ None
passed-none settings log accesses are =
    let l = log_of log in
    let none = taken-none settings l.fault [] (drop settings.skip l.accesses) (record { accesses = accesses; limit = are.limit })
    (PassNone-nil settings) are.taken in
    ap (λ (l : List Access). passed_by settings (guest_of settings l)) (sym (take_all (length accesses) accesses (omega arith)))
    ∙ none (length accesses) (some-accesses settings accesses are.touched) (omega arith)

-- ---- and so is small

-- the guest keeps the limits
pub record IsFitting (settings : Settings) (guest : Guest) : Type 0 where
  pub steps : length guest.trace ≤ settings.steps
  pub pages : guest.size ≤ 262144
  pub epochs : epochs_of settings.quantum (length guest.trace) ≤ 10000
  pub bytes : length (text_of settings guest) ≤ 16777216

unless_none : (b : Bool) (limit : Limit) (others : Option Limit) → (if b then Some limit else others) ≡ None → (b ≡ false) × (others ≡ None)
unless_none true limit others none = absurd (cc)
unless_none false limit others none = (refl, none)

fits : (settings : Settings) (guest : Guest) → passed_by settings guest ≡ None → IsFitting settings guest
unfolding passed_by
fits settings guest none =
    let steps = length guest.trace in
    let size = length (text_of settings guest) in
    let by_bytes : Option Limit = if nat_lt 16777216 size then Some Bytes else None in
    let by_epochs : Option Limit = if nat_lt 10000 (epochs_of settings.quantum steps) then Some Epochs else by_bytes in
    let by_pages : Option Limit = if nat_lt 262144 guest.size then Some Pages else by_epochs in
    let first = unless_none (nat_lt settings.steps steps) (Steps settings.steps) by_pages none in
    let second = unless_none (nat_lt 262144 guest.size) Pages by_epochs first.1 in
    let third = unless_none (nat_lt 10000 (epochs_of settings.quantum steps)) Epochs by_bytes second.1 in
    let fourth = unless_none (nat_lt 16777216 size) Bytes None third.1 in
    record {
      steps = ltb-false settings.steps steps first.0;
      pages = ltb-false 262144 guest.size second.0;
      epochs = ltb-false 10000 (epochs_of settings.quantum steps) third.0;
      bytes = ltb-false 16777216 size fourth.0;
    }

pub fits-written : (settings : Settings) (log : List ℕ) (accesses : List Access) → AreWritten settings log accesses
    → IsFitting settings (guest_of settings accesses)
fits-written settings log accesses are = fits settings (guest_of settings accesses) (passed-none settings log accesses are)
