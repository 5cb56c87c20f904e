-- Which values are refused: it goes by the ranges of the guests alone, which no change moves.
use Rattle.std.proofs.Common.{◌≡◌, ℕ, zero, suc, List, [], ◌∷◌, map, Bool, true, false, cond, ◌&&◌, Option, None, Some, refl, ap, ◌∙◌, ◌↔◌}
use Rattle.std.proofs.lemmas.Bool.{le-leb, leb-true}
use Rattle.std.specs.Option.{option_or}
use Rattle.std.specs.Prelude.{slice_get, nat_le, IsSomeAnd}
use Rattle.vm_guest.specs.Config.{GuestConfig}
use Rattle.vm_domains.specs.Domains.{configs_of}
use Rattle.vm_config.specs.declared.config.Config.{Config}
use Rattle.vm_variants.specs.declared.error.GuestError.{GuestError}
use Rattle.vm_variants.specs.declared.error.GuestError.TheVariants.{OutOfRange}
use Rattle.vm_variants.specs.declared.guest_setting.GuestSetting.{GuestSetting}
use Rattle.vm_variants.specs.declared.guest_setting.GuestSetting.TheVariants.{Min, Shares}
use Rattle.vm_variants.specs.declared.guest_value.GuestValue.{GuestValue}
use Rattle.vm_variants.specs.Changes.{changed, first_refusal, refusal_among, with_percent, with_values, Variation}
use Rattle.vm_variants.specs.Guests.{greatest_of, refusal_of, with_value, IsInRange}
use Rattle.vm_variants.specs.Variants.{changed_at, refusal_in, with_each, with_guest_value, with_min_percent, with_seed_added, with_seeds_added}
use Rattle.vm_variants.proofs.PartLemmas.{configs-changed, configs-each}

-- ---- a refusal is that of a value outside the range

-- a test by two bounds
none-refused : (low high : Bool) (e : GuestError) → cond (low && high) None (Some e) ≡ None → (low ≡ true) × (high ≡ true)
none-refused true true e none = (refl, refl)
none-refused true false e none = absurd (cc)
none-refused false high e none = absurd (cc)

in_range : (setting : GuestSetting) (place value : ℕ) (guest : GuestConfig)
    → (refusal_of setting place value (Some guest) ≡ None) ↔ IsInRange setting value guest
in_range setting place value guest = (
  λ none. let both = none-refused (nat_le 1 value) (nat_le value (greatest_of setting guest)) (OutOfRange setting place 1 (greatest_of setting guest)) none in
      record { least = leb-true 1 value both.0; greatest = leb-true value (greatest_of setting guest) both.1 },
  λ inside. rw (le-leb 1 value inside.least, le-leb value (greatest_of setting guest) inside.greatest) refl,
)

pub allowed : (setting : GuestSetting) (place value : ℕ) (found : Option GuestConfig)
    → (refusal_of setting place value found ≡ None) ↔ IsSomeAnd found (IsInRange setting value)
allowed setting place value None = (λ none. absurd (cc), λ there. absurd there)
allowed setting place value (Some guest) = in_range setting place value guest

-- ---- what a change leaves refused

-- a change that keeps the ranges of a guest
abbrev pub KeepsRange : (GuestConfig → GuestConfig) → Type 0
KeepsRange change = (setting : GuestSetting) (guest : GuestConfig) → greatest_of setting (change guest) ≡ greatest_of setting guest

pub value-keeps : (setting : GuestSetting) (value : ℕ) → KeepsRange (with_value setting value)
value-keeps Min value Min guest = refl
value-keeps Min value Shares guest = refl
value-keeps Shares value Min guest = refl
value-keeps Shares value Shares guest = refl

pub percent-keeps : (percent : ℕ) → KeepsRange (with_min_percent percent)
percent-keeps percent Min guest = refl
percent-keeps percent Shares guest = refl

pub seed-keeps : (added : ℕ) → KeepsRange (with_seed_added added)
seed-keeps added Min guest = refl
seed-keeps added Shares guest = refl

guest-refusal : (change : GuestConfig → GuestConfig) (keeps : KeepsRange change) (setting : GuestSetting) (place value : ℕ) (guest : GuestConfig)
    → refusal_of setting place value (Some (change guest)) ≡ refusal_of setting place value (Some guest)
guest-refusal change keeps setting place value guest = rw (keeps setting guest) refl

changed-refusal : (change : GuestConfig → GuestConfig) (keeps : KeepsRange change) (setting : GuestSetting) (told value : ℕ)
    (at place : ℕ) (guests : List GuestConfig)
    → refusal_of setting told value (slice_get (changed_at at change guests) place) ≡ refusal_of setting told value (slice_get guests place)
changed-refusal change keeps setting told value at place [] = refl
changed-refusal change keeps setting told value zero zero (g ∷ gs) = guest-refusal change keeps setting told value g
changed-refusal change keeps setting told value zero (suc place) (g ∷ gs) = refl
changed-refusal change keeps setting told value (suc at) zero (g ∷ gs) = refl
changed-refusal change keeps setting told value (suc at) (suc place) (g ∷ gs) = changed-refusal change keeps setting told value at place gs

each-refusal : (change : GuestConfig → GuestConfig) (keeps : KeepsRange change) (setting : GuestSetting) (told value place : ℕ)
    (guests : List GuestConfig)
    → refusal_of setting told value (slice_get (map change guests) place) ≡ refusal_of setting told value (slice_get guests place)
each-refusal change keeps setting told value place [] = refl
each-refusal change keeps setting told value zero (g ∷ gs) = guest-refusal change keeps setting told value g
each-refusal change keeps setting told value (suc place) (g ∷ gs) = each-refusal change keeps setting told value place gs

-- of two configurations both refuse the same
pub record RefuseAlike (before after : Config) : Type 0 where
  pub same : (setting : GuestSetting) (place value : ℕ) → refusal_in setting place value after ≡ refusal_in setting place value before

alike-itself : (c : Config) → RefuseAlike c c
alike-itself c = record { same = λ setting place value. refl }

alike-then : (a b c : Config) → RefuseAlike a b → RefuseAlike b c → RefuseAlike a c
alike-then a b c first second =
    record { same = λ setting place value. second.same setting place value ∙ first.same setting place value }

pub value-alike : (setting : GuestSetting) (place value : ℕ) (c : Config) → RefuseAlike c (with_guest_value setting place value c)
value-alike setting place value c = record {
  same = λ other told n.
      ap (λ (gs : List GuestConfig). refusal_of other told n (slice_get gs told)) (configs-changed place (with_value setting value) c.domains)
      ∙ changed-refusal (with_value setting value) (value-keeps setting value) other told n place told (configs_of c.domains);
}

each-alike : (change : GuestConfig → GuestConfig) (keeps : KeepsRange change) (c : Config) → RefuseAlike c (with_each change c)
each-alike change keeps c = record {
  same = λ other told n.
      ap (λ (gs : List GuestConfig). refusal_of other told n (slice_get gs told)) (configs-each change c.domains)
      ∙ each-refusal change keeps other told n told (configs_of c.domains);
}

pub percent-alike : (percent : Option ℕ) (c : Config) → RefuseAlike c (with_percent percent c)
percent-alike None c = alike-itself c
percent-alike (Some percent) c = each-alike (with_min_percent percent) (percent-keeps percent) c

pub values-alike : (setting : GuestSetting) (values : List GuestValue) (c : Config) → RefuseAlike c (with_values setting values c)
values-alike setting [] c = alike-itself c
values-alike setting (v ∷ vs) c =
    let next = with_guest_value setting v.place v.value c in
    alike-then c next (with_values setting vs next) (value-alike setting v.place v.value c) (values-alike setting vs next)

pub seeds-alike : (added : ℕ) (c : Config) → RefuseAlike c (with_seeds_added added c)
seeds-alike added c = each-alike (with_seed_added added) (seed-keeps added) c

pub changed-alike : (v : Variation) (c : Config) → RefuseAlike c (changed v c)
changed-alike v c =
    let first = with_percent v.percent c in
    let second = with_values Min v.minimums first in
    let third = with_values Shares v.shares second in
    alike-then c third (changed v c)
    (alike-then c second third (alike-then c first second (percent-alike v.percent c) (values-alike Min v.minimums first))
    (values-alike Shares v.shares second))
    (seeds-alike v.added third)

pub among-alike : (setting : GuestSetting) (values : List GuestValue) (before after : Config) → RefuseAlike before after
    → refusal_among setting values after ≡ refusal_among setting values before
among-alike setting [] before after alike = refl
among-alike setting (v ∷ vs) before after alike =
    λ i. option_or (alike.same setting v.place v.value i) (among-alike setting vs before after alike i)

pub first-alike : (v : Variation) (before after : Config) → RefuseAlike before after → first_refusal v after ≡ first_refusal v before
first-alike v before after alike =
    λ i. option_or (among-alike Min v.minimums before after alike i) (among-alike Shares v.shares before after alike i)

-- ---- of two refusals there is none

pub no-first : (first second : Option GuestError) → option_or first second ≡ None → first ≡ None
no-first None second none = refl
no-first (Some e) second none = none

pub no-second : (first second : Option GuestError) → option_or first second ≡ None → second ≡ None
no-second None second none = none
no-second (Some e) second none = absurd (cc)
