-- All that a run changes in the guests of a configuration.
use Rattle.std.specs.Prelude.{ℕ, ◌≤◌, All, Contains, List, [], ◌∷◌, map, Option, Some, None, IsSome}
use Rattle.std.specs.Option.{option_or, ForSome}
use Rattle.vm_config.specs.declared.config.Config.{Config}
use Rattle.vm_variants.specs.declared.error.GuestError.{GuestError}
use Rattle.vm_variants.specs.declared.guest_setting.GuestSetting.{GuestSetting}
use Rattle.vm_variants.specs.declared.guest_setting.GuestSetting.TheVariants.{Min, Shares}
use Rattle.vm_variants.specs.declared.guest_value.GuestValue.{GuestValue}
use Rattle.vm_variants.specs.Variants.{refusal_in, with_guest_value, with_minimums, with_seeds_added}

pub record Variation : Type 0 where
  -- of its size each guest has so much as its minimum, in percent, if this is named
  pub percent : Option ℕ
  -- the minimums of some guests, whatever the percentage says
  pub minimums : List GuestValue
  -- the shares of some guests
  pub shares : List GuestValue
  -- what is added to each seed
  pub added : ℕ

pub record IsPercent (percent : ℕ) : Type 0 where
  pub some : 1 ≤ percent
  pub within : percent ≤ 100

abbrev pub IsVariation : Variation → Type 0
IsVariation v = ForSome v.percent IsPercent

-- nothing is changed
abbrev pub no_change : Variation
no_change = record { percent = None; minimums = []; shares = []; added = 0 }

-- ---- the changed configuration

abbrev pub with_percent : Option ℕ → Config → Config
with_percent None c = c
with_percent (Some percent) c = with_minimums percent c

-- the values one after the other, so that of two for one guest the later counts
abbrev pub with_values : GuestSetting → List GuestValue → Config → Config
with_values setting [] c = c
with_values setting (v ∷ vs) c = with_values setting vs (with_guest_value setting v.place v.value c)

-- first the percentage, then minimums, then shares, then seeds
abbrev pub changed : Variation → Config → Config
changed v c = with_seeds_added v.added (with_values Shares v.shares (with_values Min v.minimums (with_percent v.percent c)))

-- ---- refusals

-- why the first of these values that is refused is so, if one is
abbrev pub refusal_among : GuestSetting → List GuestValue → Config → Option GuestError
refusal_among setting [] c = None
refusal_among setting (v ∷ vs) c = option_or (refusal_in setting v.place v.value c) (refusal_among setting vs c)

-- minimums come before shares
abbrev pub first_refusal : Variation → Config → Option GuestError
first_refusal v c = option_or (refusal_among Min v.minimums c) (refusal_among Shares v.shares c)

-- ---- one run after another

-- each guest that the first values are for has one among the others
abbrev pub IsForEachOf : List GuestValue → List GuestValue → Type 0
IsForEachOf first second = All (λ v. Contains (map (λ w. w.place) second) v.place) first

-- the second changes whatever the first does
pub record Replaces (first second : Variation) : Type 0 where
  pub percent : IsSome first.percent → IsSome second.percent
  pub minimums : IsForEachOf first.minimums second.minimums
  pub shares : IsForEachOf first.shares second.shares
