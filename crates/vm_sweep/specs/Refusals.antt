-- Which lists of guests a configuration refuses.
use Rattle.std.specs.Prelude.{◌≡◌, ℕ, ◌+◌, Bool, ◌||◌, nat_lt, List, [], ◌∷◌, Option, Some, None, if◌then◌else◌, slice_get}
use Rattle.std.specs.List.{list_any}
use Rattle.std.specs.Option.{option_map, option_or}
use Rattle.vm_config.specs.declared.config.Config.{Config}
use Rattle.vm_domains.specs.Domains.{configs_of, position_of}
use Rattle.vm_sim.specs.declared.run_error.RunError.{RunError}
use Rattle.vm_sim.specs.Run.{MeansConfig}
use Rattle.vm_sweep.specs.Combinations.{NamedList, ValueLists}
use Rattle.vm_sweep.specs.declared.errors.GuestRefusal.{GuestRefusal}
use Rattle.vm_sweep.specs.declared.errors.RefusalCause.{RefusalCause}
use Rattle.vm_sweep.specs.declared.errors.RefusalCause.TheVariants.{NoGuest, OutOfRange}
use Rattle.vm_sweep.specs.declared.errors.SweepError.{SweepError}
use Rattle.vm_sweep.specs.declared.errors.SweepError.TheVariants.{Guest, Run}
use Rattle.vm_variants.specs.declared.guest_setting.GuestSetting.{GuestSetting}
use Rattle.vm_variants.specs.declared.guest_setting.GuestSetting.TheVariants.{Min, Shares}
use Rattle.vm_variants.specs.declared.guest_setting.GuestRange.{GuestRange}
use Rattle.vm_variants.specs.Guests.{range_of}

abbrev pub is_outside : GuestRange → ℕ → Bool
is_outside range n = nat_lt n range.least || nat_lt range.greatest n

-- a value is not in the range of the guest, if there is one
abbrev pub cause_in : List ℕ → Option GuestRange → Option RefusalCause
cause_in values None = Some NoGuest
cause_in values (Some range) = if list_any (is_outside range) values then Some OutOfRange else None

-- the range of the guest at a place
abbrev pub range_at : GuestSetting → Config → Option ℕ → Option GuestRange
range_at setting config None = None
range_at setting config (Some place) = option_map (range_of setting) (slice_get (configs_of config.domains) place)

-- why a list is refused, if it is
abbrev pub cause_of : GuestSetting → NamedList → Config → Option RefusalCause
cause_of setting list config = cause_in list.values (range_at setting config (position_of list.name config.domains))

-- the first of these lists that is refused, if one is; the first of them has this number
abbrev pub first_refused : GuestSetting → (number : ℕ) → List NamedList → Config → Option GuestRefusal
first_refused setting number [] config = None
first_refused setting number (list ∷ lists) config =
    option_or (option_map (λ cause. record { setting = setting; list = number; cause = cause }) (cause_of setting list config))
    (first_refused setting (number + 1) lists config)

-- minimums come before shares
unfoldable pub refusal_of : ValueLists → Config → Option GuestRefusal
refusal_of lists config = option_or (first_refused Min 0 lists.minimums config) (first_refused Shares 0 lists.shares config)

-- the configuration that a text is refuses none of the lists
abbrev pub IsAccepted : ValueLists → (text : List ℕ) → Type 0
IsAccepted lists text = MeansConfig (λ config. refusal_of lists config ≡ None) text

-- why a sweep ended early: of a refused list this is so, and of a run that
abbrev pub StopsFor : (at_once : Type 0) → (in_run : RunError → Type 0) → ValueLists → (text : List ℕ) → SweepError → Type 0
StopsFor at_once in_run lists text (Run error) = in_run error
StopsFor at_once in_run lists text (Guest refusal) = at_once × MeansConfig (λ config. refusal_of lists config ≡ Some refusal) text
