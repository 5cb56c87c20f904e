-- A configuration with another value of a guest, or of each.
use Rattle.std.proofs.Common.{◌≡◌, ◌<◌, ◌+◌, ◌%◌, ◌^◌, ℕ, zero, suc, List, [], ◌∷◌, length, Option, None, true, arith, map, All, Some, refl, ap, sym, ◌∙◌}
use Rattle.std.proofs.lemmas.List.{length-map}
use Rattle.std.proofs.lemmas.Option.{same_Some, slice_get-map}
use Rattle.std.specs.Option.{option_map}
use Rattle.std.proofs.lemmas.Bool.{false≢true}
use Rattle.std.specs.Prelude.{is_some, slice_get}
use Rattle.vm_guest.specs.Config.{GuestConfig, IsWithinLimits}
use Rattle.vm_domains.specs.Domains.{Domain, configs_of}
use Rattle.vm_config.specs.declared.config.Config.{Config}
use Rattle.vm_config.specs.Limits.{IsConfig}
use Rattle.vm_variants.specs.declared.guest_setting.GuestSetting.{GuestSetting}
use Rattle.vm_variants.specs.declared.guest_setting.GuestSetting.TheVariants.{Min, Shares}
use Rattle.vm_variants.specs.Changes.{IsPercent}
use Rattle.vm_variants.specs.Guests.{value_of, with_value, IsInRange}
use Rattle.vm_variants.specs.Variants.{changed_at, guest_value, reconfigured, with_each, with_guest_value, with_min_percent, with_minimums, with_seed_added, with_seeds_added, IsAllowed}
use Rattle.vm_variants.proofs.GuestLemmas.{with_min_percent-limits, with_seed_added-limits, with_value-limits}
use Rattle.vm_variants.proofs.ListLemmas.{All-changed, All-each, changed-over, changed-same, length-changed, map-same, map-twice, slice_get-changed}
use Rattle.vm_variants.proofs.PartLemmas.{configs-changed}
use Rattle.vm_variants.proofs.SeedLemmas.{with_seed_added-none, with_seed_added-twice}

-- ---- one value

pub value_of-with_value : (setting : GuestSetting) (value : ℕ) (guest : GuestConfig) → value_of setting (with_value setting value guest) ≡ value
value_of-with_value Min value guest = refl
value_of-with_value Shares value guest = refl

pub with_value-same : (setting : GuestSetting) (guest : GuestConfig) → with_value setting (value_of setting guest) guest ≡ guest
with_value-same Min guest = refl
with_value-same Shares guest = refl

pub with_value-over : (setting : GuestSetting) (first second : ℕ) (guest : GuestConfig)
    → with_value setting second (with_value setting first guest) ≡ with_value setting second guest
with_value-over Min first second guest = refl
with_value-over Shares first second guest = refl

-- ---- a configuration

-- what is known of the configuration at a place is known of the domain there
config-at : (place : ℕ) (ds : List Domain) (d : Domain) → slice_get ds place ≡ Some d → slice_get (configs_of ds) place ≡ Some d.config
config-at place ds d is = slice_get-map (λ (d : Domain). d.config) ds place ∙ ap (option_map (λ (d : Domain). d.config)) is

allowed-at : (setting : GuestSetting) (place value : ℕ) (c : Config) (d : Domain) → IsAllowed setting place value c
    → slice_get c.domains place ≡ Some d → IsInRange setting value d.config
allowed-at setting place value c d allowed is = rw (config-at place c.domains d is) at allowed

with_domains : (c : Config) (ds : List Domain) → IsConfig c → length ds ≡ length c.domains → All (λ d. IsWithinLimits d.config) ds
    → IsConfig (record c { domains = ds })
with_domains c ds is many limits = record {
  machine = is.machine;
  domains = limits;
  few = rw many is.few;
  autostart = is.autostart ∙ sym many;
}

pub limits : (setting : GuestSetting) (place value : ℕ) (c : Config) → IsAllowed setting place value c → IsConfig c
    → IsConfig (with_guest_value setting place value c)
limits setting place value c allowed is =
    let change = reconfigured (with_value setting value) in
    with_domains c (changed_at place change c.domains) is (length-changed place change c.domains)
    (All-changed (λ (d : Domain). IsWithinLimits d.config) place change c.domains
    (λ (d : Domain) at within. with_value-limits setting value d.config (allowed-at setting place value c d allowed at) within) is.domains)

is-there : (place : ℕ) (ds : List Domain) → place < length ds → is_some (slice_get (configs_of ds) place) ≡ true
is-there place [] there = absurd (omega (arith, there))
is-there zero (d ∷ ds) there = refl
is-there (suc place) (d ∷ ds) there = is-there place ds (omega (arith, there))

some-value : (setting : GuestSetting) (value : ℕ) (found : Option GuestConfig) → is_some found ≡ true
    → option_map (value_of setting) (option_map (with_value setting value) found) ≡ Some value
some-value setting value None is = absurd (false≢true is)
some-value setting value (Some guest) is = ap Some (value_of-with_value setting value guest)

-- the value that a guest has is given to it again
value-again : (setting : GuestSetting) (place value : ℕ) (ds : List Domain) (d : Domain)
    → option_map (value_of setting) (slice_get (configs_of ds) place) ≡ Some value → slice_get ds place ≡ Some d
    → reconfigured (with_value setting value) d ≡ d
value-again setting place value ds d is at =
    let has : value_of setting d.config ≡ value =
    same_Some (value_of setting d.config) value (ap (option_map (value_of setting)) (sym (config-at place ds d at)) ∙ is) in
    ap (λ (g : GuestConfig). record d { config = g })
    (ap (λ (n : ℕ). with_value setting n d.config) (sym has) ∙ with_value-same setting d.config)

pub stands : (setting : GuestSetting) (place value : ℕ) (c : Config) → place < length c.domains
    → guest_value setting place (with_guest_value setting place value c) ≡ Some value
stands setting place value c there =
    let change = with_value setting value in
    let found : List GuestConfig → Option ℕ = λ gs. option_map (value_of setting) (slice_get gs place) in
    ap found (configs-changed place change c.domains)
    ∙ ap (option_map (value_of setting)) (slice_get-changed place change (configs_of c.domains))
    ∙ some-value setting value (slice_get (configs_of c.domains) place) (is-there place c.domains there)

pub same : (setting : GuestSetting) (place value : ℕ) (c : Config) → guest_value setting place c ≡ Some value
    → with_guest_value setting place value c ≡ c
same setting place value c is =
    ap (λ (ds : List Domain). record c { domains = ds })
    (changed-same place (reconfigured (with_value setting value)) c.domains (λ d at. value-again setting place value c.domains d is at))

pub later : (setting : GuestSetting) (place first second : ℕ) (c : Config)
    → with_guest_value setting place second (with_guest_value setting place first c) ≡ with_guest_value setting place second c
later setting place first second c =
    ap (λ (ds : List Domain). record c { domains = ds })
    (changed-over place (reconfigured (with_value setting first)) (reconfigured (with_value setting second)) c.domains
    (λ (d : Domain). ap (λ (g : GuestConfig). record d { config = g }) (with_value-over setting first second d.config)))

-- ---- each guest

each-limits : (change : GuestConfig → GuestConfig) (c : Config) → ((g : GuestConfig) → IsWithinLimits g → IsWithinLimits (change g))
    → IsConfig c → IsConfig (with_each change c)
each-limits change c keeps is =
    with_domains c (map (reconfigured change) c.domains) is (length-map c.domains (reconfigured change))
    (All-each (λ (d : Domain). IsWithinLimits d.config) (reconfigured change) c.domains (λ (d : Domain). keeps d.config) is.domains)

pub percent-limits : (percent : ℕ) (c : Config) → IsPercent percent → IsConfig c → IsConfig (with_minimums percent c)
percent-limits percent c part is = each-limits (with_min_percent percent) c (λ g. with_min_percent-limits percent g part) is

pub seeds-limits : (added : ℕ) (c : Config) → IsConfig c → IsConfig (with_seeds_added added c)
seeds-limits added c is = each-limits (with_seed_added added) c (with_seed_added-limits added) is

pub seeds-sum : (first second : ℕ) (c : Config)
    → with_seeds_added second (with_seeds_added first c) ≡ with_seeds_added ((first + second) % 2 ^ 64) c
seeds-sum first second c =
    let both = (first + second) % 2 ^ 64 in
    ap (λ (ds : List Domain). record c { domains = ds })
    (map-twice (reconfigured (with_seed_added first)) (reconfigured (with_seed_added second)) (reconfigured (with_seed_added both)) c.domains
    (λ (d : Domain). ap (λ (g : GuestConfig). record d { config = g }) (with_seed_added-twice first second d.config)))

pub seeds-none : (c : Config) → IsConfig c → with_seeds_added 0 c ≡ c
seeds-none c is =
    ap (λ (ds : List Domain). record c { domains = ds })
    (map-same (λ (d : Domain). IsWithinLimits d.config) (reconfigured (with_seed_added 0)) c.domains
    (λ (d : Domain) within. ap (λ (g : GuestConfig). record d { config = g }) (with_seed_added-none d.config within)) is.domains)
