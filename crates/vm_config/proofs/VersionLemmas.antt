-- The configuration of a version, step by step.
use Rattle.std.proofs.Common.{◌≡◌, ◌≤◌, ◌==◌, ◌&&◌, ℕ, Bool, true, false, cond, true≢false, arith, subst, List, Option, Some, None, Result, Ok, Err, refl, ap, sym, ◌∙◌}
use Rattle.std.proofs.lemmas.Bool.{eqb-true, false_from_ne_true, leb-true}
use Rattle.std.specs.Prelude.{nat_le}
use Rattle.serde_json.specs.Data.{Data}
use Rattle.serde_json.specs.Find.{get}
use Rattle.vm_config.specs.declared.config.Config.{Config}
use Rattle.vm_config.specs.declared.error.ConfigError.TheVariants.{Range}
use Rattle.vm_config.specs.declared.fault.Fault.{Fault}
use Rattle.vm_config.specs.declared.place.Key.TheVariants.{Version}
use Rattle.vm_config.specs.declared.place.Part.TheVariants.{Root}
use Rattle.vm_config.specs.declared.place.Place.{Place}
use Rattle.vm_config.specs.declared.place.Place.TheVariants as place
use Rattle.vm_config.specs.Keys.{as_whole, in_range, of_kind, required_number}
use Rattle.vm_config.specs.Located.{config_at, config_in_at, config_v1_at, keys_at, root_at, version_at}
use Rattle.vm_config.specs.Migration.{migrated}
use Rattle.vm_config.specs.Outcomes.{◌>>=◌}
use Rattle.vm_config.specs.Places.{name_of, placed}
use Rattle.vm_config.specs.Versions.{version_1, newer}
use Rattle.vm_config.proofs.StepLemmas.{step_fails, step_passes}

-- ---- version 1 alone

abbrev after_root_v1 : Data → Result Config Fault
after_root_v1 root = version_at 1 root >>= (λ version. keys_at version_1 root)

pub root_fails_v1 : (bytes : List ℕ) (f : Fault) → root_at bytes ≡ Err f → config_v1_at bytes ≡ Err f
root_fails_v1 bytes f is = step_fails (root_at bytes) after_root_v1 f is

pub version_fails_v1 : (bytes : List ℕ) (d : Data) (f : Fault)
    → root_at bytes ≡ Ok d → version_at 1 d ≡ Err f → config_v1_at bytes ≡ Err f
version_fails_v1 bytes d f root is =
    step_passes (root_at bytes) after_root_v1 d root ∙ step_fails (version_at 1 d) (λ version. keys_at version_1 d) f is

pub config_v1_is : (bytes : List ℕ) (d : Data) (version : ℕ)
    → root_at bytes ≡ Ok d → version_at 1 d ≡ Ok version → config_v1_at bytes ≡ keys_at version_1 d
config_v1_is bytes d version root is =
    step_passes (root_at bytes) after_root_v1 d root ∙ step_passes (version_at 1 d) (λ v. keys_at version_1 d) version is

-- ---- each version

abbrev after_root : Data → Result Config Fault
after_root root = version_at 3 root >>= (λ version. config_in_at version root)

pub root_fails : (bytes : List ℕ) (f : Fault) → root_at bytes ≡ Err f → config_at bytes ≡ Err f
root_fails bytes f is = step_fails (root_at bytes) after_root f is

pub version_fails : (bytes : List ℕ) (d : Data) (f : Fault)
    → root_at bytes ≡ Ok d → version_at 3 d ≡ Err f → config_at bytes ≡ Err f
version_fails bytes d f root is =
    step_passes (root_at bytes) after_root d root ∙ step_fails (version_at 3 d) (λ version. config_in_at version d) f is

config_in_is : (bytes : List ℕ) (d : Data) (version : ℕ)
    → root_at bytes ≡ Ok d → version_at 3 d ≡ Ok version → config_at bytes ≡ config_in_at version d
config_in_is bytes d version root is =
    step_passes (root_at bytes) after_root d root ∙ step_passes (version_at 3 d) (λ v. config_in_at v d) version is

pub config_is_v1 : (bytes : List ℕ) (d : Data) (version : ℕ)
    → root_at bytes ≡ Ok d → version_at 3 d ≡ Ok version → version ≡ 1
    → config_at bytes ≡ (keys_at version_1 d >>= (λ c. Ok (migrated c)))
config_is_v1 bytes d version root is one = config_in_is bytes d version root is ∙ ap (λ v. config_in_at v d) one

newer_keys : (version : ℕ) (d : Data) → (version ≡ 1 → ⊥) → config_in_at version d ≡ keys_at (newer version) d
newer_keys version d other = chosen (version == 1) (false_from_ne_true (version == 1) (λ is. other (eqb-true version 1 is)))
  where
    chosen : (b : Bool) → b ≡ false
        → cond b (keys_at version_1 d >>= (λ c. Ok (migrated c))) (keys_at (newer version) d) ≡ keys_at (newer version) d
    chosen true is = absurd (true≢false is)
    chosen false is = refl

pub config_is_newer : (bytes : List ℕ) (d : Data) (version : ℕ)
    → root_at bytes ≡ Ok d → version_at 3 d ≡ Ok version → (version ≡ 1 → ⊥) → config_at bytes ≡ keys_at (newer version) d
config_is_newer bytes d version root is other = config_in_is bytes d version root is ∙ newer_keys version d other

-- ---- a text of version 1 as each version

one_v1 : (p : Place) (low high : Bool) (n version : ℕ) → nat_le 1 n ≡ low → nat_le n 1 ≡ high
    → placed p (cond (low && high) (Ok n) (Err Range)) ≡ Ok version → n ≡ 1
one_v1 p true true n version above below is =
    let least : 1 ≤ n = leb-true 1 n above in let most : n ≤ 1 = leb-true n 1 below in omega arith
one_v1 p true false n version above below is = absurd (cc)
one_v1 p false high n version above below is = absurd (cc)

whole_v1 : (p : Place) (whole : Option ℕ) (version : ℕ) → placed p (of_kind whole >>= in_range 1 1) ≡ Ok version
    → placed p (of_kind whole >>= in_range 1 3) ≡ Ok 1
whole_v1 p None version is = absurd (cc)
whole_v1 p (Some n) version is =
    let one : n ≡ 1 = one_v1 p (nat_le 1 n) (nat_le n 1) n version refl refl is in
    subst (λ (m : ℕ). placed p (in_range 1 3 m) ≡ Ok 1) (sym one) refl

found_v1 : (p : Place) (found : Option Data) (version : ℕ) → placed p (required_number found 1 1) ≡ Ok version
    → placed p (required_number found 1 3) ≡ Ok 1
found_v1 p None version is = absurd (cc)
found_v1 p (Some d) version is = whole_v1 p (as_whole d) version is

passed_v1 : (version : Result ℕ Fault) (keys : Result Config Fault) (c : Config) → (version >>= (λ v. keys)) ≡ Ok c
    → (v : ℕ) × (version ≡ Ok v) × (keys ≡ Ok c)
passed_v1 (Ok v) keys c is = (v, refl, is)
passed_v1 (Err f) keys c is = absurd (cc)

-- its version is 1 there too, and its keys are read
pub read_v1 : (bytes : List ℕ) (d : Data) (c : Config) → root_at bytes ≡ Ok d → config_v1_at bytes ≡ Ok c
    → (version_at 3 d ≡ Ok 1) × (keys_at version_1 d ≡ Ok c)
read_v1 bytes d c root is =
    let passed = passed_v1 (version_at 1 d) (keys_at version_1 d) c (sym (step_passes (root_at bytes) after_root_v1 d root) ∙ is) in
    (found_v1 (place.Key Root Version) (get (name_of Version) d) passed.0 passed.1, passed.2)
