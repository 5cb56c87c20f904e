-- The runs of a sweep are its combinations on each machine.
use Rattle.std.proofs.Common.{◌≡◌, ◌∙◌, ℕ, List, [], ◌∷◌, ◌++◌, map, Option, None, Some, ap, refl, sym}
use Rattle.std.proofs.lemmas.List.{append-nil, map-append}
use Rattle.std.proofs.lemmas.Grind.{flat_map-append}
use Rattle.std.specs.List.{flat_map, range_with_len}
use Rattle.std.specs.Option.{option_map}
use Rattle.vm_config.specs.declared.config.Config.{Config}
use Rattle.vm_config.specs.declared.settings.Setting.TheVariants.{Frames, Swap, Tax, PageRate, Rebalance}
use Rattle.vm_sweep.specs.Combinations.{NamedList, ValueLists, combinations, guests, looped_at, machines, on_machines, own_of, place_in, settings, spread, spread_each, spread_over, variants, with_looped}
use Rattle.vm_sweep.specs.declared.variant.Looped.{Looped}
use Rattle.vm_sweep.specs.declared.variant.Looped.TheVariants.{Machine, Percent, Minimum, Shares, Seed}
use Rattle.vm_sweep.specs.declared.variant.Variant.{Variant}
use Rattle.vm_variants.specs.declared.guest_setting.GuestSetting.{GuestSetting}
use Rattle.vm_variants.specs.declared.guest_setting.GuestSetting.TheVariants.{Min, Shares as OfShares}

abbrev on : (frames : ℕ) → Variant → Variant
on frames v = with_looped (Machine Frames) frames v

abbrev on_each : (frames : List ℕ) → List Variant → List Variant
on_each frames vs = flat_map (λ f. map (on f) vs) frames

-- it doesn't matter whether the frames or this number is given first
abbrev IsApart : Looped → Type 0
IsApart what = (n f : ℕ) (v : Variant) → with_looped what n (on f v) ≡ on f (with_looped what n v)

values-on : (what : Looped) → IsApart what → (values : List ℕ) (f : ℕ) (v : Variant)
    → map (λ n. with_looped what n (on f v)) values ≡ map (on f) (map (λ n. with_looped what n v) values)
values-on what apart [] f v = refl
values-on what apart (n ∷ values) f v = (λ i. apart n f v i ∷ values-on what apart values f v i)

over-on : (what : Looped) → IsApart what → (values : List ℕ) (f : ℕ) (vs : List Variant)
    → spread_over what values (map (on f) vs) ≡ map (on f) (spread_over what values vs)
over-on what apart values f [] = refl
over-on what apart values f (v ∷ vs) =
    (λ i. values-on what apart values f v i ++ over-on what apart values f vs i)
    ∙ sym (map-append (on f) (map (λ n. with_looped what n v) values) (spread_over what values vs))

over-each : (what : Looped) → IsApart what → (values frames : List ℕ) (vs : List Variant)
    → spread_over what values (on_each frames vs) ≡ on_each frames (spread_over what values vs)
over-each what apart values [] vs = refl
over-each what apart values (f ∷ frames) vs =
    flat_map-append (λ v. map (λ n. with_looped what n v) values) (map (on f) vs) (on_each frames vs)
    ∙ (λ i. over-on what apart values f vs i ++ over-each what apart values frames vs i)

spread-on : (what : Looped) → IsApart what → (values : Option (List ℕ)) (frames : List ℕ) (vs : List Variant)
    → spread what values (on_each frames vs) ≡ on_each frames (spread what values vs)
spread-on what apart None frames vs = refl
spread-on what apart (Some values) frames vs = over-each what apart values frames vs

guest-apart : (setting : GuestSetting) (place : ℕ) → IsApart (looped_at setting place)
guest-apart Min place n f v = refl
guest-apart OfShares place n f v = refl

each-on : (setting : GuestSetting) (config : Config) (lists : List NamedList) (frames : List ℕ) (vs : List Variant)
    → spread_each setting config lists (on_each frames vs) ≡ on_each frames (spread_each setting config lists vs)
each-on setting config [] frames vs = refl
each-on setting config (list ∷ lists) frames vs =
    let place = place_in config list in
    ap (spread_each setting config lists) (over-each (looped_at setting place) (guest-apart setting place) list.values frames vs)
    ∙ each-on setting config lists frames (spread_over (looped_at setting place) list.values vs)

settings-on : (lists : ValueLists) (frames : List ℕ) (vs : List Variant)
    → settings lists (on_each frames vs) ≡ on_each frames (settings lists vs)
settings-on lists frames vs =
    let one = spread (Machine Swap) lists.swap vs in
    let two = spread (Machine Tax) lists.tax one in
    let three = spread (Machine PageRate) lists.page_rate two in
    ap (λ ws. spread (Machine Rebalance) lists.rebalance (spread (Machine PageRate) lists.page_rate (spread (Machine Tax) lists.tax ws)))
    (spread-on (Machine Swap) (λ n f v. refl) lists.swap frames vs)
    ∙ ap (λ ws. spread (Machine Rebalance) lists.rebalance (spread (Machine PageRate) lists.page_rate ws))
    (spread-on (Machine Tax) (λ n f v. refl) lists.tax frames one)
    ∙ ap (spread (Machine Rebalance) lists.rebalance) (spread-on (Machine PageRate) (λ n f v. refl) lists.page_rate frames two)
    ∙ spread-on (Machine Rebalance) (λ n f v. refl) lists.rebalance frames three

guests-on : (lists : ValueLists) (config : Config) (frames : List ℕ) (vs : List Variant)
    → guests lists config (on_each frames vs) ≡ on_each frames (guests lists config vs)
guests-on lists config frames vs =
    let one = spread Percent lists.min_percent vs in
    let two = spread_each Min config lists.minimums one in
    ap (λ ws. spread_each OfShares config lists.shares (spread_each Min config lists.minimums ws))
    (spread-on Percent (λ n f v. refl) lists.min_percent frames vs)
    ∙ ap (spread_each OfShares config lists.shares) (each-on Min config lists.minimums frames one)
    ∙ each-on OfShares config lists.shares frames two

alone-on : (frames : List ℕ) (v : Variant) → map (λ n. on n v) frames ≡ on_each frames (v ∷ [])
alone-on [] v = refl
alone-on (f ∷ frames) v = ap (λ vs. on f v ∷ vs) (alone-on frames v)

all-on : (frames : Option (List ℕ)) (lists : ValueLists) (config : Config) (v : Variant)
    → guests lists config (settings lists (spread (Machine Frames) frames (v ∷ []))) ≡ on_machines frames (guests lists config (settings lists (v ∷ [])))
all-on None lists config v = refl
all-on (Some frames) lists config v =
    ap (λ vs. guests lists config (settings lists vs)) (append-nil (map (λ n. on n v) frames) ∙ alone-on frames v)
    ∙ ap (guests lists config) (settings-on lists frames (v ∷ [])) ∙ guests-on lists config frames (settings lists (v ∷ []))

pub runs-of_combinations : (lists : ValueLists) (config : Config)
    → variants lists config ≡ spread Seed (option_map (range_with_len 0) lists.seeds) (on_machines lists.frames (combinations lists config))
unfolding variants combinations
runs-of_combinations lists config = ap (spread Seed (option_map (range_with_len 0) lists.seeds)) (all-on lists.frames lists config (own_of config))
