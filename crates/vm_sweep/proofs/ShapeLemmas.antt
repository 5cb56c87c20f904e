-- All runs of a sweep change the same guests.
use Rattle.std.proofs.Common.{◌≡◌, ◌∙◌, ℕ, List, [], ◌∷◌, ◌++◌, map, All, Option, None, Some, ap, refl}
use Rattle.std.proofs.lemmas.List.{map-append}
use Rattle.std.proofs.lemmas.List.Elements.{All-cons, All-nil}
use Rattle.std.specs.List.{range_with_len}
use Rattle.std.specs.Option.{option_map}
use Rattle.std.specs.Prelude.{true, ⊤}
use Rattle.vm_config.specs.declared.config.Config.{Config}
use Rattle.vm_sweep.specs.Combinations.{NamedList, ValueLists, looped_at, machines, own_of, place_in, spread, spread_each, spread_over, variants, with_looped}
use Rattle.vm_sweep.specs.Orders.{Shape, shape_of}
use Rattle.vm_sweep.specs.declared.variant.Looped.{Looped}
use Rattle.vm_sweep.specs.declared.variant.Looped.TheVariants.{Machine, Percent, Minimum, Shares, Seed}
use Rattle.vm_sweep.specs.declared.variant.Variant.{Variant}
use Rattle.vm_config.specs.declared.settings.Setting.TheVariants.{Frames, Swap, Tax, PageRate, Rebalance}
use Rattle.vm_variants.specs.declared.guest_setting.GuestSetting.{GuestSetting}
use Rattle.vm_variants.specs.declared.guest_setting.GuestSetting.TheVariants.{Min, Shares as OfShares}
use Rattle.vm_variants.specs.declared.guest_value.GuestValue.{GuestValue}

abbrev HasShape : Shape → Variant → Type 0
HasShape shape v = shape_of v.changes ≡ shape

-- by recursion on the list
abbrev AllHave : Shape → List Variant → Type 0
AllHave shape [] = ⊤
AllHave shape (v ∷ vs) = HasShape shape v × AllHave shape vs

all-have : (shape : Shape) (vs : List Variant) → AllHave shape vs → All (HasShape shape) vs
all-have shape [] have = All-nil (HasShape shape)
all-have shape (v ∷ vs) have = All-cons (HasShape shape) v vs have.0 (all-have shape vs have.1)

both-have : (shape : Shape) (vs ws : List Variant) → AllHave shape vs → AllHave shape ws → AllHave shape (vs ++ ws)
both-have shape [] ws first second = second
both-have shape (v ∷ vs) ws first second = (first.0, both-have shape vs ws first.1 second)

-- the shape of runs with a value more
abbrev widened : Looped → Shape → Shape
widened (Machine setting) s = s
widened Percent s = record s { percent = true }
widened (Minimum place) s = record s { minimums = s.minimums ++ place ∷ [] }
widened (Shares place) s = record s { shares = s.shares ++ place ∷ [] }
widened Seed s = s

more-places : (values : List GuestValue) (one : GuestValue) → map (λ m. m.place) (values ++ one ∷ []) ≡ map (λ m. m.place) values ++ one.place ∷ []
more-places values one = map-append (λ (m : GuestValue). m.place) values (one ∷ [])

one-has : (shape : Shape) (what : Looped) (n : ℕ) (v : Variant) → HasShape shape v → HasShape (widened what shape) (with_looped what n v)
one-has shape (Machine setting) n v has = has
one-has shape Percent n v has = ap (λ (s : Shape). record s { percent = true }) has
one-has shape (Minimum place) n v has =
    ap (λ (places : List ℕ). record (shape_of v.changes) { minimums = places }) (more-places v.changes.minimums (record { place = place; value = n }))
    ∙ ap (λ (s : Shape). record s { minimums = s.minimums ++ place ∷ [] }) has
one-has shape (Shares place) n v has =
    ap (λ (places : List ℕ). record (shape_of v.changes) { shares = places }) (more-places v.changes.shares (record { place = place; value = n }))
    ∙ ap (λ (s : Shape). record s { shares = s.shares ++ place ∷ [] }) has
one-has shape Seed n v has = has

each-has : (shape : Shape) (what : Looped) (values : List ℕ) (v : Variant) → HasShape shape v
    → AllHave (widened what shape) (map (λ n. with_looped what n v) values)
each-has shape what [] v has = tt
each-has shape what (n ∷ values) v has = (one-has shape what n v has, each-has shape what values v has)

over-have : (shape : Shape) (what : Looped) (values : List ℕ) (vs : List Variant) → AllHave shape vs
    → AllHave (widened what shape) (spread_over what values vs)
over-have shape what values [] have = tt
over-have shape what values (v ∷ vs) have =
    both-have (widened what shape) (map (λ n. with_looped what n v) values) (spread_over what values vs) (each-has shape what values v have.0)
    (over-have shape what values vs have.1)

-- some shape is that of all
abbrev HaveOne : List Variant → Type 0
HaveOne vs = (shape : Shape) × AllHave shape vs

spread-have : (what : Looped) (values : Option (List ℕ)) (vs : List Variant) → HaveOne vs → HaveOne (spread what values vs)
spread-have what None vs have = have
spread-have what (Some values) vs (shape, have) = (widened what shape, over-have shape what values vs have)

each-have : (setting : GuestSetting) (config : Config) (lists : List NamedList) (vs : List Variant) → HaveOne vs
    → HaveOne (spread_each setting config lists vs)
each-have setting config [] vs have = have
each-have setting config (list ∷ lists) vs (shape, have) =
    let what = looped_at setting (place_in config list) in
    each-have setting config lists (spread_over what list.values vs) (widened what shape, over-have shape what list.values vs have)

machines-have : (lists : ValueLists) (vs : List Variant) → HaveOne vs → HaveOne (machines lists vs)
machines-have lists vs have =
    let one = spread (Machine Frames) lists.frames vs in
    let two = spread (Machine Swap) lists.swap one in
    let three = spread (Machine Tax) lists.tax two in
    let four = spread (Machine PageRate) lists.page_rate three in
    spread-have (Machine Rebalance) lists.rebalance four
    (spread-have (Machine PageRate) lists.page_rate three
    (spread-have (Machine Tax) lists.tax two
    (spread-have (Machine Swap) lists.swap one (spread-have (Machine Frames) lists.frames vs have))))

own-has : (config : Config) → HaveOne (own_of config ∷ [])
own-has config = (shape_of (own_of config).changes, (refl, tt))

all-made : (lists : ValueLists) (config : Config) → HaveOne (variants lists config)
unfolding variants
all-made lists config =
    let one = machines lists (own_of config ∷ []) in
    let two = spread Percent lists.min_percent one in
    let three = spread_each Min config lists.minimums two in
    let four = spread_each OfShares config lists.shares three in
    spread-have Seed (option_map (range_with_len 0) lists.seeds) four
    (each-have OfShares config lists.shares three
    (each-have Min config lists.minimums two
    (spread-have Percent lists.min_percent one (machines-have lists (own_of config ∷ []) (own-has config)))))

pub variants-have : (lists : ValueLists) (config : Config) → (shape : Shape) × All (λ v. shape_of v.changes ≡ shape) (variants lists config)
variants-have lists config =
    let have = all-made lists config in
    (have.0, all-have have.0 (variants lists config) have.1)
