-- One run after another, each of the configuration that the one before left.
use Rattle.std.proofs.Common.{◌≡◌, ◌∙◌, ◌+◌, ◌%◌, ◌^◌, ℕ, List, [], ◌∷◌, map, All, Contains, Option, None, Some, IfSome, ap, sym, subst, refl, arith}
use Rattle.std.specs.Prelude.{IsSome, is_some}
use Rattle.std.proofs.lemmas.List.{get_or-map, length-map}
use Rattle.std.proofs.lemmas.List.Elements.{All-contains_itself}
use Rattle.std.proofs.Math.Nat.{add-mod-mod}
use Rattle.vm_config.specs.declared.config.Config.{Config}
use Rattle.vm_domains.specs.Domains.{Domain}
use Rattle.vm_tally.specs.Combinations.{Values, configured}
use Rattle.vm_sweep.specs.Orders.{IsVaried, Shape, shape_of}
use Rattle.vm_variants.specs.Changes.{changed, with_percent, with_values, Replaces, Variation}
use Rattle.vm_variants.specs.Variants.{reconfigured, with_guest_value, with_seed_added, with_seeds_added}
use Rattle.vm_variants.specs.declared.guest_setting.GuestSetting.{GuestSetting}
use Rattle.vm_variants.specs.declared.guest_setting.GuestSetting.TheVariants.{Min, Shares}
use Rattle.vm_variants.specs.declared.guest_value.GuestValue.{GuestValue}

-- ---- settings of the machine and changes of guests don't see each other

percent-apart : (v : Values) (percent : Option ℕ) (c : Config) → configured v (with_percent percent c) ≡ with_percent percent (configured v c)
percent-apart v None c = refl
percent-apart v (Some percent) c = refl

values-apart : (v : Values) (setting : GuestSetting) (values : List GuestValue) (c : Config)
    → configured v (with_values setting values c) ≡ with_values setting values (configured v c)
values-apart v setting [] c = refl
values-apart v setting (one ∷ values) c = values-apart v setting values (with_guest_value setting one.place one.value c)

changed-apart : (v : Values) (w : Variation) (c : Config) → configured v (changed w c) ≡ changed w (configured v c)
changed-apart v w c =
    let first = with_percent w.percent c in
    let second = with_values Min w.minimums first in
    ap (with_seeds_added w.added)
    (values-apart v Shares w.shares second
    ∙ ap (with_values Shares w.shares) (values-apart v Min w.minimums first ∙ ap (with_values Min w.minimums) (percent-apart v w.percent c)))

-- ---- seeds that are added to from the text's own

modulo : (seed added modulus : ℕ) → (seed + (0 + added) % modulus) % modulus ≡ (seed + added) % modulus
modulo seed added modulus =
    let none : 0 + added ≡ added = omega arith in
    add-mod-mod seed (0 + added) modulus ∙ ap (λ (n : ℕ). (seed + n) % modulus) none

seeds-modulo : (added : ℕ) (ds : List Domain)
    → map (reconfigured (with_seed_added ((0 + added) % 2 ^ 64))) ds ≡ map (reconfigured (with_seed_added added)) ds
seeds-modulo added [] = refl
seeds-modulo added (d ∷ ds) =
    λ i. record d { config = record d.config { seed = modulo d.config.seed added (2 ^ 64) i } } ∷ seeds-modulo added ds i

same-modulo : (added : ℕ) (c : Config) → with_seeds_added ((0 + added) % 2 ^ 64) c ≡ with_seeds_added added c
same-modulo added c = ap (λ (ds : List Domain). record c { domains = ds }) (seeds-modulo added c.domains)

-- without what was added to seeds
abbrev pub unseeded : Variation → Variation
unseeded w = record w { added = 0 }

pub taken-back : (sum : (first second : ℕ) (c : Config) → with_seeds_added second (with_seeds_added first c) ≡ with_seeds_added ((first + second) % 2 ^ 64) c)
    (w : Variation) (back : ℕ) (old new before : Config) → (back + w.added) % 2 ^ 64 ≡ 0 → new ≡ with_seeds_added back old
    → old ≡ changed w before → new ≡ changed (unseeded w) before
taken-back sum w back old new before none is was =
    let third = with_values Shares w.shares (with_values Min w.minimums (with_percent w.percent before)) in
    is ∙ ap (with_seeds_added back) was ∙ sum w.added back third
    ∙ ap (λ (n : ℕ). with_seeds_added n third) (omega (arith, none))

-- ---- runs that change the same guests

own-places : {X Y : Type 0} (f : X → Y) (xs : List X) → All (λ x. Contains (map f xs) (f x)) xs
own-places f xs = λ k d less.
    subst (Contains (map f xs)) (get_or-map f xs k d (f d) less)
    (All-contains_itself (map f xs) k (f d) (omega (arith, less, length-map xs f)))

some-there : (first second : Option ℕ) → is_some first ≡ is_some second → IsSome first → IsSome second
some-there first second same some = sym same ∙ some

replaces : (w other : Variation) → shape_of w ≡ shape_of other → Replaces (unseeded w) other
replaces w other same = record {
  percent = some-there w.percent other.percent (ap (λ (s : Shape). s.percent) same);
  minimums = subst (λ (places : List ℕ). All (λ v. Contains places v.place) w.minimums) (ap (λ (s : Shape). s.minimums) same) (own-places (λ (v : GuestValue). v.place) w.minimums);
  shares = subst (λ (places : List ℕ). All (λ v. Contains places v.place) w.shares) (ap (λ (s : Shape). s.shares) same) (own-places (λ (v : GuestValue). v.place) w.shares);
}

-- what is left of a run serves for the others
pub varied-next : (next : (first second : Variation) (c : Config) → Replaces first second
    → changed second (changed first c) ≡ changed (record second { added = (first.added + second.added) % 2 ^ 64 }) c)
    (base c left : Config) (v : Values) (w : Variation) → left ≡ changed (unseeded w) (configured v c) → IsVaried base (shape_of w) c
    → IsVaried base (shape_of w) left
varied-next next base c left v w is varied = λ other more alike.
    let there = configured other c in
    let least = with_values Shares more.shares (with_values Min more.minimums (with_percent more.percent there)) in
    ap (λ (d : Config). changed more (configured other d)) is
    ∙ ap (changed more) (changed-apart other (unseeded w) (configured v c))
    ∙ next (unseeded w) more there (replaces w more (sym alike))
    ∙ same-modulo more.added least
    ∙ varied other more alike

-- the configuration that a thread has
pub taken : (P : Config → Type 0) (old there : Option Config) (config : Config) → there ≡ old → there ≡ Some config → IfSome old P → P config
taken P old there config same is all = subst (λ (o : Option Config). IfSome o P) (sym same ∙ is) all
