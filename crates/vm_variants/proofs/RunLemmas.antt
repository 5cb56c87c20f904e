-- One run after another: a change that undoes an earlier one, and changes in another order.
use Rattle.std.proofs.Common.{◌≡◌, ◌≢◌, ◌<◌, ◌+◌, ◌%◌, ◌^◌, ◌⊎◌, inl, inr, ℕ, zero, suc, List, [], ◌∷◌, map, length, get_or, Contains, Option, None, Some, refl, ap, sym, ◌∙◌, arith}
use Rattle.std.specs.Prelude.{IsSome}
use Rattle.std.specs.Option.{ForSome}
use Rattle.std.proofs.lemmas.Bool.{cases_eq, false≢true}
use Rattle.std.proofs.lemmas.List.Elements.{All-head, All-tail}
use Rattle.vm_guest.specs.Config.{GuestConfig}
use Rattle.vm_domains.specs.Domains.{Domain}
use Rattle.vm_config.specs.declared.config.Config.{Config}
use Rattle.vm_config.specs.Limits.{IsConfig}
use Rattle.vm_variants.specs.declared.guest_setting.GuestSetting.{GuestSetting}
use Rattle.vm_variants.specs.declared.guest_setting.GuestSetting.TheVariants.{Min, Shares}
use Rattle.vm_variants.specs.declared.guest_value.GuestValue.{GuestValue}
use Rattle.vm_variants.specs.Changes.{changed, first_refusal, no_change, refusal_among, with_percent, with_values, IsForEachOf, IsPercent, IsVariation, Replaces, Variation}
use Rattle.vm_variants.specs.Guests.{with_value}
use Rattle.vm_variants.specs.Variants.{reconfigured, refusal_in, with_guest_value, with_min_percent, with_minimums, with_seed_added, with_seeds_added}
use Rattle.vm_variants.proofs.ListLemmas.{changed-apart, changed-commute, map-changed, map-commute, map-over-changed, map-twice}
use Rattle.vm_variants.proofs.RefusalLemmas.{allowed, among-alike, no-first, no-second, percent-alike, value-alike, values-alike}
use Rattle.vm_variants.proofs.SettingLemmas.{later, limits, percent-limits, seeds-limits, seeds-none, seeds-sum}

-- the configuration with these domains
abbrev with_domains : Config → List Domain → Config
with_domains c ds = record c { domains = ds }

-- what holds of the configurations of guests holds of the guests
lifted : (one other : GuestConfig → GuestConfig) → ((g : GuestConfig) → one g ≡ other g) → (d : Domain) → reconfigured one d ≡ reconfigured other d
lifted one other same d = ap (λ (g : GuestConfig). record d { config = g }) (same d.config)

-- ---- of two changes of guests neither sees the other

value-seed : (setting : GuestSetting) (value added : ℕ) (g : GuestConfig)
    → with_value setting value (with_seed_added added g) ≡ with_seed_added added (with_value setting value g)
value-seed Min value added g = refl
value-seed Shares value added g = refl

value-value : (shares min : ℕ) (g : GuestConfig) → with_value Min min (with_value Shares shares g) ≡ with_value Shares shares (with_value Min min g)
value-value shares min g = refl

percent-shares : (percent shares : ℕ) (g : GuestConfig)
    → with_min_percent percent (with_value Shares shares g) ≡ with_value Shares shares (with_min_percent percent g)
percent-shares percent shares g = refl

percent-seed : (percent added : ℕ) (g : GuestConfig)
    → with_min_percent percent (with_seed_added added g) ≡ with_seed_added added (with_min_percent percent g)
percent-seed percent added g = refl

-- the percentage undoes a minimum, and an earlier percentage
percent-min : (percent min : ℕ) (g : GuestConfig) → with_min_percent percent (with_value Min min g) ≡ with_min_percent percent g
percent-min percent min g = refl

percent-percent : (second first : ℕ) (g : GuestConfig) → with_min_percent second (with_min_percent first g) ≡ with_min_percent second g
percent-percent second first g = refl

-- ---- the same of configurations

one-seeds : (setting : GuestSetting) (place value added : ℕ) (c : Config)
    → with_guest_value setting place value (with_seeds_added added c) ≡ with_seeds_added added (with_guest_value setting place value c)
one-seeds setting place value added c =
    ap (with_domains c)
    (sym (map-changed place (reconfigured (with_seed_added added)) (reconfigured (with_value setting value)) c.domains
    (λ (d : Domain). ap (λ (g : GuestConfig). record d { config = g }) (sym (value-seed setting value added d.config)))))

one-one : (place at shares min : ℕ) (c : Config)
    → with_guest_value Min place min (with_guest_value Shares at shares c) ≡ with_guest_value Shares at shares (with_guest_value Min place min c)
one-one place at shares min c =
    ap (with_domains c)
    (changed-commute place at (reconfigured (with_value Min min)) (reconfigured (with_value Shares shares)) c.domains
    (λ (d : Domain). ap (λ (g : GuestConfig). record d { config = g }) (value-value shares min d.config)))

-- at two places
one-apart : (setting : GuestSetting) (p q first second : ℕ) (c : Config) → p ≢ q
    → with_guest_value setting p first (with_guest_value setting q second c) ≡ with_guest_value setting q second (with_guest_value setting p first c)
one-apart setting p q first second c apart =
    ap (with_domains c)
    (changed-apart p q (reconfigured (with_value setting first)) (reconfigured (with_value setting second)) c.domains apart)

percent-one-shares : (percent place shares : ℕ) (c : Config)
    → with_minimums percent (with_guest_value Shares place shares c) ≡ with_guest_value Shares place shares (with_minimums percent c)
percent-one-shares percent place shares c =
    ap (with_domains c)
    (map-changed place (reconfigured (with_min_percent percent)) (reconfigured (with_value Shares shares)) c.domains
    (λ (d : Domain). ap (λ (g : GuestConfig). record d { config = g }) (percent-shares percent shares d.config)))

percent-one-min : (percent place min : ℕ) (c : Config) → with_minimums percent (with_guest_value Min place min c) ≡ with_minimums percent c
percent-one-min percent place min c =
    ap (with_domains c)
    (map-over-changed place (reconfigured (with_min_percent percent)) (reconfigured (with_value Min min)) c.domains
    (λ (d : Domain). ap (λ (g : GuestConfig). record d { config = g }) (percent-min percent min d.config)))

percent-twice : (second first : ℕ) (c : Config) → with_minimums second (with_minimums first c) ≡ with_minimums second c
percent-twice second first c =
    ap (with_domains c)
    (map-twice (reconfigured (with_min_percent first)) (reconfigured (with_min_percent second)) (reconfigured (with_min_percent second)) c.domains
    (λ (d : Domain). ap (λ (g : GuestConfig). record d { config = g }) (percent-percent second first d.config)))

percent-seeds : (percent : Option ℕ) (added : ℕ) (c : Config)
    → with_percent percent (with_seeds_added added c) ≡ with_seeds_added added (with_percent percent c)
percent-seeds None added c = refl
percent-seeds (Some percent) added c =
    ap (with_domains c)
    (map-commute (reconfigured (with_min_percent percent)) (reconfigured (with_seed_added added)) c.domains
    (λ (d : Domain). ap (λ (g : GuestConfig). record d { config = g }) (percent-seed percent added d.config)))

-- ---- of lists of values

values-seeds : (setting : GuestSetting) (values : List GuestValue) (added : ℕ) (c : Config)
    → with_values setting values (with_seeds_added added c) ≡ with_seeds_added added (with_values setting values c)
values-seeds setting [] added c = refl
values-seeds setting (v ∷ vs) added c =
    ap (with_values setting vs) (one-seeds setting v.place v.value added c)
    ∙ values-seeds setting vs added (with_guest_value setting v.place v.value c)

values-one : (minimums : List GuestValue) (at shares : ℕ) (c : Config)
    → with_values Min minimums (with_guest_value Shares at shares c) ≡ with_guest_value Shares at shares (with_values Min minimums c)
values-one [] at shares c = refl
values-one (v ∷ vs) at shares c =
    ap (with_values Min vs) (one-one v.place at shares v.value c) ∙ values-one vs at shares (with_guest_value Min v.place v.value c)

values-values : (minimums shares : List GuestValue) (c : Config)
    → with_values Min minimums (with_values Shares shares c) ≡ with_values Shares shares (with_values Min minimums c)
values-values minimums [] c = refl
values-values minimums (v ∷ vs) c =
    values-values minimums vs (with_guest_value Shares v.place v.value c)
    ∙ ap (with_values Shares vs) (values-one minimums v.place v.value c)

percent-shares-values : (percent : Option ℕ) (shares : List GuestValue) (c : Config)
    → with_percent percent (with_values Shares shares c) ≡ with_values Shares shares (with_percent percent c)
percent-shares-values None shares c = refl
percent-shares-values (Some percent) [] c = refl
percent-shares-values (Some percent) (v ∷ vs) c =
    percent-shares-values (Some percent) vs (with_guest_value Shares v.place v.value c)
    ∙ ap (with_values Shares vs) (percent-one-shares percent v.place v.value c)

percent-min-values : (percent : ℕ) (minimums : List GuestValue) (c : Config)
    → with_minimums percent (with_values Min minimums c) ≡ with_minimums percent c
percent-min-values percent [] c = refl
percent-min-values percent (v ∷ vs) c =
    percent-min-values percent vs (with_guest_value Min v.place v.value c) ∙ percent-one-min percent v.place v.value c

-- ---- a value for the same guest undoes an earlier one

head-or-rest : (k p q : ℕ) (ps : List ℕ) → k < length (q ∷ ps) → get_or (q ∷ ps) k p ≡ p → (q ≡ p) ⊎ Contains ps p
head-or-rest zero p q ps within is = inl is
head-or-rest (suc k) p q ps within is = inr (k, omega (arith, within), is)

value-undone : (setting : GuestSetting) (values : List GuestValue) (place value : ℕ) (c : Config) → Contains (map (λ w. w.place) values) place
    → with_values setting values (with_guest_value setting place value c) ≡ with_values setting values c
value-undone setting [] place value c there = absurd (omega (arith, there.1))
value-undone setting (v ∷ vs) place value c there =
    elim (cases_eq v.place place) [
      | inl same ↦
          ap (with_values setting vs)
          (ap (λ p. with_guest_value setting p v.value (with_guest_value setting place value c)) same ∙ later setting place value v.value c
          ∙ ap (λ p. with_guest_value setting p v.value c) (sym same))
      | inr apart ↦
          ap (with_values setting vs) (one-apart setting v.place place v.value value c apart)
          ∙ value-undone setting vs place value (with_guest_value setting v.place v.value c)
          (elim (head-or-rest there.0 place v.place (map (λ w. w.place) vs) there.1 there.2) [ inl same ↦ absurd (apart same) | inr rest ↦ rest ])
    ]

values-undone : (setting : GuestSetting) (first second : List GuestValue) (c : Config) → IsForEachOf first second
    → with_values setting second (with_values setting first c) ≡ with_values setting second c
values-undone setting [] second c each = refl
values-undone setting (v ∷ vs) second c each =
    let P : GuestValue → Type 0 = λ v. Contains (map (λ w. w.place) second) v.place in
    values-undone setting vs second (with_guest_value setting v.place v.value c) (All-tail P v vs each)
    ∙ value-undone setting second v.place v.value c (All-head P v vs each)

minimums-undone : (first second : Option ℕ) (before after : List GuestValue) (c : Config) → (IsSome first → IsSome second)
    → IsForEachOf before after
    → with_values Min after (with_percent second (with_values Min before (with_percent first c))) ≡ with_values Min after (with_percent second c)
minimums-undone None None before after c some each = values-undone Min before after c each
minimums-undone (Some first) None before after c some each = absurd (false≢true (some refl))
minimums-undone None (Some second) before after c some each = ap (with_values Min after) (percent-min-values second before c)
minimums-undone (Some first) (Some second) before after c some each =
    ap (with_values Min after) (percent-min-values second before (with_minimums first c) ∙ percent-twice second first c)

-- ---- one run after another

pub next : (first second : Variation) (c : Config) → Replaces first second
    → changed second (changed first c) ≡ changed (record second { added = (first.added + second.added) % 2 ^ 64 }) c
next first second c replaces =
    let minimums = with_values Min first.minimums (with_percent first.percent c) in
    let all = with_values Shares first.shares minimums in
    let last = λ (d : Config). with_seeds_added second.added d in
    let shares = λ (d : Config). with_values Shares second.shares d in
    let least = λ (d : Config). with_values Min second.minimums d in
    ap (λ d. last (shares (least d))) (percent-seeds second.percent first.added all)
    ∙ ap (λ d. last (shares d)) (values-seeds Min second.minimums first.added (with_percent second.percent all))
    ∙ ap last (values-seeds Shares second.shares first.added (least (with_percent second.percent all)))
    ∙ seeds-sum first.added second.added (shares (least (with_percent second.percent all)))
    ∙ ap (with_seeds_added ((first.added + second.added) % 2 ^ 64))
    (ap (λ d. shares (least d)) (percent-shares-values second.percent first.shares minimums)
    ∙ ap shares (values-values second.minimums first.shares (with_percent second.percent minimums))
    ∙ values-undone Shares first.shares second.shares (least (with_percent second.percent minimums)) replaces.shares
    ∙ ap shares (minimums-undone first.percent second.percent first.minimums second.minimums c replaces.percent replaces.minimums))

-- ---- limits

percent-within : (percent : Option ℕ) (c : Config) → ForSome percent IsPercent → IsConfig c → IsConfig (with_percent percent c)
percent-within None c part is = is
percent-within (Some percent) c part is = percent-limits percent c (part percent refl) is

values-within : (setting : GuestSetting) (values : List GuestValue) (c : Config) → refusal_among setting values c ≡ None → IsConfig c
    → IsConfig (with_values setting values c)
values-within setting [] c none is = is
values-within setting (v ∷ vs) c none is =
    let next = with_guest_value setting v.place v.value c in
    values-within setting vs next
    (among-alike setting vs c next (value-alike setting v.place v.value c) ∙ no-second (refusal_in setting v.place v.value c) (refusal_among setting vs c) none)
    (limits setting v.place v.value c
    ((allowed setting v.place v.value _).0 (no-first (refusal_in setting v.place v.value c) (refusal_among setting vs c) none)) is)

pub changed-within : (v : Variation) (c : Config) → IsVariation v → first_refusal v c ≡ None → IsConfig c → IsConfig (changed v c)
changed-within v c part none is =
    let first = with_percent v.percent c in
    let second = with_values Min v.minimums first in
    let no_minimum = no-first (refusal_among Min v.minimums c) (refusal_among Shares v.shares c) none in
    let no_shares = no-second (refusal_among Min v.minimums c) (refusal_among Shares v.shares c) none in
    seeds-limits v.added (with_values Shares v.shares second)
    (values-within Shares v.shares second
    (among-alike Shares v.shares first second (values-alike Min v.minimums first) ∙ among-alike Shares v.shares c first (percent-alike v.percent c) ∙ no_shares)
    (values-within Min v.minimums first (among-alike Min v.minimums c first (percent-alike v.percent c) ∙ no_minimum)
    (percent-within v.percent c part is)))

pub unchanged : (c : Config) → IsConfig c → changed no_change c ≡ c
unchanged c is = seeds-none c is
