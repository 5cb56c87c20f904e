-- Values that are looked at, and given, one after the other.
use Rattle.std.proofs.Common.{◌≡◌, ◌<◌, ◌≤◌, ◌+◌, ℕ, List, ◌∷◌, length, drop, get_or, Option, None, Some, ap, sym, ◌∙◌}
use Rattle.std.specs.Option.{option_or}
use Rattle.std.proofs.lemmas.List.{drop_all, drop_more}
use Rattle.vm_config.specs.declared.config.Config.{Config}
use Rattle.vm_variants.specs.declared.error.GuestError.{GuestError}
use Rattle.vm_variants.specs.declared.guest_setting.GuestSetting.{GuestSetting}
use Rattle.vm_variants.specs.declared.guest_value.GuestValue.{GuestValue}
use Rattle.vm_variants.specs.declared.guest_setting.GuestSetting.TheVariants.{Min, Shares}
use Rattle.vm_variants.specs.Changes.{first_refusal, refusal_among, with_percent, with_values, Variation}
use Rattle.vm_variants.specs.Variants.{refusal_in, with_guest_value}
use Rattle.vm_variants.proofs.RefusalLemmas.{among-alike, no-first, no-second, percent-alike, value-alike, values-alike}

-- the next of the values from this one on
left : (values : List GuestValue) (i : ℕ) (v d : GuestValue) → i < length values → v ≡ get_or values i d
    → drop i values ≡ v ∷ drop (i + 1) values
left values i v d there is = drop_more values i d there ∙ ap (λ w. w ∷ drop (i + 1) values) (sym is)

-- the next one is refused
pub refused-next : (setting : GuestSetting) (values : List GuestValue) (i : ℕ) (v d : GuestValue) (c : Config) (e : GuestError) (whole : Option GuestError)
    → i < length values → v ≡ get_or values i d → refusal_in setting v.place v.value c ≡ Some e
    → refusal_among setting (drop i values) c ≡ whole → Some e ≡ whole
refused-next setting values i v d c e whole there is refused all =
    sym (ap (λ vs. refusal_among setting vs c) (left values i v d there is)
    ∙ ap (λ first. option_or first (refusal_among setting (drop (i + 1) values) c)) refused)
    ∙ all

-- it isn't
pub taken-next : (setting : GuestSetting) (values : List GuestValue) (i : ℕ) (v d : GuestValue) (c : Config) (whole : Option GuestError)
    → i < length values → v ≡ get_or values i d → refusal_in setting v.place v.value c ≡ None
    → refusal_among setting (drop i values) c ≡ whole → refusal_among setting (drop (i + 1) values) c ≡ whole
taken-next setting values i v d c whole there is taken all =
    sym (ap (λ vs. refusal_among setting vs c) (left values i v d there is)
    ∙ ap (λ first. option_or first (refusal_among setting (drop (i + 1) values) c)) taken)
    ∙ all

-- none is left
pub none-left : (setting : GuestSetting) (values : List GuestValue) (i : ℕ) (c : Config) (whole : Option GuestError) → length values ≤ i
    → refusal_among setting (drop i values) c ≡ whole → None ≡ whole
none-left setting values i c whole past all = sym (ap (λ vs. refusal_among setting vs c) (drop_all i values past)) ∙ all

-- ---- given

pub next-allowed : (setting : GuestSetting) (values : List GuestValue) (i : ℕ) (v d : GuestValue) (c : Config)
    → i < length values → v ≡ get_or values i d → refusal_among setting (drop i values) c ≡ None → refusal_in setting v.place v.value c ≡ None
next-allowed setting values i v d c there is none =
    no-first (refusal_in setting v.place v.value c) (refusal_among setting (drop (i + 1) values) c)
    (sym (ap (λ vs. refusal_among setting vs c) (left values i v d there is)) ∙ none)

pub rest-allowed : (setting : GuestSetting) (values : List GuestValue) (i : ℕ) (v d : GuestValue) (c next : Config)
    → i < length values → v ≡ get_or values i d → next ≡ with_guest_value setting v.place v.value c
    → refusal_among setting (drop i values) c ≡ None → refusal_among setting (drop (i + 1) values) next ≡ None
rest-allowed setting values i v d c next there is given none =
    ap (refusal_among setting (drop (i + 1) values)) given
    ∙ among-alike setting (drop (i + 1) values) c (with_guest_value setting v.place v.value c) (value-alike setting v.place v.value c)
    ∙ no-second (refusal_in setting v.place v.value c) (refusal_among setting (drop (i + 1) values) c)
    (sym (ap (λ vs. refusal_among setting vs c) (left values i v d there is)) ∙ none)

pub rest-given : (setting : GuestSetting) (values : List GuestValue) (i : ℕ) (v d : GuestValue) (c next whole : Config)
    → i < length values → v ≡ get_or values i d → next ≡ with_guest_value setting v.place v.value c
    → with_values setting (drop i values) c ≡ whole → with_values setting (drop (i + 1) values) next ≡ whole
rest-given setting values i v d c next whole there is given all =
    ap (with_values setting (drop (i + 1) values)) given
    ∙ sym (ap (λ vs. with_values setting vs c) (left values i v d there is)) ∙ all

pub all-given : (setting : GuestSetting) (values : List GuestValue) (i : ℕ) (c whole : Config) → length values ≤ i
    → with_values setting (drop i values) c ≡ whole → c ≡ whole
all-given setting values i c whole past all = sym (ap (λ vs. with_values setting vs c) (drop_all i values past)) ∙ all

-- ---- of all changes of a run

pub minimums-allowed : (v : Variation) (percent : Option ℕ) (minimums : List GuestValue) (c checked first : Config)
    → None ≡ first_refusal v c → checked ≡ c → first ≡ with_percent percent checked → minimums ≡ v.minimums
    → refusal_among Min minimums first ≡ None
minimums-allowed v percent minimums c checked first none same made are =
    ap (λ vs. refusal_among Min vs first) are ∙ ap (refusal_among Min v.minimums) (made ∙ ap (with_percent percent) same)
    ∙ among-alike Min v.minimums c (with_percent percent c) (percent-alike percent c)
    ∙ no-first (refusal_among Min v.minimums c) (refusal_among Shares v.shares c) (sym none)

pub shares-allowed : (v : Variation) (percent : Option ℕ) (minimums shares : List GuestValue) (c checked first second : Config)
    → None ≡ first_refusal v c → checked ≡ c → first ≡ with_percent percent checked → second ≡ with_values Min minimums first → shares ≡ v.shares
    → refusal_among Shares shares second ≡ None
shares-allowed v percent minimums shares c checked first second none same made given are =
    ap (λ vs. refusal_among Shares vs second) are ∙ ap (refusal_among Shares v.shares) given
    ∙ among-alike Shares v.shares first (with_values Min minimums first) (values-alike Min minimums first)
    ∙ ap (refusal_among Shares v.shares) (made ∙ ap (with_percent percent) same)
    ∙ among-alike Shares v.shares c (with_percent percent c) (percent-alike percent c)
    ∙ no-second (refusal_among Min v.minimums c) (refusal_among Shares v.shares c) (sym none)
