-- Keys that are told apart by their first bytes, and what they name.
use Rattle.std.proofs.Common.{◌≡◌, ◌<◌, ℕ, List, [], ◌∷◌, length, refl, arith, Bool, false, cond, Option, Some, None, bytes_eq, codes, slice_index, ap, sym, ◌∙◌}
use Rattle.std.proofs.lemmas.Bool.{false_from_ne_true}
use Rattle.std.proofs.lemmas.Slice.Eq.{bytes_eq-Decides}
use Rattle.vm_samples.specs.declared.field.Field.{Field}
use Rattle.vm_samples.specs.declared.field.Field.TheVariants.{State, Current, Maximum, Usable, Unused, SwapIn}
use Rattle.vm_samples.specs.SampleLines.{field_of}

pub apart : (key word : List ℕ) → (slice_index key 0 ≡ slice_index word 0 → ⊥) → bytes_eq key word ≡ false
apart key word differ =
    false_from_ne_true (bytes_eq key word) (λ is. differ (ap (λ (l : List ℕ). slice_index l 0) ((bytes_eq-Decides key word).0 is)))

-- what a comparison told
pub told : (key word found : List ℕ) (result is : Bool) → result ≡ bytes_eq key found → found ≡ word → result ≡ is → bytes_eq key word ≡ is
told key word found result is compared same answer = ap (bytes_eq key) (sym same) ∙ sym compared ∙ answer

-- the field by all comparisons
abbrev pub field_by : (state current maximum usable unused swap_in : Bool) → Option Field
field_by state current maximum usable unused swap_in =
    cond state (Some State) (cond current (Some Current) (cond maximum (Some Maximum) (cond usable (Some Usable) (cond unused (Some Unused) (cond swap_in (Some SwapIn) None)))))

pub field_is : (key : List ℕ) (state current maximum usable unused swap_in : Bool)
    → bytes_eq key (codes "state.state") ≡ state → bytes_eq key (codes "balloon.current") ≡ current → bytes_eq key (codes "balloon.maximum") ≡ maximum
    → bytes_eq key (codes "balloon.usable") ≡ usable → bytes_eq key (codes "balloon.unused") ≡ unused → bytes_eq key (codes "balloon.swap_in") ≡ swap_in
    → field_by state current maximum usable unused swap_in ≡ field_of key
unfolding field_of
field_is key state current maximum usable unused swap_in a b c d e f =
    sym (λ i. field_by (a i) (b i) (c i) (d i) (e i) (f i))

pub none_named : (key : List ℕ) → length key < 1 → None ≡ field_of key
unfolding field_of
none_named [] none = refl
none_named (byte ∷ bytes) none = absurd (omega arith)

pub other_named : (key : List ℕ) → (slice_index key 0 ≡ 115 → ⊥) → (slice_index key 0 ≡ 98 → ⊥) → None ≡ field_of key
other_named key state balloon =
    field_is key false false false false false false
    (apart key (codes "state.state") state) (apart key (codes "balloon.current") balloon) (apart key (codes "balloon.maximum") balloon)
    (apart key (codes "balloon.usable") balloon) (apart key (codes "balloon.unused") balloon) (apart key (codes "balloon.swap_in") balloon)
