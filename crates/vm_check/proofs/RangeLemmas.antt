-- What versions allow.
use Rattle.std.proofs.Common.{◌≡◌, ℕ, refl, sym, ◌∙◌, arith}
use Rattle.std.specs.Prelude.{◌==◌, if◌then◌else◌, Bool, true, false}
use Rattle.std.proofs.lemmas.Bool.Decides.{nat_tests}
use Rattle.vm_config.specs.Versions.{version_1, version_2, version_3}
use Rattle.vm_check.specs.Ranges.{most_frames, most_pages, most_swap, most_tax}

-- version 1 has one number, and the others another
first_number : (first later : ℕ) (version : ℕ) → version ≡ 1 → (if version == 1 then first else later) ≡ first
first_number first later version is = grind (arith, nat_tests)

later_number : (first later : ℕ) (version : ℕ) → (version ≡ 1 → ⊥) → (if version == 1 then first else later) ≡ later
later_number first later version not_1 = grind (arith, nat_tests)

frames_by : (one two : Bool) → (if one then version_1 else (if two then version_2 else version_3)).frames ≡ (if one then 65536 else 262144)
unfolding version_1 version_2 version_3
frames_by true two = refl
frames_by false true = refl
frames_by false false = refl

swap_by : (one two : Bool) → (if one then version_1 else (if two then version_2 else version_3)).swap ≡ (if one then 4194304 else 67108864)
unfolding version_1 version_2 version_3
swap_by true two = refl
swap_by false true = refl
swap_by false false = refl

tax_by : (one two : Bool) → (if one then version_1 else (if two then version_2 else version_3)).tax ≡ (if one then 99 else 9999)
unfolding version_1 version_2 version_3
tax_by true two = refl
tax_by false true = refl
tax_by false false = refl

size_by : (one two : Bool) → (if one then version_1 else (if two then version_2 else version_3)).size ≡ (if one then 65536 else 262144)
unfolding version_1 version_2 version_3
size_by true two = refl
size_by false true = refl
size_by false false = refl

pub frames_first : (version : ℕ) → version ≡ 1 → 65536 ≡ most_frames version
frames_first version is = sym (frames_by (version == 1) (version == 2) ∙ first_number 65536 262144 version is)

pub frames_later : (version : ℕ) → (version ≡ 1 → ⊥) → 262144 ≡ most_frames version
frames_later version not_1 = sym (frames_by (version == 1) (version == 2) ∙ later_number 65536 262144 version not_1)

pub swap_first : (version : ℕ) → version ≡ 1 → 4194304 ≡ most_swap version
swap_first version is = sym (swap_by (version == 1) (version == 2) ∙ first_number 4194304 67108864 version is)

pub swap_later : (version : ℕ) → (version ≡ 1 → ⊥) → 67108864 ≡ most_swap version
swap_later version not_1 = sym (swap_by (version == 1) (version == 2) ∙ later_number 4194304 67108864 version not_1)

pub tax_first : (version : ℕ) → version ≡ 1 → 99 ≡ most_tax version
tax_first version is = sym (tax_by (version == 1) (version == 2) ∙ first_number 99 9999 version is)

pub tax_later : (version : ℕ) → (version ≡ 1 → ⊥) → 9999 ≡ most_tax version
tax_later version not_1 = sym (tax_by (version == 1) (version == 2) ∙ later_number 99 9999 version not_1)

pub pages_first : (version : ℕ) → version ≡ 1 → 65536 ≡ most_pages version
pages_first version is = sym (size_by (version == 1) (version == 2) ∙ first_number 65536 262144 version is)

pub pages_later : (version : ℕ) → (version ≡ 1 → ⊥) → 262144 ≡ most_pages version
pages_later version not_1 = sym (size_by (version == 1) (version == 2) ∙ later_number 65536 262144 version not_1)
