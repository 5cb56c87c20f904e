-- The JSON value of a text.
use Rattle.std.proofs.Common.{◌≡◌, ℕ, Bool, true, false, List, Option, None, refl, sym, ap, ◌∙◌}
use Rattle.std.specs.Prelude.{if◌then◌else◌}
use Rattle.std.specs.Str.{is_utf8, IsUtf8}
use Rattle.std.proofs.lemmas.Str.{IsUtf8-from_is_utf8, is_utf8-from_IsUtf8}
use Rattle.json.specs.Json.{Json, document}
use Rattle.vm_check.specs.Document.{tree_in}

no_tree : (bytes : List ℕ) (test : Bool) → is_utf8 bytes ≡ test → (IsUtf8 bytes → ⊥)
    → ◌≡◌ {A = Option Json} (if test then document bytes else None) None
no_tree bytes true is no_text = absurd (no_text (IsUtf8-from_is_utf8 bytes is))
no_tree bytes false is no_text = refl

-- other bytes are none
pub tree_of_others : (bytes : List ℕ) → (IsUtf8 bytes → ⊥) → None ≡ tree_in bytes
tree_of_others bytes no_text = sym (no_tree bytes (is_utf8 bytes) refl no_text)

-- a text is what its document is
pub tree_of_text : (bytes text : List ℕ) → text ≡ bytes → IsUtf8 bytes → tree_in bytes ≡ document text
tree_of_text bytes text same is_text =
    ap (λ (test : Bool). if test then document bytes else None) (is_utf8-from_IsUtf8 bytes is_text) ∙ sym (ap document same)
