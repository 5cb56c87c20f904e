-- When bytes are a JSON value.
use Rattle.std.proofs.Common.{◌≡◌, ℕ, List, Bool, true, false, Some, None, Ok, Err, cond, refl}
use Rattle.std.proofs.lemmas.Str.{IsUtf8-from_is_utf8, is_utf8-from_IsUtf8}
use Rattle.std.specs.Str.{IsUtf8, is_utf8}
use Rattle.serde_json.specs.Data.{Data}
use Rattle.serde_json.specs.Read.{read}
use Rattle.vm_samples.specs.declared.fault.Wrong.TheVariants.{NotJson}
use Rattle.vm_samples.specs.PolicyOf.{data_in, json_in}

pub data_in_read : (bytes : List ℕ) (d : Data) → IsUtf8 bytes → read bytes ≡ Some d → data_in bytes ≡ Ok d
data_in_read bytes d utf8 is = rw (is_utf8-from_IsUtf8 bytes utf8, is) refl

refused_if : (bytes : List ℕ) → (IsUtf8 bytes → read bytes ≡ None) → (b : Bool) → is_utf8 bytes ≡ b → cond b (json_in (read bytes)) (Err NotJson) ≡ Err NotJson
refused_if bytes none true is = rw (none (IsUtf8-from_is_utf8 bytes is)) refl
refused_if bytes none false is = refl

pub data_in_refused : (bytes : List ℕ) → (IsUtf8 bytes → read bytes ≡ None) → data_in bytes ≡ Err NotJson
data_in_refused bytes none = refused_if bytes none (is_utf8 bytes) refl
