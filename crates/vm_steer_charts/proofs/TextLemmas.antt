-- A guest's name is text.
use Rattle.std.proofs.Common.{◌≡◌, ℕ, zero, suc, ◌<◌, ◌&&◌, Bool, true, false, List, [], ◌∷◌, length, nat_le, not, refl, arith}
use Rattle.std.proofs.lemmas.Bool.{false≢true}
use Rattle.std.proofs.lemmas.Bool.Decides.{nat_tests}
use Rattle.std.proofs.lemmas.Str.{IsUtf8-from_ascii}
use Rattle.std.specs.List.{list_all}
use Rattle.std.specs.Prelude.{◌==◌, slice_index}
use Rattle.std.specs.Str.{IsAscii, IsUtf8}
use Rattle.vm_samples.specs.Names.{is_name, is_name_byte}

both : (a b : Bool) → (a && b) ≡ true → (a ≡ true) × (b ≡ true)
both true b is = (refl, is)
both false b is = absurd (false≢true is)

last : (a b c d : Bool) → (a && b && c && d) ≡ true → d ≡ true
last a b c true is = refl
last true true true false is = is
last true true false false is = is
last true false c false is = is
last false b c false is = is

byte_ascii : (b : ℕ) → is_name_byte b ≡ true → b < 128
byte_ascii b is = grind (arith, nat_tests, is)

bytes_ascii : (bytes : List ℕ) → list_all is_name_byte bytes ≡ true → IsAscii bytes
bytes_ascii [] all i = omega arith
bytes_ascii (b ∷ bytes) all zero = byte_ascii b (both (is_name_byte b) (list_all is_name_byte bytes) all).0
bytes_ascii (b ∷ bytes) all (suc i) = bytes_ascii bytes (both (is_name_byte b) (list_all is_name_byte bytes) all).1 i

pub name_utf8 : (name : List ℕ) → is_name name ≡ true → IsUtf8 name
name_utf8 name is =
    IsUtf8-from_ascii name (bytes_ascii name (last (nat_le 1 (length name)) (nat_le (length name) 32) (not (slice_index name 0 == 45)) (list_all is_name_byte name) is))
