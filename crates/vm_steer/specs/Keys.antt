-- Numbers that tell names apart: for private contracts alone.
use Rattle.std.specs.Prelude.{ℕ, ◌+◌, ◌*◌, ◌%◌, List, [], ◌∷◌, map}
use Rattle.vm_samples.specs.Policies.{GuestPolicyView}

abbrev pub key_from : ℕ → List ℕ → ℕ
key_from key [] = key
key_from key (byte ∷ bytes) = key_from (key % 1048573 * 257 + byte) bytes

-- names of one number are mostly one name
unfoldable pub key_of : (name : List ℕ) → ℕ
key_of name = key_from 0 name

abbrev pub keys_of : List GuestPolicyView → List ℕ
keys_of guests = map (λ g. key_of g.name) guests
