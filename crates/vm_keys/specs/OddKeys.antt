-- What is odd about the keys of an object.
use Rattle.std.specs.Prelude.{ℕ, List, [], ◌∷◌, ◌++◌, Bool, ◌&&◌, nat_le, if◌then◌else◌, Option, Some, None, option_map, bytes_eq}
use Rattle.std.specs.List.{find, list_all, list_any}
use Rattle.std.specs.Option.{option_to_list}
use Rattle.std.specs.Str.{chars}
use Rattle.vm_keys.specs.declared.odd.OddKey.{OddKey}
use Rattle.vm_keys.specs.declared.odd.OddKey.TheVariants.{Unknown, Twice}
use Rattle.vm_keys.specs.Changes.{changes}

-- an odd key, as plain data
pub data Odd : Type 0 where
  -- it is none of those known, and of these one may be near
  unknown : List ℕ → Option (List ℕ) → Odd
  -- it is known, and an earlier member has it
  twice : List ℕ → Odd

abbrev pub odd_of : OddKey → Odd
odd_of (Unknown key nearest) = unknown key.now (option_map (λ k. k.now) nearest)
odd_of (Twice key) = twice key.now

-- how many letters have to be changed to make the second key of the first
abbrev pub steps : List ℕ → List ℕ → ℕ
steps key other = changes (chars key) (chars other)

-- it is made of the key by at most two changes, and no other one by fewer
abbrev pub is_nearest : List (List ℕ) → List ℕ → List ℕ → Bool
is_nearest known key one = nat_le (steps key one) 2 && list_all (λ other. nat_le (steps key one) (steps key other)) known

-- the first such one
abbrev pub nearest : List (List ℕ) → List ℕ → Option (List ℕ)
nearest known key = find (is_nearest known key) known

-- the key is one of these
abbrev pub is_among : List (List ℕ) → List ℕ → Bool
is_among keys key = list_any (λ one. bytes_eq one key) keys

-- what is odd about a key behind those of the earlier members
abbrev pub odd_behind : List (List ℕ) → List (List ℕ) → List ℕ → Option Odd
odd_behind known earlier key =
    if is_among known key then (if is_among earlier key then Some (twice key) else None) else Some (unknown key (nearest known key))

-- each odd key, behind those of the earlier members
abbrev pub odd_from : List (List ℕ) → List (List ℕ) → List (List ℕ) → List Odd
odd_from known earlier [] = []
odd_from known earlier (key ∷ keys) = option_to_list (odd_behind known earlier key) ++ odd_from known (earlier ++ key ∷ []) keys

-- of the keys of an object, in their order
abbrev pub odd_keys : List (List ℕ) → List (List ℕ) → List Odd
odd_keys known keys = odd_from known [] keys
