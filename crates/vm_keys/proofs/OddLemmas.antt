-- The odd keys of an object, member by member.
use Rattle.std.proofs.Common.{◌≡◌, ℕ, ◌+◌, ◌<◌, List, [], ◌∷◌, ◌++◌, length, get_or, take, drop, map, Option, append_assoc, refl, sym, ap, ◌∙◌}
use Rattle.std.specs.Option.{option_to_list}
use Rattle.std.specs.Borrow.{Bor}
use Rattle.std.proofs.lemmas.List.{drop_more, take_more, get_or-map}
use Rattle.json.specs.Value.{members_of}
use Rattle.vm_json.specs.Tree.{value_view}
use Rattle.vm_json.specs.declared.value.Value.{Value}
use Rattle.vm_keys.specs.Keys.{keys_of}
use Rattle.vm_keys.specs.OddKeys.{Odd, odd_behind, odd_from}

-- the keys of members, as their values are seen
pub keys-members : (ms : List (Bor (List ℕ) × Value)) → keys_of (members_of (map (λ m. (m.0, value_view m.1)) ms)) ≡ map (λ m. m.0.now) ms
keys-members [] = refl
keys-members (m ∷ ms) = ap (λ ks. m.0.now ∷ ks) (keys-members ms)

pub key_at : (ms : List (Bor (List ℕ) × Value)) (i : ℕ) (m : Bor (List ℕ) × Value) → i < length ms → m ≡ get_or ms i m
    → get_or (map (λ m. m.0.now) ms) i [] ≡ m.0.now
key_at ms i m within is = get_or-map (λ (k : Bor (List ℕ) × Value). k.0.now) ms i m [] within ∙ ap (λ (k : Bor (List ℕ) × Value). k.0.now) (sym is)

-- one more member
pub told_more : (known keys : List (List ℕ)) (i : ℕ) (key : List ℕ) (odd : List Odd) (told : Option Odd) (total : List Odd) → i < length keys
    → get_or keys i [] ≡ key → told ≡ odd_behind known (take i keys) key
    → odd ++ odd_from known (take i keys) (drop i keys) ≡ total
    → (odd ++ option_to_list told) ++ odd_from known (take (i + 1) keys) (drop (i + 1) keys) ≡ total
told_more known keys i key odd told total within at is whole =
    let here : told ≡ odd_behind known (take i keys) (get_or keys i []) = is ∙ ap (odd_behind known (take i keys)) (sym at) in
    let step : odd_from known (take i keys) (drop i keys) ≡ option_to_list told ++ odd_from known (take (i + 1) keys) (drop (i + 1) keys) =
    rw (drop_more keys i [] within, take_more keys i [] within) (ap (λ t. option_to_list t ++ odd_from known (take i keys ++ get_or keys i [] ∷ []) (drop (i + 1) keys)) (sym here)) in
    append_assoc odd (option_to_list told) (odd_from known (take (i + 1) keys) (drop (i + 1) keys)) ∙ (ap (λ r. odd ++ r) (sym step) ∙ whole)
