-- The keys of objects.
use Rattle.std.proofs.Common.{◌≡◌, ℕ, List, [], ◌∷◌, refl, ap, sym, ◌∙◌}
use Rattle.std.specs.Prelude.{map}
use Rattle.std.specs.Borrow.{Bor}
use Rattle.json.specs.declared.value.Value.{Value as Tree}
use Rattle.json.specs.Value as tree
use Rattle.vm_json.specs.declared.value.Value.{Value}
use Rattle.vm_json.specs.Tree as borrowed
use Rattle.vm_keys.specs.Keys.{keys_of}

-- of members without values
bare_keys : (ms : List (Bor (List ℕ) × Value)) → keys_of (borrowed.members_view ms) ≡ map (λ m. m.0.now) ms
bare_keys [] = refl
bare_keys (m ∷ ms) = ap (λ (keys : List (List ℕ)). m.0.now ∷ keys) (bare_keys ms)

-- of the members of a text
tree_keys : {A : Type 0} (ms : List (Bor (List ℕ) × Tree A)) → keys_of (tree.members_view ms) ≡ map (λ m. m.0.now) ms
tree_keys [] = refl
tree_keys (m ∷ ms) = ap (λ (keys : List (List ℕ)). m.0.now ∷ keys) (tree_keys ms)

-- members that keep the keys
pub same_keys : {A : Type 0} (bare : List (Bor (List ℕ) × Value)) (seen ms : List (Bor (List ℕ) × Tree A))
    → map (λ m. m.0.now) bare ≡ map (λ m. m.0.now) seen → seen ≡ ms → keys_of (borrowed.members_view bare) ≡ keys_of (tree.members_view ms)
same_keys {A} bare seen ms same is =
    bare_keys bare ∙ same ∙ ap (λ (members : List (Bor (List ℕ) × Tree A)). map (λ m. m.0.now) members) is ∙ sym (tree_keys ms)
