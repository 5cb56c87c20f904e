-- An array of texts.
use Rattle.std.proofs.Common.{◌≡◌, ℕ, suc, ◌≤◌, true, List, [], ◌∷◌, length, map, max, Some, Ok, option_map, refl, ap, le-leb}
use Rattle.std.specs.List.{list_all}
use Rattle.json.specs.Json as json
use Rattle.json.specs.Json.{Items}
use Rattle.json.specs.Tree.{items_depth, ItemsHaveNumbers}
use Rattle.serde_json.specs.Data as value
use Rattle.serde_json.specs.Data.{Data, array, unsigned}
use Rattle.serde_json.specs.Read.{of_items}
use Rattle.vm_config.specs.Keys.{is_text, list_of, text_of, texts_or_none}

abbrev pub strings : List (List ℕ) → Items
strings [] = json.no_items
strings (text ∷ texts) = json.item (json.string text) (strings texts)

abbrev pub strings_data : List (List ℕ) → value.Items
strings_data [] = value.no_items
strings_data (text ∷ texts) = value.item (value.string text) (strings_data texts)

pub of_items-strings : (texts : List (List ℕ)) → of_items (strings texts) ≡ Some (strings_data texts)
of_items-strings [] = refl
of_items-strings (text ∷ texts) = ap (option_map (value.item (value.string text))) (of_items-strings texts)

pub strings-depth : (texts : List (List ℕ)) → items_depth (strings texts) ≡ 0
strings-depth [] = refl
strings-depth (text ∷ texts) = ap (max 0) (strings-depth texts)

pub strings-numbers : (texts : List (List ℕ)) → ItemsHaveNumbers (strings texts)
strings-numbers [] = tt
strings-numbers (text ∷ texts) = (tt, strings-numbers texts)

abbrev pub number_data : ℕ → Data
number_data n = value.number (unsigned n)

-- ---- as a configuration reads it

all-texts : (texts : List (List ℕ)) → list_all is_text (list_of (strings_data texts)) ≡ true
all-texts [] = refl
all-texts (text ∷ texts) = all-texts texts

same-texts : (texts : List (List ℕ)) → map text_of (list_of (strings_data texts)) ≡ texts
same-texts [] = refl
same-texts (text ∷ texts) = ap (λ (l : List (List ℕ)). text ∷ l) (same-texts texts)

length-texts : (texts : List (List ℕ)) → length (list_of (strings_data texts)) ≡ length texts
length-texts [] = refl
length-texts (text ∷ texts) = ap (λ (n : ℕ). suc n) (length-texts texts)

pub texts-read : (texts : List (List ℕ)) → length texts ≤ 1000000 → texts_or_none 1000000 (Some (array (strings_data texts))) ≡ Ok texts
texts-read texts few =
    rw (all-texts texts, length-texts texts, le-leb (length texts) 1000000 few, same-texts texts) refl
