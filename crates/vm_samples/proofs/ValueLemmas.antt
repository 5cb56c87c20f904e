-- The items of an array, as a list.
use Rattle.std.proofs.Common.{◌≡◌, ℕ, List, [], ◌∷◌, map, length, Err, refl, ap}
use Rattle.std.proofs.lemmas.List.{length-map}
use Rattle.std.proofs.lemmas.List.Folds.{list_all-map}
use Rattle.std.specs.List.{list_all}
use Rattle.std.specs.Borrow.{Bor}
use Rattle.serde_json.specs.Data.{Data, string}
use Rattle.serde_json.specs.View.{items_of}
use Rattle.vm_json.specs.View.{view}
use Rattle.vm_json.specs.declared.value.Value.{Value}
use Rattle.vm_samples.specs.declared.fault.Wrong.TheVariants.{NotNumbers, NotObjects}
use Rattle.vm_samples.specs.Keys.{is_object, is_whole, list_of, objects_among, percents_among}

pub list_of_items : (ds : List Data) → list_of (items_of ds) ≡ ds
list_of_items [] = refl
list_of_items (d ∷ ds) = ap (λ rest. d ∷ rest) (list_of_items ds)

pub objects_seen : (values : List Value) → list_all is_object (map view values) ≡ list_all (λ v. is_object (view v)) values
objects_seen values = list_all-map is_object view values

pub whole_seen : (values : List Value) → list_all is_whole (map view values) ≡ list_all (λ v. is_whole (view v)) values
whole_seen values = list_all-map is_whole view values

pub count_seen : (values : List Value) → length (map view values) ≡ length values
count_seen values = length-map values view

pub texts_no_objects : (ts : List (Bor (List ℕ))) (limit : ℕ) → (length {A = Data} (map (λ t. string t.now) ts) ≡ 0 → ⊥) → objects_among limit (map (λ t. string t.now) ts) ≡ Err NotObjects
texts_no_objects [] limit some = absurd (some refl)
texts_no_objects (t ∷ ts) limit some = refl

pub texts_no_percents : (ts : List (Bor (List ℕ))) (greatest : ℕ) → (length ts ≡ 0 → ⊥) → percents_among greatest (map (λ t. string t.now) ts) ≡ Err NotNumbers
texts_no_percents [] greatest some = absurd (some refl)
texts_no_percents (t ∷ ts) greatest some = refl
