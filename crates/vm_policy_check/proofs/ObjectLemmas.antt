-- The items of an array, as values and as texts.
use Rattle.std.proofs.Common.{◌≡◌, ℕ, zero, suc, ◌<◌, ◌≤◌, List, [], ◌∷◌, length, get_or, Some, None, refl, sym, ap, arith}
use Rattle.std.specs.Borrow.{Bor}
use Rattle.json.specs.Find.{get_item}
use Rattle.json.specs.Value.{items_of}
use Rattle.vm_json.specs.Tree.{items_view, texts_view, value_view}
use Rattle.vm_json.specs.declared.value.Value.{Value}
use Rattle.vm_policy_check.specs.KnownKeys.{keys_or_none}

pub no_item : (vs : List Value) (n : ℕ) → length vs ≤ n → get_item n (items_view vs) ≡ None
no_item [] zero past = refl
no_item [] (suc n) past = refl
no_item (v ∷ vs) zero past = absurd (omega arith)
no_item (v ∷ vs) (suc n) past = no_item vs n (omega arith)

pub an_item : (vs : List Value) (n : ℕ) (v : Value) → n < length vs → v ≡ get_or vs n v → get_item n (items_view vs) ≡ Some (value_view v)
an_item [] n v within is = absurd (omega arith)
an_item (w ∷ vs) zero v within is = ap (λ (u : Value). Some (value_view u)) (sym is)
an_item (w ∷ vs) (suc n) v within is = an_item vs n v (omega arith) is

-- a text has no keys
pub texts_have_none : (ts : List (Bor (List ℕ))) (n : ℕ) → keys_or_none (get_item n (items_of (texts_view ts))) ≡ []
texts_have_none [] zero = refl
texts_have_none [] (suc n) = refl
texts_have_none (t ∷ ts) zero = refl
texts_have_none (t ∷ ts) (suc n) = texts_have_none ts n
