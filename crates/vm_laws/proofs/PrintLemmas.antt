-- Texts of JSON values, with commas between those of a list.
use Rattle.std.proofs.Common.{◌≡◌, ℕ, true, false, List, [], ◌∷◌, ◌++◌, refl, sym, ap, ◌∙◌, append_assoc, append-nil}
use Rattle.std.specs.List.{join_with_byte}
use Rattle.json.specs.Json as json
use Rattle.json.specs.Json.{Json, Items}
use Rattle.json.specs.Token.{Token}
use Rattle.json.specs.Tree.{items_tokens, json_tokens}
use Rattle.vm_laws.proofs.TokenLemmas.{text_before}

-- this is the text of the value, whatever stands behind it
abbrev pub Prints : Json → List ℕ → Type 0
Prints j text = (ts : List Token) (rest : List ℕ) → text_before false (json_tokens j ++ ts) rest ≡ text ++ text_before true ts rest

-- these are the texts of the values
abbrev pub ArePrinted : Items → List (List ℕ) → Type 0
ArePrinted json.no_items [] = Unit {0}
ArePrinted json.no_items (text ∷ texts) = ⊥
ArePrinted (json.item j js) [] = ⊥
ArePrinted (json.item j js) (text ∷ texts) = Prints j text × ArePrinted js texts

-- behind another value there is a comma
behind : (j : Json) (ts : List Token) (rest : List ℕ)
    → text_before true (json_tokens j ++ ts) rest ≡ 44 ∷ text_before false (json_tokens j ++ ts) rest
unfolding text_before
behind json.null ts rest = refl
behind (json.boolean b) ts rest = refl
behind (json.number s) ts rest = refl
behind (json.string s) ts rest = refl
behind (json.array js) ts rest = refl
behind (json.object ms) ts rest = refl

-- more texts, behind one
more : List (List ℕ) → List ℕ
more [] = []
more (text ∷ texts) = 44 ∷ (text ++ more texts)

joined-more : (text : List ℕ) (texts : List (List ℕ)) → join_with_byte 44 (text ∷ texts) ≡ text ++ more texts
unfolding more
joined-more text [] = sym (append-nil text)
joined-more text (next ∷ texts) = ap (λ (l : List ℕ). text ++ 44 ∷ l) (joined-more next texts)

module _ (ts : List Token) (rest : List ℕ) where
  printed-more : (js : Items) (texts : List (List ℕ)) → ArePrinted js texts
      → text_before true (items_tokens js ++ ts) rest ≡ more texts ++ 93 ∷ text_before true ts rest
  unfolding text_before more
  printed-more json.no_items [] are = refl
  printed-more json.no_items (text ∷ texts) are = absurd are
  printed-more (json.item j js) [] are = absurd are
  printed-more (json.item j js) (text ∷ texts) are =
      ap (λ (l : List Token). text_before true l rest) (append_assoc (json_tokens j) (items_tokens js) ts)
      ∙ behind j (items_tokens js ++ ts) rest
      ∙ ap (λ (l : List ℕ). 44 ∷ l)
      (are.0 (items_tokens js ++ ts) rest
      ∙ ap (λ (l : List ℕ). text ++ l) (printed-more js texts are.1)
      ∙ sym (append_assoc text (more texts) _))

  -- the items of an array, with the closing bracket
  pub printed-items : (js : Items) (texts : List (List ℕ)) → ArePrinted js texts
      → text_before false (items_tokens js ++ ts) rest ≡ join_with_byte 44 texts ++ 93 ∷ text_before true ts rest
  unfolding text_before
  printed-items json.no_items [] are = refl
  printed-items json.no_items (text ∷ texts) are = absurd are
  printed-items (json.item j js) [] are = absurd are
  printed-items (json.item j js) (text ∷ texts) are =
      ap (λ (l : List Token). text_before false l rest) (append_assoc (json_tokens j) (items_tokens js) ts)
      ∙ are.0 (items_tokens js ++ ts) rest
      ∙ ap (λ (l : List ℕ). text ++ l) (printed-more js texts are.1)
      ∙ sym (append_assoc text (more texts) _)
      ∙ ap (λ (l : List ℕ). l ++ 93 ∷ text_before true ts rest) (sym (joined-more text texts))
