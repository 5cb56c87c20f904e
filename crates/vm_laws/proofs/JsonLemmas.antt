-- The JSON value that the text of an import is.
use Rattle.std.proofs.Common.{◌≡◌, ℕ, ◌^◌, ◌<◌, ◌≤◌, List, [], ◌∷◌, codes, false, Some, decimal, option_and_then, refl, sym, ap, ◌∙◌, arith, append-nil}
use Rattle.std.proofs.lemmas.Fmt.{decimal_digit}
use Rattle.json.specs.Json as json
use Rattle.json.specs.Json.{Json, Members, if_last}
use Rattle.json.specs.Print.{IsNumber}
use Rattle.json.specs.Tree.{depth, json_tokens, HasNumbers}
use Rattle.json.specs.Word.{after_number}
use Rattle.json.proofs.Printed.Decimals.{IsNumber-decimal}
use Rattle.json.proofs.Printed.Trees.{ArePrintable-json_tokens, value-json_tokens}
use Rattle.serde_json.specs.Data as value
use Rattle.serde_json.specs.Data.{Data, put, unsigned}
use Rattle.serde_json.specs.Read.{number_of, of_json, read, max_depth}
use Rattle.serde_json.proofs.Numbers.{number_of-decimal}
use Rattle.vm_laws.proofs.StringLemmas.{number_data, of_items-strings, strings, strings_data, strings-depth, strings-numbers}
use Rattle.vm_laws.proofs.TokenLemmas.{text_before, tokens-ended}

-- ---- numbers

two : number_of (50 ∷ []) ≡ Some (unsigned 2)
two = ap number_of (sym (decimal_digit 2 (omega arith))) ∙ number_of-decimal 2 (omega arith)

two-number : IsNumber (50 ∷ [])
unfolding after_number
two-number = refl

-- ---- the whole

-- what is written of a guest and its machine
pub record Numbers : Type 0 where
  pub quantum : ℕ
  pub size : ℕ
  pub min : ℕ
  pub frames : ℕ
  pub swap : ℕ
  pub epochs : ℕ

pub record AreSmall (n : Numbers) : Type 0 where
  pub quantum : n.quantum < 2 ^ 64
  pub size : n.size < 2 ^ 64
  pub min : n.min < 2 ^ 64
  pub frames : n.frames < 2 ^ 64
  pub swap : n.swap < 2 ^ 64
  pub epochs : n.epochs < 2 ^ 64

module _ (name : List ℕ) (texts : List (List ℕ)) (n : Numbers) where
  abbrev pub guest_members : Members
  guest_members =
      json.member (codes "name") (json.string name) (json.member (codes "trace") (json.array (strings texts))
      (json.member (codes "size") (json.number (decimal n.size)) (json.member (codes "min") (json.number (decimal n.min)) json.no_members)))

  abbrev pub root_members : Members
  root_members =
      json.member (codes "version") (json.number (50 ∷ [])) (json.member (codes "quantum") (json.number (decimal n.quantum))
      (json.member (codes "guests") (json.array (json.item (json.object guest_members) json.no_items))
      (json.member (codes "frames") (json.number (decimal n.frames)) (json.member (codes "swap") (json.number (decimal n.swap))
      (json.member (codes "epochs") (json.number (decimal n.epochs)) json.no_members)))))

  abbrev pub root_json : Json
  root_json = json.object root_members

  abbrev pub guest_data : Data
  guest_data =
      value.object (put (codes "min") (number_data n.min) (put (codes "size") (number_data n.size)
      (put (codes "trace") (value.array (strings_data texts)) (put (codes "name") (value.string name) value.no_members))))

  abbrev pub root_data : Data
  root_data =
      value.object (put (codes "epochs") (number_data n.epochs) (put (codes "swap") (number_data n.swap)
      (put (codes "frames") (number_data n.frames) (put (codes "guests") (value.array (value.item guest_data value.no_items))
      (put (codes "quantum") (number_data n.quantum) (put (codes "version") (number_data 2) value.no_members))))))

  module _ (small : AreSmall n) where
    of_guest : of_json (json.object guest_members) ≡ Some guest_data
    of_guest = rw (of_items-strings texts, number_of-decimal n.size small.size, number_of-decimal n.min small.min) refl

    of_root : of_json root_json ≡ Some root_data
    of_root =
        rw (
          two,
          of_guest,
          number_of-decimal n.quantum small.quantum,
          number_of-decimal n.frames small.frames,
          number_of-decimal n.swap small.swap,
          number_of-decimal n.epochs small.epochs,
        ) refl

    root-numbers : HasNumbers root_json
    root-numbers = (
      two-number,
      (
        IsNumber-decimal n.quantum small.quantum,
        (
          ((tt, (strings-numbers texts, (IsNumber-decimal n.size small.size, (IsNumber-decimal n.min small.min, tt)))), tt),
          (IsNumber-decimal n.frames small.frames, (IsNumber-decimal n.swap small.swap, (IsNumber-decimal n.epochs small.epochs, tt))),
        ),
      ),
    )

    root-depth : depth root_json ≤ max_depth
    root-depth = rw (strings-depth texts) (omega arith)

    -- the text of its tokens and a line feed is read as this
    pub read-root : read (text_before false (json_tokens root_json) (10 ∷ [])) ≡ Some root_data
    read-root =
        ap (λ o. option_and_then of_json (option_and_then (λ p. if_last p.0 p.1) o))
        (ap (json.value max_depth) (tokens-ended (json_tokens root_json) (ArePrintable-json_tokens root_json root-numbers) ∙ sym (append-nil (json_tokens root_json)))
        ∙ value-json_tokens root_json max_depth [] root-depth)
        ∙ of_root
