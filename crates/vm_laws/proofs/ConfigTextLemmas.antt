-- The text of an import is that of its tokens, and a line feed.
use Rattle.std.proofs.Common.{◌≡◌, ℕ, ◌-◌, ◌^◌, ◌<◌, true, false, List, [], ◌∷◌, ◌++◌, codes, decimal, length, refl, sym, ap, ◌∙◌, append_assoc, append-nil}
use Rattle.std.specs.Str.{is_utf8}
use Rattle.std.proofs.lemmas.Str.{is_utf8-from_IsUtf8}
use Rattle.json.specs.Print.{escape_byte, token_text}
use Rattle.json.specs.Token.{Token}
use Rattle.json.specs.Tree.{items_tokens, json_tokens}
use Rattle.json.proofs.Printed.Utf8.{are_ascii, IsUtf8-are_ascii}
use Rattle.vm_import.specs.Guests.{Guest, epochs_of, frames_for, min_of}
use Rattle.vm_import.specs.Settings.{Settings}
use Rattle.vm_import.specs.Texts.{head_of, listed, quoted, tail_of, text_of}
use Rattle.vm_laws.proofs.JsonLemmas.{AreSmall, Numbers, root_json}
use Rattle.vm_laws.proofs.SafeLemmas.{AreSafe, ascii-append, ascii-safe, escape-safe, safe-decimal}
use Rattle.vm_laws.proofs.StringLemmas.{strings}
use Rattle.vm_laws.proofs.TokenLemmas.{text_before}

-- each text is safe
abbrev pub AreAllSafe : List (List ℕ) → Type 0
AreAllSafe [] = Unit {0}
AreAllSafe (text ∷ texts) = AreSafe text × AreAllSafe texts

-- ---- texts in quotes

-- a text in quotes is the text of its token
quoted-token : (text rest : List ℕ) → AreSafe text → token_text (Token.string text) ++ rest ≡ quoted text ++ rest
unfolding quoted
quoted-token text rest safe = ap (λ (l : List ℕ). (34 ∷ (l ++ 34 ∷ [])) ++ rest) (escape-safe text safe)

-- more of them, behind one
more : List (List ℕ) → List ℕ
more [] = []
more (text ∷ texts) = 44 ∷ (quoted text ++ more texts)

listed-more : (text : List ℕ) (texts : List (List ℕ)) → listed (text ∷ texts) ≡ quoted text ++ more texts
unfolding more
listed-more text [] = sym (append-nil (quoted text))
listed-more text (next ∷ texts) = ap (λ (l : List ℕ). quoted text ++ 44 ∷ l) (listed-more next texts)

module _ (ts : List Token) (rest : List ℕ) where
  printed-more : (texts : List (List ℕ)) → AreAllSafe texts
      → text_before true (items_tokens (strings texts) ++ ts) rest ≡ more texts ++ 93 ∷ text_before true ts rest
  unfolding text_before more
  printed-more [] safe = refl
  printed-more (text ∷ texts) safe =
      ap (λ (l : List ℕ). 44 ∷ l)
      (quoted-token text _ safe.0
      ∙ ap (λ (l : List ℕ). quoted text ++ l) (printed-more texts safe.1)
      ∙ sym (append_assoc (quoted text) (more texts) _))

  -- the steps in a row
  printed-listed : (texts : List (List ℕ)) → AreAllSafe texts
      → text_before false (items_tokens (strings texts) ++ ts) rest ≡ listed texts ++ 93 ∷ text_before true ts rest
  unfolding text_before
  printed-listed [] safe = refl
  printed-listed (text ∷ texts) safe =
      quoted-token text _ safe.0
      ∙ ap (λ (l : List ℕ). quoted text ++ l) (printed-more texts safe.1)
      ∙ sym (append_assoc (quoted text) (more texts) _)
      ∙ ap (λ (l : List ℕ). l ++ 93 ∷ text_before true ts rest) (sym (listed-more text texts))

-- ---- the whole

-- the numbers that stand in the text of a guest
abbrev pub numbers_of : Settings → (size steps : ℕ) → Numbers
numbers_of settings size steps = record {
  quantum = settings.quantum;
  size = size;
  min = min_of settings size;
  frames = frames_for size;
  swap = size - min_of settings size;
  epochs = epochs_of settings.quantum steps;
}

module _ (settings : Settings) (size steps : ℕ) where
  abbrev n : Numbers
  n = numbers_of settings size steps

  -- the tokens behind the steps
  abbrev after_steps : List Token
  after_steps =
      Token.key (codes "size") ∷ Token.number (decimal n.size) ∷ Token.key (codes "min") ∷ Token.number (decimal n.min)
      ∷ Token.end_object ∷ Token.end_array
      ∷ Token.key (codes "frames") ∷ Token.number (decimal n.frames) ∷ Token.key (codes "swap") ∷ Token.number (decimal n.swap)
      ∷ Token.key (codes "epochs") ∷ Token.number (decimal n.epochs) ∷ Token.end_object ∷ []

  tail-printed : tail_of settings size steps ≡ 93 ∷ text_before true after_steps (10 ∷ [])
  unfolding tail_of text_before escape_byte
  tail-printed = refl

  module _ (name_safe : AreSafe settings.name) (texts : List (List ℕ)) (safe : AreAllSafe texts) where
    tokens-root : json_tokens (root_json settings.name texts n)
        ≡ Token.begin_object ∷ Token.key (codes "version") ∷ Token.number (50 ∷ []) ∷ Token.key (codes "quantum")
        ∷ Token.number (decimal n.quantum) ∷ Token.key (codes "guests") ∷ Token.begin_array ∷ Token.begin_object ∷ Token.key (codes "name")
        ∷ Token.string settings.name ∷ Token.key (codes "trace") ∷ Token.begin_array ∷ (items_tokens (strings texts) ++ after_steps)
    tokens-root = simp append_assoc

    steps-printed : text_before false (items_tokens (strings texts) ++ after_steps) (10 ∷ []) ≡ listed texts ++ tail_of settings size steps
    steps-printed =
        printed-listed after_steps (10 ∷ []) texts safe
        ∙ ap (λ (l : List ℕ). listed texts ++ l) (sym tail-printed)

    head-printed : (ts : List Token)
        → text_before false (Token.begin_object ∷ Token.key (codes "version") ∷ Token.number (50 ∷ []) ∷ Token.key (codes "quantum")
        ∷ Token.number (decimal n.quantum) ∷ Token.key (codes "guests") ∷ Token.begin_array ∷ Token.begin_object ∷ Token.key (codes "name")
        ∷ Token.string settings.name ∷ Token.key (codes "trace") ∷ Token.begin_array ∷ ts) (10 ∷ [])
        ≡ head_of settings ++ text_before false ts (10 ∷ [])
    unfolding head_of text_before escape_byte
    head-printed ts =
        let rest = text_before false ts (10 ∷ []) in
        let first = codes "{\"version\":2,\"quantum\":" in
        let second = codes ",\"guests\":[{\"name\":\"" in
        let third = codes "\",\"trace\":[" in
        ap (λ (l : List ℕ). first ++ (decimal settings.quantum ++ (second ++ ((l ++ 34 ∷ []) ++ (codes ",\"trace\":[" ++ rest)))))
        (escape-safe settings.name name_safe)
        ∙ ap (λ (l : List ℕ). first ++ (decimal settings.quantum ++ (second ++ l)))
        (append_assoc settings.name (34 ∷ []) (codes ",\"trace\":[" ++ rest) ∙ sym (append_assoc settings.name third rest))
        ∙ ap (λ (l : List ℕ). first ++ l) (sym (append_assoc (decimal settings.quantum) (second ++ (settings.name ++ third)) rest))

    root-printed : head_of settings ++ (listed texts ++ tail_of settings size steps) ≡ text_before false (json_tokens (root_json settings.name texts n)) (10 ∷ [])
    root-printed =
        ap (λ (l : List ℕ). head_of settings ++ l) (sym steps-printed)
        ∙ sym (head-printed (items_tokens (strings texts) ++ after_steps))
        ∙ ap (λ (ts : List Token). text_before false ts (10 ∷ [])) (sym tokens-root)

pub text-printed : (settings : Settings) (guest : Guest) → AreSafe settings.name → AreAllSafe guest.trace
    → text_of settings guest
    ≡ text_before false (json_tokens (root_json settings.name guest.trace (numbers_of settings guest.size (length guest.trace)))) (10 ∷ [])
unfolding text_of
text-printed settings guest name safe = root-printed settings guest.size (length guest.trace) name guest.trace safe

-- ---- UTF-8

ascii-quoted : (text : List ℕ) → AreSafe text → are_ascii (quoted text) ≡ true
unfolding quoted
ascii-quoted text safe = ascii-append text (34 ∷ []) (ascii-safe text safe) refl

ascii-more : (texts : List (List ℕ)) → AreAllSafe texts → are_ascii (more texts) ≡ true
unfolding more
ascii-more [] safe = refl
ascii-more (text ∷ texts) safe = ascii-append (quoted text) (more texts) (ascii-quoted text safe.0) (ascii-more texts safe.1)

ascii-listed : (texts : List (List ℕ)) → AreAllSafe texts → are_ascii (listed texts) ≡ true
ascii-listed [] safe = refl
ascii-listed (text ∷ texts) safe =
    ap are_ascii (listed-more text texts) ∙ ascii-append (quoted text) (more texts) (ascii-quoted text safe.0) (ascii-more texts safe.1)

ascii-decimal : (number : ℕ) (rest : List ℕ) → number < 2 ^ 64 → are_ascii rest ≡ true → are_ascii (decimal number ++ rest) ≡ true
ascii-decimal number rest small are = ascii-append (decimal number) rest (ascii-safe (decimal number) (safe-decimal number small)) are

ascii-head : (settings : Settings) → settings.quantum < 2 ^ 64 → AreSafe settings.name → are_ascii (head_of settings) ≡ true
unfolding head_of
ascii-head settings small name =
    ascii-decimal settings.quantum _ small (ascii-append settings.name _ (ascii-safe settings.name name) refl)

ascii-tail : (settings : Settings) (size steps : ℕ) → AreSmall (numbers_of settings size steps) → are_ascii (tail_of settings size steps) ≡ true
unfolding tail_of
ascii-tail settings size steps small =
    ascii-decimal size _ small.size (ascii-decimal (min_of settings size) _ small.min
    (ascii-decimal (frames_for size) _ small.frames (ascii-decimal (size - min_of settings size) _ small.swap
    (ascii-decimal (epochs_of settings.quantum steps) _ small.epochs refl))))

pub text-utf8 : (settings : Settings) (guest : Guest) → AreSafe settings.name → AreAllSafe guest.trace
    → AreSmall (numbers_of settings guest.size (length guest.trace)) → is_utf8 (text_of settings guest) ≡ true
unfolding text_of
text-utf8 settings guest name safe small =
    let tail = tail_of settings guest.size (length guest.trace) in
    is_utf8-from_IsUtf8 _ (IsUtf8-are_ascii _
    (ascii-append (head_of settings) (listed guest.trace ++ tail) (ascii-head settings small.quantum name)
    (ascii-append (listed guest.trace) tail (ascii-listed guest.trace safe) (ascii-tail settings guest.size (length guest.trace) small))))
