-- What is printed and ended by a line feed is read back: `json` says the same of what is printed alone.
use Rattle.std.proofs.Common.{◌≡◌, ℕ, Bool, true, false, cond, ◌&&◌, List, [], ◌∷◌, ◌++◌, refl, sym, ap, ap₂, ◌∙◌, append_assoc}
use Rattle.json.specs.Token.{Token, begin_object, end_object, begin_array, end_array, key, string, number, boolean, null, bad}
use Rattle.json.specs.Word.{ends_word, word}
use Rattle.json.specs.Lex.{Lexeme, token, comma, colon, string_token, lex, between, fresh, punctuate, tokens}
use Rattle.json.specs.Print.{escape, quoted, token_text, begins, ends, separator, print_from, IsPrintable, ArePrintable}
use Rattle.json.proofs.Printed.Strings.{content-escape, lex-escape}
use Rattle.json.proofs.Printed.Numbers.{lex-number, in_word-ended}
use Rattle.json.proofs.Printed.Tokens.{tokens-print}

-- the text of tokens, with other text behind it
unfoldable pub text_before : Bool → List Token → List ℕ → List ℕ
text_before after_value [] rest = rest
text_before after_value (t ∷ ts) rest = separator after_value t ++ (token_text t ++ text_before (ends t) ts rest)

pub text_before-nil : (c : Bool) (ts : List Token) → text_before c ts [] ≡ print_from c ts
unfolding text_before print_from
text_before-nil c [] = refl
text_before-nil c (t ∷ ts) = ap (λ (l : List ℕ). separator c t ++ (token_text t ++ l)) (text_before-nil (ends t) ts)

abbrev token_lexemes : Token → List Lexeme
token_lexemes (key s) = token (string s) ∷ colon ∷ []
token_lexemes bad = []
token_lexemes t = token t ∷ []

lex-quoted : (s r : List ℕ) → lex between (quoted s ++ r) ≡ token (string s) ∷ lex between r
unfolding lex
lex-quoted s r =
    let e = append_assoc (escape s) (34 ∷ []) r in
    ap (λ l. lex between (34 ∷ l)) e ∙ ap₂ (λ o l. token (string_token o) ∷ l) (content-escape s r) (lex-escape s r)

lex-token : (t : Token) (r : List ℕ) → IsPrintable t → (ends t ≡ true → ends_word r ≡ true)
    → lex between (token_text t ++ r) ≡ token_lexemes t ++ lex between r
unfolding lex word
lex-token begin_object r h ended = refl
lex-token end_object r h ended = refl
lex-token begin_array r h ended = refl
lex-token end_array r h ended = refl
lex-token (key s) r h ended = ap (lex between) (append_assoc (quoted s) (58 ∷ []) r) ∙ lex-quoted s (58 ∷ r)
lex-token (string s) r h ended = lex-quoted s r
lex-token (number s) r h ended = lex-number s r h (ended refl)
lex-token (boolean true) r h ended = ap₂ (λ b l. token (cond b (boolean true) bad) ∷ l) (ended refl) (in_word-ended r (ended refl))
lex-token (boolean false) r h ended = ap₂ (λ b l. token (cond b (boolean false) bad) ∷ l) (ended refl) (in_word-ended r (ended refl))
lex-token null r h ended = ap₂ (λ b l. token (cond b null bad) ∷ l) (ended refl) (in_word-ended r (ended refl))
lex-token bad r h ended = absurd h

lex-separator : (b : Bool) (r : List ℕ) → lex between (cond b (44 ∷ []) [] ++ r) ≡ cond b (comma ∷ []) [] ++ lex between r
unfolding lex
lex-separator true r = refl
lex-separator false r = refl

-- after a value stands a comma, a closing bracket, or what is behind all
value_ends : (ts : List Token) (rest : List ℕ) → ends_word rest ≡ true → ends_word (text_before true ts rest) ≡ true
unfolding text_before
value_ends [] rest ended = ended
value_ends (begin_object ∷ ts) rest ended = refl
value_ends (end_object ∷ ts) rest ended = refl
value_ends (begin_array ∷ ts) rest ended = refl
value_ends (end_array ∷ ts) rest ended = refl
value_ends (key s ∷ ts) rest ended = refl
value_ends (string s ∷ ts) rest ended = refl
value_ends (number s ∷ ts) rest ended = refl
value_ends (boolean b ∷ ts) rest ended = refl
value_ends (null ∷ ts) rest ended = refl
value_ends (bad ∷ ts) rest ended = refl

abbrev lexemes : Bool → List Token → List Lexeme → List Lexeme
lexemes c [] rest = rest
lexemes c (t ∷ ts) rest = cond (c && begins t) (comma ∷ []) [] ++ (token_lexemes t ++ lexemes (ends t) ts rest)

lex-text_before : (c : Bool) (ts : List Token) (rest : List ℕ) → ArePrintable ts → ends_word rest ≡ true
    → lex between (text_before c ts rest) ≡ lexemes c ts (lex between rest)
unfolding text_before ArePrintable
lex-text_before c [] rest h ended = refl
lex-text_before c (t ∷ ts) rest h ended =
    lex-separator (c && begins t) _
    ∙ ap (λ (l : List Lexeme). cond (c && begins t) (comma ∷ []) [] ++ l)
    (lex-token t (text_before (ends t) ts rest) h.0 (λ e. ap (λ (b : Bool). ends_word (text_before b ts rest)) e ∙ value_ends ts rest ended)
    ∙ ap (λ (l : List Lexeme). token_lexemes t ++ l) (lex-text_before (ends t) ts rest h.1 ended))

-- the line feed changes nothing
pub tokens-ended : (ts : List Token) → ArePrintable ts → tokens (text_before false ts (10 ∷ [])) ≡ ts
unfolding lex
tokens-ended ts h =
    ap (punctuate fresh) (lex-text_before false ts (10 ∷ []) h refl ∙ sym (lex-text_before false ts [] h refl))
    ∙ ap tokens (text_before-nil false ts) ∙ tokens-print ts h
