-- The text of a recorded host is that of its tokens, and a line feed.
use Rattle.std.proofs.Common.{◌≡◌, ℕ, zero, suc, ◌+◌, true, false, List, [], ◌∷◌, ◌++◌, codes, decimal, map, refl, sym, ap, ◌∙◌, append_assoc}
use Rattle.std.specs.List.{AllByRecursion}
use Rattle.json.specs.Json as json
use Rattle.json.specs.Print.{escape, escape_byte, token_text}
use Rattle.json.specs.Token.{Token}
use Rattle.json.specs.Tree.{items_tokens, json_tokens}
use Rattle.vm_recorded.specs.Commands.{command_of}
use Rattle.vm_recorded.specs.Hosts.{GuestView}
use Rattle.vm_recorded.specs.Texts.{autostart, guest_head, guest_text, guest_texts, quoted, steps_text}
use Rattle.vm_recorded.specs.Traces.{trace_of}
use Rattle.vm_config.specs.Schedule.{ScheduledLine}
use Rattle.vm_laws.specs.Recorded.{is_there}
use Rattle.vm_laws.proofs.PrintLemmas.{ArePrinted, Prints, printed-items}
use Rattle.vm_laws.proofs.RecordedJsonLemmas.{command_json, commands_json, guest_json, guests_json}
use Rattle.vm_laws.proofs.SafeLemmas.{AreSafe, escape-safe}
use Rattle.vm_laws.proofs.StringLemmas.{strings}
use Rattle.vm_laws.proofs.TokenLemmas.{text_before}

-- ---- steps

quoted-printed : (text : List ℕ) → AreSafe text → Prints (json.string text) (quoted text)
unfolding text_before quoted
quoted-printed text safe ts rest = ap (λ (l : List ℕ). (34 ∷ (l ++ 34 ∷ [])) ++ text_before true ts rest) (escape-safe text safe)

strings-printed : (texts : List (List ℕ)) → AllByRecursion AreSafe texts → ArePrinted (strings texts) (map quoted texts)
strings-printed [] safe = tt
strings-printed (text ∷ texts) safe = (quoted-printed text safe.0, strings-printed texts safe.1)

-- ---- commands

abbrev pub command_text : ScheduledLine → List ℕ
command_text c = command_of c.at c.line

command-printed : (c : ScheduledLine) → AreSafe c.line → Prints (command_json c) (command_text c)
unfolding text_before escape_byte command_of
command-printed c safe ts rest =
    ap (λ (l : List ℕ). codes "{\"at\":" ++ (decimal c.at ++ (codes ",\"line\":" ++ ((34 ∷ (l ++ 34 ∷ [])) ++ (125 ∷ text_before true ts rest)))))
    (escape-safe c.line safe)
    ∙ simp append_assoc refl

pub commands-printed : (cs : List ScheduledLine) → AllByRecursion (λ c. AreSafe c.line) cs → ArePrinted (commands_json cs) (map command_text cs)
commands-printed [] safe = tt
commands-printed (c ∷ cs) safe = (command-printed c safe.0, commands-printed cs safe.1)

-- ---- guests

starts-printed : (first : ℕ) → token_text (Token.boolean (is_there first)) ≡ autostart first
starts-printed zero = refl
starts-printed (suc first) = refl

module _ (quantum number : ℕ) (g : GuestView) where
  -- with its name in quotes, what is printed of its start, and what stands behind the opening bracket of its steps
  abbrev shape : (name starts steps : List ℕ) → List ℕ
  shape name starts steps =
      codes "{\"name\":" ++ (name ++ (codes ",\"size\":" ++ (decimal g.size ++ (codes ",\"min\":" ++ (decimal g.min
      ++ (codes ",\"shares\":" ++ (decimal g.shares ++ (codes ",\"period\":" ++ (decimal quantum
      ++ (codes ",\"rate\":256,\"seed\":" ++ (decimal number ++ (codes ",\"autostart\":" ++ (starts
      ++ (codes ",\"tell\":false,\"trace\":[" ++ steps))))))))))))))

  shape-head : (steps : List ℕ) → shape (34 ∷ (g.name ++ 34 ∷ [])) (autostart g.first) steps ≡ guest_head quantum number g ++ steps
  unfolding guest_head
  shape-head steps = simp append_assoc refl

  module _ (ts : List Token) (rest : List ℕ) where
    -- from its steps on
    abbrev steps_before : List ℕ
    steps_before = text_before false ((items_tokens (strings (trace_of g.uses)) ++ Token.end_object ∷ []) ++ ts) rest

    tokens-shape : text_before false (json_tokens (guest_json quantum number g) ++ ts) rest
        ≡ shape (34 ∷ (escape g.name ++ 34 ∷ [])) (token_text (Token.boolean (is_there g.first))) steps_before
    unfolding text_before escape_byte
    tokens-shape = refl

    steps-printed : AllByRecursion AreSafe (trace_of g.uses) → steps_before ≡ steps_text g.uses ++ (codes "]}" ++ text_before true ts rest)
    unfolding text_before
    steps-printed safe =
        ap (λ (l : List Token). text_before false l rest) (append_assoc (items_tokens (strings (trace_of g.uses))) (Token.end_object ∷ []) ts)
        ∙ printed-items (Token.end_object ∷ ts) rest (strings (trace_of g.uses)) (map quoted (trace_of g.uses)) (strings-printed (trace_of g.uses) safe)

  guest-printed : AreSafe g.name → AllByRecursion AreSafe (trace_of g.uses) → Prints (guest_json quantum number g) (guest_text quantum number g)
  unfolding guest_text
  guest-printed name steps ts rest =
      let tail = text_before true ts rest in
      tokens-shape ts rest
      ∙ ap (shape (34 ∷ (escape g.name ++ 34 ∷ [])) (token_text (Token.boolean (is_there g.first)))) (steps-printed ts rest steps)
      ∙ ap (λ (l : List ℕ). shape (34 ∷ (l ++ 34 ∷ [])) (token_text (Token.boolean (is_there g.first))) (steps_text g.uses ++ (codes "]}" ++ tail)))
      (escape-safe g.name name)
      ∙ ap (λ (l : List ℕ). shape (34 ∷ (g.name ++ 34 ∷ [])) l (steps_text g.uses ++ (codes "]}" ++ tail))) (starts-printed g.first)
      ∙ shape-head (steps_text g.uses ++ (codes "]}" ++ tail))
      ∙ ap (λ (l : List ℕ). guest_head quantum number g ++ l) (sym (append_assoc (steps_text g.uses) (codes "]}") tail))
      ∙ sym (append_assoc (guest_head quantum number g) (steps_text g.uses ++ codes "]}") tail)

-- what is safe in the text of a guest
pub record IsSafe (g : GuestView) : Type 0 where
  pub name : AreSafe g.name
  pub steps : AllByRecursion AreSafe (trace_of g.uses)

pub guests-printed : (quantum number : ℕ) (guests : List GuestView) → AllByRecursion IsSafe guests
    → ArePrinted (guests_json quantum number guests) (guest_texts quantum number guests)
guests-printed quantum number [] safe = tt
guests-printed quantum number (g ∷ guests) safe =
    (guest-printed quantum number g safe.0.name safe.0.steps, guests-printed quantum (number + 1) guests safe.1)
