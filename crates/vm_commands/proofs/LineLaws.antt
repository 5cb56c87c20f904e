-- A line is read as a command, or refused, exactly where the grammar has it so.
use Rattle.std.proofs.Common.{◌≡◌, ◌≢◌, ◌≤◌, ℕ, ◌⊎◌, ◌↔◌, inl, inr, List, Result, Ok, Err, IfOk, IsErrOf, IsOk, refl, ap, sym, subst, ◌∙◌}
use Rattle.vm_commands.specs.declared.command.Command.{Command}
use Rattle.vm_commands.specs.declared.error.LineFault.{LineFault}
use Rattle.vm_commands.specs.declared.error.LineFault.TheVariants.{Bad, Size, Memory}
use Rattle.vm_commands.specs.LineGrammar.{Form, IsOfForm, IsLine, IsUnreadable, HasNoForm}
use Rattle.vm_commands.specs.Lines.{words_of, command_of_words, command_of, Gives, IsOrMemory}
use Rattle.vm_commands.proofs.FormLaws.{form_reads, form_or_bad}
use Rattle.vm_commands.proofs.MeaningLaws.{meaning_of, asks_or_size, meaning_of-asks}
use Rattle.vm_commands.proofs.WordLaws.{words_of-has, has_words_of}

-- a line of a form is read as the form
command_of-form : (page : ℕ) (line : List ℕ) (form : Form) → IsOfForm line form → command_of page line ≡ meaning_of page form
unfolding command_of
command_of-form page line form h = ap (command_of_words page) (words_of-has line h.words h.found) ∙ form_reads page h.words form h.fit

-- a line is read as its form, or as no command
form_or_bad_line : (page : ℕ) (line : List ℕ) → ((form : Form) × IsOfForm line form) ⊎ (command_of page line ≡ Err Bad)
unfolding command_of
form_or_bad_line page line = elim (form_or_bad page (words_of line)) [
  | inl has ↦ inl (has.0, record { words = words_of line; found = has_words_of line; fit = has.1 })
  | inr bad ↦ inr bad
]

-- each line is a command, is unreadable, or has no form
cases_of_line : (page : ℕ) (line : List ℕ) → 1 ≤ page → ((command : Command) × IsLine page line command) ⊎ (IsUnreadable page line ⊎ (command_of page line ≡ Err Bad))
cases_of_line page line some = elim (form_or_bad_line page line) [
  | inr bad ↦ inr (inr bad)
  | inl of_form ↦ elim (asks_or_size page of_form.0 some) [
    | inl asks ↦ inl (asks.0, record { form = of_form.0; fits = of_form.1; asks = asks.1 })
    | inr size ↦ inr (inl (record {
      form = of_form.0;
      fits = of_form.1;
      unread = λ command asks. let read = meaning_of-asks page of_form.0 command some asks in cc;
    }))
  ]
]

-- a line that is a command is read as it
pub command_of-line : (page : ℕ) (line : List ℕ) (command : Command) → 1 ≤ page → IsLine page line command → command_of page line ≡ Ok command
command_of-line page line command some h = command_of-form page line h.form h.fits ∙ meaning_of-asks page h.form command some h.asks

-- a line whose SIZE or N can't be read is refused for it
pub command_of-unreadable : (page : ℕ) (line : List ℕ) → 1 ≤ page → IsUnreadable page line → command_of page line ≡ Err Size
command_of-unreadable page line some h = command_of-form page line h.form h.fits ∙ elim (asks_or_size page h.form some) [
  | inl asks ↦ absurd (h.unread asks.0 asks.1)
  | inr size ↦ size
]

-- a line with no form is no command
pub command_of-no_form : (page : ℕ) (line : List ℕ) → HasNoForm line → command_of page line ≡ Err Bad
command_of-no_form page line h = elim (form_or_bad_line page line) [
  | inl of_form ↦ absurd (h of_form.0 of_form.1)
  | inr bad ↦ bad
]

-- what is read as a command is a line of it
pub IsLine-from_read : (page : ℕ) (line : List ℕ) (command : Command) → 1 ≤ page → command_of page line ≡ Ok command → IsLine page line command
IsLine-from_read page line command some read = elim (cases_of_line page line some) [
  | inl is ↦ subst (IsLine page line) (let is_read = command_of-line page line is.0 some is.1 in cc) is.1
  | inr other ↦ elim other [
    | inl unreadable ↦ (let size = command_of-unreadable page line some unreadable in absurd cc)
    | inr bad ↦ absurd cc
  ]
]

pub IsUnreadable-from_read : (page : ℕ) (line : List ℕ) → 1 ≤ page → command_of page line ≡ Err Size → IsUnreadable page line
IsUnreadable-from_read page line some read = elim (cases_of_line page line some) [
  | inl is ↦ (let is_read = command_of-line page line is.0 some is.1 in absurd cc)
  | inr other ↦ elim other [
    | inl unreadable ↦ unreadable
    | inr bad ↦ absurd cc
  ]
]

pub HasNoForm-from_read : (page : ℕ) (line : List ℕ) → 1 ≤ page → command_of page line ≡ Err Bad → HasNoForm line
HasNoForm-from_read page line some read = λ form of_form.
    let reads = command_of-form page line form of_form in
    elim (asks_or_size page form some) [
      | inl asks ↦ (let asked = meaning_of-asks page form asks.0 some asks.1 in cc)
      | inr size ↦ cc
    ]

pub command_of-no_memory : (page : ℕ) (line : List ℕ) → 1 ≤ page → command_of page line ≢ Err Memory
command_of-no_memory page line some read = elim (cases_of_line page line some) [
  | inl is ↦ (let is_read = command_of-line page line is.0 some is.1 in cc)
  | inr other ↦ elim other [
    | inl unreadable ↦ (let size = command_of-unreadable page line some unreadable in cc)
    | inr bad ↦ cc
  ]
]

-- ---- the same of an answer

pub answer_is_line : (page : ℕ) (line : List ℕ) (answer : Result Command LineFault) → 1 ≤ page → Gives answer (command_of page line) → IfOk answer (IsLine page line)
answer_is_line page line (Ok command) some gives = IsLine-from_read page line command some gives
answer_is_line page line (Err fault) some gives = tt

pub line_is_answered : (page : ℕ) (line : List ℕ) (answer : Result Command LineFault) → 1 ≤ page → Gives answer (command_of page line) → (command : Command) → IsLine page line command → IsOrMemory answer command
line_is_answered page line (Ok read) some gives command is = inl (sym gives ∙ command_of-line page line command some is)
line_is_answered page line (Err Bad) some gives command is = (let read = command_of-line page line command some is in absurd cc)
line_is_answered page line (Err Size) some gives command is = (let read = command_of-line page line command some is in absurd cc)
line_is_answered page line (Err Memory) some gives command is = inr refl

bad_has_no_form : (page : ℕ) (line : List ℕ) (answer : Result Command LineFault) → 1 ≤ page → Gives answer (command_of page line) → IsErrOf answer Bad → HasNoForm line
bad_has_no_form page line (Ok command) some gives is = absurd cc
bad_has_no_form page line (Err Bad) some gives is = HasNoForm-from_read page line some gives
bad_has_no_form page line (Err Size) some gives is = absurd cc
bad_has_no_form page line (Err Memory) some gives is = absurd cc

no_form_is_bad : (page : ℕ) (line : List ℕ) (answer : Result Command LineFault) → Gives answer (command_of page line) → HasNoForm line → IsErrOf answer Bad
no_form_is_bad page line (Ok command) gives none = (let bad = command_of-no_form page line none in absurd cc)
no_form_is_bad page line (Err Bad) gives none = refl
no_form_is_bad page line (Err Size) gives none = (let bad = command_of-no_form page line none in absurd cc)
no_form_is_bad page line (Err Memory) gives none = (let ok = subst IsOk (command_of-no_form page line none) gives in absurd cc)

pub bad_where_no_form : (page : ℕ) (line : List ℕ) (answer : Result Command LineFault) → 1 ≤ page → Gives answer (command_of page line) → IsErrOf answer Bad ↔ HasNoForm line
bad_where_no_form page line answer some gives = (bad_has_no_form page line answer some gives, no_form_is_bad page line answer gives)

size_is_unreadable : (page : ℕ) (line : List ℕ) (answer : Result Command LineFault) → 1 ≤ page → Gives answer (command_of page line) → IsErrOf answer Size → IsUnreadable page line
size_is_unreadable page line (Ok command) some gives is = absurd cc
size_is_unreadable page line (Err Bad) some gives is = absurd cc
size_is_unreadable page line (Err Size) some gives is = IsUnreadable-from_read page line some gives
size_is_unreadable page line (Err Memory) some gives is = absurd cc

unreadable_is_size : (page : ℕ) (line : List ℕ) (answer : Result Command LineFault) → 1 ≤ page → Gives answer (command_of page line) → IsUnreadable page line → IsErrOf answer Size
unreadable_is_size page line (Ok command) some gives unread = (let size = command_of-unreadable page line some unread in absurd cc)
unreadable_is_size page line (Err Bad) some gives unread = (let size = command_of-unreadable page line some unread in absurd cc)
unreadable_is_size page line (Err Size) some gives unread = refl
unreadable_is_size page line (Err Memory) some gives unread = (let ok = subst IsOk (command_of-unreadable page line some unread) gives in absurd cc)

pub size_where_unreadable : (page : ℕ) (line : List ℕ) (answer : Result Command LineFault) → 1 ≤ page → Gives answer (command_of page line) → IsErrOf answer Size ↔ IsUnreadable page line
size_where_unreadable page line answer some gives = (size_is_unreadable page line answer some gives, unreadable_is_size page line answer some gives)

some_line : (page : ℕ) (line : List ℕ) → 1 ≤ page → IsOk (command_of page line) → (command : Command) × IsLine page line command
some_line page line some ok = elim (cases_of_line page line some) [
  | inl is ↦ is
  | inr other ↦ elim other [
    | inl unreadable ↦ (let ok = subst IsOk (command_of-unreadable page line some unreadable) ok in absurd cc)
    | inr bad ↦ (let ok = subst IsOk bad ok in absurd cc)
  ]
]

pub memory_for_a_command : (page : ℕ) (line : List ℕ) (answer : Result Command LineFault) → 1 ≤ page → Gives answer (command_of page line) → IsErrOf answer Memory → (command : Command) × IsLine page line command
memory_for_a_command page line (Ok command) some gives is = absurd cc
memory_for_a_command page line (Err Bad) some gives is = absurd cc
memory_for_a_command page line (Err Size) some gives is = absurd cc
memory_for_a_command page line (Err Memory) some gives is = some_line page line some gives
