-- Which lines are which commands: the words of each, as in the `virsh` manual. `memshares` is this project's own.
use Rattle.std.specs.Prelude.{◌≡◌, ℕ, ◌==◌, ◌≤◌, ⊤, Bool, true, false, not, nat_eq, List, [], ◌∷◌, ◌++◌, Contains, length, codes}
use Rattle.std.specs.List.{AllPass, starts_with}
use Rattle.std.specs.Char.{is_ascii_digit}
use Rattle.std.specs.Str.Parse.{digits_value}
use Rattle.vm_commands.specs.declared.command.Command.{Command}
use Rattle.vm_commands.specs.declared.command.Command.TheVariants.{Start, Destroy, SetMemory, SetMinimum, SetShares, ShowStatistics}
use Rattle.vm_commands.specs.SizeGrammar.{IsSize}

abbrev pub is_space : ℕ → Bool
is_space byte = byte == 32

-- at least one byte, and no space
pub record IsWord (word : List ℕ) : Type 0 where
  pub some : 1 ≤ length word
  pub spaceless : AllPass (λ byte. not (is_space byte)) word

-- where a word ends, the line does too, or a space follows
abbrev pub EndsWord : List ℕ → Type 0
EndsWord [] = ⊤
EndsWord (byte ∷ bytes) = is_space byte ≡ true

-- a line's words are its longest runs of bytes other than spaces
abbrev pub HasWords : List ℕ → List (List ℕ) → Type 0
HasWords line [] = AllPass is_space line
HasWords line (word ∷ words) =
    (spaces rest : List ℕ) × AllPass is_space spaces × IsWord word × EndsWord rest
    × HasWords rest words × (line ≡ spaces ++ (word ++ rest))

-- the forms of commands: the word of the domain, and the word of the SIZE or N, which isn't read yet
pub data Form : Type 0 where
  FormStart : List ℕ → Form
  FormDestroy : List ℕ → Form
  FormMemory : List ℕ → List ℕ → Form
  FormMinimum : List ℕ → List ℕ → Form
  FormShares : List ℕ → List ℕ → Form
  FormStatistics : List ℕ → Form

-- a domain's word doesn't begin with a dash
abbrev pub IsDomain : List ℕ → Type 0
IsDomain word = starts_with nat_eq word (codes "-") ≡ false

-- the ways to write the domain and the SIZE of a minimum
abbrev pub minimum_words : List ℕ → List ℕ → List (List (List ℕ))
minimum_words domain size =
    (codes "memtune" ∷ domain ∷ codes "--min-guarantee" ∷ size ∷ [])
    ∷ (codes "memtune" ∷ codes "--min-guarantee" ∷ size ∷ domain ∷ [])
    ∷ (codes "memtune" ∷ domain ∷ (codes "--min-guarantee=" ++ size) ∷ [])
    ∷ (codes "memtune" ∷ (codes "--min-guarantee=" ++ size) ∷ domain ∷ [])
    ∷ []

-- the words have this form
abbrev pub HasForm : List (List ℕ) → Form → Type 0
HasForm words (FormStart domain) = IsDomain domain × (words ≡ codes "start" ∷ domain ∷ [])
HasForm words (FormDestroy domain) = IsDomain domain × (words ≡ codes "destroy" ∷ domain ∷ [])
HasForm words (FormMemory domain size) = IsDomain domain × (words ≡ codes "setmem" ∷ domain ∷ size ∷ [])
HasForm words (FormMinimum domain size) = IsDomain domain × Contains (minimum_words domain size) words
HasForm words (FormShares domain number) = IsDomain domain × (words ≡ codes "memshares" ∷ domain ∷ number ∷ [])
HasForm words (FormStatistics domain) = IsDomain domain × (words ≡ codes "dommemstat" ∷ domain ∷ [])

-- 1 to 7 decimal digits, a number from 1 to 1000000
pub record IsShares (word : List ℕ) (shares : ℕ) : Type 0 where
  pub some : 1 ≤ length word
  pub short : length word ≤ 7
  pub decimal : AllPass is_ascii_digit word
  pub value : digits_value 10 word ≡ shares
  pub least : 1 ≤ shares
  pub most : shares ≤ 1000000

-- the command that a form asks for, where its SIZE or N can be read, a SIZE in pages of `page` KiB; a minimum is at least one page
abbrev pub AsksFor : ℕ → Form → Command → Type 0
AsksFor page (FormStart domain) command = command ≡ Start domain
AsksFor page (FormDestroy domain) command = command ≡ Destroy domain
AsksFor page (FormMemory domain size) command =
    (pages : ℕ) × IsSize page size pages × (command ≡ SetMemory domain pages)
AsksFor page (FormMinimum domain size) command =
    (pages : ℕ) × IsSize page size pages × (1 ≤ pages) × (command ≡ SetMinimum domain pages)
AsksFor page (FormShares domain number) command =
    (shares : ℕ) × IsShares number shares × (command ≡ SetShares domain shares)
AsksFor page (FormStatistics domain) command = command ≡ ShowStatistics domain

-- the words of the line have this form
pub record IsOfForm (line : List ℕ) (form : Form) : Type 0 where
  pub words : List (List ℕ)
  pub found : HasWords line words
  pub fit : HasForm words form

-- the line is this command, on a machine whose pages are of `page` KiB
pub record IsLine (page : ℕ) (line : List ℕ) (command : Command) : Type 0 where
  pub form : Form
  pub fits : IsOfForm line form
  pub asks : AsksFor page form command

-- the line has a form, and is no command: its SIZE or N can't be read, or is out of range
pub record IsUnreadable (page : ℕ) (line : List ℕ) : Type 0 where
  pub form : Form
  pub fits : IsOfForm line form
  pub unread : (command : Command) → ¬ AsksFor page form command

-- the line has no form
abbrev pub HasNoForm : List ℕ → Type 0
HasNoForm line = (form : Form) → ¬ IsOfForm line form
