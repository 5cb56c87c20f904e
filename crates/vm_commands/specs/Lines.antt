-- The command that a line is, or its fault, as a function; LineGrammar says the same as facts. A page is of `page` KiB.
use Rattle.std.specs.Prelude.{ℕ, ◌==◌, ◌&&◌, ◌≡◌, ◌⊎◌, Bool, not, nat_eq, nat_le, if◌then◌else◌, List, [], ◌∷◌, length, drop, codes, bytes_eq, filter, Option, Some, None, Result, Ok, Err, IsOk, MatchResult}
use Rattle.std.specs.Option.{option_map_or}
use Rattle.std.specs.List.{slice_split, starts_with, list_all}
use Rattle.std.specs.Char.{is_ascii_digit}
use Rattle.std.specs.Str.Parse.{digits_value}
use Rattle.vm_commands.specs.declared.command.Command.{Command}
use Rattle.vm_commands.specs.declared.command.Command.TheVariants.{Start, Destroy, SetMemory, SetMinimum, SetShares, ShowStatistics}
use Rattle.vm_commands.specs.declared.error.LineFault.{LineFault}
use Rattle.vm_commands.specs.declared.error.LineFault.TheVariants.{Bad, Size, Memory}
use Rattle.vm_commands.specs.Sizes.{pages_of_size}

-- ---- the same as functions (law_lines)

-- the words of a line: the longest runs of bytes other than spaces
abbrev pub words_of : List ℕ → List (List ℕ)
words_of line = filter (λ word. not (length word == 0)) (slice_split (λ b. b == 32) line)

-- a word that can name a domain: it doesn't begin with a dash
abbrev pub is_domain : List ℕ → Bool
is_domain word = not (starts_with nat_eq word (codes "-"))

-- setmem D SIZE
unfoldable pub set_memory : ℕ → List ℕ → List ℕ → Result Command LineFault
set_memory page domain size = option_map_or (λ pages. Ok (SetMemory domain pages)) (pages_of_size page size) (Err Size)

-- the pages of a minimum, at least one
unfoldable pub minimum_of : ℕ → List ℕ → Option ℕ
minimum_of page size = option_map_or (λ pages. if pages == 0 then None else Some pages) (pages_of_size page size) None

-- memtune D with a minimum of SIZE
unfoldable pub set_minimum : ℕ → List ℕ → List ℕ → Result Command LineFault
set_minimum page domain size = option_map_or (λ pages. Ok (SetMinimum domain pages)) (minimum_of page size) (Err Size)

-- 1 to 7 digits, a number from 1 to 1000000
unfoldable pub shares_of : List ℕ → Option ℕ
shares_of word =
    if nat_le 1 (length word) && nat_le (length word) 7 && list_all is_ascii_digit word
    then (if nat_le 1 (digits_value 10 word) && nat_le (digits_value 10 word) 1000000 then Some (digits_value 10 word) else None)
    else None

-- memshares D N
unfoldable pub set_shares : List ℕ → List ℕ → Result Command LineFault
set_shares domain word = option_map_or (λ shares. Ok (SetShares domain shares)) (shares_of word) (Err Size)

-- K D, where K is start, destroy or dommemstat
unfoldable pub domain_command : List ℕ → List ℕ → Result Command LineFault
domain_command kind domain =
    if not (is_domain domain) then Err Bad
    else if bytes_eq kind (codes "start") then Ok (Start domain)
    else if bytes_eq kind (codes "destroy") then Ok (Destroy domain)
    else if bytes_eq kind (codes "dommemstat") then Ok (ShowStatistics domain)
    else Err Bad

-- the SIZE of --min-guarantee=SIZE
unfoldable pub joined_size : List ℕ → Option (List ℕ)
joined_size word = if starts_with nat_eq word (codes "--min-guarantee=") then Some (drop 16 word) else None

-- memtune D --min-guarantee=SIZE
unfoldable pub tune_joined : ℕ → List ℕ → List ℕ → Result Command LineFault
tune_joined page domain option =
    if is_domain domain then option_map_or (set_minimum page domain) (joined_size option) (Err Bad) else Err Bad

-- K D SIZE, where K is setmem or memshares, or memtune with a joined option before or after D
unfoldable pub sized_command : ℕ → List ℕ → List ℕ → List ℕ → Result Command LineFault
sized_command page kind a b =
    if bytes_eq kind (codes "memtune") then (if is_domain a then tune_joined page a b else tune_joined page b a)
    else if not (is_domain a) then Err Bad
    else if bytes_eq kind (codes "setmem") then set_memory page a b
    else if bytes_eq kind (codes "memshares") then set_shares a b
    else Err Bad

-- memtune D --min-guarantee SIZE, or memtune --min-guarantee SIZE D
unfoldable pub tune_command : ℕ → List ℕ → List ℕ → List ℕ → List ℕ → Result Command LineFault
tune_command page kind a b c =
    if not (bytes_eq kind (codes "memtune")) then Err Bad
    else if is_domain a && bytes_eq b (codes "--min-guarantee") then set_minimum page a c
    else if bytes_eq a (codes "--min-guarantee") && is_domain c then set_minimum page c b
    else Err Bad

-- the command of some words, by their number
unfoldable pub command_of_words : ℕ → List (List ℕ) → Result Command LineFault
command_of_words page (kind ∷ a ∷ []) = domain_command kind a
command_of_words page (kind ∷ a ∷ b ∷ []) = sized_command page kind a b
command_of_words page (kind ∷ a ∷ b ∷ c ∷ []) = tune_command page kind a b c
command_of_words _ _ = Err Bad

-- Ok of the command where IsLine, Err Size where IsUnreadable, Err Bad where HasNoForm
-- the one command or fault that is such: IsLine, IsUnreadable, HasNoForm, by vm_commands::law_lines
unfoldable pub command_of : ℕ → List ℕ → Result Command LineFault
command_of page line = command_of_words page (words_of line)

-- ---- answers

-- a fault is that of the meaning; only a command is ever given up for want of memory
abbrev pub IsFaultOf : Result Command LineFault → LineFault → Type 0
IsFaultOf meaning Bad = meaning ≡ Err Bad
IsFaultOf meaning Size = meaning ≡ Err Size
IsFaultOf meaning Memory = IsOk meaning

-- what was answered is what is meant, or there was no memory for a command
abbrev pub Gives : Result Command LineFault → Result Command LineFault → Type 0
Gives answer meaning = MatchResult answer (λ command. meaning ≡ Ok command) (IsFaultOf meaning)

-- the answer is this command, or there was no memory for it
abbrev pub IsOrMemory : Result Command LineFault → Command → Type 0
IsOrMemory answer command = (answer ≡ Ok command) ⊎ (answer ≡ Err Memory)
