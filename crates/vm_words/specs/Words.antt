-- A command line of flags and values: which words it takes, and what they ask for.
use Rattle.std.specs.Prelude.{◌≡◌, ◌⊎◌, ◌≤◌, ◌&&◌, ◌++◌, ◌^◌, ⊤, ℕ, Bool, true, false, List, [], ◌∷◌, Option, Some, None, IfSome, codes, if◌then◌else◌, map, unwrap_or, nat_le, nat_lt, option_and_then, option_map}
use Rattle.std.specs.List.{list_all, list_any}
use Rattle.std.specs.Option.{option_map_or}
use Rattle.std.specs.Str.{bytes_eq}
use Rattle.std.specs.Str.Parse.{digits_value, without_leading_plus}
use Rattle.clap.specs.Words.{App, Row, Rule, Text, all_of, fault_of, first_of, matches_of, new_app, new_rule}
use Rattle.clap.specs.ValueTests.{is_numeral}
use Rattle.clap.specs.declared.builder.action.ArgAction.{ArgAction}
use Rattle.clap.specs.declared.builder.action.ArgAction.TheVariants.{Append, Set, SetTrue}
use Rattle.clap.specs.declared.builder.value_parser.ValueParser.{ValueParser}
use Rattle.clap.specs.declared.builder.value_parser.ValueParser.TheVariants.{Unsigned}
use Rattle.vm_words.specs.declared.command_line.CommandLine.{CommandLine}
use Rattle.vm_words.specs.declared.command_line.Flag.{Flag}
use Rattle.vm_words.specs.declared.command_line.ValueKind.{ValueKind}
use Rattle.vm_words.specs.declared.command_line.ValueKind.TheVariants as kind
use Rattle.vm_words.specs.declared.command_line.ValueWord.{ValueWord}

-- ---- what a command line may be given

pub record FlagRule : Type 0 where
  pub name : Text
  -- a flag that may not stand beside it
  pub beside : Option Text

pub record ValueRule : Type 0 where
  pub name : Text
  pub kind : ValueKind

pub record Line : Type 0 where
  pub program : Text
  pub flags : List FlagRule
  pub values : List ValueRule
  -- it may be given a file in place of standard input
  pub takes_file : Bool

abbrev pub flag_rule : Flag → FlagRule
flag_rule flag = record { name = flag.name.now; beside = option_map (λ other. other.now) flag.beside }

abbrev pub value_rule : ValueWord → ValueRule
value_rule value = record { name = value.name.now; kind = value.kind }

abbrev pub line_of : CommandLine → Line
line_of line = record {
  program = line.program.now;
  flags = map flag_rule line.flags.now;
  values = map value_rule line.values.now;
  takes_file = line.takes_file;
}

-- ---- the same for `clap`

-- `--NAME`
unfoldable pub flag_option : FlagRule → Rule
flag_option flag = record (new_rule flag.name) {
  long = Some flag.name;
  action = Some SetTrue;
}

abbrev pub parser_for : ValueKind → Option ValueParser
parser_for kind.Text = None
parser_for kind.Texts = None
parser_for (kind.Number least greatest) = Some (Unsigned least greatest)

-- what is done with a value that is given: only texts may be given again
abbrev pub action_for : ValueKind → ArgAction
action_for kind.Texts = Append
action_for kind.Text = Set
action_for (kind.Number least greatest) = Set

-- `--NAME VALUE`
unfoldable pub value_option : ValueRule → Rule
value_option value = record (new_rule value.name) {
  long = Some value.name;
  value_names = 1;
  action = Some (action_for value.kind);
  parser = parser_for value.kind;
}

-- `FILE`
abbrev pub file_option : Rule
file_option = record (new_rule (codes "FILE")) { value_names = 1; action = Some Set }

abbrev pub file_options : Bool → List Rule
file_options true = file_option ∷ []
file_options false = []

-- a command that `--version` is known to
abbrev pub versioned : App → App
versioned app = record app { top = record app.top { has_version = true } }

abbrev pub with_options : App → List Rule → App
with_options app options = record app { top = record app.top { rules = app.top.rules ++ options } }

-- `PROGRAM [--FLAG] .. [--VALUE NAME] .. [FILE]`, beside `--help` and `--version`
unfoldable pub command_line : Line → App
command_line line =
    let named = with_options (versioned (new_app line.program)) (map flag_option line.flags) in
    with_options (with_options named (map value_option line.values)) (file_options line.takes_file)

-- ---- what words ask for

-- what stands for each argument in words that are taken, of which the first is the program's name
unfoldable pub asked : Line → List Text → List Row
asked line words = matches_of (command_line line) words

-- the text of a value that is given; of several the first
unfoldable pub text_of : Text → List Row → Option Text
text_of name rows = first_of name rows

-- all texts of a value that is given, in order
unfoldable pub texts_of : Text → List Row → List Text
texts_of name rows = unwrap_or (all_of name rows) []

-- a flag that was given has this text as its value
abbrev pub says_true : Option Text → Bool
says_true None = false
says_true (Some text) = bytes_eq text (codes "true")

-- the flag is given
unfoldable pub has_flag : Text → List Row → Bool
has_flag name rows = says_true (text_of name rows)

-- the number that a text is, where it is one that 64 bits hold
abbrev pub number_in : Text → Option ℕ
number_in text =
    let digits = without_leading_plus text in
    if is_numeral digits && nat_lt (digits_value 10 digits) (2 ^ 64) then Some (digits_value 10 digits) else None

-- the number that a value is, where it is given
unfoldable pub number_of : Text → List Row → Option ℕ
number_of name rows = option_and_then number_in (text_of name rows)

-- the file that is given in place of standard input
abbrev pub file_of : List Row → Option Text
file_of rows = text_of (codes "FILE") rows

-- ---- which words are taken

-- both this flag and the one that may not stand beside it are given
abbrev pub is_beside : List Row → FlagRule → Bool
is_beside rows flag = option_map_or (λ other. has_flag flag.name rows && has_flag other rows) flag.beside false

abbrev pub is_within : (least greatest : ℕ) → Option ℕ → Bool
is_within least greatest None = false
is_within least greatest (Some n) = nat_le least n && nat_le n greatest

abbrev pub fits : ValueKind → Text → Bool
fits kind.Text text = true
fits kind.Texts text = true
fits (kind.Number least greatest) text = is_within least greatest (number_in text)

-- a value that is given is what it has to be
abbrev pub is_fit : List Row → ValueRule → Bool
is_fit rows value = option_map_or (fits value.kind) (text_of value.name rows) true

-- what is asked of words that are taken
pub record PassChecks (line : Line) (words : List Text) : Type 0 where
  -- `clap` finds no fault in them, and no call for help
  pub faultless : fault_of (command_line line) words ≡ []
  -- no flag stands beside one that it may not
  pub apart : list_any (is_beside (asked line words)) line.flags ≡ false
  -- each value that is given is what it has to be: `clap` tests that too, and says what is wrong
  pub fit : list_all (is_fit (asked line words)) line.values ≡ true

-- words that are taken, of which the first is the program's name
unfoldable pub AreTaken : Line → List Text → Type 0
AreTaken line words = PassChecks line words

-- words that are not taken have status 2; that memory was refused has 3
abbrev pub IsStatusOfWords : Line → List Text → ℕ → Type 0
IsStatusOfWords line words status = ((status ≡ 2) × (AreTaken line words → ⊥)) ⊎ (status ≡ 3)

abbrev pub LiesIn : ValueKind → ℕ → Type 0
LiesIn kind.Text n = ⊤
LiesIn kind.Texts n = ⊤
LiesIn (kind.Number least greatest) n = (least ≤ n) × (n ≤ greatest)

-- each number that is given lies in its range
abbrev pub NumbersLieIn : List ValueRule → List Row → Type 0
NumbersLieIn [] rows = ⊤
NumbersLieIn (value ∷ values) rows = IfSome (number_of value.name rows) (LiesIn value.kind) × NumbersLieIn values rows
