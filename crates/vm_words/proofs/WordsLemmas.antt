-- Which words are taken, and what they ask for, as a parse of them says.
use Rattle.std.proofs.Common.{◌≡◌, ◌∙◌, ◌++◌, ℕ, List, [], ◌∷◌, Bool, Result, Ok, Err, IfErr, IsErrAnd, ⊎_elim, refl, sym, ap, subst, true, false, map}
use Rattle.std.specs.List.{list_all, list_any}
use Rattle.std.proofs.lemmas.List.Folds.{list_all-map}
use Rattle.clap.specs.Simple.{filled_from, help_rule, version_rule}
use Rattle.clap.specs.Walk.{is_early_multiple}
use Rattle.clap.specs.Words.{App, HasKind, HasMatchesOf, Kinds, Row, Rule, Text, fault_of, found_of, is_simple, is_simple_and_free, kind_of, rows_of}
use Rattle.clap.specs.declared.error.Error.{Error}
use Rattle.clap.specs.declared.error.kind.ErrorKind.{ErrorKind}
use Rattle.clap.specs.declared.error.kind.ErrorKind.TheVariants.{OutOfMemory}
use Rattle.clap.specs.declared.parser.matches.ArgMatches.{ArgMatches}
use Rattle.clap.proofs.WalkLemmas.{list_any-map}
use Rattle.vm_words.specs.declared.command_line.CommandLine.{CommandLine}
use Rattle.vm_words.specs.Words.{AreTaken, FlagRule, Line, ValueRule, asked, command_line, file_options, flag_option, flag_rule, is_beside, is_fit, line_of, value_option, value_rule}

-- a list with a fault is not empty
pub has-fault : (kind : ErrorKind) (kinds : List ErrorKind) → kind ∷ kinds ≡ [] → ⊥
has-fault kind kinds none = absurd cc

-- the options, and the flags for help and the version that `clap` adds
abbrev options : List FlagRule → List ValueRule → Bool → List Rule
options flags values file =
    (((map flag_option flags ++ map value_option values) ++ file_options file) ++ help_rule ∷ []) ++ version_rule ∷ []

plain-options : (flags : List FlagRule) (values : List ValueRule) (file : Bool)
    → list_all (λ a. a.is_simple) ((map flag_option flags ++ map value_option values) ++ file_options file) ≡ true
unfolding flag_option value_option
plain-options [] [] true = refl
plain-options [] [] false = refl
plain-options [] (v ∷ vs) file = plain-options [] vs file
plain-options (f ∷ fs) vs file = plain-options fs vs file

simple-options : (i : ℕ) (flags : List FlagRule) (values : List ValueRule) (file : Bool)
    → list_all (λ a. a.is_simple) (filled_from i (options flags values file)) ≡ true
unfolding flag_option value_option
simple-options i [] [] true = refl
simple-options i [] [] false = refl
simple-options i [] (v ∷ vs) file = simple-options i [] vs file
simple-options i (f ∷ fs) vs file = simple-options i fs vs file

free-options : (i : ℕ) (flags : List FlagRule) (values : List ValueRule) (file : Bool)
    → list_all (λ a. a.is_free) (filled_from i (options flags values file)) ≡ true
unfolding flag_option value_option
free-options i [] [] true = refl
free-options i [] [] false = refl
free-options i [] (v ∷ vs) file = free-options i [] vs file
free-options i (f ∷ fs) vs file = free-options i fs vs file

-- none of them takes several values by its place
single-options : (n i : ℕ) (flags : List FlagRule) (values : List ValueRule) (file : Bool)
    → list_any (is_early_multiple n) (filled_from i (options flags values file)) ≡ false
unfolding flag_option value_option
single-options n i [] [] true = refl
single-options n i [] [] false = refl
single-options n i [] (v ∷ vs) file = single-options n i [] vs file
single-options n i (f ∷ fs) vs file = single-options n i fs vs file

is-simple : (line : Line) → is_simple (command_line line) ≡ true
unfolding command_line
is-simple line =
    rw (
      plain-options line.flags line.values line.takes_file,
      simple-options 1 line.flags line.values line.takes_file,
      single-options _ 1 line.flags line.values line.takes_file,
    ) refl

is-free : (line : Line) → is_simple_and_free (command_line line) ≡ true
unfolding command_line
is-free line = rw (is-simple line, free-options 1 line.flags line.values line.takes_file) refl

module _ (line : CommandLine) (app : App) (words : List Text) (is : app ≡ command_line (line_of line)) where
  -- the matches of a parse are what the words ask for
  pub asked-ok : (matches : ArgMatches) → HasMatchesOf app words matches → rows_of (found_of matches) ≡ asked (line_of line) words
  unfolding asked
  asked-ok matches are =
      (are (ap is_simple is ∙ is-simple (line_of line))).0 ∙ ap (λ (a : App). Rattle.clap.specs.Words.matches_of a words) is

  module _ (rows : List Row) (same : rows ≡ asked (line_of line) words) where
    apart-as : list_any (λ flag. is_beside rows (flag_rule flag)) line.flags.now ≡ list_any (is_beside (asked (line_of line) words)) (line_of line).flags
    apart-as = list_any-map (is_beside rows) flag_rule line.flags.now ∙ ap (λ (r : List Row). list_any (is_beside r) (line_of line).flags) same

    fit-as : list_all (λ value. is_fit rows (value_rule value)) line.values.now ≡ list_all (is_fit (asked (line_of line) words)) (line_of line).values
    fit-as = sym (list_all-map (is_fit rows) value_rule line.values.now) ∙ ap (λ (r : List Row). list_all (is_fit r) (line_of line).values) same

    pub taken-ok : (is_simple_and_free app ≡ true → fault_of app words ≡ [])
        → list_any (λ flag. is_beside rows (flag_rule flag)) line.flags.now ≡ false
        → list_all (λ value. is_fit rows (value_rule value)) line.values.now ≡ true → AreTaken (line_of line) words
    unfolding AreTaken
    taken-ok none apart fit = record {
      faultless = subst (λ (a : App). fault_of a words ≡ []) is (none (ap is_simple_and_free is ∙ is-free (line_of line)));
      apart = sym apart-as ∙ apart;
      fit = sym fit-as ∙ fit;
    }

    -- words that are taken are checked, but for want of memory
    pub checked-err : {T : Type 0} (result : Result T Error) (error : Error)
        → (list_any (λ flag. is_beside rows (flag_rule flag)) line.flags.now ≡ false
        → list_all (λ value. is_fit rows (value_rule value)) line.values.now ≡ true → kind_of error ≡ OutOfMemory)
        → IsErrAnd result (λ y. y ≡ error) → IfErr result (λ y. AreTaken (line_of line) words → kind_of y ≡ OutOfMemory)
    unfolding AreTaken
    checked-err (Ok x) error memory is_error = absurd is_error
    checked-err (Err y) error memory is_error = λ taken. ap kind_of is_error ∙ memory (apart-as ∙ taken.apart) (fit-as ∙ taken.fit)

  -- a parse that fails at words that are taken lacks memory
  pub taken-err : {T : Type 0} (result : Result T Error) (error : Error)
      → (is_simple_and_free app ≡ true → HasKind (fault_of app words) error) → IsErrAnd result (λ y. y ≡ error)
      → IfErr result (λ y. AreTaken (line_of line) words → kind_of y ≡ OutOfMemory)
  unfolding AreTaken
  taken-err (Ok x) error faults is_error = absurd is_error
  taken-err (Err y) error faults is_error = λ taken.
      let at : HasKind (fault_of (command_line (line_of line)) words) error =
      subst (λ (a : App). HasKind (fault_of a words) error) is (faults (ap is_simple_and_free is ∙ is-free (line_of line))) in
      let left : HasKind [] error = subst (λ (kinds : Kinds). HasKind kinds error) taken.faultless at in
      ap kind_of is_error ∙ ⊎_elim (λ memory. memory) (λ none. absurd none) left
