-- A small command line, and what words say to it.
use Rattle.std.specs.Prelude.{◌≡◌, ℕ, Bool, true, false, List, [], ◌∷◌, Option, Some, None, codes}
use Rattle.clap.specs.Words.{Text}
use Rattle.vm_words.specs.declared.command_line.ValueKind.TheVariants.{Number, Text as AnyText, Texts as AnyTexts}
use Rattle.vm_words.specs.Words.{AreTaken, Line, asked, file_of, has_flag, number_of, text_of, texts_of}

-- `draw [--guests | --svg] [--name NAME] [--workers N] [--add TEXT]..`
abbrev pub draw : Line
draw = record {
  program = codes "draw";
  flags = record { name = codes "guests"; beside = None } ∷ record { name = codes "svg"; beside = Some (codes "guests") } ∷ [];
  values = record { name = codes "name"; kind = AnyText } ∷ record { name = codes "workers"; kind = Number 1 64 }
      ∷ record { name = codes "add"; kind = AnyTexts } ∷ [];
  takes_file = false;
}

-- `draw [--guests | --svg] [--name NAME] [--workers N] [--add TEXT].. [FILE]`
abbrev pub draw_of_file : Line
draw_of_file = record draw { takes_file = true }

-- the words behind the program's name are taken, and ask for this
pub record AskFor (words : List Text) (guests svg : Bool) (name : Option Text) (workers : Option ℕ) (added : List Text) : Type 0 where
  pub taken : AreTaken draw (codes "draw" ∷ words)
  pub guests_is : has_flag (codes "guests") (asked draw (codes "draw" ∷ words)) ≡ guests
  pub svg_is : has_flag (codes "svg") (asked draw (codes "draw" ∷ words)) ≡ svg
  pub name_is : text_of (codes "name") (asked draw (codes "draw" ∷ words)) ≡ name
  pub added_is : texts_of (codes "add") (asked draw (codes "draw" ∷ words)) ≡ added
  pub workers_is : number_of (codes "workers") (asked draw (codes "draw" ∷ words)) ≡ workers

abbrev pub AreRefused : List Text → Type 0
AreRefused words = AreTaken draw (codes "draw" ∷ words) → ⊥

-- with FILE they are taken too, and ask for this file
pub record AskForFile (words : List Text) (file : Option Text) : Type 0 where
  pub taken : AreTaken draw_of_file (codes "draw" ∷ words)
  pub file_is : file_of (asked draw_of_file (codes "draw" ∷ words)) ≡ file

-- not even with FILE
abbrev pub AreRefusedOfFile : List Text → Type 0
AreRefusedOfFile words = AreTaken draw_of_file (codes "draw" ∷ words) → ⊥
