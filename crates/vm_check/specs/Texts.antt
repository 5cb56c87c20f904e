-- What is printed of a finding: PLACE: WHAT.
use Rattle.std.specs.Prelude.{ℕ, ◌*◌, List, ◌++◌, codes}
use Rattle.std.specs.Fmt.{decimal}
use Rattle.vm_config.specs.FaultTexts as config
use Rattle.vm_check.specs.declared.finding.Finding.{Finding}
use Rattle.vm_check.specs.declared.place.FindingPlace.{FindingPlace}
use Rattle.vm_check.specs.declared.place.FindingPlace.TheVariants as place
use Rattle.vm_check.specs.declared.what.Level.{Level}
use Rattle.vm_check.specs.declared.what.Level.TheVariants.{High, Soft, Hard, Low}
use Rattle.vm_check.specs.declared.what.What.{What}
use Rattle.vm_check.specs.declared.what.What.TheVariants.{NoFrames, FewFrames, LittleSwap, AboveCommand, NeverStarts, LongTrace, Inflated, NeverRuns, Refused}
use Rattle.vm_check.specs.declared.what.Wrong.{Wrong}
use Rattle.vm_check.specs.declared.what.Wrong.TheVariants.{BadLine, BadSize, NoSuchDomain}

abbrev pub word_of : Level → List ℕ
word_of High = codes "high"
word_of Soft = codes "soft"
word_of Hard = codes "hard"
word_of Low = codes "low"

abbrev pub text_of_wrong : Wrong → List ℕ
text_of_wrong BadLine = codes "bad line"
text_of_wrong BadSize = codes "bad size"
text_of_wrong NoSuchDomain = codes "no such domain"

abbrev pub text_of_place : FindingPlace → List ℕ
text_of_place (place.Key part key) = config.text_of_key part key
text_of_place (place.Guest guest) = codes "guest " ++ decimal guest

abbrev pub text_of_what : What → List ℕ
text_of_what (NoFrames level frames) = word_of level ++ (codes " is 0 of " ++ (decimal frames ++ codes " frames"))
text_of_what (FewFrames promised frames) =
    codes "starts at epoch 0: minimums and overheads " ++ (decimal promised ++ (codes " of " ++ (decimal frames ++ codes " frames")))
text_of_what (LittleSwap promised pages) =
    codes "starts at epoch 0: reserves " ++ (decimal promised ++ (codes " of " ++ (decimal pages ++ codes " pages of swap")))
text_of_what (AboveCommand min pages command) =
    decimal min ++ (codes ", above the " ++ (decimal pages ++ (codes " pages of command " ++ decimal command)))
text_of_what NeverStarts = codes "never starts"
text_of_what (LongTrace steps epochs quantum) =
    decimal steps ++ (codes " steps, and at most " ++ (decimal (epochs * quantum) ++ (codes " run in " ++ (decimal epochs ++ (codes " epochs of " ++ decimal quantum)))))
text_of_what (Inflated step page) =
    codes "step " ++ (decimal step ++ (codes " touches page " ++ (decimal page ++ codes ", which is inflated and never deflated")))
text_of_what (NeverRuns at epochs) = decimal at ++ (codes ", and the run has " ++ (decimal epochs ++ codes " epochs"))
text_of_what (Refused wrong) = text_of_wrong wrong

abbrev pub text_of : Finding → List ℕ
text_of finding = text_of_place finding.place ++ (codes ": " ++ text_of_what finding.what)
