-- What is printed of a finding: its place, a colon, and what is found there.
use Rattle.std.specs.Prelude.{ℕ, List, ◌++◌, codes}
use Rattle.std.specs.Fmt.{decimal}
use Rattle.vm_keys.specs.OddKeys.{Odd}
use Rattle.vm_keys.specs.Told.{told}
use Rattle.vm_policy_check.specs.declared.finding.Part.{Part}
use Rattle.vm_policy_check.specs.declared.finding.Part.TheVariants.{Root, Guest}
use Rattle.vm_policy_check.specs.Findings.{Found, fault, odd, crowded, crossed}
use Rattle.vm_samples.specs.FaultTexts as policy

abbrev pub odd_text : Part → Odd → List ℕ
odd_text Root key = told (codes "the root") key
odd_text (Guest guest) key = codes "guest " ++ (decimal guest ++ (codes ", " ++ told (codes "a guest") key))

abbrev pub text_of : Found → List ℕ
text_of (fault f) = policy.text_of f
text_of (odd part key) = odd_text part key
text_of (crowded kept memory unit) =
    codes "key \"memory\": minimums and overheads " ++ (decimal kept ++ (codes " of " ++ (decimal memory ++ (codes " units of " ++ (decimal unit ++ codes " KiB")))))
text_of (crossed guest) = codes "guest " ++ (decimal guest ++ codes ", key \"max\": below its min")
