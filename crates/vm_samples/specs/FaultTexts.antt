-- What is printed of a fault of a policy: its place, and what is wrong there.
use Rattle.std.specs.Prelude.{ℕ, List, ◌++◌, codes}
use Rattle.std.specs.Fmt.{decimal}
use Rattle.vm_samples.specs.declared.fault.PolicyFault.{PolicyFault}
use Rattle.vm_samples.specs.declared.fault.Wrong.{Wrong}
use Rattle.vm_samples.specs.declared.fault.Wrong.TheVariants.{NotJson, NotAnObject, Absent, NotWhole, NotAText, NotASize, NotATruth, NotNumbers, NotObjects, TooMany, NotAName, Twice, Range}
use Rattle.vm_samples.specs.declared.place.Place.{Place}
use Rattle.vm_samples.specs.declared.place.Place.TheVariants.{Text, Root, Guest}
use Rattle.vm_samples.specs.Places.{name_of}

abbrev pub text_of_place : Place → List ℕ
text_of_place Text = codes "the text"
text_of_place (Root key) = codes "key \"" ++ (name_of key ++ codes "\"")
text_of_place (Guest guest key) = codes "guest " ++ (decimal guest ++ (codes ", key \"" ++ (name_of key ++ codes "\"")))

abbrev pub text_of_wrong : Wrong → List ℕ
text_of_wrong NotJson = codes "is no JSON"
text_of_wrong NotAnObject = codes "is not an object"
text_of_wrong Absent = codes "is absent"
text_of_wrong NotWhole = codes "is not a whole number"
text_of_wrong NotAText = codes "is not a text"
text_of_wrong NotASize = codes "is not a size"
text_of_wrong NotATruth = codes "is not true or false"
text_of_wrong NotNumbers = codes "is not a list of whole numbers"
text_of_wrong NotObjects = codes "is not a list of objects"
text_of_wrong TooMany = codes "has too many items"
text_of_wrong NotAName = codes "is no name"
text_of_wrong Twice = codes "is that of an earlier guest"
text_of_wrong Range = codes "is out of range"

-- the place, a colon, and what is wrong
abbrev pub text_of : PolicyFault → List ℕ
text_of fault = text_of_place fault.place ++ (codes ": " ++ text_of_wrong fault.wrong)
