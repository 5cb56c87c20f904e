-- What is wrong, with its place.
use Rattle.std.specs.Prelude.{Result, Ok, Err}
use Rattle.vm_samples.specs.declared.fault.PolicyFault.{PolicyFault}
use Rattle.vm_samples.specs.declared.fault.Wrong.{Wrong}
use Rattle.vm_samples.specs.declared.place.Place.{Place}

abbrev pub at : {A : Type 0} → Place → Result A Wrong → Result A PolicyFault
at place (Ok x) = Ok x
at place (Err wrong) = Err (record { place = place; wrong = wrong })
