-- What the view of a guest tells of it.
use Rattle.std.proofs.Common.{IfSome, Option, Some, None}
use Rattle.std.specs.Option.{option_map}
use Rattle.vm_guest.specs.Record.{GuestRecord}
use Rattle.vm_guest.specs.View.{view_of}
use Rattle.vm_guest.specs.declared.view.GuestView.{GuestView}

pub seen : (Fact : GuestView → Type 0) (guest : Option GuestRecord) → IfSome (option_map view_of guest) Fact → IfSome guest (λ g. Fact (view_of g))
seen Fact None shown = tt
seen Fact (Some g) shown = shown
