-- Guests of a policy, as the code reads them.
use Rattle.std.specs.Prelude.{◌≤◌, All, List, length, bytes_eq}
use Rattle.std.specs.List.{IsDistinct}
use Rattle.vm_samples.specs.declared.guests.Said.{Said}
use Rattle.vm_samples.specs.Policies.{GuestPolicyView, IsGuestPolicy, names_of}

abbrev pub said_of : Said → GuestPolicyView
said_of said = record {
  name = said.name.now;
  min = said.min;
  max = said.max;
  shares = said.shares;
  steer = said.steer;
}

pub record AreGuests (guests : List GuestPolicyView) : Type 0 where
  pub few : length guests ≤ 256
  pub within : All IsGuestPolicy guests
  pub names_differ : IsDistinct bytes_eq (names_of guests)
