-- The numbers of a guest that may be changed, and which values they may have.
use Rattle.std.specs.Prelude.{ℕ, ◌≤◌, ◌&&◌, nat_le, if◌then◌else◌, Option, Some, None}
use Rattle.vm_guest.specs.Config.{GuestConfig}
use Rattle.vm_variants.specs.declared.error.GuestError.{GuestError}
use Rattle.vm_variants.specs.declared.error.GuestError.TheVariants.{NoGuest, OutOfRange}
use Rattle.vm_variants.specs.declared.guest_setting.GuestRange.{GuestRange}
use Rattle.vm_variants.specs.declared.guest_setting.GuestSetting.{GuestSetting}
use Rattle.vm_variants.specs.declared.guest_setting.GuestSetting.TheVariants.{Min, Shares}

-- the values that a guest may have
abbrev pub greatest_of : GuestSetting → GuestConfig → ℕ
greatest_of Min guest = guest.size
greatest_of Shares guest = 1000000

abbrev pub range_of : GuestSetting → GuestConfig → GuestRange
range_of setting guest = record { least = 1; greatest = greatest_of setting guest }

pub record IsInRange (setting : GuestSetting) (value : ℕ) (guest : GuestConfig) : Type 0 where
  pub least : 1 ≤ value
  pub greatest : value ≤ greatest_of setting guest

-- the value that a guest has
abbrev pub value_of : GuestSetting → GuestConfig → ℕ
value_of Min guest = guest.min
value_of Shares guest = guest.shares

-- the guest with another value, and all else as it was
abbrev pub with_value : GuestSetting → ℕ → GuestConfig → GuestConfig
with_value Min n guest = record guest { min = n }
with_value Shares n guest = record guest { shares = n }

-- why a value is refused of the guest at a place, if it is; there may be no guest
abbrev pub refusal_of : GuestSetting → (place value : ℕ) → Option GuestConfig → Option GuestError
refusal_of setting place value None = Some (NoGuest place)
refusal_of setting place value (Some guest) =
    if nat_le 1 value && nat_le value (greatest_of setting guest) then None else Some (OutOfRange setting place 1 (greatest_of setting guest))
