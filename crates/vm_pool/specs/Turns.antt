-- Guests that leave their slots for an epoch, and come back.
use Rattle.std.specs.Prelude.{◌≡◌, ⊤, true, List, [], ◌∷◌, ◌++◌}
use Rattle.vm_guest.specs.Good.{HasNothingPosted}
use Rattle.vm_guest.specs.State.{GuestState}
use Rattle.vm_pool.specs.declared.slot.Slot.{Slot}
use Rattle.vm_pool.specs.declared.slot.Slot.TheVariants.{Stopped, Running, Away}

-- a guest may run its epoch: there is room for it, and no buffer is posted
pub record IsReady (s : GuestState) : Type 0 where
  pub prepared : s.prepared ≡ true
  pub nothing : HasNothingPosted s.guest

-- a guest in the slot may run its epoch
abbrev pub MayRun : Slot → Type 0
MayRun (Stopped config) = ⊤
MayRun (Running s) = IsReady s
MayRun Away = ⊤

-- the slot once its guest left
abbrev pub left_slot : Slot → Slot
left_slot (Stopped config) = Stopped config
left_slot (Running s) = Away
left_slot Away = Away

-- the guests that run, in order
abbrev pub running_in : List Slot → List GuestState
running_in [] = []
running_in (Stopped config ∷ slots) = running_in slots
running_in (Running s ∷ slots) = s ∷ running_in slots
running_in (Away ∷ slots) = running_in slots

-- the slots once guests came back, in order, to those whose guests are away
abbrev pub back_in : List Slot → List GuestState → List Slot
back_in [] guests = []
back_in (Stopped config ∷ slots) guests = Stopped config ∷ back_in slots guests
back_in (Running s ∷ slots) guests = Running s ∷ back_in slots guests
back_in (Away ∷ slots) [] = Away ∷ back_in slots []
back_in (Away ∷ slots) (g ∷ guests) = Running g ∷ back_in slots guests

-- the last of these guests came to the slot
pub record Arrives (slot : Slot) (before after : List GuestState) : Type 0 where
  pub guest : GuestState
  pub running : slot ≡ Running guest
  pub last : before ≡ after ++ guest ∷ []
