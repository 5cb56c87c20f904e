-- Which text has another value of a guest in the place of its own.
use Rattle.std.specs.Prelude.{◌≡◌, ◌≢◌, ℕ, zero, suc, List, Some, Ok, codes, slice_get, slice_set}
use Rattle.serde_json.specs.Data.{Data, Items, Members, array, item, no_items, number, object, put, unsigned}
use Rattle.serde_json.specs.Find.{get}
use Rattle.vm_config.specs.Keys.{as_whole, list_of}
use Rattle.vm_config.specs.Reading.{root_in}
use Rattle.vm_variants.specs.declared.guest_setting.GuestSetting.{GuestSetting}
use Rattle.vm_variants.specs.declared.guest_setting.GuestSetting.TheVariants.{Min, Shares}

-- the key of a guest where the value stands
abbrev pub key_of : GuestSetting → List ℕ
key_of Min = codes "min"
key_of Shares = codes "shares"

-- an object has this number at a key, and at each other key what the old one has
pub record HasNumber (key : List ℕ) (n : ℕ) (old new : Data) : Type 0 where
  pub number : Data
  pub stands : get key new ≡ Some number
  pub is : as_whole number ≡ Some n
  pub others : (other : List ℕ) → other ≢ key → get other new ≡ get other old

-- a root has the guests of the old one, but that the one at a place has another value, and at each other key what the old one has
pub record HasGuestValue (setting : GuestSetting) (place value : ℕ) (old new : Data) : Type 0 where
  pub old_guests : Items
  pub new_guests : Items
  pub old_guest : Data
  pub new_guest : Data
  pub old_stand : get (codes "guests") old ≡ Some (array old_guests)
  pub new_stand : get (codes "guests") new ≡ Some (array new_guests)
  pub there : slice_get (list_of old_guests) place ≡ Some old_guest
  pub guests : list_of new_guests ≡ slice_set (list_of old_guests) place new_guest
  pub guest : HasNumber (key_of setting) value old_guest new_guest
  pub others : (key : List ℕ) → key ≢ codes "guests" → get key new ≡ get key old

-- of two texts the second has another value of the guest at a place
pub record IsTextWith (setting : GuestSetting) (place value : ℕ) (old new : List ℕ) : Type 0 where
  pub old_root : Data
  pub new_root : Data
  pub old_root_is : root_in old ≡ Ok old_root
  pub new_root_is : root_in new ≡ Ok new_root
  pub root : HasGuestValue setting place value old_root new_root

-- ---- the root that has the value

-- an object with this number at a key
abbrev pub with_number : List ℕ → ℕ → Data → Data
with_number key n (object ms) = object (put key (number (unsigned n)) ms)
with_number key n d = d

-- the items with a change of the one at a place, if there is one
abbrev pub items_with : ℕ → (Data → Data) → Items → Items
items_with place change no_items = no_items
items_with zero change (item d ds) = item (change d) ds
items_with (suc place) change (item d ds) = item d (items_with place change ds)

-- the root of an object with these guests, of which the one at a place has the value
abbrev pub root_with : GuestSetting → (place value : ℕ) → Members → Items → Data
root_with setting place value ms guests =
    object (put (codes "guests") (array (items_with place (with_number (key_of setting) value) guests)) ms)
