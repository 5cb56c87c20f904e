-- What a text of version 2 is as one of version 3.
use Rattle.std.specs.Prelude.{◌≡◌, ◌≢◌, ℕ, List, [], ◌∷◌, true, Ok, ⊤, codes}
use Rattle.serde_json.specs.Data.{Data, Items, Members, array, item, no_items, number, object, put, string, unsigned}
use Rattle.serde_json.specs.Find.{get}
use Rattle.vm_config.specs.Keys.{number_or, objects_in, own_driver_or}
use Rattle.vm_config.specs.Reading.{root_in, version_in}

-- the same keys, but that the guest has a driver of its own; whatever the other has under `driver` is of no account
pub record IsGuestAsVersion3 (old new : Data) : Type 0 where
  pub own : own_driver_or (get (codes "driver") new) ≡ Ok true
  pub others : (key : List ℕ) → key ≢ codes "driver" → get key new ≡ get key old

-- guest by guest
abbrev pub AreGuestsAsVersion3 : List Data → List Data → Type 0
AreGuestsAsVersion3 [] [] = ⊤
AreGuestsAsVersion3 [] (new ∷ news) = ⊥
AreGuestsAsVersion3 (old ∷ olds) [] = ⊥
AreGuestsAsVersion3 (old ∷ olds) (new ∷ news) = IsGuestAsVersion3 old new × AreGuestsAsVersion3 olds news

-- the same keys and guests, but that the machine doesn't rebalance and a page stands for 4 KiB; whatever the other has under
-- `rebalance` and `page` is of no account
pub record IsRootAsVersion3 (old new : Data) : Type 0 where
  pub old_guests : List Data
  pub new_guests : List Data
  pub rebalance : number_or (get (codes "rebalance") new) 0 262144 0 ≡ Ok 0
  pub page : number_or (get (codes "page") new) 4 1048576 4 ≡ Ok 4
  pub old_guests_are : objects_in 256 (get (codes "guests") old) ≡ Ok old_guests
  pub new_guests_are : objects_in 256 (get (codes "guests") new) ≡ Ok new_guests
  pub guests : AreGuestsAsVersion3 old_guests new_guests
  pub others : (key : List ℕ) → key ≢ codes "version" → key ≢ codes "rebalance" → key ≢ codes "page" → key ≢ codes "guests"
      → get key new ≡ get key old

-- of two texts the first is of version 2, and the second is the first as version 3
pub record IsAsVersion3 (old new : List ℕ) : Type 0 where
  pub old_root : Data
  pub new_root : Data
  pub old_root_is : root_in old ≡ Ok old_root
  pub new_root_is : root_in new ≡ Ok new_root
  pub version_2 : version_in 3 old_root ≡ Ok 2
  pub version_3 : version_in 3 new_root ≡ Ok 3
  pub root : IsRootAsVersion3 old_root new_root

-- ---- what version 2 presumes, said in version 3

-- a guest with a driver of its own
abbrev pub guest_with_driver : Data → Data
guest_with_driver (object ms) = object (put (codes "driver") (string (codes "own")) ms)
guest_with_driver d = d

abbrev pub guests_with_drivers : Items → Items
guests_with_drivers no_items = no_items
guests_with_drivers (item d ds) = item (guest_with_driver d) (guests_with_drivers ds)

-- the root of an object with these guests
abbrev pub root_as_version_3 : Members → Items → Data
root_as_version_3 ms guests =
    object (put (codes "version") (number (unsigned 3)) (put (codes "rebalance") (number (unsigned 0)) (put (codes "page") (number (unsigned 4))
    (put (codes "guests") (array (guests_with_drivers guests)) ms))))
