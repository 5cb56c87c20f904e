-- There is a root with another value of a guest for each root.
use Rattle.std.proofs.Common.{◌≡◌, ℕ, zero, suc, ◌∷◌, set, Some, codes, refl, ap}
use Rattle.std.specs.Prelude.{slice_get}
use Rattle.serde_json.specs.Data.{Data, Items, Members, array, item, no_items, number, object, unsigned}
use Rattle.serde_json.specs.Find.{get}
use Rattle.serde_json.proofs.Views.{get_member-put, get_member-put_other}
use Rattle.vm_config.specs.Keys.{list_of}
use Rattle.vm_variants.specs.declared.guest_setting.GuestSetting.{GuestSetting}
use Rattle.vm_variants.specs.Texts.{items_with, key_of, root_with, with_number, HasGuestValue}

listed : (place : ℕ) (change : Data → Data) (guests : Items) (guest : Data) → slice_get (list_of guests) place ≡ Some guest
    → list_of (items_with place change guests) ≡ set (list_of guests) place (change guest)
listed place change no_items guest is = absurd (cc)
listed zero change (item d ds) guest is =
    let same : d ≡ guest = cc in ap (λ (d : Data). change d ∷ list_of ds) same
listed (suc place) change (item d ds) guest is = ap (λ rest. d ∷ rest) (listed place change ds guest is)

pub witness : (setting : GuestSetting) (place value : ℕ) (keys guest : Members) (guests : Items)
    → get (codes "guests") (object keys) ≡ Some (array guests) → slice_get (list_of guests) place ≡ Some (object guest)
    → HasGuestValue setting place value (object keys) (root_with setting place value keys guests)
witness setting place value keys guest guests stand there =
    let change = with_number (key_of setting) value in
    record {
      old_guests = guests;
      new_guests = items_with place change guests;
      old_guest = object guest;
      new_guest = change (object guest);
      old_stand = stand;
      new_stand = get_member-put (codes "guests") (array (items_with place change guests)) keys;
      there = there;
      guests = listed place change guests (object guest) there;
      guest = record {
        number = number (unsigned value);
        stands = get_member-put (key_of setting) (number (unsigned value)) guest;
        is = refl;
        others = λ other apart. get_member-put_other other (key_of setting) (number (unsigned value)) guest apart;
      };
      others = λ key apart. get_member-put_other key (codes "guests") (array (items_with place change guests)) keys apart;
    }
