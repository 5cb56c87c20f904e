-- There is a root of version 3 for each root of version 2.
use Rattle.std.proofs.Common.{◌≡◌, ◌≢◌, ◌&&◌, ℕ, suc, List, length, Bool, true, false, cond, Some, Result, Ok, Err, codes, refl, ap, ◌∙◌}
use Rattle.std.proofs.lemmas.Bool.{false≢true, and_parts}
use Rattle.std.specs.List.{list_all}
use Rattle.std.specs.Prelude.{nat_le}
use Rattle.serde_json.specs.Data.{Data, null, boolean, number, string, array, object, unsigned, Items, no_items, item, Members, put}
use Rattle.serde_json.specs.Find.{get_member}
use Rattle.serde_json.proofs.Views.{get_member-put, get_member-put_other}
use Rattle.vm_config.specs.declared.error.ConfigError.{ConfigError}
use Rattle.vm_config.specs.declared.error.ConfigError.TheVariants.{Kind, Range}
use Rattle.vm_config.specs.AsVersion3.{AreGuestsAsVersion3, IsGuestAsVersion3, IsRootAsVersion3, guest_with_driver, guests_with_drivers, root_as_version_3}
use Rattle.vm_config.specs.Keys.{is_object, list_of, number_or, objects_in, own_driver_or, required_number}
use Rattle.vm_config.specs.Reading.{version_in}
use Rattle.vm_config.proofs.AsVersion3Lemmas.{other}

-- ---- guests

own-guest : (d : Data) → is_object d ≡ true → IsGuestAsVersion3 d (guest_with_driver d)
own-guest null is = absurd (false≢true is)
own-guest (boolean b) is = absurd (false≢true is)
own-guest (number n) is = absurd (false≢true is)
own-guest (string s) is = absurd (false≢true is)
own-guest (array ds) is = absurd (false≢true is)
own-guest (object ms) is = record {
  own = ap own_driver_or (get_member-put (codes "driver") (string (codes "own")) ms);
  others = λ key apart. get_member-put_other key (codes "driver") (string (codes "own")) ms apart;
}

own-guests : (guests : Items) → list_all is_object (list_of guests) ≡ true
    → AreGuestsAsVersion3 (list_of guests) (list_of (guests_with_drivers guests))
own-guests no_items all = tt
own-guests (item d ds) all =
    let parts = and_parts (is_object d) (list_all is_object (list_of ds)) all in (own-guest d parts.0, own-guests ds parts.1)

still-object : (d : Data) → is_object (guest_with_driver d) ≡ is_object d
still-object null = refl
still-object (boolean b) = refl
still-object (number n) = refl
still-object (string s) = refl
still-object (array ds) = refl
still-object (object ms) = refl

objects-as-before : (guests : Items) → list_all is_object (list_of (guests_with_drivers guests)) ≡ list_all is_object (list_of guests)
objects-as-before no_items = refl
objects-as-before (item d ds) = λ i. still-object d i && objects-as-before ds i

as-many : (guests : Items) → length (list_of (guests_with_drivers guests)) ≡ length (list_of guests)
as-many no_items = refl
as-many (item d ds) = ap suc (as-many ds)

abbrev chosen : (all few : Bool) → List Data → Result (List Data) ConfigError
chosen all few ds = cond all (cond few (Ok ds) (Err Range)) (Err Kind)

-- they are objects, and not too many
read-among : (all few : Bool) (ds found : List Data) → chosen all few ds ≡ Ok found → (all ≡ true) × (few ≡ true)
read-among true true ds found is = (refl, refl)
read-among true false ds found is = absurd (cc)
read-among false few ds found is = absurd (cc)

-- ---- the root

module _ (ms : Members) (guests : Items) (found : List Data)
    (stand : get_member (codes "guests") ms ≡ Some (array guests))
    (are : objects_in 256 (Some (array guests)) ≡ Ok found) where
  read : (list_all is_object (list_of guests) ≡ true) × (nat_le (length (list_of guests)) 256 ≡ true)
  read = read-among (list_all is_object (list_of guests)) (nat_le (length (list_of guests)) 256) (list_of guests) found are

  abbrev news : Items
  news = guests_with_drivers guests

  new-objects : objects_in 256 (Some (array news)) ≡ Ok (list_of news)
  new-objects = λ i. chosen ((objects-as-before guests ∙ read.0) i) ((ap (λ n. nat_le n 256) (as-many guests) ∙ read.1) i) (list_of news)

  old-objects : objects_in 256 (get_member (codes "guests") ms) ≡ Ok (list_of guests)
  old-objects = ap (objects_in 256) stand ∙ (λ i. chosen (read.0 i) (read.1 i) (list_of guests))

  abbrev with_guests : Members
  with_guests = put (codes "guests") (array news) ms

  abbrev with_page : Members
  with_page = put (codes "page") (number (unsigned 4)) with_guests

  abbrev with_rebalance : Members
  with_rebalance = put (codes "rebalance") (number (unsigned 0)) with_page

  abbrev with_version : Members
  with_version = put (codes "version") (number (unsigned 3)) with_rebalance

  above-version : (key : List ℕ) → key ≢ codes "version" → get_member key with_version ≡ get_member key with_rebalance
  above-version key apart = get_member-put_other key (codes "version") (number (unsigned 3)) with_rebalance apart

  above-rebalance : (key : List ℕ) → key ≢ codes "rebalance" → get_member key with_rebalance ≡ get_member key with_page
  above-rebalance key apart = get_member-put_other key (codes "rebalance") (number (unsigned 0)) with_page apart

  above-page : (key : List ℕ) → key ≢ codes "page" → get_member key with_page ≡ get_member key with_guests
  above-page key apart = get_member-put_other key (codes "page") (number (unsigned 4)) with_guests apart

  above-guests : (key : List ℕ) → key ≢ codes "guests" → get_member key with_guests ≡ get_member key ms
  above-guests key apart = get_member-put_other key (codes "guests") (array news) ms apart

  rebalance-is : get_member (codes "rebalance") with_version ≡ Some (number (unsigned 0))
  rebalance-is =
      above-version (codes "rebalance") (other (codes "rebalance") (codes "version") refl refl)
      ∙ get_member-put (codes "rebalance") (number (unsigned 0)) with_page

  page-is : get_member (codes "page") with_version ≡ Some (number (unsigned 4))
  page-is =
      above-version (codes "page") (other (codes "page") (codes "version") refl refl)
      ∙ above-rebalance (codes "page") (other (codes "page") (codes "rebalance") refl refl)
      ∙ get_member-put (codes "page") (number (unsigned 4)) with_guests

  guests-are : get_member (codes "guests") with_version ≡ Some (array news)
  guests-are =
      above-version (codes "guests") (other (codes "guests") (codes "version") refl refl)
      ∙ above-rebalance (codes "guests") (other (codes "guests") (codes "rebalance") refl refl)
      ∙ above-page (codes "guests") (other (codes "guests") (codes "page") refl refl)
      ∙ get_member-put (codes "guests") (array news) ms

  pub witness : IsRootAsVersion3 (object ms) (root_as_version_3 ms guests)
  witness = record {
    old_guests = list_of guests;
    new_guests = list_of news;
    rebalance = ap (λ v. number_or v 0 262144 0) rebalance-is;
    page = ap (λ v. number_or v 4 1048576 4) page-is;
    old_guests_are = old-objects;
    new_guests_are = ap (objects_in 256) guests-are ∙ new-objects;
    guests = own-guests guests read.0;
    others = λ key version rebalance page apart.
        above-version key version ∙ above-rebalance key rebalance ∙ above-page key page ∙ above-guests key apart;
  }

  pub its-version : version_in 3 (root_as_version_3 ms guests) ≡ Ok 3
  its-version = ap (λ v. required_number v 1 3) (get_member-put (codes "version") (number (unsigned 3)) with_rebalance)
