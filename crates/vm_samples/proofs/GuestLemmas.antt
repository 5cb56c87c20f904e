-- Guests, one after the other, of which no two have one name.
use Rattle.std.proofs.Common.{◌≡◌, ◌∙◌, ℕ, suc, ◌+◌, ◌<◌, ◌||◌, Bool, true, false, List, [], ◌∷◌, ◌++◌, map, length, drop, get_or, bytes_eq, Ok, Err, add-one, drop-cons, refl, sym, ap, arith}
use Rattle.std.proofs.lemmas.Map.Keys.{IsDistinct-cons, IsDistinct-head, IsDistinct-tail}
use Rattle.std.proofs.lemmas.Map.Made.{IsDistinct-from_AllPairs}
use Rattle.std.proofs.lemmas.Slice.Eq.{bytes_eq-Decides}
use Rattle.std.specs.List.{AllByRecursion, IsDistinct}
use Rattle.vm_json.specs.View.{view}
use Rattle.vm_json.specs.declared.value.Value.{Value}
use Rattle.vm_samples.specs.declared.fault.PolicyFault.{PolicyFault}
use Rattle.vm_samples.specs.Outcomes.{◌>>=◌}
use Rattle.vm_samples.specs.Policies.{GuestPolicyView, names_of}
use Rattle.vm_samples.specs.PolicyOf.{guest_at, guests_at, has_name}

pub no_names : IsDistinct bytes_eq []
no_names = IsDistinct-from_AllPairs bytes_eq-Decides [] (λ i j d before inside. absurd (omega arith))

neither : (a b : Bool) → (a || b) ≡ false → (a ≡ false) × (b ≡ false)
neither true b none = absurd (cc)
neither false b none = (refl, none)

all_apart : (name : List ℕ) (guests : List GuestPolicyView) (guest : GuestPolicyView) → AllByRecursion (λ y. bytes_eq name y ≡ false) (names_of guests)
    → bytes_eq name guest.name ≡ false → AllByRecursion (λ y. bytes_eq name y ≡ false) (names_of (guests ++ guest ∷ []))
all_apart name [] guest all apart = (apart, tt)
all_apart name (other ∷ guests) guest all apart = (all.0, all_apart name guests guest all.1 apart)

-- one more whose name no guest has
pub names_push : (guests : List GuestPolicyView) (guest : GuestPolicyView) → IsDistinct bytes_eq (names_of guests) → has_name guest.name guests ≡ false
    → IsDistinct bytes_eq (names_of (guests ++ guest ∷ []))
names_push [] guest distinct new = IsDistinct-cons bytes_eq guest.name [] tt no_names
names_push (other ∷ guests) guest distinct new =
    let parts = neither (bytes_eq other.name guest.name) (has_name guest.name guests) new in
    IsDistinct-cons bytes_eq other.name (names_of (guests ++ guest ∷ []))
    (all_apart other.name guests guest (IsDistinct-head bytes_eq other.name (names_of guests) distinct) parts.0)
    (names_push guests guest (IsDistinct-tail bytes_eq other.name (names_of guests) distinct) parts.1)

left_from : (objects : List Value) (i : ℕ) (object : Value) → i < length objects → object ≡ get_or objects i object → drop i objects ≡ object ∷ drop (i + 1) objects
left_from objects i object below is =
    drop-cons objects i object below ∙ ap (λ o. o ∷ drop (suc i) objects) (sym is) ∙ ap (λ (n : ℕ). object ∷ drop n objects) (sym (add-one i))

-- the objects from one on go on as those behind it do, once its guest was added
pub guests_step : (unit : ℕ) (objects : List Value) (i : ℕ) (object : Value) (guests : List GuestPolicyView) (guest : GuestPolicyView)
    → i < length objects → object ≡ get_or objects i object → guest_at unit guests (view object) ≡ Ok guest
    → guests_at unit (map view (drop (i + 1) objects)) (guests ++ guest ∷ []) ≡ guests_at unit (map view (drop i objects)) guests
guests_step unit objects i object guests guest below is read =
    sym
    (ap (λ l. guests_at unit (map view l) guests) (left_from objects i object below is)
    ∙ ap (λ r. r >>= (λ g. guests_at unit (map view (drop (i + 1) objects)) (guests ++ g ∷ []))) read)

-- the first fault is that of the object at a place, where it has one
pub guests_fault : (unit : ℕ) (objects : List Value) (i : ℕ) (object : Value) (guests : List GuestPolicyView) (fault : PolicyFault)
    → i < length objects → object ≡ get_or objects i object → guest_at unit guests (view object) ≡ Err fault
    → guests_at unit (map view (drop i objects)) guests ≡ Err fault
guests_fault unit objects i object guests fault below is read =
    ap (λ l. guests_at unit (map view l) guests) (left_from objects i object below is)
    ∙ ap (λ r. r >>= (λ g. guests_at unit (map view (drop (i + 1) objects)) (guests ++ g ∷ []))) read
