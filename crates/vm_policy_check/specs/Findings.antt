-- What is wrong or surprising in a policy.
use Rattle.std.specs.Prelude.{ℕ, suc, ◌+◌, List, [], ◌∷◌, ◌++◌, Bool, false, Option, Some, None, Result, Ok, Err, if◌then◌else◌, map, nat_lt}
use Rattle.json.specs.Json.{Json}
use Rattle.vm_json.specs.View.{json_of}
use Rattle.vm_keys.specs.Keys.{keys_in}
use Rattle.vm_keys.specs.OddKeys.{Odd, odd_keys, odd_of}
use Rattle.vm_policy_check.specs.KnownKeys.{guest_keys, keys_of_guest, root_keys}
use Rattle.vm_policy_check.specs.declared.finding.Finding.{Finding}
use Rattle.vm_policy_check.specs.declared.finding.Finding.TheVariants as is
use Rattle.vm_policy_check.specs.declared.finding.Part.{Part}
use Rattle.vm_policy_check.specs.declared.finding.Part.TheVariants.{Root, Guest}
use Rattle.vm_samples.specs.declared.fault.PolicyFault.{PolicyFault}
use Rattle.vm_samples.specs.Policies.{GuestPolicyView, PolicyView}
use Rattle.vm_samples.specs.PolicyOf.{policy_of}

-- a finding, as plain data
pub data Found : Type 0 where
  -- the first fault of a text that is refused
  fault : PolicyFault → Found
  -- an odd key of the root or of a guest
  odd : Part → Odd → Found
  -- what the guests keep together is above the memory, both in units, of so many KiB
  crowded : (kept memory unit : ℕ) → Found
  -- the greatest amount of this guest is below its least
  crossed : (guest : ℕ) → Found

abbrev pub found_of : Finding → Found
found_of (is.Fault f) = fault f
found_of (is.Odd part key) = odd part (odd_of key)
found_of (is.Crowded kept memory unit) = crowded kept memory unit
found_of (is.Crossed guest) = crossed guest

-- ---- what guests keep

abbrev pub with_overhead : ℕ → Option ℕ → ℕ
with_overhead overhead None = 0
with_overhead overhead (Some min) = min + overhead

-- of a guest that is steered its minimum, and what the host needs beside it
abbrev pub kept_by : ℕ → GuestPolicyView → ℕ
kept_by overhead g = if g.steer then with_overhead overhead g.min else 0

-- of all guests
abbrev pub kept : ℕ → List GuestPolicyView → ℕ
kept overhead [] = 0
kept overhead (g ∷ guests) = kept_by overhead g + kept overhead guests

abbrev pub crowd : PolicyView → List Found
crowd p =
    if nat_lt p.memory (kept p.overhead p.guests) then crowded (kept p.overhead p.guests) p.memory p.unit ∷ [] else []

-- ---- the greatest and the least of a guest

abbrev pub is_below : Option ℕ → Option ℕ → Bool
is_below None min = false
is_below (Some max) None = false
is_below (Some max) (Some min) = nat_lt max min

abbrev pub cross : ℕ → GuestPolicyView → List Found
cross guest g = if is_below g.max g.min then crossed guest ∷ [] else []

-- ---- the whole

abbrev pub odd_in : Part → List (List ℕ) → List (List ℕ) → List Found
odd_in part known keys = map (odd part) (odd_keys known keys)

abbrev pub of_guest : Json → ℕ → GuestPolicyView → List Found
of_guest root guest g = odd_in (Guest guest) guest_keys (keys_of_guest guest root) ++ cross guest g

-- guest by guest, from this number on
abbrev pub of_guests : Json → ℕ → List GuestPolicyView → List Found
of_guests root guest [] = []
of_guests root guest (g ∷ guests) = of_guest root guest g ++ of_guests root (suc guest) guests

-- the root first
abbrev pub of_policy : PolicyView → Json → List Found
of_policy p root = odd_in Root root_keys (keys_in root) ++ (crowd p ++ of_guests root 0 p.guests)

abbrev pub of_read : Result PolicyView PolicyFault → Option Json → List Found
of_read (Err f) root = fault f ∷ []
of_read (Ok p) None = []
of_read (Ok p) (Some root) = of_policy p root

-- of a text: that it is refused, or all that is surprising. A policy that is read is a JSON text.
unfoldable pub findings : List ℕ → List Found
findings text = of_read (policy_of text) (json_of text)
