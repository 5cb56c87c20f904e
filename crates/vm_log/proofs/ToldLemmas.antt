-- What is told of a sample has names in order, and numbers in range.
use Rattle.std.proofs.Common.{◌≡◌, ◌∙◌, ℕ, ◌+◌, ◌≤◌, ◌&&◌, nat_le, Bool, true, false, true≢false, not, List, [], ◌∷◌, Option, Some, None, Result, Ok, Err, length, map, min, max, slice_get, refl, sym, ap, subst, arith, if◌then◌else◌}
use Rattle.std.specs.Prelude.{⊤}
use Rattle.std.proofs.lemmas.Bool.Decides.{nat_tests}
use Rattle.vm_samples.specs.Names.{is_name}
use Rattle.vm_samples.specs.Policies.{PolicyView}
use Rattle.vm_samples.specs.Samples.{DomainView}
use Rattle.vm_steer.specs.declared.fate.LeftDomain.{LeftDomain}
use Rattle.vm_steer.specs.declared.rules.Rules.{Rules}
use Rattle.vm_steer.specs.declared.why.Why.{Why}
use Rattle.vm_steer.specs.declared.why.Why.TheVariants.{Size}
use Rattle.vm_steer.specs.Entries.{EntryView, ToldView, names_in, remembered_in}
use Rattle.vm_steer.specs.Look.{balloon_in, barred, is_few, is_steerable, look_of, measures_of, numbers_of, rules_of, sized, unless_barred, weighed}
use Rattle.vm_steer.specs.Names.{AreRising}
use Rattle.vm_steer.specs.Numbers.{size_of}
use Rattle.vm_steer.specs.NumbersView.{NumbersView}
use Rattle.vm_steer.specs.Order.{in_order, names_of}
use Rattle.vm_steer.specs.Remembered.{RememberedView}
use Rattle.vm_steer.specs.Told.{entries_of, fate_of, left_by, next_told, outcomes_behind, sight_of, sights_of, steered_by, told_by}
use Rattle.vm_steer.proofs.OrderLemmas.{placed_rising}
use Rattle.vm_steer.proofs.StepLemmas.{rising_told, sights_wide}
use Rattle.vm_log.specs.Sampling.{IsUsable}
use Rattle.vm_log.specs.Told.{AreFew, IsFew}
use Rattle.vm_log.proofs.GatherLemmas.{none-rising}

-- ---- in order

in_order_rising : (domains : List DomainView) → AreRising (names_of (in_order domains))
in_order_rising [] = none-rising
in_order_rising (d ∷ domains) = placed_rising d (in_order domains) (in_order_rising domains)

told_rising : (policy : PolicyView) (last : ToldView) (domains : List DomainView) → AreRising (names_in (next_told policy last domains).domains)
told_rising policy last domains =
    let ordered = in_order domains in
    rising_told policy last.state (names_of ordered) (sights_of policy last.domains ordered) (sights_wide policy last.domains ordered) (in_order_rising domains)

-- ---- in range

abbrev UsesFew : {E : Type 0} → Result NumbersView E → Type 0
UsesFew (Ok n) = n.measures.used ≤ 262144
UsesFew (Err e) = ⊤

few_used : (policy : PolicyView) (rules : Rules) (last : Option RememberedView) (b : _) (size : ℕ) → size ≤ 262144 → (numbers_of policy rules last b size).measures.used ≤ 262144
unfolding numbers_of measures_of
few_used policy rules last b size few = omega arith

few_size : (size : ℕ) → is_few size ≡ true → size ≤ 262144
few_size size e = grind (arith, nat_tests)

few_sized : (policy : PolicyView) (rules : Rules) (last : Option RememberedView) (b : _) (size : ℕ) → UsesFew (sized policy rules last b size)
few_sized policy rules last b size = go (is_few size) refl
  where
    go : (t : Bool) → is_few size ≡ t → UsesFew {E = Why} (if t then Ok (numbers_of policy rules last b size) else Err Size)
    go true e = few_used policy rules last b size (few_size size e)
    go false e = tt

few_weighed : (policy : PolicyView) (rules : Rules) (last : Option RememberedView) (b : Result _ Why) → UsesFew (weighed policy rules last b)
few_weighed policy rules last (Err why) = tt
few_weighed policy rules last (Ok b) = few_sized policy rules last b (size_of policy.unit b.maximum)

-- who is steered has a guest's name
abbrev IsNamed : {E : Type 0} → (name : List ℕ) → Result NumbersView E → Type 0
IsNamed name (Ok n) = length name ≤ 32
IsNamed name (Err e) = ⊤

short_name : (name : List ℕ) → is_steerable name ≡ true → length name ≤ 32
unfolding is_steerable
short_name name e = grind (arith, nat_tests)

named : (policy : PolicyView) (names : List (List ℕ)) (rules : Rules) (d : DomainView) (numbers : Result NumbersView Why) → IsNamed d.name (unless_barred (barred names rules d) numbers)
named policy names rules d numbers = go (is_steerable d.name) refl
  where
    any : (why : Option Why) (found : Result NumbersView Why) → length d.name ≤ 32 → IsNamed d.name (unless_barred why found)
    any (Some why) found short = tt
    any None (Ok n) short = short
    any None (Err why) short = tt

    go : (t : Bool) → is_steerable d.name ≡ t → IsNamed d.name (unless_barred (barred names rules d) numbers)
    go true e = any (barred names rules d) numbers (short_name d.name e)
    go false e = rw e tt

few_look : (policy : PolicyView) (names : List (List ℕ)) (last : Option RememberedView) (d : DomainView) → UsesFew (look_of policy names last d)
unfolding look_of
few_look policy names last d = go (barred names (rules_of policy.guests d.name) d) (weighed policy (rules_of policy.guests d.name) last (balloon_in d.current d.maximum d.usable d.unused d.swap_in)) (few_weighed policy (rules_of policy.guests d.name) last (balloon_in d.current d.maximum d.usable d.unused d.swap_in))
  where
    go : (why : Option Why) (numbers : Result NumbersView Why) → UsesFew numbers → UsesFew (unless_barred why numbers)
    go (Some why) numbers few = tt
    go None numbers few = few

named_look : (policy : PolicyView) (names : List (List ℕ)) (last : Option RememberedView) (d : DomainView) → IsNamed d.name (look_of policy names last d)
unfolding look_of
named_look policy names last d = named policy names (rules_of policy.guests d.name) d _

few_left : (name : List ℕ) (held : ℕ) (last : Option RememberedView) (seen : Result NumbersView Why) → UsesFew seen → IsNamed name seen → UsesFew (left_by held last seen) × IsNamed name (left_by held last seen)
few_left name held last (Ok n) few is = (few, is)
few_left name held last (Err why) few is = (tt, tt)

few_sight : (policy : PolicyView) (names : List (List ℕ)) (last : Option RememberedView) (d : DomainView) → UsesFew (sight_of policy names last d) × IsNamed d.name (sight_of policy names last d)
unfolding sight_of
few_sight policy names last d = few_left d.name _ last (look_of policy names last d) (few_look policy names last d) (named_look policy names last d)

few_fate : (policy : PolicyView) (rises : Bool) (name : List ℕ) (sight : Result NumbersView LeftDomain) (outcome : Option _) → UsesFew sight × IsNamed name sight → IsFew name (fate_of policy rises sight outcome)
unfolding steered_by
few_fate policy rises name (Err left) outcome h = tt
few_fate policy rises name (Ok numbers) outcome h = (h.1, h.0)

few_entries : (policy : PolicyView) (rises : Bool) (names : List (List ℕ)) (last : List EntryView) (ds : List DomainView) (outcomes : List _)
    → AreFew (entries_of policy rises (names_of ds) (map (λ d. sight_of policy names (remembered_in last d.name) d) ds) outcomes)
few_entries policy rises names last [] outcomes = tt
few_entries policy rises names last (d ∷ ds) outcomes =
    let sight = sight_of policy names (remembered_in last d.name) d in
    (few_fate policy rises d.name sight (slice_get outcomes 0) (few_sight policy names (remembered_in last d.name) d), few_entries policy rises names last ds (outcomes_behind sight outcomes))

told_few : (policy : PolicyView) (last : ToldView) (domains : List DomainView) → AreFew (next_told policy last domains).domains
unfolding told_by
told_few policy last domains = few_entries policy _ (names_of (in_order domains)) last.domains (in_order domains) _

-- ---- both

pub usable : (policy : PolicyView) (last : ToldView) (domains : List DomainView) → IsUsable (next_told policy last domains).domains
usable policy last domains = record { rising = told_rising policy last domains; few = told_few policy last domains }
