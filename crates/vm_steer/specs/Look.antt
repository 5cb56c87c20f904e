-- What comes of a domain's statistics: why it is left alone, or its numbers.
use Rattle.std.specs.Prelude.{ℕ, ◌*◌, ◌==◌, ◌&&◌, Bool, true, not, List, [], ◌∷◌, bytes_eq, Option, Some, None, Result, Ok, Err, max, nat_le, nat_lt, if◌then◌else◌}
use Rattle.std.specs.Char.{is_ascii_digit}
use Rattle.std.specs.List.{list_all}
use Rattle.vm_samples.specs.Names.{is_name}
use Rattle.vm_samples.specs.Policies.{GuestPolicyView, PolicyView}
use Rattle.vm_samples.specs.Samples.{DomainView}
use Rattle.vm_steer.specs.declared.balloon.Balloon.{Balloon}
use Rattle.vm_steer.specs.declared.bounds.Bounds.{Bounds}
use Rattle.vm_steer.specs.declared.limits.Limits.{Limits}
use Rattle.vm_steer.specs.declared.measures.Measures.{Measures}
use Rattle.vm_steer.specs.declared.rules.Rules.{Rules}
use Rattle.vm_steer.specs.declared.why.Why.{Why}
use Rattle.vm_steer.specs.declared.why.Why.TheVariants.{Name, Twice, Policy, NotRunning, NoBalloon, NoStatistics, Size}
use Rattle.vm_steer.specs.Names.{stands_twice}
use Rattle.vm_steer.specs.NumbersView.{NumbersView}
use Rattle.vm_steer.specs.Numbers.{active_of, cap_of, demand_of, fast_of, fraction_of, has_swapped, held_of, idle_of, idle_told, least_of, most_of, size_of, slow_of, still_of, swap_in_of, target_of, used_of}
use Rattle.vm_steer.specs.Remembered.{RememberedView}

-- ---- what the policy says of it

-- of a domain that the policy doesn't name
abbrev pub usual : Rules
usual = record { min = None; max = None; shares = 1000; steer = true }

abbrev pub rules_in : GuestPolicyView → Rules
rules_in g = record { min = g.min; max = g.max; shares = g.shares; steer = g.steer }

-- of a domain by its name
abbrev pub rules_of : List GuestPolicyView → (name : List ℕ) → Rules
rules_of [] name = usual
rules_of (g ∷ guests) name = if bytes_eq g.name name then rules_in g else rules_of guests name

-- ---- whether it is left alone

-- a guest's name that isn't all digits, which virsh would take for an id
unfoldable pub is_steerable : (name : List ℕ) → Bool
is_steerable name = is_name name && not (list_all is_ascii_digit name)

abbrev pub is_running : (state : Option ℕ) → Bool
is_running None = true
is_running (Some state) = state == 1

-- why it is left alone whatever its balloon is
abbrev pub barred : (names : List (List ℕ)) → Rules → DomainView → Option Why
barred names rules d =
    if not (is_steerable d.name) then Some Name
    else (if stands_twice names d.name then Some Twice
    else (if not rules.steer then Some Policy
    else (if is_running d.state then None else Some NotRunning)))

-- what is told of its balloon, if it is enough
abbrev pub statistics_in : (current maximum : ℕ) → (usable unused swap_in : Option ℕ) → Result Balloon Why
statistics_in current maximum None None swap_in = Err NoStatistics
statistics_in current maximum (Some usable) unused swap_in = Ok (record { current = current; maximum = maximum; usable = Some usable; unused = unused; swap_in = swap_in })
statistics_in current maximum None (Some unused) swap_in = Ok (record { current = current; maximum = maximum; usable = None; unused = Some unused; swap_in = swap_in })

abbrev pub balloon_in : (current maximum : Option ℕ) → (usable unused swap_in : Option ℕ) → Result Balloon Why
balloon_in (Some current) (Some maximum) usable unused swap_in = statistics_in current maximum usable unused swap_in
balloon_in None maximum usable unused swap_in = Err NoBalloon
balloon_in (Some current) None usable unused swap_in = Err NoBalloon

-- ---- its numbers

-- the KiB of its size in units: all that it may hold, or where the policy's greatest is below, those of the units
abbrev pub full_of : (unit maximum size : ℕ) → Option ℕ → ℕ
full_of unit maximum size None = maximum
full_of unit maximum size (Some most) = if nat_lt (most * unit) maximum then size * unit else maximum

-- what it holds and uses
unfoldable pub measures_of : (unit cache : ℕ) → Option RememberedView → Balloon → (size : ℕ) → Measures
measures_of unit cache last b size =
    let held = held_of unit b.current size in
    let swap_in = swap_in_of last b.swap_in in
    let idle = idle_of (has_swapped unit last swap_in) (idle_told cache b.usable b.unused) in
    let used = used_of unit b.current idle held in
    let fraction = fraction_of used held in
    let slow = slow_of last fraction in
    let fast = fast_of last fraction in
    record { held = held; used = used; swap_in = swap_in; slow = slow; fast = fast; active = active_of slow fast fraction }

-- what a domain of a size is left at least and may have at most, and its shares
unfoldable pub bounds_at : (ballooned : ℕ) → Rules → (size : ℕ) → Bounds
bounds_at ballooned rules size =
    let most = most_of size rules.max in
    let least = least_of size ballooned most rules.min in
    record { min = least; cap = cap_of most least; shares = rules.shares }

-- what it is left and may have, by the policy
unfoldable pub limits_of : (ballooned patience : ℕ) → Rules → Option RememberedView → (size held : ℕ) → Limits
limits_of ballooned patience rules last size held =
    let most = most_of size rules.max in
    let least = least_of size ballooned most rules.min in
    let cap = cap_of most least in
    record { min = least; cap = cap; target = target_of last held least cap; still = still_of patience held last }

-- what it doesn't give is taken from others
abbrev pub believed : (held : ℕ) → Limits → Limits
believed held limits = record limits { min = held; cap = max limits.cap held; target = held }

-- where its balloon didn't follow for long it is believed
abbrev pub limits_believed : (patience held : ℕ) → Limits → Limits
limits_believed patience held limits = if nat_le patience limits.still then believed held limits else limits

unfoldable pub numbers_of : PolicyView → Rules → Option RememberedView → Balloon → (size : ℕ) → NumbersView
numbers_of policy rules last b size =
    let measures = measures_of policy.unit policy.cache last b size in
    let limits = limits_believed policy.patience measures.held (limits_of policy.most policy.patience rules last size measures.held) in
    record {
      measures = measures;
      limits = limits;
      shares = rules.shares;
      demand = demand_of policy.headroom measures.used limits.cap limits.target;
      size = size;
      full = full_of policy.unit b.maximum size rules.max;
    }

-- ---- both

abbrev pub is_few : (size : ℕ) → Bool
is_few size = nat_le 1 size && nat_le size 262144

abbrev pub sized : PolicyView → Rules → Option RememberedView → Balloon → (size : ℕ) → Result NumbersView Why
sized policy rules last b size = if is_few size then Ok (numbers_of policy rules last b size) else Err Size

abbrev pub weighed : PolicyView → Rules → Option RememberedView → Result Balloon Why → Result NumbersView Why
weighed policy rules last (Err why) = Err why
weighed policy rules last (Ok b) = sized policy rules last b (size_of policy.unit b.maximum)

abbrev pub unless_barred : Option Why → Result NumbersView Why → Result NumbersView Why
unless_barred (Some why) numbers = Err why
unless_barred None numbers = numbers

-- why a domain of a sample is left alone, or its numbers; `names` are those of the sample
unfoldable pub look_of : PolicyView → (names : List (List ℕ)) → Option RememberedView → DomainView → Result NumbersView Why
look_of policy names last d =
    let rules = rules_of policy.guests d.name in
    unless_barred (barred names rules d) (weighed policy rules last (balloon_in d.current d.maximum d.usable d.unused d.swap_in))
