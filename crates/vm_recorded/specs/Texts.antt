-- The configuration text of a recorded host.
use Rattle.std.specs.Prelude.{ℕ, zero, suc, ◌+◌, List, [], ◌∷◌, ◌++◌, codes, map, min, Option}
use Rattle.std.specs.Fmt.{decimal}
use Rattle.std.specs.List.{join_with_byte}
use Rattle.vm_recorded.specs.Commands.{commands_of}
use Rattle.vm_recorded.specs.Hosts.{GuestView, HostView, quantum_for, swap_for}
use Rattle.vm_recorded.specs.Traces.{trace_of}

-- a step in quotes
unfoldable pub quoted : List ℕ → List ℕ
quoted step = codes "\"" ++ (step ++ codes "\"")

-- with a comma between each two
abbrev pub listed : List (List ℕ) → List ℕ
listed parts = join_with_byte 44 parts

-- up to the first guest
unfoldable pub head_of : HostView → List ℕ
head_of host =
    codes "{\"version\":3,\"frames\":" ++ (decimal host.frames
    ++ (codes ",\"swap\":" ++ (decimal (swap_for host.guests)
    ++ (codes ",\"overhead\":" ++ (decimal host.policy.overhead
    ++ (codes ",\"tax\":" ++ (decimal host.policy.tax
    ++ (codes ",\"percent\":[" ++ (decimal host.policy.percents.high
    ++ (codes "," ++ (decimal host.policy.percents.soft
    ++ (codes "," ++ (decimal host.policy.percents.hard
    ++ (codes "," ++ (decimal host.policy.percents.low
    ++ (codes "],\"page_rate\":" ++ (decimal (min host.policy.rate 256)
    ++ (codes ",\"rebalance\":" ++ (decimal host.policy.rebalance
    ++ (codes ",\"page\":" ++ (decimal host.policy.unit
    ++ (codes ",\"quantum\":" ++ (decimal (quantum_for host.guests)
    ++ (codes ",\"epochs\":" ++ (decimal host.epochs
    ++ codes ",\"guests\":[")))))))))))))))))))))))))

-- whether a guest is there from the beginning
abbrev pub autostart : (first : ℕ) → List ℕ
autostart zero = codes "true"
autostart (suc first) = codes "false"

-- a guest up to its first step; `number` is its place
unfoldable pub guest_head : (quantum number : ℕ) → GuestView → List ℕ
guest_head quantum number g =
    codes "{\"name\":\"" ++ (g.name
    ++ (codes "\",\"size\":" ++ (decimal g.size
    ++ (codes ",\"min\":" ++ (decimal g.min
    ++ (codes ",\"shares\":" ++ (decimal g.shares
    ++ (codes ",\"period\":" ++ (decimal quantum
    ++ (codes ",\"rate\":256,\"seed\":" ++ (decimal number
    ++ (codes ",\"autostart\":" ++ (autostart g.first
    ++ codes ",\"tell\":false,\"trace\":[")))))))))))))

-- its steps
abbrev pub steps_text : (uses : List (Option ℕ)) → List ℕ
steps_text uses = listed (map quoted (trace_of uses))

unfoldable pub guest_text : (quantum number : ℕ) → GuestView → List ℕ
guest_text quantum number g = guest_head quantum number g ++ (steps_text g.uses ++ codes "]}")

-- guests from this place on
abbrev pub guest_texts : (quantum number : ℕ) → List GuestView → List (List ℕ)
guest_texts quantum number [] = []
guest_texts quantum number (g ∷ guests) = guest_text quantum number g ∷ guest_texts quantum (number + 1) guests

-- the whole text
unfoldable pub text_of : HostView → List ℕ
text_of host =
    head_of host ++ (listed (guest_texts (quantum_for host.guests) 0 host.guests)
    ++ (codes "],\"commands\":[" ++ (listed (commands_of host) ++ codes "]}\n")))
