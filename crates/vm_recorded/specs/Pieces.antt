-- A text in pieces.
use Rattle.std.specs.Prelude.{ℕ, List, ◌++◌, codes, min}
use Rattle.vm_plan.specs.declared.thresholds.Percents.{Percents}
use Rattle.vm_samples.specs.Policies.{PolicyView}
use Rattle.vm_recorded.specs.Hosts.{GuestView, HostView}
use Rattle.vm_recorded.specs.Parts.{labelled, listed_commands, listed_guests}
use Rattle.vm_recorded.specs.Texts.{autostart}

-- the parts of memory that are meant to be free
unfoldable pub percents_of : Percents → List ℕ
percents_of percents =
    labelled (codes ",\"percent\":[") percents.high ++ (labelled (codes ",") percents.soft
    ++ (labelled (codes ",") percents.hard ++ labelled (codes ",") percents.low))

-- what the policy says
unfoldable pub rules_of : PolicyView → List ℕ
rules_of policy =
    labelled (codes ",\"overhead\":") policy.overhead ++ (labelled (codes ",\"tax\":") policy.tax
    ++ (percents_of policy.percents ++ (labelled (codes "],\"page_rate\":") (min policy.rate 256)
    ++ (labelled (codes ",\"rebalance\":") policy.rebalance ++ labelled (codes ",\"page\":") policy.unit))))

-- all up to the first guest, with this swap and this quantum
unfoldable pub head_with : (swap quantum : ℕ) → HostView → List ℕ
head_with swap quantum host =
    labelled (codes "{\"version\":3,\"frames\":") host.frames ++ (labelled (codes ",\"swap\":") swap
    ++ (rules_of host.policy ++ (labelled (codes ",\"quantum\":") quantum
    ++ (labelled (codes ",\"epochs\":") host.epochs ++ codes ",\"guests\":["))))

-- a guest up to its first step
unfoldable pub guest_pieces : (quantum number : ℕ) → GuestView → List ℕ
guest_pieces quantum number g =
    codes "{\"name\":\"" ++ (g.name ++ (labelled (codes "\",\"size\":") g.size ++ (labelled (codes ",\"min\":") g.min
    ++ (labelled (codes ",\"shares\":") g.shares ++ (labelled (codes ",\"period\":") quantum
    ++ (labelled (codes ",\"rate\":256,\"seed\":") number ++ (codes ",\"autostart\":" ++ (autostart g.first
    ++ codes ",\"tell\":false,\"trace\":["))))))))

-- the whole text, with this swap and this quantum
unfoldable pub text_with : (swap quantum : ℕ) → HostView → List ℕ
text_with swap quantum host =
    head_with swap quantum host ++ (listed_guests quantum host.guests ++ (codes "],\"commands\":["
    ++ (listed_commands host.policy.unit host.epochs host.guests ++ codes "]}\n")))
