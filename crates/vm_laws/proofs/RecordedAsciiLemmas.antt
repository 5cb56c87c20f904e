-- The text of a recorded host is UTF-8.
use Rattle.std.proofs.Common.{◌≡◌, ℕ, zero, suc, ◌+◌, ◌^◌, ◌<◌, min, true, List, [], ◌∷◌, ◌++◌, codes, decimal, map, refl, ap, ◌∙◌}
use Rattle.std.specs.List.{AllByRecursion}
use Rattle.std.specs.Str.{is_utf8}
use Rattle.std.proofs.lemmas.Str.{is_utf8-from_IsUtf8}
use Rattle.json.proofs.Printed.Utf8.{are_ascii, IsUtf8-are_ascii}
use Rattle.vm_recorded.specs.Commands.{command_of, commands_of}
use Rattle.vm_recorded.specs.Hosts.{GuestView, HostView, quantum_for, swap_for}
use Rattle.vm_recorded.specs.Texts.{autostart, guest_head, guest_text, guest_texts, head_of, listed, quoted, steps_text, text_of}
use Rattle.vm_recorded.specs.Traces.{trace_of}
use Rattle.vm_config.specs.Schedule.{ScheduledLine}
use Rattle.vm_laws.specs.RecordedLines.{lines_of}
use Rattle.vm_laws.proofs.RecordedJsonLemmas.{AllSmall, AreEarly, AreSmall, IsSmall}
use Rattle.vm_laws.proofs.RecordedLineLemmas.{line-texts}
use Rattle.vm_laws.proofs.RecordedRootLemmas.{numbers_of}
use Rattle.vm_laws.proofs.RecordedTextLemmas.{IsSafe, command_text}
use Rattle.vm_laws.proofs.SafeLemmas.{AreSafe, ascii-append, ascii-safe, safe-decimal}

abbrev AreAscii : List ℕ → Type 0
AreAscii text = are_ascii text ≡ true

ascii-listed : (texts : List (List ℕ)) → AllByRecursion AreAscii texts → AreAscii (listed texts)
ascii-listed [] are = refl
ascii-listed (text ∷ []) are = are.0
ascii-listed (text ∷ next ∷ texts) are = ascii-append text (44 ∷ listed (next ∷ texts)) are.0 (ascii-listed (next ∷ texts) are.1)

ascii-decimal : (number : ℕ) (rest : List ℕ) → number < 2 ^ 64 → AreAscii rest → AreAscii (decimal number ++ rest)
ascii-decimal number rest small are = ascii-append (decimal number) rest (ascii-safe (decimal number) (safe-decimal number small)) are

ascii-quoted : (texts : List (List ℕ)) → AllByRecursion AreSafe texts → AllByRecursion AreAscii (map quoted texts)
unfolding quoted
ascii-quoted [] safe = tt
ascii-quoted (text ∷ texts) safe = (ascii-append text (34 ∷ []) (ascii-safe text safe.0) refl, ascii-quoted texts safe.1)

ascii-start : (first : ℕ) → AreAscii (autostart first)
ascii-start zero = refl
ascii-start (suc first) = refl

ascii-guest : (quantum number : ℕ) (g : GuestView) → quantum < 2 ^ 64 → IsSmall number g → IsSafe g → AreAscii (guest_text quantum number g)
unfolding guest_text guest_head
ascii-guest quantum number g short small safe =
    ascii-append (guest_head quantum number g) (steps_text g.uses ++ codes "]}")
    (ascii-append g.name _ (ascii-safe g.name safe.name)
    (ascii-decimal g.size _ small.size (ascii-decimal g.min _ small.min (ascii-decimal g.shares _ small.shares
    (ascii-decimal quantum _ short (ascii-decimal number _ small.place
    (ascii-append (autostart g.first) (codes ",\"tell\":false,\"trace\":[") (ascii-start g.first) refl)))))))
    (ascii-append (steps_text g.uses) (codes "]}") (ascii-listed (map quoted (trace_of g.uses)) (ascii-quoted (trace_of g.uses) safe.steps)) refl)

ascii-guests : (quantum number : ℕ) (guests : List GuestView) → quantum < 2 ^ 64 → AllSmall number guests → AllByRecursion IsSafe guests
    → AllByRecursion AreAscii (guest_texts quantum number guests)
ascii-guests quantum number [] short small safe = tt
ascii-guests quantum number (g ∷ guests) short small safe =
    (ascii-guest quantum number g short small.0 safe.0, ascii-guests quantum (number + 1) guests short small.1 safe.1)

ascii-command : (c : ScheduledLine) → c.at < 2 ^ 64 → AreSafe c.line → AreAscii (command_text c)
unfolding command_of
ascii-command c small safe = ascii-decimal c.at _ small (ascii-append c.line (codes "\"}") (ascii-safe c.line safe) refl)

ascii-commands : (cs : List ScheduledLine) → AreEarly cs → AllByRecursion (λ c. AreSafe c.line) cs → AllByRecursion AreAscii (map command_text cs)
ascii-commands [] early safe = tt
ascii-commands (c ∷ cs) early safe = (ascii-command c early.0 safe.0, ascii-commands cs early.1 safe.1)

ascii-head : (host : HostView) → AreSmall (numbers_of host) → AreAscii (head_of host)
unfolding head_of
ascii-head host small =
    ascii-decimal host.frames _ small.frames (ascii-decimal (swap_for host.guests) _ small.swap
    (ascii-decimal host.policy.overhead _ small.overhead (ascii-decimal host.policy.tax _ small.tax
    (ascii-decimal host.policy.percents.high _ small.high (ascii-decimal host.policy.percents.soft _ small.soft
    (ascii-decimal host.policy.percents.hard _ small.hard (ascii-decimal host.policy.percents.low _ small.low
    (ascii-decimal (min host.policy.rate 256) _ small.page_rate (ascii-decimal host.policy.rebalance _ small.rebalance
    (ascii-decimal host.policy.unit _ small.page (ascii-decimal (quantum_for host.guests) _ small.quantum
    (ascii-decimal host.epochs _ small.epochs refl))))))))))))

pub text-utf8 : (host : HostView) → AreSmall (numbers_of host) → AllSmall 0 host.guests → AllByRecursion IsSafe host.guests
    → AreEarly (lines_of host) → AllByRecursion (λ c. AreSafe c.line) (lines_of host) → is_utf8 (text_of host) ≡ true
unfolding text_of
text-utf8 host small guests_small guests_safe early commands_safe =
    let quantum = quantum_for host.guests in
    let guests = listed (guest_texts quantum 0 host.guests) in
    let commands = listed (commands_of host) in
    let guests_ascii : AreAscii guests =
    ascii-listed (guest_texts quantum 0 host.guests) (ascii-guests quantum 0 host.guests small.quantum guests_small guests_safe) in
    let commands_ascii : AreAscii commands =
    ap (λ (l : List (List ℕ)). are_ascii (listed l)) (line-texts host.policy.unit 0 host.epochs host.guests)
    ∙ ascii-listed (map command_text (lines_of host)) (ascii-commands (lines_of host) early commands_safe) in
    is_utf8-from_IsUtf8 _ (IsUtf8-are_ascii _
    (ascii-append (head_of host) (guests ++ (codes "],\"commands\":[" ++ (commands ++ codes "]}\n"))) (ascii-head host small)
    (ascii-append guests (codes "],\"commands\":[" ++ (commands ++ codes "]}\n")) guests_ascii
    (ascii-append commands (codes "]}\n") commands_ascii refl))))
