-- How long a text is, by what guests come to.
use Rattle.std.proofs.Common.{◌≡◌, ◌∙◌, ℕ, zero, suc, ◌+◌, ◌-◌, ◌<◌, List, [], ◌∷◌, ◌++◌, codes, get_or, length, map, max, Option, refl, ap, arith, length-append}
use Rattle.vm_recorded.specs.declared.counts.Counts.{Counts}
use Rattle.vm_recorded.specs.Commands.{commands_of}
use Rattle.vm_recorded.specs.Counts.{counts_for, counts_of}
use Rattle.vm_recorded.specs.Pieces.{head_with}
use Rattle.vm_recorded.specs.Hosts.{GuestView, HostView, quantum_for, swap_for}
use Rattle.vm_recorded.specs.Lengths.{commands_bytes, guests_bytes, quantum_in}
use Rattle.vm_recorded.specs.Parts.{ended}
use Rattle.vm_recorded.specs.Texts.{guest_head, guest_text, guest_texts, head_of, listed, quoted, steps_text, text_of}
use Rattle.vm_recorded.specs.Traces.{longest_from, trace_of}
use Rattle.vm_recorded.proofs.PartLemmas.{head_with_is, length_listed}

-- the most steps of an epoch
pub quantum_in_counts : (guests : List GuestView) → quantum_in (counts_for guests) ≡ quantum_for guests
unfolding counts_of
quantum_in_counts [] = refl
quantum_in_counts (g ∷ guests) = ap (λ (n : ℕ). max (longest_from 0 g.uses) n) (quantum_in_counts guests)

-- the steps of a guest
pub steps_length : (uses : List (Option ℕ)) → length (steps_text uses) ≡ (counts_of uses).bytes - 1
unfolding counts_of
steps_length uses = length_listed (map quoted (trace_of uses))

counts_for_at : (guests : List GuestView) (i : ℕ) (d : Counts) (g : GuestView) → i < length guests
    → get_or (counts_for guests) i d ≡ counts_of (get_or guests i g).uses
counts_for_at [] i d g within = absurd (omega arith)
counts_for_at (first ∷ guests) zero d g within = refl
counts_for_at (first ∷ guests) (suc i) d g within = counts_for_at guests i d g (omega arith)

-- what is counted of the guest at a place
pub counts_at : (counts : List Counts) (guests : List GuestView) (i : ℕ) (d : Counts) (g : GuestView) → counts ≡ counts_for guests
    → i < length guests → get_or counts i d ≡ counts_of (get_or guests i g).uses
counts_at counts guests i d g is within = ap (λ (l : List Counts). get_or l i d) is ∙ counts_for_at guests i d g within

-- guests, with a comma behind each
pub guests_bytes_first : (quantum number : ℕ) (g : GuestView) (guests : List GuestView)
    → guests_bytes quantum number (g ∷ guests) ≡ length (guest_text quantum number g) + 1 + guests_bytes quantum (number + 1) guests
unfolding guests_bytes
guests_bytes_first quantum number g guests =
    omega (arith, length-append (guest_text quantum number g) (44 ∷ ended (guest_texts quantum (number + 1) guests)))

pub guests_bytes_none : (quantum number : ℕ) → guests_bytes quantum number [] ≡ 0
unfolding guests_bytes
guests_bytes_none quantum number = refl

-- a guest, by what its epochs come to
pub guest_length : (quantum number : ℕ) (g : GuestView) (counts : Counts) (head steps : ℕ) → counts ≡ counts_of g.uses
    → head ≡ length (guest_head quantum number g) → steps ≡ counts.bytes - 1 → head + steps + 2 ≡ length (guest_text quantum number g)
unfolding guest_text
guest_length quantum number g counts head steps counts_are head_is steps_are =
    let bytes : counts.bytes ≡ (counts_of g.uses).bytes = ap (λ (c : Counts). c.bytes) counts_are in
    omega (
      arith,
      length-append (guest_head quantum number g) (steps_text g.uses ++ codes "]}"),
      length-append (steps_text g.uses) (codes "]}"),
      steps_length g.uses,
    )

-- the whole text
pub text_length : (host : HostView)
    → length (text_of host)
    ≡ length (head_with (swap_for host.guests) (quantum_for host.guests) host) + (guests_bytes (quantum_for host.guests) 0 host.guests - 1)
    + (commands_bytes host.policy.unit host.epochs host.guests - 1) + 17
unfolding text_of guests_bytes commands_bytes
text_length host =
    let guests = guest_texts (quantum_for host.guests) 0 host.guests in
    let commands = commands_of host in
    omega (
      arith,
      ap length (head_with_is host),
      length-append (head_of host) (listed guests ++ (codes "],\"commands\":[" ++ (listed commands ++ codes "]}\n"))),
      length-append (listed guests) (codes "],\"commands\":[" ++ (listed commands ++ codes "]}\n")),
      length-append (listed commands) (codes "]}\n"),
      length_listed guests,
      length_listed commands,
    )

-- by parts
pub text_parts : (host : HostView) (counts : List Counts) (swap quantum head guests commands between last : ℕ) → counts ≡ counts_for host.guests
    → swap ≡ swap_for host.guests → quantum ≡ quantum_in counts → head ≡ length (head_with swap quantum host)
    → guests ≡ guests_bytes quantum 0 host.guests → commands ≡ commands_bytes host.policy.unit host.epochs host.guests
    → between ≡ guests - 1 → last ≡ commands - 1 → head + between + last + 17 ≡ length (text_of host)
text_parts host counts swap quantum head guests commands between last counts_are swap_is quantum_is head_is guests_are commands_are between_is last_is =
    let same : quantum ≡ quantum_for host.guests = quantum_is ∙ ap quantum_in counts_are ∙ quantum_in_counts host.guests in
    let whole : head ≡ length (head_with (swap_for host.guests) (quantum_for host.guests) host) =
    head_is ∙ ap (λ (n : ℕ). length (head_with n quantum host)) swap_is
    ∙ ap (λ (n : ℕ). length (head_with (swap_for host.guests) n host)) same in
    let all : guests ≡ guests_bytes (quantum_for host.guests) 0 host.guests =
    guests_are ∙ ap (λ (n : ℕ). guests_bytes n 0 host.guests) same in
    omega (arith, whole, all, text_length host)
