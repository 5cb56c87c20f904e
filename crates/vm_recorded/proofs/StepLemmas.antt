-- One more in a loop, where what is left completes the whole.
use Rattle.std.proofs.Common.{◌≡◌, ◌∙◌, ℕ, ◌+◌, ◌-◌, ◌<◌, ◌≤◌, List, [], ◌∷◌, ◌++◌, drop, get_or, length, sym, ap, arith, append_assoc}
use Rattle.std.proofs.lemmas.List.{drop_all, drop_more}
use Rattle.vm_recorded.specs.declared.counts.Counts.{Counts}
use Rattle.vm_recorded.specs.Commands.{all_come, all_go, commands_from}
use Rattle.vm_recorded.specs.Hosts.{GuestView, quantum_for}
use Rattle.vm_recorded.specs.Lengths.{commands_bytes, guests_bytes, own_bytes, quantum_in}
use Rattle.vm_recorded.specs.Parts.{ended}
use Rattle.vm_recorded.specs.Texts.{guest_text}
use Rattle.vm_recorded.proofs.CommandLemmas.{commands_bytes_first, commands_bytes_none, commands_from_next}
use Rattle.vm_recorded.proofs.LengthLemmas.{guests_bytes_first, guests_bytes_none}
use Rattle.vm_recorded.proofs.PartLemmas.{ended_append}

-- the element at a place, in front of those behind it
first_of_rest : {X : Type 0} (xs : List X) (i : ℕ) (x : X) → i < length xs → x ≡ get_or xs i x → drop i xs ≡ x ∷ drop (i + 1) xs
first_of_rest {X} xs i x there is = drop_more xs i x there ∙ ap (λ (y : X). y ∷ drop (i + 1) xs) (sym is)

-- ---- texts

text_next : (old new part left rest whole : List ℕ) → new ≡ old ++ part → left ≡ part ++ rest → old ++ left ≡ whole → new ++ rest ≡ whole
text_next old new part left rest whole new_is left_is done =
    ap (λ (l : List ℕ). l ++ rest) new_is ∙ append_assoc old part rest ∙ ap (λ (l : List ℕ). old ++ l) (sym left_is) ∙ done

-- the commands of an epoch
pub epochs_next : (unit at epochs : ℕ) (guests : List GuestView) (old between new whole : List ℕ) → at < epochs
    → between ≡ old ++ ended (all_go at guests) → new ≡ between ++ ended (all_come unit at guests)
    → old ++ ended (commands_from unit at (epochs - at) guests) ≡ whole
    → new ++ ended (commands_from unit (at + 1) (epochs - (at + 1)) guests) ≡ whole
epochs_next unit at epochs guests old between new whole less between_is new_is done =
    let go = all_go at guests in
    let come = all_come unit at guests in
    let rest = commands_from unit (at + 1) (epochs - (at + 1)) guests in
    let left : ended (commands_from unit at (epochs - at) guests) ≡ ended go ++ ended (come ++ rest) =
    ap ended (commands_from_next unit at epochs guests less) ∙ ended_append go (come ++ rest) in
    text_next between new (ended come) (ended (come ++ rest)) (ended rest) whole new_is (ended_append come rest)
    (text_next old between (ended go) (ended (commands_from unit at (epochs - at) guests)) (ended (come ++ rest)) whole between_is left done)

-- ---- numbers of guests

pub quantum_some : (guests : List GuestView) → 1 ≤ quantum_for guests
quantum_some [] = omega arith
quantum_some (g ∷ guests) = let some : 1 ≤ quantum_for guests = quantum_some guests in omega arith

pub quantum_in_some : (counts : List Counts) → 1 ≤ quantum_in counts
quantum_in_some [] = omega arith
quantum_in_some (c ∷ counts) = let some : 1 ≤ quantum_in counts = quantum_in_some counts in omega arith

-- ---- bytes of guests

pub commands_bytes_next : (unit epochs : ℕ) (guests : List GuestView) (i : ℕ) (g : GuestView) (old new whole : ℕ) → i < length guests
    → g ≡ get_or guests i g → new ≡ old + own_bytes unit epochs g → old + commands_bytes unit epochs (drop i guests) ≡ whole
    → new + commands_bytes unit epochs (drop (i + 1) guests) ≡ whole
commands_bytes_next unit epochs guests i g old new whole there is new_is done =
    let left : commands_bytes unit epochs (drop i guests) ≡ own_bytes unit epochs g + commands_bytes unit epochs (drop (i + 1) guests) =
    ap (commands_bytes unit epochs) (first_of_rest guests i g there is) ∙ commands_bytes_first unit epochs g (drop (i + 1) guests) in
    omega (arith, left, done, new_is)

pub guests_bytes_next : (quantum : ℕ) (guests : List GuestView) (i : ℕ) (g : GuestView) (old new whole : ℕ) → i < length guests
    → g ≡ get_or guests i g → new ≡ old + (length (guest_text quantum i g) + 1) → old + guests_bytes quantum i (drop i guests) ≡ whole
    → new + guests_bytes quantum (i + 1) (drop (i + 1) guests) ≡ whole
guests_bytes_next quantum guests i g old new whole there is new_is done =
    let left : guests_bytes quantum i (drop i guests) ≡ length (guest_text quantum i g) + 1 + guests_bytes quantum (i + 1) (drop (i + 1) guests) =
    ap (guests_bytes quantum i) (first_of_rest guests i g there is) ∙ guests_bytes_first quantum i g (drop (i + 1) guests) in
    omega (arith, left, done, new_is)

-- no guest is left
pub commands_bytes_done : (unit epochs : ℕ) (guests : List GuestView) (i total whole : ℕ) → length guests ≤ i
    → total + commands_bytes unit epochs (drop i guests) ≡ whole → total ≡ whole
commands_bytes_done unit epochs guests i total whole all done =
    let none : commands_bytes unit epochs (drop i guests) ≡ 0 =
    ap (commands_bytes unit epochs) (drop_all i guests all) ∙ commands_bytes_none unit epochs in
    omega (arith, none, done)

pub guests_bytes_done : (quantum : ℕ) (guests : List GuestView) (i total whole : ℕ) → length guests ≤ i
    → total + guests_bytes quantum i (drop i guests) ≡ whole → total ≡ whole
guests_bytes_done quantum guests i total whole all done =
    let none : guests_bytes quantum i (drop i guests) ≡ 0 =
    ap (guests_bytes quantum i) (drop_all i guests all) ∙ guests_bytes_none quantum i in
    omega (arith, none, done)
