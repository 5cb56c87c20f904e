-- Texts that are put together piece by piece.
use Rattle.std.proofs.Common.{◌≡◌, ◌∙◌, ℕ, List, [], ◌∷◌, ◌++◌, codes, min, if◌then◌else◌, Result, Ok, Err, OnOk, ap, append_assoc}
use Rattle.std.specs.Fmt.{decimal}
use Rattle.std.specs.Result.{is_ok}
use Rattle.vm_plan.specs.declared.thresholds.Percents.{Percents}
use Rattle.vm_samples.specs.Policies.{PolicyView}
use Rattle.vm_recorded.specs.Commands.{command_of}
use Rattle.vm_recorded.specs.Hosts.{GuestView, HostView}
use Rattle.vm_recorded.specs.Parts.{ended, labelled, listed_commands, listed_guests, opened_at}
use Rattle.vm_recorded.specs.Pieces.{guest_pieces, head_with, percents_of, rules_of, text_with}
use Rattle.vm_recorded.specs.Texts.{autostart, guest_head, guest_text, steps_text}
use Rattle.vm_recorded.proofs.PartLemmas.{guest_pieces_are}

-- the last piece, where it is another call's
pub ends_by : {T E : Type 0} (result : Result T E) (new before last old whole : List ℕ) → OnOk result (new ≡ before ++ last)
    → before ++ last ≡ old ++ whole → OnOk result (new ≡ old ++ whole)
ends_by (Ok x) new before last old whole is same = is ∙ same
ends_by (Err e) new before last old whole is same = tt

-- .. where it is a slice
pub ends_with : {T E : Type 0} (result : Result T E) (new before last old whole : List ℕ) → new ≡ (if is_ok result then before ++ last else before)
    → before ++ last ≡ old ++ whole → OnOk result (new ≡ old ++ whole)
ends_with (Ok x) new before last old whole is same = is ∙ same
ends_with (Err e) new before last old whole is same = tt

-- pieces one after the other
three : (old t1 t2 a b c : List ℕ) → t1 ≡ old ++ a → t2 ≡ t1 ++ b → t2 ++ c ≡ old ++ (a ++ (b ++ c))
three old t1 t2 a b c e1 e2 =
    let flat : ((old ++ a) ++ b) ++ c ≡ old ++ (a ++ (b ++ c)) = simp append_assoc in
    ap (λ (l : List ℕ). l ++ c) (e2 ∙ ap (λ (l : List ℕ). l ++ b) e1) ∙ flat

four : (old t1 t2 t3 a b c d : List ℕ) → t1 ≡ old ++ a → t2 ≡ t1 ++ b → t3 ≡ t2 ++ c → t3 ++ d ≡ old ++ (a ++ (b ++ (c ++ d)))
four old t1 t2 t3 a b c d e1 e2 e3 =
    let flat : (old ++ (a ++ (b ++ c))) ++ d ≡ old ++ (a ++ (b ++ (c ++ d))) = simp append_assoc in
    ap (λ (l : List ℕ). l ++ d) (e3 ∙ three old t1 t2 a b c e1 e2) ∙ flat

five : (old t1 t2 t3 t4 a b c d e : List ℕ) → t1 ≡ old ++ a → t2 ≡ t1 ++ b → t3 ≡ t2 ++ c → t4 ≡ t3 ++ d
    → t4 ++ e ≡ old ++ (a ++ (b ++ (c ++ (d ++ e))))
five old t1 t2 t3 t4 a b c d e e1 e2 e3 e4 =
    let flat : (old ++ (a ++ (b ++ (c ++ d)))) ++ e ≡ old ++ (a ++ (b ++ (c ++ (d ++ e)))) = simp append_assoc in
    ap (λ (l : List ℕ). l ++ e) (e4 ∙ four old t1 t2 t3 a b c d e1 e2 e3) ∙ flat

six : (old t1 t2 t3 t4 t5 a b c d e f : List ℕ) → t1 ≡ old ++ a → t2 ≡ t1 ++ b → t3 ≡ t2 ++ c → t4 ≡ t3 ++ d → t5 ≡ t4 ++ e
    → t5 ++ f ≡ old ++ (a ++ (b ++ (c ++ (d ++ (e ++ f)))))
six old t1 t2 t3 t4 t5 a b c d e f e1 e2 e3 e4 e5 =
    let flat : (old ++ (a ++ (b ++ (c ++ (d ++ e))))) ++ f ≡ old ++ (a ++ (b ++ (c ++ (d ++ (e ++ f))))) = simp append_assoc in
    ap (λ (l : List ℕ). l ++ f) (e5 ∙ five old t1 t2 t3 t4 a b c d e e1 e2 e3 e4) ∙ flat

-- ---- what they make

pub percents_made : (p : Percents) (old t1 t2 t3 : List ℕ) (high soft hard low : ℕ) → high ≡ p.high → soft ≡ p.soft → hard ≡ p.hard → low ≡ p.low
    → t1 ≡ old ++ labelled (codes ",\"percent\":[") high → t2 ≡ t1 ++ labelled (codes ",") soft → t3 ≡ t2 ++ labelled (codes ",") hard
    → t3 ++ labelled (codes ",") low ≡ old ++ percents_of p
unfolding percents_of
percents_made p old t1 t2 t3 high soft hard low high_is soft_is hard_is low_is e1 e2 e3 =
    four old t1 t2 t3 (labelled (codes ",\"percent\":[") high) (labelled (codes ",") soft) (labelled (codes ",") hard) (labelled (codes ",") low) e1 e2 e3
    ∙ (λ i. old ++ (labelled (codes ",\"percent\":[") (high_is i) ++ (labelled (codes ",") (soft_is i)
    ++ (labelled (codes ",") (hard_is i) ++ labelled (codes ",") (low_is i)))))

pub head_made : (host : HostView) (policy : PolicyView) (swap quantum frames epochs : ℕ) (old t1 t2 t3 t4 t5 : List ℕ) → frames ≡ host.frames
    → policy ≡ host.policy → epochs ≡ host.epochs → t1 ≡ old ++ labelled (codes "{\"version\":3,\"frames\":") frames
    → t2 ≡ t1 ++ labelled (codes ",\"swap\":") swap → t3 ≡ t2 ++ rules_of policy → t4 ≡ t3 ++ labelled (codes ",\"quantum\":") quantum
    → t5 ≡ t4 ++ labelled (codes ",\"epochs\":") epochs → t5 ++ codes ",\"guests\":[" ≡ old ++ head_with swap quantum host
unfolding head_with
head_made host policy swap quantum frames epochs old t1 t2 t3 t4 t5 frames_are policy_is epochs_are e1 e2 e3 e4 e5 =
    six old t1 t2 t3 t4 t5 (labelled (codes "{\"version\":3,\"frames\":") frames) (labelled (codes ",\"swap\":") swap) (rules_of policy)
    (labelled (codes ",\"quantum\":") quantum) (labelled (codes ",\"epochs\":") epochs) (codes ",\"guests\":[") e1 e2 e3 e4 e5
    ∙ (λ i. old ++ (labelled (codes "{\"version\":3,\"frames\":") (frames_are i) ++ (labelled (codes ",\"swap\":") swap ++ (rules_of (policy_is i)
    ++ (labelled (codes ",\"quantum\":") quantum ++ (labelled (codes ",\"epochs\":") (epochs_are i) ++ codes ",\"guests\":["))))))

pub text_made : (host : HostView) (guests : List GuestView) (swap quantum unit epochs : ℕ) (old t1 t2 t3 t4 : List ℕ) → guests ≡ host.guests
    → unit ≡ host.policy.unit → epochs ≡ host.epochs → t1 ≡ old ++ head_with swap quantum host → t2 ≡ t1 ++ listed_guests quantum guests
    → t3 ≡ t2 ++ codes "],\"commands\":[" → t4 ≡ t3 ++ listed_commands unit epochs guests
    → t4 ++ codes "]}\n" ≡ old ++ text_with swap quantum host
unfolding text_with
text_made host guests swap quantum unit epochs old t1 t2 t3 t4 guests_are unit_is epochs_are e1 e2 e3 e4 =
    five old t1 t2 t3 t4 (head_with swap quantum host) (listed_guests quantum guests) (codes "],\"commands\":[")
    (listed_commands unit epochs guests) (codes "]}\n") e1 e2 e3 e4
    ∙ (λ i. old ++ (head_with swap quantum host ++ (listed_guests quantum (guests_are i) ++ (codes "],\"commands\":["
    ++ (listed_commands (unit_is i) (epochs_are i) (guests_are i) ++ codes "]}\n")))))

pub guest_made : (quantum number : ℕ) (g : GuestView) (old t1 t2 steps : List ℕ) → steps ≡ steps_text g.uses
    → t1 ≡ old ++ guest_pieces quantum number g → t2 ≡ t1 ++ steps → t2 ++ codes "]}," ≡ old ++ ended (guest_text quantum number g ∷ [])
unfolding guest_text
guest_made quantum number g old t1 t2 steps steps_are e1 e2 =
    let whole : guest_head quantum number g ++ (steps_text g.uses ++ codes "]},") ≡ (guest_head quantum number g ++ (steps_text g.uses ++ codes "]}")) ++ 44 ∷ [] =
    simp append_assoc in
    three old t1 t2 (guest_pieces quantum number g) steps (codes "]},") e1 e2
    ∙ (λ i. old ++ (guest_pieces_are quantum number g i ++ (steps_are i ++ codes "]},")))
    ∙ ap (λ (l : List ℕ). old ++ l) whole

pub setmem_made : (at kib : ℕ) (name old t1 t2 t3 t4 t5 : List ℕ) → t1 ≡ old ++ opened_at at → t2 ≡ t1 ++ codes "setmem " → t3 ≡ t2 ++ name
    → t4 ≡ t3 ++ codes " " → t5 ≡ t4 ++ decimal kib
    → t5 ++ codes "\"}," ≡ old ++ ended (command_of at (codes "setmem " ++ (name ++ (codes " " ++ decimal kib))) ∷ [])
unfolding command_of
setmem_made at kib name old t1 t2 t3 t4 t5 e1 e2 e3 e4 e5 =
    let whole : opened_at at ++ (codes "setmem " ++ (name ++ (codes " " ++ (decimal kib ++ codes "\"},"))))
    ≡ (codes "{\"at\":" ++ (decimal at ++ (codes ",\"line\":\"" ++ ((codes "setmem " ++ (name ++ (codes " " ++ decimal kib))) ++ codes "\"}")))) ++ 44 ∷ [] =
    simp append_assoc in
    six old t1 t2 t3 t4 t5 (opened_at at) (codes "setmem ") name (codes " ") (decimal kib) (codes "\"},") e1 e2 e3 e4 e5
    ∙ ap (λ (l : List ℕ). old ++ l) whole

-- the pieces of a guest up to its first step: those in front, and those behind
front_made : (name old t1 t2 t3 t4 t5 : List ℕ) (size min shares : ℕ) → t1 ≡ old ++ codes "{\"name\":\"" → t2 ≡ t1 ++ name
    → t3 ≡ t2 ++ labelled (codes "\",\"size\":") size → t4 ≡ t3 ++ labelled (codes ",\"min\":") min
    → t5 ≡ t4 ++ labelled (codes ",\"shares\":") shares
    → t5 ≡ old ++ (codes "{\"name\":\"" ++ (name ++ (labelled (codes "\",\"size\":") size
    ++ (labelled (codes ",\"min\":") min ++ labelled (codes ",\"shares\":") shares))))
front_made name old t1 t2 t3 t4 t5 size min shares e1 e2 e3 e4 e5 =
    e5 ∙ five old t1 t2 t3 t4 (codes "{\"name\":\"") name (labelled (codes "\",\"size\":") size) (labelled (codes ",\"min\":") min)
    (labelled (codes ",\"shares\":") shares) e1 e2 e3 e4

pub pieces_made : (quantum number : ℕ) (g : GuestView) (name start old t1 t2 t3 t4 t5 t6 t7 t8 t9 : List ℕ) (size min shares : ℕ)
    → name ≡ g.name → start ≡ autostart g.first → size ≡ g.size → min ≡ g.min → shares ≡ g.shares
    → t1 ≡ old ++ codes "{\"name\":\"" → t2 ≡ t1 ++ name
    → t3 ≡ t2 ++ labelled (codes "\",\"size\":") size → t4 ≡ t3 ++ labelled (codes ",\"min\":") min
    → t5 ≡ t4 ++ labelled (codes ",\"shares\":") shares → t6 ≡ t5 ++ labelled (codes ",\"period\":") quantum
    → t7 ≡ t6 ++ labelled (codes ",\"rate\":256,\"seed\":") number → t8 ≡ t7 ++ codes ",\"autostart\":" → t9 ≡ t8 ++ start
    → t9 ++ codes ",\"tell\":false,\"trace\":[" ≡ old ++ guest_pieces quantum number g
unfolding guest_pieces
pieces_made quantum number g name start old t1 t2 t3 t4 t5 t6 t7 t8 t9 size min shares name_is start_is size_is min_is shares_are e1 e2 e3 e4 e5 e6 e7 e8 e9 =
    let front = codes "{\"name\":\"" ++ (name ++ (labelled (codes "\",\"size\":") size
    ++ (labelled (codes ",\"min\":") min ++ labelled (codes ",\"shares\":") shares))) in
    let last = codes ",\"tell\":false,\"trace\":[" in
    let first : t5 ≡ old ++ front = front_made name old t1 t2 t3 t4 t5 size min shares e1 e2 e3 e4 e5 in
    let flat : front ++ (labelled (codes ",\"period\":") quantum ++ (labelled (codes ",\"rate\":256,\"seed\":") number
    ++ (codes ",\"autostart\":" ++ (start ++ last))))
    ≡ codes "{\"name\":\"" ++ (name ++ (labelled (codes "\",\"size\":") size ++ (labelled (codes ",\"min\":") min
    ++ (labelled (codes ",\"shares\":") shares ++ (labelled (codes ",\"period\":") quantum
    ++ (labelled (codes ",\"rate\":256,\"seed\":") number ++ (codes ",\"autostart\":" ++ (start ++ last)))))))) =
    simp append_assoc in
    six old t5 t6 t7 t8 t9 front (labelled (codes ",\"period\":") quantum) (labelled (codes ",\"rate\":256,\"seed\":") number)
    (codes ",\"autostart\":") start last first e6 e7 e8 e9
    ∙ ap (λ (l : List ℕ). old ++ l) flat
    ∙ (λ i. old ++ (codes "{\"name\":\"" ++ (name_is i ++ (labelled (codes "\",\"size\":") (size_is i) ++ (labelled (codes ",\"min\":") (min_is i)
    ++ (labelled (codes ",\"shares\":") (shares_are i) ++ (labelled (codes ",\"period\":") quantum
    ++ (labelled (codes ",\"rate\":256,\"seed\":") number ++ (codes ",\"autostart\":" ++ (start_is i ++ last))))))))))
