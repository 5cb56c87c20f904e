-- Parts with a comma behind each, and with one between each two.
use Rattle.std.proofs.Common.{◌≡◌, ◌∙◌, ℕ, zero, suc, ◌+◌, ◌-◌, ◌<◌, ◌≤◌, List, [], ◌∷◌, ◌++◌, codes, length, map, min, take, refl, sym, ap, arith, append_assoc, length-append}
use Rattle.std.proofs.lemmas.Bool.{le-ltb, lt-ltb}
use Rattle.std.proofs.lemmas.List.{map-append}
use Rattle.std.proofs.Math.Seq.{take-append_seam}
use Rattle.vm_recorded.specs.Commands.{command_of, commands_of, start_at}
use Rattle.vm_recorded.specs.Pieces.{guest_pieces, head_with, percents_of, rules_of, text_with}
use Rattle.vm_recorded.specs.Hosts.{GuestView, HostView, quantum_for, swap_for}
use Rattle.vm_recorded.specs.Parts.{ended, ended_steps, labelled, listed_commands, listed_guests, without_comma}
use Rattle.vm_recorded.specs.Texts.{guest_head, guest_texts, head_of, listed, quoted, text_of}

pub ended_append : (xs ys : List (List ℕ)) → ended (xs ++ ys) ≡ ended xs ++ ended ys
ended_append [] ys = refl
ended_append (x ∷ xs) ys =
    ap (λ (l : List ℕ). x ++ (44 ∷ l)) (ended_append xs ys) ∙ sym (append_assoc x (44 ∷ ended xs) (ended ys))

pub ended_steps_append : (xs ys : List (List ℕ)) → ended_steps (xs ++ ys) ≡ ended_steps xs ++ ended_steps ys
ended_steps_append xs ys = ap ended (map-append quoted xs ys) ∙ ended_append (map quoted xs) (map quoted ys)

-- the last comma
ended_listed : (x : List ℕ) (xs : List (List ℕ)) → ended (x ∷ xs) ≡ listed (x ∷ xs) ++ 44 ∷ []
ended_listed x [] = refl
ended_listed x (y ∷ xs) =
    ap (λ (l : List ℕ). x ++ (44 ∷ l)) (ended_listed y xs) ∙ sym (append_assoc x (44 ∷ listed (y ∷ xs)) (44 ∷ []))

pub length_listed : (xs : List (List ℕ)) → length (listed xs) ≡ length (ended xs) - 1
length_listed [] = refl
length_listed (x ∷ xs) = omega (arith, ap length (ended_listed x xs), length-append (listed (x ∷ xs)) (44 ∷ []))

without_comma_none : (start : ℕ) (text : List ℕ) → length text ≤ start → without_comma start text ≡ text
without_comma_none start text short = rw (le-ltb start (length text) short) refl

without_comma_some : (start : ℕ) (text : List ℕ) → start ≤ length text → without_comma start (text ++ 44 ∷ []) ≡ text
without_comma_some start text long =
    let more : length (text ++ 44 ∷ []) ≡ length text + 1 = length-append text (44 ∷ []) in
    let same : length (text ++ 44 ∷ []) - 1 ≡ length text = omega arith in
    rw (lt-ltb start (length (text ++ 44 ∷ [])) (omega arith))
    (ap (λ (n : ℕ). take n (text ++ 44 ∷ [])) same ∙ take-append_seam text (44 ∷ []))

-- what is written with a comma behind each part, and then has lost the last comma
pub without_comma_listed : (front : List ℕ) (xs : List (List ℕ)) → without_comma (length front) (front ++ ended xs) ≡ front ++ listed xs
without_comma_listed front [] = without_comma_none (length front) (front ++ []) (omega (arith, length-append front []))
without_comma_listed front (x ∷ xs) =
    let whole : front ++ ended (x ∷ xs) ≡ (front ++ listed (x ∷ xs)) ++ 44 ∷ [] =
    ap (λ (l : List ℕ). front ++ l) (ended_listed x xs) ∙ sym (append_assoc front (listed (x ∷ xs)) (44 ∷ [])) in
    ap (without_comma (length front)) whole
    ∙ without_comma_some (length front) (front ++ listed (x ∷ xs)) (omega (arith, length-append front (listed (x ∷ xs))))

-- the same, by what stands there in between
pub comma_dropped : (start : ℕ) (old between new : List ℕ) (xs : List (List ℕ)) → start ≡ length old → between ≡ old ++ ended xs
    → new ≡ without_comma start between → new ≡ old ++ listed xs
comma_dropped start old between new xs start_is between_is new_is =
    new_is ∙ ap (without_comma start) between_is ∙ ap (λ (n : ℕ). without_comma n (old ++ ended xs)) start_is
    ∙ without_comma_listed old xs

-- ---- pieces

-- a guest that isn't there from the beginning is started
pub start_at_some : (at : ℕ) (name : List ℕ) → 0 < at → start_at at name ≡ command_of at (codes "start " ++ name) ∷ []
start_at_some zero name some = absurd (omega arith)
start_at_some (suc at) name some = refl

pub guest_pieces_are : (quantum number : ℕ) (g : GuestView) → guest_pieces quantum number g ≡ guest_head quantum number g
unfolding guest_pieces guest_head labelled
guest_pieces_are quantum number g = refl

flat : (frames swap overhead tax high soft hard low rate rebalance page quantum epochs end : List ℕ)
    → frames ++ (swap ++ ((overhead ++ (tax ++ ((high ++ (soft ++ (hard ++ low))) ++ (rate ++ (rebalance ++ page))))) ++ (quantum ++ (epochs ++ end))))
    ≡ frames ++ (swap ++ (overhead ++ (tax ++ (high ++ (soft ++ (hard ++ (low ++ (rate ++ (rebalance ++ (page ++ (quantum ++ (epochs ++ end))))))))))))
flat frames swap overhead tax high soft hard low rate rebalance page quantum epochs end = simp append_assoc

pub head_with_is : (host : HostView) → head_with (swap_for host.guests) (quantum_for host.guests) host ≡ head_of host
unfolding head_with rules_of percents_of labelled head_of
head_with_is host =
    flat (labelled (codes "{\"version\":3,\"frames\":") host.frames) (labelled (codes ",\"swap\":") (swap_for host.guests))
    (labelled (codes ",\"overhead\":") host.policy.overhead) (labelled (codes ",\"tax\":") host.policy.tax)
    (labelled (codes ",\"percent\":[") host.policy.percents.high) (labelled (codes ",") host.policy.percents.soft)
    (labelled (codes ",") host.policy.percents.hard) (labelled (codes ",") host.policy.percents.low)
    (labelled (codes "],\"page_rate\":") (min host.policy.rate 256)) (labelled (codes ",\"rebalance\":") host.policy.rebalance)
    (labelled (codes ",\"page\":") host.policy.unit) (labelled (codes ",\"quantum\":") (quantum_for host.guests))
    (labelled (codes ",\"epochs\":") host.epochs) (codes ",\"guests\":[")

pub text_with_is : (host : HostView) → text_with (swap_for host.guests) (quantum_for host.guests) host ≡ text_of host
unfolding text_with text_of listed_guests listed_commands
text_with_is host =
    ap (λ (l : List ℕ). l ++ (listed (guest_texts (quantum_for host.guests) 0 host.guests)
    ++ (codes "],\"commands\":[" ++ (listed (commands_of host) ++ codes "]}\n")))) (head_with_is host)
