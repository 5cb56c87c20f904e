-- What is left of a log, from line to line.
use Rattle.std.proofs.Common.{◌≡◌, ◌∙◌, ℕ, ◌+◌, ◌<◌, ◌≤◌, ◌⊎◌, inl, inr, List, [], ◌∷◌, ◌++◌, length, take, drop, Option, Some, None, Ok, Err, refl, sym, ap, arith}
use Rattle.std.proofs.lemmas.List.{length-append, length-take, take-append-drop}
use Rattle.std.specs.Io.KnownBytes.{IsAtEnd, prepend_known}
use Rattle.std.specs.List.{after_first, before_first, position_or_len}
use Rattle.std.specs.Option.{option_map}
use Rattle.vm_import.specs.declared.access.Access.{Access}
use Rattle.vm_import.specs.declared.faults.LineFault.{LineFault}
use Rattle.vm_import.specs.declared.step.Step.TheVariants.{Ended}
use Rattle.vm_import.specs.Lines.{line_of, process_of}
use Rattle.vm_import.specs.Logs.{Log, before, ended, faulty, first_process, is_line_end, log_from, onto}
use Rattle.vm_import.specs.Plain.{IsAccessLine}
use Rattle.vm_import.specs.Reading.{BeginsWithFault, Gives, Place, Stays, beginning, left}
use Rattle.vm_import.specs.BlockSteps.{GoesOn, IsRead, first_line, step_of}
use Rattle.vm_import.proofs.FirstLineLemmas.{before_there, behind_there, first_there}
use Rattle.vm_import.proofs.FrontLemmas.{line_of-first, process_of-first}
use Rattle.vm_import.proofs.LogLemmas.{log_from-end, log_from-line}

-- a place in a log
abbrev pub at : List ℕ → ℕ → ℕ → Option (List ℕ) → Place
at kept taken lines process = record { kept = kept; taken = taken; lines = lines; process = process }

-- all of a log is left at its beginning
pub left-beginning : (bytes : List ℕ) → left beginning (Some bytes) ≡ Some (log_from 0 None bytes)
unfolding left
left-beginning bytes = refl

-- what a line adds to what is left, where what is known of it is enough
line_step : (kept rest : List ℕ) (lines : ℕ) (process : Option (List ℕ)) → 0 < length kept → (32 ≤ length kept) ⊎ (rest ≡ [])
    → log_from lines process (kept ++ rest)
    ≡ before (lines + 1) (line_of process (first_line kept))
    (log_from (lines + 1) (first_process process (process_of (first_line kept))) (after_first is_line_end (kept ++ rest)))
line_step kept rest lines process some enough =
    let all : 0 < length (kept ++ rest) = omega (arith, length-append kept rest) in
    let meaning = line_of-first process kept rest enough in
    let named = process_of-first kept rest enough in
    log_from-line lines process (kept ++ rest) all
    ∙ sym (λ i. before (lines + 1) (meaning i) (log_from (lines + 1) (first_process process (named i)) (after_first is_line_end (kept ++ rest))))

known_enough : (kept rest : List ℕ) → (32 ≤ length kept) ⊎ IsAtEnd (Some rest) → (32 ≤ length kept) ⊎ (rest ≡ [])
known_enough kept rest enough = enough

goes_on-known : (found : Option Access) (log rest : Log) (number : ℕ) → log ≡ before number (Ok found) rest → GoesOn (Some log) (Some rest) (step_of found)
goes_on-known None log rest number is = sym is
goes_on-known (Some access) log rest number is = is

goes_on-unknown : (found : Option Access) (rest : Option Log) → GoesOn None rest (step_of found)
goes_on-unknown None rest = tt
goes_on-unknown (Some access) rest = tt

-- a line that is no fault
pub goes_on : (found : Option Access) (k0 k1 k2 : List ℕ) (t0 t2 lines : ℕ) (process named : Option (List ℕ)) (r0 r1 r2 : Option (List ℕ))
    → Stays (prepend_known k0 r0) (prepend_known k1 r1) → (32 ≤ length k1) ⊎ IsAtEnd r1 → 0 < length k1
    → Stays (option_map (after_first is_line_end) (prepend_known k1 r1)) (prepend_known k2 r2)
    → line_of process (first_line k1) ≡ Ok found → named ≡ first_process process (process_of (first_line k1))
    → GoesOn (left (at k0 t0 lines process) r0) (left (at k2 t2 (lines + 1) named) r2) (step_of found)
unfolding left
goes_on found k0 k1 k2 t0 t2 lines process named None r1 r2 filled enough some used meaning is = goes_on-unknown found (left (at k2 t2 (lines + 1) named) r2)
goes_on found k0 k1 k2 t0 t2 lines process named (Some xs) None r2 filled enough some used meaning is = absurd filled
goes_on found k0 k1 k2 t0 t2 lines process named (Some xs) (Some ys) None filled enough some used meaning is = absurd used
goes_on found k0 k1 k2 t0 t2 lines process named (Some xs) (Some ys) (Some zs) filled enough some used meaning is =
    goes_on-known found (log_from lines process (k0 ++ xs)) (log_from (lines + 1) named (k2 ++ zs)) (lines + 1)
    (ap (log_from lines process) (sym filled)
    ∙ line_step k1 ys lines process some (known_enough k1 ys enough)
    ∙ (λ i. before (lines + 1) (meaning i) (log_from (lines + 1) (sym is i) (sym used i))))

-- a line that is a fault
pub begins_with_fault : (number : ℕ) (fault : LineFault) (k0 k1 : List ℕ) (t0 lines : ℕ) (process : Option (List ℕ)) (r0 r1 : Option (List ℕ))
    → Stays (prepend_known k0 r0) (prepend_known k1 r1) → (32 ≤ length k1) ⊎ IsAtEnd r1 → 0 < length k1
    → line_of process (first_line k1) ≡ Err fault → number ≡ lines + 1
    → BeginsWithFault (left (at k0 t0 lines process) r0) number fault
unfolding left
begins_with_fault number fault k0 k1 t0 lines process None r1 filled enough some meaning is = tt
begins_with_fault number fault k0 k1 t0 lines process (Some xs) None filled enough some meaning is = absurd filled
begins_with_fault number fault k0 k1 t0 lines process (Some xs) (Some ys) filled enough some meaning is =
    ap (log_from lines process) (sym filled)
    ∙ line_step k1 ys lines process some (known_enough k1 ys enough)
    ∙ (λ i. before (lines + 1) (meaning i) (log_from (lines + 1) (first_process process (process_of (first_line k1))) (after_first is_line_end (k1 ++ ys))))
    ∙ ap (λ n. faulty n fault) (sym is)

at_end : (k1 : List ℕ) (r1 : Option (List ℕ)) → (32 ≤ length k1) ⊎ IsAtEnd r1 → length k1 ≡ 0 → IsAtEnd r1
at_end k1 r1 enough none = elim enough [
  | inl long ↦ absurd (omega arith)
  | inr end ↦ end
]

empty : (xs : List ℕ) → length xs ≡ 0 → xs ≡ []
empty [] none = refl
empty (x ∷ xs) none = absurd (omega arith)

-- no line is left
pub goes_on-end : (k0 k1 : List ℕ) (t0 t1 lines : ℕ) (process : Option (List ℕ)) (r0 r1 : Option (List ℕ))
    → Stays (prepend_known k0 r0) (prepend_known k1 r1) → (32 ≤ length k1) ⊎ IsAtEnd r1 → length k1 ≡ 0
    → GoesOn (left (at k0 t0 lines process) r0) (left (at k1 t1 lines process) r1) Ended
unfolding left
goes_on-end k0 k1 t0 t1 lines process None r1 filled enough none = tt
goes_on-end k0 k1 t0 t1 lines process (Some xs) None filled enough none = absurd filled
goes_on-end k0 k1 t0 t1 lines process (Some xs) (Some ys) filled enough none =
    let end : ys ≡ [] = at_end k1 (Some ys) enough none in
    let nothing : k1 ++ ys ≡ [] = (λ i. empty k1 none i ++ end i) in
    let over : log_from lines process (k1 ++ ys) ≡ ended = ap (log_from lines process) nothing ∙ log_from-end lines process in
    (ap (log_from lines process) (sym filled) ∙ over, over)

stays_named : (process : Option (List ℕ)) → first_process process None ≡ process
stays_named None = refl
stays_named (Some first) = refl

-- an access that stood wholly in the block
pub is_read : (kept : List ℕ) (taken lines len : ℕ) (process : Option (List ℕ)) (access : Access) → IsAccessLine (take 32 kept) access len
    → IsRead (at kept taken lines process) (at (drop len kept) taken (lines + 1) process) access
unfolding left
is_read kept taken lines len process access line =
    let len_is = line.end in
    let short = line.within in
    let window : take 32 kept ++ drop 32 kept ≡ kept = take-append-drop 32 kept in
    let inside : position_or_len is_line_end (take 32 kept) < length (take 32 kept) = omega arith in
    let place : position_or_len is_line_end kept ≡ position_or_len is_line_end (take 32 kept) =
    ap (position_or_len is_line_end) (sym window) ∙ first_there is_line_end (take 32 kept) (drop 32 kept) inside in
    let first : before_first is_line_end kept ≡ before_first is_line_end (take 32 kept) =
    ap (before_first is_line_end) (sym window) ∙ before_there is_line_end (take 32 kept) (drop 32 kept) inside in
    let small : length (take 32 kept) ≤ length kept = rw (length-take 32 kept) (omega arith) in
    let within : position_or_len is_line_end kept < length kept = omega arith in
    let behind : after_first is_line_end kept ≡ drop len kept =
    (let sum : position_or_len is_line_end kept + 1 ≡ len = omega arith in ap (λ n. drop n kept) sum) in
    let known : (rest : List ℕ) → log_from lines process (kept ++ rest) ≡ onto access (log_from (lines + 1) process (drop len kept ++ rest)) =
    λ rest.
    let all : 0 < length (kept ++ rest) = omega (arith, length-append kept rest) in
    let head : before_first is_line_end (kept ++ rest) ≡ before_first is_line_end (take 32 kept) = before_there is_line_end kept rest within ∙ first in
    let tail : after_first is_line_end (kept ++ rest) ≡ drop len kept ++ rest = behind_there is_line_end kept rest within ∙ ap (λ l. l ++ rest) behind in
    let meaning : line_of process (before_first is_line_end (kept ++ rest)) ≡ Ok (Some access) = ap (line_of process) head ∙ line.meaning process in
    let named : first_process process (process_of (before_first is_line_end (kept ++ rest))) ≡ process =
    ap (λ l. first_process process (process_of l)) head ∙ ap (first_process process) line.no_process ∙ stays_named process in
    log_from-line lines process (kept ++ rest) all
    ∙ (λ i. before (lines + 1) (meaning i) (log_from (lines + 1) (named i) (tail i))) in
    record {
      gives = λ remaining. elim remaining as (λ r. Gives (left (at kept taken lines process) r) (left (at (drop len kept) taken (lines + 1) process) r) (Some access)) [
        | None ↦ tt
        | Some rest ↦ known rest
      ];
      taken = refl;
      valid = line.valid;
    }
