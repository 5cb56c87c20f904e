-- An interval that isn't taken leaves the draft as it was.
use Rattle.std.proofs.Common.{◌≡◌, ◌∙◌, ℕ, ◌++◌, List, true, false, length, take, ap, append_assoc}
use Rattle.std.proofs.Math.Seq.{take-append_seam}
use Rattle.vm_import.specs.Drafts.{DraftView, listed_behind, with_steps}
use Rattle.vm_import.specs.Progress.{IfTaken, UnlessTaken, is_taken}
use Rattle.vm_import.specs.declared.interval.IntervalEnd.{IntervalEnd}
use Rattle.vm_import.specs.declared.interval.IntervalEnd.TheVariants.{Full, Last, Absent, Passes}

pub taken-holds : (end : IntervalEnd) (P : Type 0) → P → IfTaken end P
taken-holds Full P holds = holds
taken-holds Last P holds = holds
taken-holds Absent P holds = tt
taken-holds (Passes limit) P holds = tt

pub taken-none : (end : IntervalEnd) (P : Type 0) → is_taken end ≡ false → IfTaken end P
taken-none Full P none = absurd (cc)
taken-none Last P none = absurd (cc)
taken-none Absent P none = tt
taken-none (Passes limit) P none = tt

pub untaken-holds : (end : IntervalEnd) (P : Type 0) → P → UnlessTaken end P
untaken-holds Full P holds = tt
untaken-holds Last P holds = tt
untaken-holds Absent P holds = holds
untaken-holds (Passes limit) P holds = holds

pub untaken-none : (end : IntervalEnd) (P : Type 0) → is_taken end ≡ true → UnlessTaken end P
untaken-none Full P some = tt
untaken-none Last P some = tt
untaken-none Absent P some = absurd (cc)
untaken-none (Passes limit) P some = absurd (cc)

pub went-back : (start mid end back : DraftView) (idle steps : List (List ℕ)) (waiting count : ℕ) → mid ≡ with_steps start idle
    → end ≡ with_steps mid steps → waiting ≡ length start.text → count ≡ start.steps
    → back ≡ record { text = take waiting end.text; written = end.written; steps = count } → back ≡ start
went-back start mid end back idle steps waiting count idled grown waits counts is =
    let whole : end ≡ with_steps (with_steps start idle) steps = grown ∙ ap (λ (d : DraftView). with_steps d steps) idled in
    let behind = listed_behind start.steps idle ++ listed_behind (with_steps start idle).steps steps in
    let text : end.text ≡ start.text ++ behind = ap (λ (d : DraftView). d.text) whole ∙ append_assoc start.text (listed_behind start.steps idle) _ in
    let front : take waiting end.text ≡ start.text =
    ap (λ (n : ℕ). take n end.text) waits ∙ ap (take (length start.text)) text ∙ take-append_seam start.text behind in
    let written : end.written ≡ start.written = ap (λ (d : DraftView). d.written) whole in
    is ∙ (λ i. record { text = front i; written = written i; steps = counts i })
