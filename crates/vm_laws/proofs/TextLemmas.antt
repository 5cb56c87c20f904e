-- The text of the lines of a report is the report.
use Rattle.std.proofs.Common.{◌≡◌, ℕ, zero, suc, List, [], ◌∷◌, ◌++◌, codes, map, Option, Some, None, refl, sym, ap, ◌∙◌}
use Rattle.std.proofs.lemmas.Grind.{flat_map-append}
use Rattle.std.proofs.lemmas.List.{append-nil, append_assoc}
use Rattle.std.proofs.lemmas.List.Folds.{flat_map-map}
use Rattle.std.specs.Fmt.{decimal}
use Rattle.std.specs.List.{flat_map}
use Rattle.vm_config.specs.declared.config.Config.{Config}
use Rattle.vm_guest.specs.Record.{GuestRecord}
use Rattle.vm_host.specs.declared.boundary.Boundary.{Boundary}
use Rattle.vm_host.specs.Answers.{AnswerValue}
use Rattle.vm_host.specs.World.{World, guest_at}
use Rattle.vm_plan.specs.Stretches.{stretches_of}
use Rattle.vm_pool.specs.Readers.{stalled_of}
use Rattle.vm_runs.specs.Course.{Run, host_after}
use Rattle.vm_sim.specs.Course.{after_boundary, course_of}
use Rattle.vm_sim.specs.Lines.{outcome_lines, state_line}
use Rattle.vm_sim.specs.Report.{answer_lines, boundary_text, report_of_boundary, end_text, epoch_text, guest_lines, machine_line, name_at, positions, read_lines, report_of, shown_at, stall_lines, report_at, report_of_epochs, report_of_epoch}
use Rattle.vm_tally.specs.Summary.{after_in, ready_in, told_in}
use Rattle.vm_laws.specs.ReportLines.{ReportLine, blocked_at, guest_at_end, lines_at, lines_at_end, lines_before, lines_of, lines_of_answer, lines_of_boundary, lines_of_epoch, lines_of_guest, moved, paged_at, reads_of, stalls_of, text_of, text_of_lines}
use Rattle.vm_laws.specs.ReportLines.ReportLine.{Answer, Found, Grant, Read, Rebalance, Revoke}

text-append : (xs ys : List ReportLine) → text_of_lines (xs ++ ys) ≡ text_of_lines xs ++ text_of_lines ys
text-append xs ys = flat_map-append text_of xs ys

text-flat_map : {A : Type 0} (f : A → List ReportLine) (xs : List A) → text_of_lines (flat_map f xs) ≡ flat_map (λ x. text_of_lines (f x)) xs
text-flat_map f [] = refl
text-flat_map f (x ∷ xs) = text-append (f x) (flat_map f xs) ∙ ap (λ l. text_of_lines (f x) ++ l) (text-flat_map f xs)

text-map : {A : Type 0} (f : A → ReportLine) (xs : List A) → text_of_lines (map f xs) ≡ flat_map (λ x. text_of (f x)) xs
text-map f xs = flat_map-map text_of f xs

-- ---- a boundary

answer-text : (w : World) (a : AnswerValue) → text_of_lines (lines_of_answer w a) ≡ answer_lines w a
unfolding answer_lines
answer-text w a =
    ap (λ l. text_of (ReportLine.Command a.line) ++ l)
    (text-append (moved w Revoke a.revocations) (Answer a.outcome ∷ [])
    ∙ (λ i. text-map (λ s. Revoke (name_at w s.position) s.count) (stretches_of a.revocations) i ++ append-nil (outcome_lines a.outcome) i))

moves : (w : World) (kind : List ℕ → ℕ → ReportLine) (entries : List ℕ)
    → text_of_lines (moved w kind entries) ≡ flat_map (λ s. text_of (kind (name_at w s.position) s.count)) (stretches_of entries)
moves w kind entries = text-map (λ s. kind (name_at w s.position) s.count) (stretches_of entries)

boundary-is : (w : World) (k : ℕ) (b : Boundary) → text_of_lines (lines_of_boundary w k b) ≡ boundary_text k w b
unfolding boundary_text
boundary-is w k b =
    let answers : text_of_lines (flat_map (lines_of_answer w) b.answers) ≡ flat_map (answer_lines w) b.answers =
    text-flat_map (lines_of_answer w) b.answers ∙ (λ i. flat_map (λ a. answer-text w a i) b.answers) in
    let granted = moved w Grant b.granted in
    let blocked = map (blocked_at w) b.blocked in
    let moved_on = moved w Rebalance b.rebalanced ++ blocked in
    let paged = map (paged_at w) b.paged in
    let last = text-append (moved w Rebalance b.rebalanced) blocked ∙ (λ i. moves w Rebalance b.rebalanced i ++ text-map (blocked_at w) b.blocked i) in
    let given = text-append granted moved_on ∙ (λ i. moves w Grant b.granted i ++ last i) in
    let taken = text-append paged (granted ++ moved_on) ∙ (λ i. text-map (paged_at w) b.paged i ++ given i) in
    let revoked = text-append (moved w Revoke b.revoked) (paged ++ (granted ++ moved_on)) ∙ (λ i. moves w Revoke b.revoked i ++ taken i) in
    let rest = text-append (flat_map (lines_of_answer w) b.answers) (Found b.state b.free ∷ (moved w Revoke b.revoked ++ (paged ++ (granted ++ moved_on))))
    ∙ (λ i. answers i ++ (state_line b.state b.free ++ revoked i)) in
    append_assoc (codes "epoch ") (decimal k ++ codes "\n") _
    ∙ ap (λ l. codes "epoch " ++ l) (append_assoc (decimal k) (codes "\n") _)
    ∙ ap (λ l. codes "epoch " ++ (decimal k ++ (codes "\n" ++ l))) rest

-- ---- an epoch

reads-are : (name : List ℕ) (g : Option GuestRecord) → text_of_lines (reads_of name g) ≡ read_lines name g
reads-are name None = refl
reads-are name (Some g) = text-map (Read name) g.reads

stalls-are : (name : List ℕ) (page : Option ℕ) → text_of_lines (stalls_of name page) ≡ stall_lines name page
stalls-are name None = refl
stalls-are name (Some page) = append-nil (stall_lines name (Some page))

shown-is : (w : World) (p : ℕ) → text_of_lines (lines_of_guest w p) ≡ shown_at w p
shown-is w p =
    text-append (reads_of (name_at w p) (guest_at w p)) _
    ∙ (λ i. reads-are (name_at w p) (guest_at w p) i ++ stalls-are (name_at w p) (stalled_of (guest_at w p)) i)

epoch-is : (w : World) → text_of_lines (lines_of_epoch w) ≡ epoch_text w
unfolding epoch_text
epoch-is w = text-flat_map (lines_of_guest w) (positions w) ∙ (λ i. flat_map (λ p. shown-is w p i) (positions w))

-- ---- the end

guest-is : (name : List ℕ) (g : Option GuestRecord) → text_of_lines (guest_at_end name g) ≡ guest_lines name g
guest-is name None = refl
guest-is name (Some g) = append-nil (guest_lines name (Some g))

end-is : (w : World) → text_of_lines (lines_at_end w) ≡ end_text w
unfolding end_text
end-is w =
    ap (λ l. codes "end\n" ++ l)
    (text-append (flat_map (λ p. guest_at_end (name_at w p) (guest_at w p)) (positions w)) _
    ∙ (λ i. (text-flat_map (λ p. guest_at_end (name_at w p) (guest_at w p)) (positions w)
    ∙ (λ t. flat_map (λ p. guest-is (name_at w p) (guest_at w p) t) (positions w))) i ++ append-nil (machine_line w) i))

-- ---- the run

epoch-told : (course : Run) (k : ℕ) → text_of_lines (lines_at course k) ≡ report_at course k
unfolding report_of_epoch report_of_boundary ready_in after_in told_in after_boundary
epoch-told course k =
    text-append (lines_of_boundary (ready_in course k) k (told_in course k)) _
    ∙ (λ i. boundary-is (ready_in course k) k (told_in course k) i ++ epoch-is (after_in course k) i)

before-told : (course : Run) (k : ℕ) → text_of_lines (lines_before course k) ≡ report_of_epochs course k
before-told course zero = refl
before-told course (suc k) =
    text-append (lines_before course k) (lines_at course k) ∙ (λ i. before-told course k i ++ epoch-told course k i)

pub report-is_lines : (c : Config) → report_of c ≡ text_of_lines (lines_of c)
report-is_lines c =
    let course = course_of c in
    sym (text-append (lines_before course c.epochs) _ ∙ (λ i. before-told course c.epochs i ++ end-is (host_after course c.epochs) i))
