-- A run by whole percents is the run of the migrated configuration.
use Rattle.std.proofs.Common.{◌≡◌, ℕ, zero, suc, List, [], ◌∷◌, ◌++◌, Result, Ok, Err, refl, ap, sym, ◌∙◌}
use Rattle.vm_commands.specs.declared.command.Command.{Command}
use Rattle.vm_commands.specs.declared.command.Command.TheVariants.{Start, Destroy, SetMemory, SetMinimum, SetShares, ShowStatistics}
use Rattle.vm_commands.specs.declared.error.LineFault.{LineFault}
use Rattle.vm_commands.specs.Lines.{command_of}
use Rattle.vm_config.specs.declared.config.Config.{Config}
use Rattle.vm_config.specs.Migration.{in_hundredths, migrated}
use Rattle.vm_host.specs.declared.boundary.Boundary.{Boundary}
use Rattle.vm_host.specs.declared.boundary.Refusal.{Refusal}
use Rattle.vm_host.specs.Answers.{AnswerValue}
use Rattle.vm_host.specs.Boundary.{past_boundary_by, boundary_done, finished, opened_boundary, done_after_lines}
use Rattle.vm_host.specs.Commands.{after_line, after_lines, answer_to, answers_to, decided}
use Rattle.vm_host.specs.Decisions.{◌>>=◌, Admitted, admission_of, decision_on, decision_on_line, readable}
use Rattle.vm_host.specs.Epoch.{after_epoch}
use Rattle.vm_host.specs.World.{World}
use Rattle.vm_host.proofs.PolicyLemmas.{DecideAlike, bounded-alike, boundary-alike}
use Rattle.vm_reclaim.specs.Policy.{Policy, policy_by_percents, policy_of}
use Rattle.vm_runs.specs.Course.{Run, host_after}
use Rattle.vm_sim.specs.Course.{after_boundary, course_by, course_of, next_world, boundary_of_lines, world_after}
use Rattle.vm_sim.specs.Migration.{converted, report_by_percents, world_by_percents}
use Rattle.vm_sim.specs.Report.{answer_lines, boundary_text, report_of_boundary, end_text, epoch_text, machine_line, report_of, report_at, report_of_epochs, report_of_epoch}

-- ---- no decision looks at the tax or the percents of the machine but through the policy

decision-converted : (w : World) (command : Command) → decision_on (converted w) command ≡ decision_on w command
decision-converted w (Start domain) = refl
decision-converted w (Destroy domain) = refl
decision-converted w (SetMemory domain cap) = refl
decision-converted w (SetMinimum domain least) = refl
decision-converted w (SetShares domain shares) = refl
decision-converted w (ShowStatistics domain) = refl

-- what a line asks for
asked-converted : (w : World) (command : Result Command LineFault) → (readable command >>= admission_of (converted w)) ≡ (readable command >>= admission_of w)
asked-converted w (Ok command) = ap (λ decision. decision >>= (λ position. Ok (record { command = command; position = position }))) (decision-converted w command)
asked-converted w (Err fault) = refl

line-decision : (w : World) (line : List ℕ) → decision_on_line (converted w) line ≡ decision_on_line w line
line-decision w line = asked-converted w (command_of w.machine.page line)

module _ (policy : Policy) where
  decided-converted : (w : World) (decision : Result Admitted Refusal) → decided policy (converted w) decision ≡ converted (decided policy w decision)
  decided-converted w (Ok admitted) = refl
  decided-converted w (Err refusal) = refl

  line-converted : (w : World) (line : List ℕ) → after_line policy (converted w) line ≡ converted (after_line policy w line)
  line-converted w line = ap (decided policy (converted w)) (line-decision w line) ∙ decided-converted w (decision_on_line w line)

  lines-converted : (lines : List (List ℕ)) (w : World) → after_lines policy (converted w) lines ≡ converted (after_lines policy w lines)
  lines-converted [] w = refl
  lines-converted (line ∷ lines) w =
      ap (λ v. after_lines policy v lines) (line-converted w line) ∙ lines-converted lines (after_line policy w line)

  answer-converted : (w : World) (line : List ℕ) (decision : Result Admitted Refusal) → answer_to policy (converted w) line decision ≡ answer_to policy w line decision
  answer-converted w line (Ok admitted) = refl
  answer-converted w line (Err refusal) = refl

  answers-converted : (lines : List (List ℕ)) (w : World) → answers_to policy (converted w) lines ≡ answers_to policy w lines
  answers-converted [] w = refl
  answers-converted (line ∷ lines) w = λ i.
      (ap (answer_to policy (converted w) line) (line-decision w line) ∙ answer-converted w line (decision_on_line w line)) i
      ∷ (ap (λ v. answers_to policy v lines) (line-converted w line) ∙ answers-converted lines (after_line policy w line)) i

  -- ---- the boundary

  finished-converted : (w : World) → finished policy (converted w) ≡ converted (finished policy w)
  finished-converted w = refl

  told-converted : (w : World) (answers : List AnswerValue) → done_after_lines policy (converted w) answers ≡ done_after_lines policy w answers
  told-converted w answers = refl

  bounded-converted : (w : World) (lines : List (List ℕ)) → past_boundary_by policy (converted w) lines ≡ converted (past_boundary_by policy w lines)
  bounded-converted w lines =
      ap (finished policy) (lines-converted lines (opened_boundary w)) ∙ finished-converted (after_lines policy (opened_boundary w) lines)

  boundary-converted : (w : World) (lines : List (List ℕ)) → boundary_done policy (converted w) lines ≡ boundary_done policy w lines
  boundary-converted w lines =
      (λ i. done_after_lines policy (lines-converted lines (opened_boundary w) i) (answers-converted lines (opened_boundary w) i))
      ∙ told-converted (after_lines policy (opened_boundary w) lines) (answers_to policy (opened_boundary w) lines)

-- ---- texts name no tax and no percents

boundary_text-converted : (k : ℕ) (w : World) (told : Boundary) → boundary_text k (converted w) told ≡ boundary_text k w told
unfolding boundary_text answer_lines
boundary_text-converted k w told = refl

epoch_text-converted : (w : World) → epoch_text (converted w) ≡ epoch_text w
unfolding epoch_text
epoch_text-converted w = refl

end_text-converted : (w : World) → end_text (converted w) ≡ end_text w
unfolding end_text machine_line
end_text-converted w = refl

-- ---- a policy that decides alike, and a host that is set up in hundredths

module _ (p q : Policy) (alike : DecideAlike p q) (lines : List (List ℕ)) (w : World) where
  next-converted : next_world q lines (converted w) ≡ converted (next_world p lines w)
  unfolding after_boundary
  next-converted =
      ap after_epoch (bounded-converted q w lines) ∙ ap (λ v. converted (after_epoch v)) (sym (bounded-alike p q alike w lines))

  bounded-both : after_boundary q lines (converted w) ≡ converted (after_boundary p lines w)
  unfolding after_boundary
  bounded-both = bounded-converted q w lines ∙ ap converted (sym (bounded-alike p q alike w lines))

  told-both : boundary_of_lines q lines (converted w) ≡ boundary_of_lines p lines w
  unfolding boundary_of_lines
  told-both = boundary-converted q w lines ∙ sym (boundary-alike p q alike w lines)

  report_of_boundary-both : (k : ℕ) → report_of_boundary k q lines (converted w) ≡ report_of_boundary k p lines w
  unfolding report_of_boundary
  report_of_boundary-both k =
      (λ i. boundary_text k (bounded-both i) (told-both i)) ∙ boundary_text-converted k (after_boundary p lines w) (boundary_of_lines p lines w)

  report_of_epoch-both : (k : ℕ) → report_of_epoch k q lines (converted w) ≡ report_of_epoch k p lines w
  unfolding report_of_epoch
  report_of_epoch-both k = λ i. report_of_boundary-both k i ++ (ap epoch_text next-converted ∙ epoch_text-converted (next_world p lines w)) i

-- ---- a run

module _ (c : Config) (alike : DecideAlike (policy_by_percents c.machine) (policy_of (in_hundredths c.machine))) where
  abbrev whole : Run
  whole = course_by (policy_by_percents c.machine) c

  abbrev fine : Run
  fine = course_of (migrated c)

  pub hosts-migrated : (k : ℕ) → world_after (migrated c) k ≡ converted (world_by_percents c k)
  unfolding after_boundary
  hosts-migrated zero = refl
  hosts-migrated (suc k) =
      ap (next_world fine.policy (fine.lines k)) (hosts-migrated k)
      ∙ next-converted whole.policy fine.policy alike (whole.lines k) (host_after whole k)

  told-migrated : (k : ℕ) → report_at fine k ≡ report_at whole k
  told-migrated k =
      ap (report_of_epoch k fine.policy (fine.lines k)) (hosts-migrated k)
      ∙ report_of_epoch-both whole.policy fine.policy alike (whole.lines k) (host_after whole k) k

  before-migrated : (k : ℕ) → report_of_epochs fine k ≡ report_of_epochs whole k
  before-migrated zero = refl
  before-migrated (suc k) = λ i. before-migrated k i ++ told-migrated k i

  pub report-migrated : report_of (migrated c) ≡ report_by_percents c
  report-migrated = λ i.
      before-migrated c.epochs i ++ (ap end_text (hosts-migrated c.epochs) ∙ end_text-converted (host_after whole c.epochs)) i
