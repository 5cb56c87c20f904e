use Rattle.std.proofs.Common.{◌≡◌, ◌∙◌, ℕ, List, IfOk, OnOk, Result, Ok, Err, ap, subst, sym}
use Rattle.vm_commands.specs.declared.command.Command.{Command}
use Rattle.vm_commands.specs.declared.error.LineFault.{LineFault}
use Rattle.vm_commands.specs.declared.error.LineFault.TheVariants.{Bad, Size}
use Rattle.vm_commands.specs.Lines.{command_of, IsFaultOf}
use Rattle.vm_host.specs.declared.boundary.Refusal.{Refusal}
use Rattle.vm_host.specs.Commands.{decided, outcome_to, revocations_to}
use Rattle.vm_host.specs.Decisions.{◌>>=◌, Admitted, admission_of, decision_on_line, readable}
use Rattle.vm_host.specs.Parts.{world_of}
use Rattle.vm_host.specs.World.{World}
use Rattle.vm_host.proofs.LineLemmas.{read-range, some-page}
use Rattle.vm_reclaim.specs.Policy.{policy_of}
use Rattle.vm_host.proofs.obey.answer_line.Goals as goal

-- what is decided of a line is what is decided of what was read, by the machine's page
read-is : (w : World) (page : ℕ) (line : List ℕ) (read : Result Command LineFault) → page ≡ w.machine.page → command_of page line ≡ read
    → (readable read >>= admission_of w) ≡ decision_on_line w line
read-is w page line read unit is =
    ap (λ (read : Result Command LineFault). readable read >>= admission_of w) (sym is ∙ ap (λ (p : ℕ). command_of p line) unit)

pub parse_line-requires : goal.parse_line-requires
parse_line-requires c = some-page (world_of c.args.parts.now) c.page_of-page.result c.requires.sound c.page_of-page.ensures

pub answer_command-requires-clause-range : goal.answer_command-requires-clause-range
answer_command-requires-clause-range c =
    let page = c.page_of-page.result in
    read-range page c.args.line.now c.in-Ok.command (some-page (world_of c.args.parts.now) page c.requires.sound c.page_of-page.ensures) c.in-Ok.ensures.exact

pub returns-in-Ok-clause-done : goal.returns-in-Ok-clause-done
returns-in-Ok-clause-done c =
    let w = world_of c.args.parts.now in
    let policy = policy_of c.args.parts.now.spec in
    subst (λ (d : Result Admitted Refusal). OnOk c.answer_command.result (world_of c.answer_command.new.parts ≡ decided policy w d))
    (read-is w c.page_of-page.result c.args.line.now (Ok c.in-Ok.command) c.page_of-page.ensures c.in-Ok.ensures.exact) c.answer_command.ensures.done

pub returns-in-Ok-clause-revocations : goal.returns-in-Ok-clause-revocations
returns-in-Ok-clause-revocations c =
    let w = world_of c.args.parts.now in
    let policy = policy_of c.args.parts.now.spec in
    subst (λ (d : Result Admitted Refusal). IfOk c.answer_command.result (λ told. told.0 ≡ revocations_to policy w d))
    (read-is w c.page_of-page.result c.args.line.now (Ok c.in-Ok.command) c.page_of-page.ensures c.in-Ok.ensures.exact) c.answer_command.ensures.revocations

pub returns-in-Ok-clause-outcome : goal.returns-in-Ok-clause-outcome
returns-in-Ok-clause-outcome c =
    let w = world_of c.args.parts.now in
    subst (λ (d : Result Admitted Refusal). IfOk c.answer_command.result (λ told. told.1 ≡ outcome_to w d))
    (read-is w c.page_of-page.result c.args.line.now (Ok c.in-Ok.command) c.page_of-page.ensures c.in-Ok.ensures.exact) c.answer_command.ensures.outcome

pub returns-in-Ok-clause-booked : goal.returns-in-Ok-clause-booked
returns-in-Ok-clause-booked c = c.answer_command.ensures.booked

pub returns-in-Ok-clause-unchanged : goal.returns-in-Ok-clause-unchanged
returns-in-Ok-clause-unchanged c = c.answer_command.ensures.unchanged

pub returns-in-Ok-clause-kept : goal.returns-in-Ok-clause-kept
returns-in-Ok-clause-kept c = c.answer_command.ensures.kept

-- ---- it is no command, or its number can't be read

pub returns-in-Err-Bad-clause-done : goal.returns-in-Err-Bad-clause-done
returns-in-Err-Bad-clause-done c =
    let page = c.page_of-page.result in
    let line = c.args.line.now in
    let fault : command_of page line ≡ Err Bad = subst (λ (f : LineFault). IsFaultOf (command_of page line) f) c.in-Err-Bad.field-0-is c.in-Err-Bad.ensures.exact in
    let w = world_of c.args.parts.now in
    ap (decided (policy_of c.args.parts.now.spec) w) (read-is w page line (Err Bad) c.page_of-page.ensures fault)

pub returns-in-Err-Bad-clause-outcome : goal.returns-in-Err-Bad-clause-outcome
returns-in-Err-Bad-clause-outcome c =
    let page = c.page_of-page.result in
    let line = c.args.line.now in
    let fault : command_of page line ≡ Err Bad = subst (λ (f : LineFault). IsFaultOf (command_of page line) f) c.in-Err-Bad.field-0-is c.in-Err-Bad.ensures.exact in
    let w = world_of c.args.parts.now in
    ap (outcome_to w) (read-is w page line (Err Bad) c.page_of-page.ensures fault)

pub returns-in-Err-Size-clause-done : goal.returns-in-Err-Size-clause-done
returns-in-Err-Size-clause-done c =
    let page = c.page_of-page.result in
    let line = c.args.line.now in
    let fault : command_of page line ≡ Err Size = subst (λ (f : LineFault). IsFaultOf (command_of page line) f) c.in-Err-Size.field-0-is c.in-Err-Size.ensures.exact in
    let w = world_of c.args.parts.now in
    ap (decided (policy_of c.args.parts.now.spec) w) (read-is w page line (Err Size) c.page_of-page.ensures fault)

pub returns-in-Err-Size-clause-outcome : goal.returns-in-Err-Size-clause-outcome
returns-in-Err-Size-clause-outcome c =
    let page = c.page_of-page.result in
    let line = c.args.line.now in
    let fault : command_of page line ≡ Err Size = subst (λ (f : LineFault). IsFaultOf (command_of page line) f) c.in-Err-Size.field-0-is c.in-Err-Size.ensures.exact in
    let w = world_of c.args.parts.now in
    ap (outcome_to w) (read-is w page line (Err Size) c.page_of-page.ensures fault)
