use Rattle.std.proofs.Common.{◌≡◌, ◌∙◌, ℕ, ◌+◌, List, drop, Ok, Result, sym, subst, arith, rules}
use Rattle.std.proofs.lemmas.List.{take_rest}
use Rattle.std.specs.Result.{IfOk}
use Rattle.vm_import.specs.declared.access.Access.{Access}
use Rattle.vm_import.specs.declared.faults.LineFault.{LineFault}
use Rattle.vm_import.specs.Accesses.{IsAccess}
use Rattle.vm_import.specs.Lines.{kind_of}
use Rattle.vm_import.specs.Numerals.{IsInFront}
use Rattle.vm_import.proofs.AccessLemmas.{access_line, ok_some}
use Rattle.vm_import.proofs.plain.access_in_front.Goals as goal

pub returns : goal.returns
returns c =
    let text = c.args.text.now in
    let address = c.digits_in_front-address.result in
    let size = c.digits_in_front-size.result in
    let few = c.digits_in_front-address.ensures.few in
    let short = c.digits_in_front-size.ensures.few in
    let kind : kind_of c.args.text.now ≡ Ok c.in_ok-kind.kind = sym c.kind_of.ensures.kind ∙ ok_some c.kind_of.result c.in_ok-kind.kind (sym c.ok.ensures.value ∙ c.in_ok-kind.was) in
    let access : c.access_with.result ≡ Ok c.in_ok-access.access = ok_some c.access_with.result c.in_ok-access.access (sym c.ok-2.ensures.value ∙ c.in_ok-access.was) in
    let valid : IsAccess c.in_ok-access.access = subst (λ (r : Result Access LineFault). IfOk r IsAccess) access c.access_with.ensures.valid in
    let front : IsInFront 16 16 (drop 3 text) address.value address.len =
    subst (λ (l : List ℕ). IsInFront 16 16 l address.value address.len) (take_rest text 3) c.digits_in_front-address.ensures in
    let behind : IsInFront 10 4 (drop (3 + address.len + 1) text) size.value size.len =
    subst (λ (l : List ℕ). IsInFront 10 4 l size.value size.len) (take_rest text (3 + address.len + 1)) c.digits_in_front-size.ensures in
    access_line c.args.text.now c.in_ok-kind.kind address.value address.len size.value size.len c.in_ok-access.access
    kind front (omega arith) (search rules)
    behind (search rules) (omega arith)
    (omega arith) (omega arith) (sym c.access_with.ensures.access ∙ access) valid
