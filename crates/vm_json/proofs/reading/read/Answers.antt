use Rattle.std.proofs.Common.{◌≡◌, ap, ◌∙◌, sym, true, false, arith, Some, None}
use Rattle.vm_json.specs.Tree.{value_view}
use Rattle.serde_json.specs.Read.{read as read_text}
use Rattle.vm_json.specs.View.{is_readable, view}
use Rattle.vm_json.proofs.ViewLemmas.{none_where, whole_where}
use Rattle.vm_json.proofs.reading.read.Goals as goal

pub returns-then-not-is_readable-clause-refused : goal.returns-then-not-is_readable-clause-refused
returns-then-not-is_readable-clause-refused c e utf8 =
    let unreadable : is_readable (value_view c.in_ok-value.value) ≡ false = grind arith in
    let none : read_text c.in-Ok.text.now ≡ None = none_where c.in-Ok.text.now (value_view c.in_ok-value.value) c.in_ok-value.ensures.ok unreadable in
    ap read_text (sym c.in-Ok.ensures.cases.0) ∙ none

pub returns-clause-ok : goal.returns-clause-ok
returns-clause-ok c =
    let readable : is_readable (value_view c.in_ok-value.value) ≡ true = grind arith in
    let whole : read_text c.in-Ok.text.now ≡ Some (view c.in_ok-value.value) = whole_where c.in-Ok.text.now (value_view c.in_ok-value.value) c.in_ok-value.ensures.ok readable in
    (c.in-Ok.ensures.cases.1, ap read_text (sym c.in-Ok.ensures.cases.0) ∙ whole)
