use Rattle.std.proofs.Common.{ℕ, List, sym, subst, arith}
use Rattle.std.proofs.lemmas.Bool.{ne_eqb}
use Rattle.std.specs.Fmt.{WritesOnOk}
use Rattle.vm_keys.proofs.ShownLemmas.{quote, backslash, backspace, form_feed, line_feed, carriage_return, tab, numbered}
use Rattle.vm_keys.proofs.shown.write_escape.Goals as goal

pub returns-in-34 : goal.returns-in-34
returns-in-34 g c =
    subst (λ (t : List ℕ). WritesOnOk {W = g.row.W.Denot} g.W.Write.write_str_gives c.args.f.now c.write_str.result t c.write_str.new.self)
    (sym (quote c.args.byte c.in-34.is)) c.write_str.ensures.writes

pub returns-in-92 : goal.returns-in-92
returns-in-92 g c =
    subst (λ (t : List ℕ). WritesOnOk {W = g.row.W.Denot} g.W.Write.write_str_gives c.args.f.now c.write_str-in-92.result t c.write_str-in-92.new.self)
    (sym (backslash c.args.byte c.in-92.is)) c.write_str-in-92.ensures.writes

pub returns-in-8 : goal.returns-in-8
returns-in-8 g c =
    subst (λ (t : List ℕ). WritesOnOk {W = g.row.W.Denot} g.W.Write.write_str_gives c.args.f.now c.write_str-in-8.result t c.write_str-in-8.new.self)
    (sym (backspace c.args.byte c.in-8.is)) c.write_str-in-8.ensures.writes

pub returns-in-12 : goal.returns-in-12
returns-in-12 g c =
    subst (λ (t : List ℕ). WritesOnOk {W = g.row.W.Denot} g.W.Write.write_str_gives c.args.f.now c.write_str-in-12.result t c.write_str-in-12.new.self)
    (sym (form_feed c.args.byte c.in-12.is)) c.write_str-in-12.ensures.writes

pub returns-in-10 : goal.returns-in-10
returns-in-10 g c =
    subst (λ (t : List ℕ). WritesOnOk {W = g.row.W.Denot} g.W.Write.write_str_gives c.args.f.now c.write_str-in-10.result t c.write_str-in-10.new.self)
    (sym (line_feed c.args.byte c.in-10.is)) c.write_str-in-10.ensures.writes

pub returns-in-13 : goal.returns-in-13
returns-in-13 g c =
    subst (λ (t : List ℕ). WritesOnOk {W = g.row.W.Denot} g.W.Write.write_str_gives c.args.f.now c.write_str-in-13.result t c.write_str-in-13.new.self)
    (sym (carriage_return c.args.byte c.in-13.is)) c.write_str-in-13.ensures.writes

pub returns-in-9 : goal.returns-in-9
returns-in-9 g c =
    subst (λ (t : List ℕ). WritesOnOk {W = g.row.W.Denot} g.W.Write.write_str_gives c.args.f.now c.write_str-in-9.result t c.write_str-in-9.new.self)
    (sym (tab c.args.byte c.in-9.is)) c.write_str-in-9.ensures.writes

pub returns-in_default : goal.returns-in_default
returns-in_default g c =
    let b = c.args.byte in
    subst (λ (t : List ℕ). WritesOnOk {W = g.row.W.Denot} g.W.Write.write_str_gives c.args.f.now c.write_code.result t c.write_code.new.f)
    (sym (numbered b c.requires (ne_eqb b 34 (λ e. omega arith)) (ne_eqb b 92 (λ e. omega arith)) (ne_eqb b 8 (λ e. omega arith)) (ne_eqb b 12 (λ e. omega arith))
    (ne_eqb b 10 (λ e. omega arith)) (ne_eqb b 13 (λ e. omega arith)) (ne_eqb b 9 (λ e. omega arith)))) c.write_code.ensures
