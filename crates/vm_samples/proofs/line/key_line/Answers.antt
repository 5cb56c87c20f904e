use Rattle.std.proofs.Common.{◌≡◌, ◌∙◌, ℕ, ◌+◌, ◌-◌, ◌≤◌, position, Some, None, List, take, drop, ap, sym, arith}
use Rattle.std.proofs.lemmas.List.{length-drop, length-take-le, take_rest}
use Rattle.vm_samples.specs.SampleLines.{is_equals}
use Rattle.vm_samples.proofs.KeyLemmas.{key_is, key_some, no_equals, no_key, not_there, nowhere}
use Rattle.vm_samples.proofs.line.key_line.Goals as goal

pub returns-then-spaces-lt1 : goal.returns-then-spaces-lt1
returns-then-spaces-lt1 c = no_key c.args.text.now c.args.len c.spaces_in_front-spaces.result (sym c.spaces_in_front-spaces.ensures.spaces) c.if-spaces-lt1.true

pub returns-in_default : goal.returns-in_default
returns-in_default c =
    let text = c.args.text.now in
    let len = c.args.len in
    let spaces = c.spaces_in_front-spaces.result in
    let few : spaces ≤ len = omega (arith, c.spaces_in_front-spaces.ensures.bound, length-take-le len text c.requires) in
    let none : position is_equals (drop spaces text) ≡ None = ap (position is_equals) (sym (take_rest text spaces)) ∙ sym c.equals_in.ensures ∙ c.in_default.is in
    no_equals text len spaces (sym c.spaces_in_front-spaces.ensures.spaces) c.if-spaces-lt1.false few
    (nowhere (len - spaces) (drop spaces text) (omega (arith, c.requires, length-drop spaces text)) none)

pub returns-then-end-len : goal.returns-then-end-len
returns-then-end-len c =
    let text = c.args.text.now in
    let len = c.args.len in
    let spaces = c.spaces_in_front-spaces.result in
    let few : spaces ≤ len = omega (arith, c.spaces_in_front-spaces.ensures.bound, length-take-le len text c.requires) in
    let found : position is_equals (drop spaces text) ≡ Some c.in-Some.end = ap (position is_equals) (sym (take_rest text spaces)) ∙ sym c.equals_in.ensures ∙ c.in-Some.is in
    no_equals text len spaces (sym c.spaces_in_front-spaces.ensures.spaces) c.if-spaces-lt1.false few
    (not_there (len - spaces) (drop spaces text) c.in-Some.end (omega (arith, c.requires, length-drop spaces text)) found c.if-end-len.true)

pub returns : goal.returns
returns c =
    let text = c.args.text.now in
    let len = c.args.len in
    let spaces = c.spaces_in_front-spaces.result in
    let end = c.in-Some.end in
    let few : spaces ≤ len = omega (arith, c.spaces_in_front-spaces.ensures.bound, length-take-le len text c.requires) in
    let found : position is_equals (drop spaces text) ≡ Some end = ap (position is_equals) (sym (take_rest text spaces)) ∙ sym c.equals_in.ensures ∙ c.in-Some.is in
    ap (λ (l : List ℕ). key_some end l (take (len - (spaces + end + 1)) (drop (spaces + end + 1) text))) (take_rest text spaces)
    ∙ key_is text len spaces end (sym c.spaces_in_front-spaces.ensures.spaces) c.if-spaces-lt1.false few c.requires found (omega (arith, c.if-end-len.false))
