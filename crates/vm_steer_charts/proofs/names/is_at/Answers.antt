use Rattle.std.proofs.Common.{◌≡◌, ◌∙◌, ◌<◌, length, map, arith, sym, ap, bytes_eq}
use Rattle.std.proofs.lemmas.List.{length-map}
use Rattle.vm_steer.proofs.NameLemmas.{stands_beyond, stands_within}
use Rattle.vm_steer_charts.proofs.names.is_at.Goals as goal

pub returns-then-place-names : goal.returns-then-place-names
returns-then-place-names c =
    let names = map (λ n. n.items) c.args.names.now in
    let all : length names ≡ length c.args.names.now = length-map c.args.names.now (λ n. n.items) in
    let within : c.args.place < length c.args.names.now = c.if-place-names.true in
    c.eq.ensures ∙ (ap (λ n. bytes_eq n c.args.name.now) c.name_at.ensures ∙ sym (stands_within names c.args.place c.args.name.now (omega arith)))

pub returns-else-place-names : goal.returns-else-place-names
returns-else-place-names c =
    let names = map (λ n. n.items) c.args.names.now in
    let all : length names ≡ length c.args.names.now = length-map c.args.names.now (λ n. n.items) in
    sym (stands_beyond names c.args.place c.args.name.now (omega arith))
