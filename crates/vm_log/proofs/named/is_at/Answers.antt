use Rattle.std.proofs.Common.{◌≡◌, ◌∙◌, ℕ, ◌<◌, ◌≤◌, List, [], bytes_eq, get_or, length, map, ap, arith, sym}
use Rattle.std.proofs.lemmas.List.{get_or-map, length-map}
use Rattle.vm_steer.proofs.NameLemmas.{stands_beyond, stands_within}
use Rattle.vm_log.proofs.named.is_at.Goals as goal

pub returns-then-place-items : goal.returns-then-place-items
returns-then-place-items g c =
    let names = map g.T.Named.name_of c.args.items.now in
    let place = c.args.place in
    let all : length names ≡ length c.args.items.now = length-map c.args.items.now g.T.Named.name_of in
    let within : place < length c.args.items.now = omega arith in
    let read = get_or-map g.T.Named.name_of c.args.items.now place c.index-items-place.result [] within in
    let is : c.name.result.now ≡ get_or names place [] = c.name.ensures ∙ (ap g.T.Named.name_of c.index-items-place.is ∙ sym read) in
    c.eq.ensures ∙ (ap (λ (n : List ℕ). bytes_eq n c.args.name.now) is ∙ sym (stands_within names place c.args.name.now (omega (arith, all, within))))

pub returns-else-place-items : goal.returns-else-place-items
returns-else-place-items g c =
    let names = map g.T.Named.name_of c.args.items.now in
    let all : length names ≡ length c.args.items.now = length-map c.args.items.now g.T.Named.name_of in
    sym (stands_beyond names c.args.place c.args.name.now (omega (arith, all)))
