use Rattle.std.proofs.Common.{◌≡◌, ◌≤◌, ◌-◌, ◌∙◌, length, sym, ap, arith}
use Rattle.std.proofs.lemmas.Bool.{leb-true, le-leb}
use Rattle.std.proofs.lemmas.List.{length-take-le}
use Rattle.vm_patches.proofs.patch.Patch.has_room.Goals as goal

pub returns : goal.returns
returns c =
    let whole = c.self.invariant.0 in
    let few = c.self.invariant.1 in
    let count : length c.args.self.now ≡ c.self.inside.len =
    ap length (sym c.self.view_is) ∙ length-take-le c.self.inside.len c.self.inside.writes (omega (arith, whole, few))
    in (
      (λ fits. let below : c.args.more ≤ 12 - c.from.result = leb-true c.args.more (12 - c.from.result) fits in omega (arith, count, c.from.ensures)),
      λ fits. le-leb c.args.more (12 - c.from.result) (omega (arith, count, c.from.ensures)),
    )
