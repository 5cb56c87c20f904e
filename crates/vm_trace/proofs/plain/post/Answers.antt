use Rattle.std.proofs.Common.{rules, ◌≡◌, ◌≤◌, ◌-◌, ◌/◌, ◌∷◌, ◌++◌, take, drop, length, sym, ◌∙◌}
use Rattle.vm_trace.specs.Entering.{KeepsHex}
use Rattle.vm_trace.specs.Spelling.{letter_of}
use Rattle.vm_trace.specs.Versions.{most_posted}
use Rattle.vm_trace.proofs.InFront.{begins_post, post_entered}
use Rattle.vm_trace.proofs.ReadIsSpelled.{queue_from}
use Rattle.vm_trace.proofs.plain.post.Goals as goal

pub returns-clause-item : goal.returns-clause-item
returns-clause-item c =
    let text = c.args.text.now in
    let letter = take 1 (drop 2 text) in
    let digits = take (length text - 4) (drop 4 text) in
    let named : letter ≡ letter_of c.in-Ok.queue = queue_from letter c.in-Ok.queue (sym c.queue_of.ensures ∙ c.in-Ok.is) in
    let whole : text ≡ 112 ∷ 32 ∷ letter ++ 32 ∷ digits = begins_post text (search rules) (search rules) (search rules) (search rules) in
    let some : 1 ≤ length digits / 2 = search rules in
    let few : length digits / 2 ≤ most_posted c.args.limits = search rules in
    let kept : KeepsHex digits c.args.store.now.items c.keep_pairs.new.store.items c.in-Some.start = search rules in
    post_entered c.args.limits letter digits text c.args.store.now.items c.keep_pairs.new.store.items c.in-Ok.queue c.in-Some.start named whole some few kept
