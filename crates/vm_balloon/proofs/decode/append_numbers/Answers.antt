use Rattle.std.proofs.Common.{◌++◌, ◌∷◌, [], ℕ, List, sym, ap, ◌∙◌, arith}
use Rattle.std.specs.Prelude.{map}
use Rattle.std.specs.List.{range_with_len}
use Rattle.std.proofs.lemmas.List.{append_assoc}
use Rattle.vm_balloon.specs.Virtio.{page_number}
use Rattle.vm_balloon.proofs.VirtioLemmas.{map_numbered_more}
use Rattle.vm_balloon.proofs.decode.append_numbers.Goals as goal

pub loop-i-preserved : goal.loop-i-preserved
loop-i-preserved c =
    let i = c.loop-i.i in
    let before = c.args.numbers.now.items in
    let read = map (page_number c.args.bytes.now) (range_with_len 0 i) in
    record {
      read =
          c.push_reserved.ensures.items
          ∙ (λ j. c.loop-i.invariant.read j ++ c.page_number.ensures j ∷ [])
          ∙ append_assoc before read (page_number c.args.bytes.now i ∷ [])
          ∙ ap (λ (numbers : List ℕ). before ++ numbers) (sym (map_numbered_more (page_number c.args.bytes.now) i));
      many = omega (arith, c.push_reserved.ensures.len, c.loop-i.invariant.many);
      room = c.push_reserved.ensures.capacity ∙ c.loop-i.invariant.room;
    }
