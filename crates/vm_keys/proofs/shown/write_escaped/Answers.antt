use Rattle.std.proofs.Common.{◌≡◌, ◌-◌, ◌<◌, true, false, [], ◌++◌, length, get_or, take, drop, refl, rules, arith, append_assoc}
use Rattle.std.proofs.lemmas.Grind.{common_steps}
use Rattle.std.proofs.lemmas.Str.{IsCharBoundary-start, IsCharBoundary-after_ascii, IsCharBoundary-before_ascii}
use Rattle.std.proofs.Output.{has_written_append, has_written_of_eq}
use Rattle.json.specs.Print.{escape_byte}
use Rattle.vm_keys.specs.Shown.{is_escaped}
use Rattle.vm_keys.proofs.ShownLemmas.{escaped_ascii, kept, replaced, ended}
use Rattle.vm_keys.proofs.shown.write_escaped.Goals as goal
use Rattle.vm_keys.proofs.shown.write_escaped.Goals.{then-is_escaped+in_ok-write_str+in_ok-write_escape, else-is_escaped}

pub range-requires-clause-end_boundary : goal.range-requires-clause-end_boundary
range-requires-clause-end_boundary g c =
    let needed : is_escaped (get_or c.args.text.now c.bytes.at 0) ≡ true = grind (arith, common_steps) in
    IsCharBoundary-before_ascii c.args.text.now c.bytes.at (omega (arith, c.as_bytes-bytes.ensures.len)) (escaped_ascii _ needed)

pub bytes-init : goal.bytes-init
bytes-init g c = (omega arith, IsCharBoundary-start c.args.text.now c.utf8.text, [], refl, search rules)

pub bytes-preserved : goal.bytes-preserved
bytes-preserved g c =
    let l = c.bytes in
    let s = c.args.text.now in
    let (low, bound, done, whole, wrote) = l.invariant in
    let within : l.at < length s = omega (arith, c.as_bytes-bytes.ensures.len) in
    elim c.if-is_escaped.branch [
      | then-is_escaped+in_ok-write_str+in_ok-write_escape w ↦
          let needed : is_escaped (get_or s l.at 0) ≡ true = grind (arith, common_steps) in
          let next = replaced s done _ l.start l.at within whole in
          let run = take (l.at - l.start) (drop l.start s) in
          let text = done ++ (run ++ escape_byte (get_or s l.at 0)) in
          rw (w.start-is, w.f-is) (
            omega arith,
            IsCharBoundary-after_ascii s l.at c.utf8.text within (escaped_ascii _ needed),
            text,
            next,
            λ plain.
                let sofar = wrote plain in
                let one = w.write_str.ensures.writes sofar.plain (search rules) in
                let two = w.write_escape.ensures one.plain (search rules) in
                has_written_of_eq _ _ _ _ _ (grind (arith, common_steps, append_assoc)) (has_written_append _ _ _ _ _ _ (has_written_append _ _ _ _ _ _ sofar one) two),
          )
      | else-is_escaped w ↦
          let plain : is_escaped (get_or s l.at 0) ≡ false = grind (arith, common_steps) in
          let next = kept s done _ l.start l.at low within plain whole in
          rw (w.start-is, w.f-is) (omega arith, bound, done, next, wrote)
    ]

pub returns : goal.returns
returns g c plain ok =
    let l = c.bytes in
    let s = c.args.text.now in
    let (low, bound, done, whole, wrote) = l.invariant in
    let at_end : l.at ≡ length s = omega (arith, c.as_bytes-bytes.ensures.len) in
    let text = ended s done _ l.start l.at low at_end whole in
    has_written_of_eq _ _ _ _ _ text (has_written_append _ _ _ _ _ _ (wrote plain) (search rules))
