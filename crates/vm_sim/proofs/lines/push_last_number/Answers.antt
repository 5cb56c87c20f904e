use Rattle.std.proofs.Common.{◌≡◌, ◌≤◌, ◌-◌, ◌++◌, ◌∷◌, [], drop, length, arith, rules, length-drop, refl}
use Rattle.std.proofs.lemmas.Fmt.{IsAscii-decimal, length-decimal-le}
use Rattle.std.proofs.lemmas.List.{take_all}
use Rattle.std.proofs.lemmas.Str.{IsAscii-append, IsUtf8-from_ascii}
use Rattle.std.proofs.lemmas.Str.Ascii.{IsAscii-cons, IsAscii-nil}
use Rattle.std.specs.Fmt.{decimal}
use Rattle.vm_sim.proofs.lines.push_last_number.Goals as goal

pub write_digits-digits-requires : goal.write_digits-digits-requires
write_digits-digits-requires c =
    let short : length (decimal c.args.number) ≤ 20 = search (rules, length-decimal-le 20) in
    (omega arith, omega arith)

pub put_char-space-requires-clause-room : goal.put_char-space-requires-clause-room
put_char-space-requires-clause-room c =
    let short : length (decimal c.args.number) ≤ 20 = search (rules, length-decimal-le 20) in
    omega arith

pub from_utf8_unchecked-requires : goal.from_utf8_unchecked-requires
from_utf8_unchecked-requires c =
    let put = c.put_char-space in
    let number = decimal c.args.number in
    let written : drop put.result put.new.line ≡ 32 ∷ (number ++ 10 ∷ []) =
    rw (put.ensures.written, c.write_digits-digits.ensures.written, c.put_char-line_feed.ensures.written) refl in
    let ascii = IsAscii-cons 32 (number ++ 10 ∷ []) (omega arith)
    (IsAscii-append number (10 ∷ []) (IsAscii-decimal c.args.number (omega arith)) (IsAscii-cons 10 [] (omega arith) IsAscii-nil)) in
    rw (take_all (22 - put.result) (drop put.result put.new.line) (omega (arith, length-drop put.result put.new.line)), written)
    (IsUtf8-from_ascii _ ascii)
