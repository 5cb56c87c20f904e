use Rattle.std.proofs.Common.{◌≡◌, take}
use Rattle.std.specs.Str.Parse.{AllDigits, digits_value}
use Rattle.vm_import.proofs.numerals.digits_in_front.Given as goal

abbrev pub invariant-loop-place : goal.invariant-loop-place
invariant-loop-place l = record {
  digits : AllDigits l.radix (take l.place l.text);
  value_is : l.value ≡ digits_value l.radix (take l.place l.text);
}
