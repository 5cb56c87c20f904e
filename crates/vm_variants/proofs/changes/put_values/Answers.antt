use Rattle.std.proofs.Common.{◌<◌, get_or, length, refl}
use Rattle.vm_variants.specs.declared.guest_value.GuestValue.{GuestValue}
use Rattle.vm_variants.proofs.ValueLemmas.{rest-allowed, rest-given}
use Rattle.vm_variants.proofs.changes.put_values.Goals as goal

pub loop-value-preserved : goal.loop-value-preserved
loop-value-preserved c =
    let values = c.args.values.now in
    let i = c.loop-value.value-index in
    let none : GuestValue = record { place = 0; value = 0 } in
    let value : GuestValue = get_or values i none in
    let there : i < length values = c.loop-value-test.true in
    record {
      given = rest-given c.args.setting values i value none c.loop-value.config c.put_value.new.config _ there refl c.put_value.ensures c.loop-value.invariant.given;
      allowed = rest-allowed c.args.setting values i value none c.loop-value.config c.put_value.new.config there refl c.put_value.ensures c.loop-value.invariant.allowed;
    }
