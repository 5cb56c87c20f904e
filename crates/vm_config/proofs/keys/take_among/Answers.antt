use Rattle.std.proofs.Common.{map, Ok, refl, sym, ap, ◌∙◌}
use Rattle.serde_json.specs.Find.{as_array}
use Rattle.vm_json.specs.View.{view}
use Rattle.vm_config.specs.Keys.{among, is_object}
use Rattle.vm_config.proofs.ValueLemmas.{no_objects, objects_listed}
use Rattle.vm_config.proofs.keys.take_among.Goals as goal

pub returns-in_default-clause-objects : goal.returns-in_default-clause-objects
returns-in_default-clause-objects c = no_objects c.args.limit (as_array (view c.args.value)) (c.in_default.ensures.none refl)

pub returns-in-Err-clause-objects : goal.returns-in-Err-clause-objects
returns-in-Err-clause-objects c =
    objects_listed c.args.limit (view c.args.value) (map view c.in-Some.items.items) c.in-Some.ensures.values
    ∙ ap (λ vs. among is_object c.args.limit (map view vs)) (sym c.as_slice.ensures.value) ∙ c.in-Err.ensures.objects

pub returns-clause-objects : goal.returns-clause-objects
returns-clause-objects c =
    let limited = c.in_default-limited_objects in
    objects_listed c.args.limit (view c.args.value) (map view c.in-Some.items.items) c.in-Some.ensures.values
    ∙ ap (λ vs. among is_object c.args.limit (map view vs)) (sym c.as_slice.ensures.value) ∙ limited.ensures.objects
    ∙ ap (λ vs. Ok (map view vs)) (limited.ensures.same ∙ c.as_slice.ensures.value)
