use Rattle.std.proofs.Common.{leb, rules}
use Rattle.std.proofs.lemmas.List.Sorted.{IsPartitionPoint-from_clause}
use Rattle.vm_trace.specs.declared.entry.Item.TheVariants.{Read}
use Rattle.vm_trace.proofs.Found.{parted, counted_at}
use Rattle.vm_trace.proofs.places.counted_part_at.Goals as goal

pub overflow_sub-entry : goal.overflow_sub-entry
overflow_sub-entry c =
    let entries = c.args.entries.now in
    let point = IsPartitionPoint-from_clause (λ e. leb e.first c.args.place) entries c.partition_point-behind.result c.partition_point-behind.ensures.partitioned
    (parted entries c.args.steps c.args.place c.requires) (λ a r q k. search rules) in
    (counted_at entries c.args.steps c.args.place c.partition_point-behind.result (record { first = 0; item = Read 0 0 0 }) c.requires c.if-place-steps.false c.partition_point-behind.ensures.bound point).0

pub overflow_sub-result : goal.overflow_sub-result
overflow_sub-result c =
    let entries = c.args.entries.now in
    let point = IsPartitionPoint-from_clause (λ e. leb e.first c.args.place) entries c.partition_point-behind.result c.partition_point-behind.ensures.partitioned
    (parted entries c.args.steps c.args.place c.requires) (λ a r q k. search rules) in
    (counted_at entries c.args.steps c.args.place c.partition_point-behind.result (record { first = 0; item = Read 0 0 0 }) c.requires c.if-place-steps.false c.partition_point-behind.ensures.bound point).1

pub returns-clause-some : goal.returns-clause-some
returns-clause-some c =
    let entries = c.args.entries.now in
    let point = IsPartitionPoint-from_clause (λ e. leb e.first c.args.place) entries c.partition_point-behind.result c.partition_point-behind.ensures.partitioned
    (parted entries c.args.steps c.args.place c.requires) (λ a r q k. search rules) in
    (counted_at entries c.args.steps c.args.place c.partition_point-behind.result (record { first = 0; item = Read 0 0 0 }) c.requires c.if-place-steps.false c.partition_point-behind.ensures.bound point).2
