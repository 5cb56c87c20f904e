-- The column `evicted` of a series, added up.
use Rattle.std.proofs.Common.{◌≡◌, ℕ, suc, Option, Some, None, length, refl, sym, ap, ◌∙◌}
use Rattle.std.specs.List.{range_with_len}
use Rattle.std.specs.Option.{option_map}
use Rattle.vm_config.specs.declared.config.Config.{Config}
use Rattle.vm_guest.specs.Record.{GuestRecord, saturated}
use Rattle.vm_guest.specs.View.{view_of}
use Rattle.vm_host.specs.World.{World, guest_at}
use Rattle.vm_pool.specs.Guests.{of_running}
use Rattle.vm_series.specs.Rows.{row_of, view_at}
use Rattle.vm_sim.specs.Course.{course_of, world_after}
use Rattle.vm_sim.specs.Report.{positions}
use Rattle.vm_tally.specs.Counting.{first_greatest_over, sum_each, sum_over}
use Rattle.vm_tally.specs.Counts.{evicted_from, over_guests}
use Rattle.vm_tally.specs.Summary.{after_in, evicted_in, summary_after}
use Rattle.vm_laws.specs.Evicted.{AddsUpRows, evicted_in_row, evicted_in_view}
use Rattle.vm_laws.proofs.SumLemmas.{sum-map, sum-range}

view-is : (guest : Option GuestRecord) → evicted_in_view (option_map view_of guest) ≡ of_running evicted_from guest
view-is None = refl
view-is (Some g) = refl

host-is : (w : World) → sum_each (λ position. evicted_in_view (view_at w position)) (positions w) ≡ over_guests evicted_from w
host-is w =
    (λ i. sum_each (λ position. view-is (guest_at w position) i) (positions w))
    ∙ sum-range (λ position. of_running evicted_from (guest_at w position)) (length w.names)

row-is : (c : Config) (k : ℕ) → evicted_in_row (row_of c k) ≡ evicted_in (course_of c) k
unfolding row_of after_in
row-is c k =
    sum-map evicted_in_view (view_at (world_after c (suc k))) (positions (world_after c (suc k))) ∙ host-is (world_after c (suc k))

rows-are : (c : Config) (n : ℕ) → sum_over (λ k. evicted_in_row (row_of c k)) n ≡ sum_over (evicted_in (course_of c)) n
rows-are c n = λ i. sum_over (λ k. row-is c k i) n

pub adds-up_rows : (c : Config) → AddsUpRows c
unfolding summary_after
adds-up_rows c = record {
  evicted = ap saturated (sym (sum-map evicted_in_row (row_of c) (range_with_len 0 c.epochs)
      ∙ sum-range (λ k. evicted_in_row (row_of c k)) c.epochs ∙ rows-are c c.epochs));
  worst = sym (λ i. first_greatest_over (λ k. saturated (row-is c k i)) c.epochs);
}
