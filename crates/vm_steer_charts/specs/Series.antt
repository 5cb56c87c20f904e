-- How what is drawn of a host grows, sample by sample: for private contracts alone.
use Rattle.std.specs.Prelude.{◌≡◌, ℕ, ◌+◌, ◌-◌, List, [], ◌∷◌, ◌++◌, drop, length, map, nat_le, Bool, true, false, Result, Ok, Err, if◌then◌else◌}
use Rattle.vm_samples.specs.declared.sample.BadSample.{BadSample}
use Rattle.vm_samples.specs.Policies.{PolicyView}
use Rattle.vm_samples.specs.SampleOf.{sample_of}
use Rattle.vm_samples.specs.Samples.{DomainView}
use Rattle.vm_steer.specs.Entries.{ToldView}
use Rattle.vm_steer.specs.Steering.{SteeringView, begun, steered}
use Rattle.vm_steer_charts.specs.Rows.{Row, last_of, row_of}

pub record SeriesView : Type 0 where
  pub steering : SteeringView
  -- so many good samples are left out in front of the rows
  pub first : ℕ
  pub rows : List Row

abbrev pub begun_with : PolicyView → SeriesView
begun_with policy = record { steering = begun policy; first = 0; rows = [] }

-- how many are left out for one more
abbrev pub left_out : List Row → ℕ
left_out rows = if nat_le 10000 (length rows) then 1 else 0

abbrev pub after_good : SeriesView → List DomainView → SeriesView
after_good s domains = record {
  steering = steered s.steering domains;
  first = s.first + left_out s.rows;
  rows = drop (left_out s.rows) s.rows ++ row_of (steered s.steering domains).last ∷ [];
}

abbrev pub after : SeriesView → Result (List DomainView) BadSample → SeriesView
after s (Ok domains) = after_good s domains
after s (Err bad) = s

-- after a block, if there is one
abbrev pub after_block : (found : Bool) → SeriesView → List ℕ → SeriesView
after_block true s block = after s (sample_of block)
after_block false s block = s

-- the rows of what was told of the good samples, the last 10000 of them
pub record Shows (told : List ToldView) (s : SeriesView) : Type 0 where
  pub first : s.first ≡ length told - 10000
  pub rows : s.rows ≡ map row_of (last_of 10000 told)
