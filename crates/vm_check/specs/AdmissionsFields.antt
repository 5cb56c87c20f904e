-- What the fields of admissions show, and what is true of them.
use Rattle.std.specs.Prelude.{◌≤◌, length}
use Rattle.vm_check.specs.declared.admissions.Admissions.TheInside.{Inside}
use Rattle.vm_check.specs.Admissions.{AdmissionsView}

abbrev pub admissions_of : Inside → AdmissionsView
admissions_of s = record {
  books = record { frames = s.frames; swap = s.swap; overhead = s.overhead; guests = length s.admitted.items; memory = s.memory; reserved = s.reserved };
  admitted = s.admitted.items;
  refusals = s.refusals.items;
}

pub record AreWithin (s : Inside) : Type 0 where
  pub frames : s.frames ≤ 262144
  pub swap : s.swap ≤ 67108864
  pub overhead : s.overhead ≤ 1024
  pub memory : s.memory ≤ s.frames
  pub reserved : s.reserved ≤ s.swap
