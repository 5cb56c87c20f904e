-- Statistics buffers that are posted, and those that were served last.
use Rattle.std.specs.Prelude.{◌≡◌}
use Rattle.vm_balloon.specs.declared.reports.Reports.TheInside.{Inside}
use Rattle.vm_balloon.specs.Device.{last_stats, no_stats}
use Rattle.vm_balloon.specs.Posted.{PostedReports}

abbrev pub reports_of : Inside → PostedReports
reports_of r = record { room = r.posted.room; list = r.posted.list; stats = last_stats no_stats r.served.list }

pub record AreReports (r : Inside) : Type 0 where
  pub same_room : r.served.room ≡ r.posted.room
