-- What the exit status 3 of the program says of its reader and its writer.
use Rattle.std.specs.Prelude.{ℕ, List, Option}
use Rattle.vm_programs.specs.runs.Statuses.{StopsWith}
use Rattle.vm_sim.specs.Report.{report_of}
use Rattle.vm_streams.specs.Streams.{AppendsFront}

-- a front of the report of the configuration that was read was written, or nothing
abbrev pub StopsEarly : (read_old read_new written_old written_new : Option (List ℕ)) → Type 0
StopsEarly read_old read_new written_old written_new =
    StopsWith read_old read_new written_old written_new (λ config. AppendsFront written_old written_new (report_of config))
