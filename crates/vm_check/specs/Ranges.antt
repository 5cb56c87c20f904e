-- The range of the number at a key.
use Rattle.std.specs.Prelude.{ℕ, Option, Some, None}
use Rattle.vm_config.specs.declared.place.Key.{Key}
use Rattle.vm_config.specs.declared.place.Key.TheVariants.{Version, Frames, Swap, Overhead, Tax, Percent, PageRate, Rebalance, Page, Quantum, Epochs, Guests, Commands, Name, Size, Min, Shares, Samples, Period, Rate, Seed, Stream, Autostart, Tell, Driver, Trace, At, Line}
use Rattle.vm_config.specs.Versions.{limits_of}
use Rattle.vm_check.specs.declared.range.Range.{Range}

-- what a version allows
abbrev pub most_frames : ℕ → ℕ
most_frames version = (limits_of version).frames

abbrev pub most_swap : ℕ → ℕ
most_swap version = (limits_of version).swap

abbrev pub most_tax : ℕ → ℕ
most_tax version = (limits_of version).tax

abbrev pub most_pages : ℕ → ℕ
most_pages version = (limits_of version).size

abbrev pub between : ℕ → ℕ → Option Range
between least greatest = Some (record { least = least; greatest = greatest })

-- in a version; none where no number stands, or one of any size. A minimum is at most the guest's size too.
abbrev pub range_of : ℕ → Key → Option Range
range_of version Version = between 1 3
range_of version Frames = between 1 (most_frames version)
range_of version Swap = between 0 (most_swap version)
range_of version Overhead = between 0 1024
range_of version Tax = between 0 (most_tax version)
range_of version Percent = None
range_of version PageRate = between 1 256
range_of version Rebalance = between 0 262144
range_of version Page = between 4 1048576
range_of version Quantum = between 1 65536
range_of version Epochs = between 0 10000
range_of version Guests = None
range_of version Commands = None
range_of version Name = None
range_of version Size = between 1 (most_pages version)
range_of version Min = between 1 (most_pages version)
range_of version Shares = between 1 1000000
range_of version Samples = between 1 1000
range_of version Period = between 1 1000000
range_of version Rate = between 1 256
range_of version Seed = None
range_of version Stream = None
range_of version Autostart = None
range_of version Tell = None
range_of version Driver = None
range_of version Trace = None
range_of version At = between 0 9999
range_of version Line = None
