-- The keys whose values a sweep goes over, their words and their values.
use Rattle.std.specs.Prelude.{codes}
use Rattle.clap.specs.Words.{Text}
use Rattle.vm_lists.specs.declared.bounds.Limits.{Limits}
use Rattle.vm_lists.specs.declared.bounds.Unit.TheVariants.{Whole, Hundredths}
use Rattle.vm_programs.specs.declared.vmsweep.keys.SweptKey.{SweptKey}
use Rattle.vm_programs.specs.declared.vmsweep.keys.SweptKey.TheVariants.{Frames, Swap, Tax, PageRate, Rebalance, MinPercent, Min, Shares}

-- the word of a key, without the two dashes before it
unfoldable pub word_of : SweptKey → Text
word_of Frames = codes "frames"
word_of Swap = codes "swap"
word_of Tax = codes "tax"
word_of PageRate = codes "page-rate"
word_of Rebalance = codes "rebalance"
word_of MinPercent = codes "min-percent"
word_of Min = codes "min"
word_of Shares = codes "shares"

-- the values that a key may have
unfoldable pub limits_of : SweptKey → Limits
limits_of Frames = record { unit = Whole; least = 1; greatest = 262144 }
limits_of Swap = record { unit = Whole; least = 0; greatest = 67108864 }
limits_of Tax = record { unit = Hundredths; least = 0; greatest = 9999 }
limits_of PageRate = record { unit = Whole; least = 1; greatest = 256 }
limits_of Rebalance = record { unit = Whole; least = 0; greatest = 262144 }
limits_of MinPercent = record { unit = Whole; least = 1; greatest = 100 }
limits_of Min = record { unit = Whole; least = 1; greatest = 262144 }
limits_of Shares = record { unit = Whole; least = 1; greatest = 1000000 }
