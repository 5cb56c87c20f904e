-- The words in which it is told why a domain is left alone.
use Rattle.std.specs.Prelude.{ℕ, List, codes}
use Rattle.vm_steer.specs.declared.why.Why.{Why}
use Rattle.vm_steer.specs.declared.why.Why.TheVariants.{Name, Twice, Policy, NotRunning, NoBalloon, NoStatistics, Size}

abbrev pub words_of : Why → List ℕ
words_of Name = codes "name"
words_of Twice = codes "twice"
words_of Policy = codes "policy"
words_of NotRunning = codes "not running"
words_of NoBalloon = codes "no balloon"
words_of NoStatistics = codes "no statistics"
words_of Size = codes "size"
