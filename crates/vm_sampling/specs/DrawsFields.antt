-- How the fields of draws keep what a contract sees.
use Rattle.std.specs.Prelude.{◌≡◌, ◌<◌, ◌≤◌, All, length}
use Rattle.vm_sampling.specs.Counts.{AreCounts, classes_of}
use Rattle.vm_sampling.specs.Drawn.{Drawn, pages_drawn}
use Rattle.vm_sampling.specs.declared.draws.Draws.TheInside.{Inside}

abbrev pub drawn_of : Inside → Drawn
drawn_of d = record {
  pages = pages_drawn d.due d.drawn.items d.size;
  size = d.size;
}

pub record IsDraws (d : Inside) : Type 0 where
  pub few_draws : length d.drawn.items ≤ 1000
  pub some_pages : 0 < d.size
  pub few_pages : d.size ≤ 262144
  pub are_pages : All (λ page. page < d.size) d.drawn.items
  pub all_counted : length d.counts.items ≡ classes_of d.size
  pub counted : AreCounts d.drawn.items d.counts.items
