-- What the lists of a request are read as, from what each key is given.
use Rattle.std.proofs.Common.{◌≡◌, ℕ, List, Option, Ok, refl}
use Rattle.clap.specs.Words.{Row}
use Rattle.vm_sweep.specs.Combinations.{NamedList}
use Rattle.vm_programs.specs.vmsweep.CommandLine.{seeds_of}
use Rattle.vm_programs.specs.vmsweep.Lists.{given, guests_of, lists_of}
use Rattle.vm_programs.specs.declared.vmsweep.keys.SweptKey.TheVariants.{Frames, Swap, Tax, PageRate, Rebalance, MinPercent}

module _ (rows : List Row) (frames swap tax page_rate rebalance min_percent : Option (List ℕ)) (minimums shares : List NamedList) (seeds : Option ℕ) where
  pub lists-read : given Frames rows ≡ Ok frames → given Swap rows ≡ Ok swap → given Tax rows ≡ Ok tax → given PageRate rows ≡ Ok page_rate
      → given Rebalance rows ≡ Ok rebalance → given MinPercent rows ≡ Ok min_percent
      → guests_of rows ≡ Ok (record { minimums = minimums; shares = shares }) → seeds ≡ seeds_of rows
      → lists_of rows ≡ Ok (record {
        frames = frames;
        swap = swap;
        tax = tax;
        page_rate = page_rate;
        rebalance = rebalance;
        min_percent = min_percent;
        minimums = minimums;
        shares = shares;
        seeds = seeds;
      })
  lists-read a b c d e f g h = rw (a, b, c, d, e, f, g, h) refl
