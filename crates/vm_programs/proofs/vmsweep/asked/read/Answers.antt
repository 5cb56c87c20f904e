use Rattle.vm_programs.proofs.lemmas.vmsweep.Reading.{lists-read}
use Rattle.vm_programs.proofs.lemmas.words.{if-some}
use Rattle.vm_programs.proofs.vmsweep.asked.read.Goals as goal

pub returns-clause-lists : goal.returns-clause-lists
returns-clause-lists c =
    lists-read c.args.request.now _ _ _ _ _ _ _ _ _ c.in_ok-frames.ensures.values c.in_ok-swap.ensures.values c.in_ok-tax.ensures.values
    c.in_ok-page_rate.ensures.values c.in_ok-rebalance.ensures.values c.in_ok-min_percent.ensures.values
    c.in_ok-guests.ensures.lists c.seeds_of.ensures

pub returns-clause-within : goal.returns-clause-within
returns-clause-within c = record {
  frames = c.in_ok-frames.ensures.within;
  swap = c.in_ok-swap.ensures.within;
  tax = c.in_ok-tax.ensures.within;
  page_rate = c.in_ok-page_rate.ensures.within;
  rebalance = c.in_ok-rebalance.ensures.within;
  min_percent = c.in_ok-min_percent.ensures.within;
}

pub returns-clause-progress : goal.returns-clause-progress
returns-clause-progress c = c.has_flag.ensures

pub workers_of-requires : goal.workers_of-requires
workers_of-requires c = if-some _ _ c.requires.workers

pub seeds_of-requires : goal.seeds_of-requires
seeds_of-requires c = if-some _ _ c.requires.seeds
