use Rattle.vm_sweep.proofs.lists.Lists.new.Goals as goal

pub invariant_of-result : goal.invariant_of-result
invariant_of-result c =
    let is = c.requires in
    record { frames = is.frames; swap = is.swap; tax = is.tax; page_rate = is.page_rate; rebalance = is.rebalance; min_percent = tt }
