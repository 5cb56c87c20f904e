use Rattle.vm_patches.proofs.patched_frame.PatchedFrame.exchange.Goals as goal

pub returns-clause-page : goal.returns-clause-page
returns-clause-page c =
    rw (c.settle.ensures.contents, c.settle.ensures.frame, ← c.self.view_is) (λ i. record { number = c.self.inside.frame.number; bytes = c.swap.ensures.x_after i })
