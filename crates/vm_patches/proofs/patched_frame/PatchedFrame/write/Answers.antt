use Rattle.vm_patches.proofs.Contents.{contents-written}
use Rattle.vm_patches.proofs.patched_frame.PatchedFrame.write.Goals as goal

pub returns-else-not-write_few : goal.returns-else-not-write_few
returns-else-not-write_few c =
    let m = c.self.inside in
    let bytes = contents-written m.contents c.write_few.new.contents m.frame.bytes c.args.offset c.args.bytes.now c.requires c.if-not-write_few.ensures.written in
    rw (← c.self.view_is) (λ i. record { number = m.frame.number; bytes = bytes i })
