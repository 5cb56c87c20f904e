use Rattle.std.proofs.Common.{◌≤◌, length, ap, arith}
use Rattle.vm_balloon.specs.Device.{DeviceState, posted_count}
use Rattle.vm_balloon.proofs.PostLemmas.{full_short, full_all, posted_short}
use Rattle.vm_balloon.proofs.device.Device.post.Goals as goal

pub push-requires-clause-short : goal.push-requires-clause-short
push-requires-clause-short c = omega arith

pub push-requires-in-Deflate-clause-short : goal.push-requires-in-Deflate-clause-short
push-requires-in-Deflate-clause-short c = omega arith

pub push-requires-in-Statistics-clause-short : goal.push-requires-in-Statistics-clause-short
push-requires-in-Statistics-clause-short c = omega arith

pub returns-then-posted-self-clause-too_long : goal.returns-then-posted-self-clause-too_long
returns-then-posted-self-clause-too_long c = full_short (length c.args.bytes.now) (omega arith)

pub returns-then-posted-self-clause-full : goal.returns-then-posted-self-clause-full
returns-then-posted-self-clause-full c =
    let few : length c.args.bytes.now ≤ 1024 = omega arith in
    let count = ap posted_count c.self.view_is in
    let most = ap (λ (d : DeviceState). d.buffers) c.self.view_is in
    full_all (length c.args.bytes.now) (posted_count c.args.self.now) c.args.self.now.buffers few (omega arith)

pub returns-in-Inflate-clause-too_long : goal.returns-in-Inflate-clause-too_long
returns-in-Inflate-clause-too_long c = posted_short tt (length c.args.bytes.now) (omega arith)

pub returns-in-Deflate-clause-too_long : goal.returns-in-Deflate-clause-too_long
returns-in-Deflate-clause-too_long c = posted_short tt (length c.args.bytes.now) (omega arith)

pub returns-in-Statistics-clause-too_long : goal.returns-in-Statistics-clause-too_long
returns-in-Statistics-clause-too_long c = posted_short tt (length c.args.bytes.now) (omega arith)
