use Rattle.std.proofs.Common.{rules}
use Rattle.vm_streams.proofs.StreamLemmas.{Appends-take_more, AppendsFront-write}
use Rattle.vm_streams.proofs.output.write_text.Goals as goal

pub loop-start-preserved : goal.loop-start-preserved
loop-start-preserved g c = record {
  within = search rules;
  written = Appends-take_more _ _ _ _ _ _ c.loop-start.invariant.written c.in-Ok.ensures.bytes;
  stays = search rules;
}

pub returns-in_default-clause-front : goal.returns-in_default-clause-front
returns-in_default-clause-front g c = AppendsFront-write _ _ _ _ _ c.write.result c.loop-start.invariant.written c.write.ensures.bytes
