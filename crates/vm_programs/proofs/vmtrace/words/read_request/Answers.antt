use Rattle.std.proofs.Common.{inl}
use Rattle.vm_programs.proofs.vmtrace.words.read_request.Goals as goal

pub returns-in-Err-BadName-clause-refused : goal.returns-in-Err-BadName-clause-refused
returns-in-Err-BadName-clause-refused g c = inl (c.refuse_words.ensures, c.in-Err-BadName.ensures.unnamed (cc))
