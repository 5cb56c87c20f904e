-- What is printed of a refused post.
use Rattle.std.specs.Prelude.{ℕ, List, codes}
use Rattle.vm_balloon.specs.declared.error.PostError.{PostError}
use Rattle.vm_balloon.specs.declared.error.PostError.TheVariants.{Full, TooLong}

abbrev pub text_of : PostError → List ℕ
text_of Full = codes "all buffers are posted"
text_of TooLong = codes "the buffer is too long"
