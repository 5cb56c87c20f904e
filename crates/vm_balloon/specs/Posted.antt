-- What a contract sees of a queue of posted buffers.
use Rattle.std.specs.Prelude.{ℕ, List}
use Rattle.vm_balloon.specs.declared.stats.Stats.{Stats}

pub record PostedBuffers : Type 0 where
  -- how many buffers can be posted
  pub room : ℕ
  -- the bytes of each buffer, in order of posting
  pub list : List (List ℕ)

pub record PostedReports : Type 0 where
  -- how many buffers can be posted
  pub room : ℕ
  -- the bytes of each buffer, in order of posting
  pub list : List (List ℕ)
  -- what was said in the last buffer that was served
  pub stats : Stats

pub record PostedPages : Type 0 where
  -- the pages of the guest
  pub size : ℕ
  -- how many buffers can be posted
  pub room : ℕ
  -- the bytes of each buffer, in order of posting
  pub buffers : List (List ℕ)
