-- How a host log is read, block by block.
use Rattle.std.specs.Prelude.{◌≡◌, ℕ, ◌+◌, ◌-◌, ◌<◌, ◌≤◌, ⊤, Bool, true, false, List, [], ◌∷◌, ◌++◌, codes, drop, length, position, take, Option, Some, None}
use Rattle.std.specs.Io.KnownBytes.{prepend_known}
use Rattle.vm_samples.specs.declared.front.Front.{Front}
use Rattle.vm_samples.specs.declared.front.Scan.{Scan}
use Rattle.vm_samples.specs.Blocks.{blocks_from, blocks_of, unended_of}
use Rattle.vm_samples.specs.Lines.{is_line_end, lines_of}

-- how far a log has been read: the last block, and the bytes that were taken from the source behind it
pub record LogView : Type 0 where
  pub block : List ℕ
  pub ahead : List ℕ

-- nothing was read
abbrev pub beginning : LogView
beginning = record { block = []; ahead = [] }

-- what is left of the stream, where it is known what the source has yet to give
abbrev pub left : LogView → Option (List ℕ) → Option (List ℕ)
left log remaining = prepend_known log.ahead remaining

-- what is known stays the same
abbrev pub Stays : {A : Type 0} → Option A → Option A → Type 0
Stays None after = ⊤
Stays (Some was) None = ⊥
Stays (Some was) (Some is) = is ≡ was

-- bytes begin with the block, a line `---` ends it, and behind that is the rest
pub record IsFirstBlock (bytes block rest : List ℕ) : Type 0 where
  pub whole : bytes ≡ block ++ (codes "---\n" ++ rest)
  pub blocks : blocks_of bytes ≡ block ∷ blocks_of rest
  pub unended : unended_of bytes ≡ unended_of rest

-- bytes have no line `---`, and are all that there is
pub record IsUnended (bytes block rest : List ℕ) : Type 0 where
  pub whole : block ≡ bytes
  pub none : blocks_of bytes ≡ []
  pub nothing : rest ≡ []

-- what was left begins with the block, behind which is what is left now; or it has no more block
abbrev pub Gives : Option (List ℕ) → Bool → List ℕ → Option (List ℕ) → Type 0
Gives None is_ended block after = ⊤
Gives (Some bytes) is_ended block None = ⊥
Gives (Some bytes) true block (Some rest) = IsFirstBlock bytes block rest
Gives (Some bytes) false block (Some rest) = IsUnended bytes block rest

-- the first of these blocks, or all bytes where there is none
abbrev pub first_or_all : List (List ℕ) → List ℕ → List ℕ
first_or_all [] bytes = bytes
first_or_all (block ∷ blocks) bytes = block

-- there are more than 16777216 bytes in front of the first line `---`, or in all where there is none
abbrev pub IsTooLong : List ℕ → Type 0
IsTooLong bytes = 16777216 < length (first_or_all (blocks_of bytes) bytes)

-- ---- step by step

-- the blocks of bytes and more behind them, where the lines in front of a place are of the first one
abbrev pub blocks_at : List ℕ → ℕ → List ℕ → List (List ℕ)
blocks_at bytes place more = blocks_from (take place bytes) (lines_of (drop place bytes ++ more))

-- the same where a line `---` begins at the place
abbrev pub blocks_behind : List ℕ → ℕ → List ℕ → List (List ℕ)
blocks_behind bytes place more = take place bytes ∷ blocks_of (drop (place + 4) bytes ++ more)

-- no line ends between two places
abbrev pub HasNoEnd : List ℕ → (from to : ℕ) → Type 0
HasNoEnd bytes from to = position is_line_end (take (to - from) (drop from bytes)) ≡ None

-- the lines from a place on up to another are of the first block, and there it ends
pub record IsMarked (bytes : List ℕ) (from place : ℕ) : Type 0 where
  pub low : from ≤ place
  pub high : place + 4 ≤ length bytes
  pub mark : drop place bytes ≡ codes "---\n" ++ drop (place + 4) bytes
  pub blocks : (more : List ℕ) → blocks_at bytes from more ≡ blocks_behind bytes place more

-- the lines from a place on up to another are of the first block, and there is no whole line behind these
pub record IsPassed (bytes : List ℕ) (from place : ℕ) : Type 0 where
  pub low : from ≤ place
  pub high : place ≤ length bytes
  pub none : position is_line_end (drop place bytes) ≡ None
  pub blocks : (more : List ℕ) → blocks_at bytes from more ≡ blocks_at bytes place more

abbrev pub IsScannedTo : List ℕ → ℕ → Bool → ℕ → Type 0
IsScannedTo bytes from true place = IsMarked bytes from place
IsScannedTo bytes from false place = IsPassed bytes from place

abbrev pub IsScanned : List ℕ → ℕ → Scan → Type 0
IsScanned bytes from scan = IsScannedTo bytes from scan.is_found scan.place

-- bytes are more of what there is
pub record IsTaken (old : List ℕ) (before : Option (List ℕ)) (new : List ℕ) (after : Option (List ℕ)) : Type 0 where
  pub stays : Stays (prepend_known old before) (prepend_known new after)
  pub got : List ℕ
  pub appended : new ≡ old ++ got

abbrev pub front_to : ℕ → Front
front_to place = record { block = place; used = place + 4; is_ended = true }

abbrev pub front_of_all : ℕ → Front
front_of_all len = record { block = len; used = len; is_ended = false }

pub record EndsAt (bytes : List ℕ) (front : Front) : Type 0 where
  pub few : front.block ≤ 16777216
  pub within : front.used ≤ length bytes
  pub whole : bytes ≡ take front.block bytes ++ (codes "---\n" ++ drop front.used bytes)
  pub blocks : (more : List ℕ) → blocks_of (bytes ++ more) ≡ take front.block bytes ∷ blocks_of (drop front.used bytes ++ more)

pub record EndsNowhere (bytes : List ℕ) (front : Front) : Type 0 where
  pub few : front.block ≤ 16777216
  pub block_is : front.block ≡ length bytes
  pub used_is : front.used ≡ length bytes
  pub none : blocks_of bytes ≡ []

abbrev pub EndsBy : Bool → List ℕ → Front → Type 0
EndsBy true bytes front = EndsAt bytes front
EndsBy false bytes front = EndsNowhere bytes front

-- the block in front of the first line `---`, or all bytes where there is none
abbrev pub IsFront : List ℕ → Front → Type 0
IsFront bytes front = EndsBy front.is_ended bytes front
