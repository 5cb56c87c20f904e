-- How a trace keeps its steps: entries of one size, and one list with the bytes of all writes and raw buffers.
use Rattle.std.specs.Prelude.{◌≡◌, ℕ, ◌+◌, ◌<◌, ◌≤◌, ⊤, List, [], ◌∷◌, ◌++◌, map, length, take, drop, All, Some, slice_get}
use Rattle.std.specs.List.{range_with_len}
use Rattle.vm_trace.specs.declared.entry.Entry.{Entry}
use Rattle.vm_trace.specs.declared.entry.Item.{Item}
use Rattle.vm_trace.specs.declared.entry.Item.TheVariants as item
use Rattle.vm_trace.specs.declared.entry.Part.{Part}
use Rattle.vm_trace.specs.declared.step.Action.{Action}
use Rattle.vm_trace.specs.declared.step.Action.TheVariants.{Read, Write, Touch, Free, Idle, Yield, Post, Actual}
use Rattle.vm_trace.specs.Limits.{IsStep}

-- so many bytes of the list, from a place on
abbrev pub bytes_at : List ℕ → ℕ → ℕ → List ℕ
bytes_at bytes start len = take len (drop start bytes)

-- how many steps an item is
abbrev pub count_of : Item → ℕ
count_of (item.Touch page count) = count
count_of (item.Free page count) = count
count_of _ = 1

-- the action that an item is, behind so many of its own: each touch or free is of the page behind the one before
abbrev pub action_at : List ℕ → Item → ℕ → Action
action_at bytes (item.Read len offset page) before = Read page offset len
action_at bytes (item.Write len offset page start) before = Write page offset (bytes_at bytes start len)
action_at bytes (item.Touch page count) before = Touch (page + before)
action_at bytes (item.Free page count) before = Free (page + before)
action_at bytes item.Idle before = Idle
action_at bytes item.Yield before = Yield
action_at bytes (item.Post queue len start) before = Post queue (bytes_at bytes start len)
action_at bytes (item.Actual pages) before = Actual pages

-- the page that an item begins with
abbrev pub page_of : Item → ℕ
page_of (item.Touch page count) = page
page_of (item.Free page count) = page
page_of _ = 0

-- the place behind the last byte of an item
abbrev pub end_of : Item → ℕ
end_of (item.Write len offset page start) = start + len
end_of (item.Post queue len start) = start + len
end_of _ = 0

-- the bytes that an action brings along
abbrev pub bytes_of : Action → List ℕ
bytes_of (Write page offset bytes) = bytes
bytes_of (Post queue bytes) = bytes
bytes_of _ = []

-- the steps that an item is
abbrev pub steps_at : List ℕ → Item → List Action
steps_at bytes i = map (action_at bytes i) (range_with_len 0 (count_of i))

-- the steps that entries and bytes are, one entry's behind the other's
abbrev pub steps_of : List ℕ → List Entry → List Action
steps_of bytes [] = []
steps_of bytes (e ∷ entries) = steps_at bytes e.item ++ steps_of bytes entries

-- the number of steps of all entries
abbrev pub total : List Entry → ℕ
total [] = 0
total (e ∷ entries) = count_of e.item + total entries

-- each entry has some steps, and the number of those before it: so many, and those of the entries between
abbrev pub ArePlaced : ℕ → List Entry → Type 0
ArePlaced before [] = ⊤
ArePlaced before (e ∷ entries) = (e.first ≡ before) × (1 ≤ count_of e.item) × ArePlaced (before + count_of e.item) entries

-- the entries know the places of their steps, of which there are so many
pub record AreNumbered (steps : ℕ) (entries : List Entry) : Type 0 where
  pub placed : ArePlaced 0 entries
  pub count : steps ≡ total entries

-- each entry is of steps, whose bytes are in the list
pub record AreKept (bytes : List ℕ) (entries : List Entry) : Type 0 where
  pub within : All (λ e. end_of e.item ≤ length bytes) entries
  pub limits : All IsStep (steps_of bytes entries)

-- what a trace is made of
pub record IsTrace (bytes : List ℕ) (entries : List Entry) (steps : ℕ) : Type 0 where
  pub kept : AreKept bytes entries
  pub numbered : AreNumbered steps entries

-- the item is these steps, whose bytes are in the list
pub record Keeps (bytes : List ℕ) (i : Item) (steps : List Action) : Type 0 where
  pub within : end_of i ≤ length bytes
  pub same : steps_at bytes i ≡ steps

-- the step at a place is one of an entry, with so many of that entry before it
pub record IsPartAt (entries : List Entry) (place : ℕ) (part : Part) : Type 0 where
  pub index : ℕ
  pub entry : Entry
  pub there : slice_get entries index ≡ Some entry
  pub item_is : part.item ≡ entry.item
  pub inside : part.before < count_of entry.item
  pub place_is : entry.first + part.before ≡ place
