use Rattle.std.proofs.Common.{◌≡◌, ℕ, Bool, true, false, List, Option, Some, None, IfSome, unwrap_or, is_some, sym}
use Rattle.std.specs.Bool.{OnTrue, OnFalse}
use Rattle.std.specs.FinMap.{get, insert, remove}
use Rattle.vm_frames.specs.Frame.{FrameView}
use Rattle.vm_patches.specs.declared.patch.ByteWrite.{ByteWrite}
use Rattle.vm_swap.specs.Area.{Area, zero_bytes}
use Rattle.vm_swap.specs.Table.{TableView}
use Rattle.vm_swap.specs.Merged.{merged, IsParted}
use Rattle.vm_swap.proofs.Merged.{first_of, bytes_of, get-merged}
use Rattle.vm_swap.proofs.Parted.{absent_both, traded_pages, parted_traded}
use Rattle.vm_swap.proofs.area.SwapArea.trade_in_place.Goals as goal

parted_trade : (found : Bool) (capacity : ℕ) (whole new : TableView (List ℕ)) (few : TableView (List ByteWrite)) (page other : ℕ) (bytes : List ℕ) → found ≡ is_some (get whole.values page)
    → OnTrue found (new ≡ record whole { values = insert (remove whole.values page) other bytes }) → OnFalse found (new ≡ whole)
    → IsParted capacity whole few → get (merged whole.values few.values) other ≡ None → IsParted capacity new few
parted_trade true capacity whole new few page other bytes there traded same kept none = rw traded (parted_traded capacity whole few page other bytes kept (sym there) none)
parted_trade false capacity whole new few page other bytes there traded same kept none = rw same kept

pages_trade : (found : Bool) (capacity : ℕ) (whole new : TableView (List ℕ)) (few : TableView (List ByteWrite)) (page other : ℕ) (bytes : List ℕ) → found ≡ is_some (get whole.values page)
    → OnTrue found (new ≡ record whole { values = insert (remove whole.values page) other bytes }) → IsParted capacity whole few
    → OnTrue found (◌≡◌ {A = Area} (record { pages = merged new.values few.values; capacity = capacity }) (record { pages = insert (remove (merged whole.values few.values) page) other bytes; capacity = capacity }))
pages_trade true capacity whole new few page other bytes there traded kept =
    rw traded (λ i. record { pages = traded_pages whole.values few.values page other bytes (kept.apart page (sym there)) i; capacity = capacity })
pages_trade false capacity whole new few page other bytes there traded kept = tt

frame_trade : (found : Bool) (old new : FrameView) (bytes : Option (List ℕ)) (writes : Option (List ByteWrite)) → found ≡ is_some bytes → IfSome bytes (λ bytes. new ≡ record old { bytes = bytes })
    → OnTrue found (new ≡ record old { bytes = unwrap_or (first_of bytes (bytes_of writes)) zero_bytes })
frame_trade true old new (Some bytes) writes there is = is
frame_trade true old new None writes there is = let no : true ≡ false = there in absurd (cc)
frame_trade false old new bytes writes there is = tt

pub trade_bytes-requires-clause-absent : goal.trade_bytes-requires-clause-absent
trade_bytes-requires-clause-absent c =
    (absent_both c.self.inside.whole.values c.self.inside.few.values c.args.other (rw (← c.self.view_is) at c.requires.absent)).0

pub invariant_of-self : goal.invariant_of-self
invariant_of-self c =
    parted_trade c.trade_bytes.result c.self.inside.capacity c.self.inside.whole c.trade_bytes.new.table c.self.inside.few c.args.page c.args.other c.args.frame.now.bytes c.trade_bytes.ensures.found c.trade_bytes.ensures.traded c.trade_bytes.ensures.same
    c.self.invariant (rw (← c.self.view_is) at c.requires.absent)

pub returns-clause-area : goal.returns-clause-area
returns-clause-area c =
    rw (← c.self.view_is) (pages_trade c.trade_bytes.result c.self.inside.capacity c.self.inside.whole c.trade_bytes.new.table c.self.inside.few c.args.page c.args.other c.args.frame.now.bytes c.trade_bytes.ensures.found c.trade_bytes.ensures.traded c.self.invariant)

pub returns-clause-frame : goal.returns-clause-frame
returns-clause-frame c =
    rw (← c.self.view_is, get-merged c.self.inside.whole.values c.self.inside.few.values c.args.page)
    (frame_trade c.trade_bytes.result c.args.frame.now c.trade_bytes.new.frame _ (get c.self.inside.few.values c.args.page) c.trade_bytes.ensures.found c.trade_bytes.ensures.frame)
