-- A touch that is covered changes nothing. Another one is kept, once its page was looked up.
use Rattle.std.proofs.Common.{sym, ◌∙◌, arith}
use Rattle.vm_import.proofs.SoundLemmas.{LooksUp, sound_touch, touched_uncovered, unchanged}
use Rattle.vm_import.proofs.working_set.WorkingSet.touch.Goals as goal

pub returns-then-covers-clause-ok : goal.returns-then-covers-clause-ok
returns-then-covers-clause-ok c = sym (unchanged c.args.self.now c.args.touch c.covers.ensures.within (sym c.covers.ensures.covered ∙ c.if-covers.true))

pub invariant_of-self-2 : goal.invariant_of-self-2
invariant_of-self-2 c =
    let looks : LooksUp c.self.inside.pages.keys c.insert_full.new.self.keys c.self.inside.marks.items c.make_room.new.marks.items c.self.inside.kept.items c.reserve.new.self.items c.args.touch.page c.in_ok-rank.rank = record {
      pages_are = c.in_ok-rank.ensures.keys;
      room = let room = c.in_ok-make_room.ensures.room in let len = c.len.ensures.len in omega arith;
      marks = c.in_ok-make_room.ensures.marks;
      kept_are = c.in_ok-reserve.ensures.items;
      rank_is = c.in_ok-rank.ensures.index;
    } in
    sound_touch _ _ _ _ _ _ c.push_reserved.new.self.items c.args.self.now c.in_ok-rank.rank c.args.touch _ _ c.by.result c.self.view_is c.self.invariant looks c.requires.offset
    (sym c.covers.ensures.covered ∙ c.if-covers.false) c.by.ensures c.push_reserved.ensures.items

pub returns-clause-ok : goal.returns-clause-ok
returns-clause-ok c =
    let looks : LooksUp c.self.inside.pages.keys c.insert_full.new.self.keys c.self.inside.marks.items c.make_room.new.marks.items c.self.inside.kept.items c.reserve.new.self.items c.args.touch.page c.in_ok-rank.rank = record {
      pages_are = c.in_ok-rank.ensures.keys;
      room = let room = c.in_ok-make_room.ensures.room in let len = c.len.ensures.len in omega arith;
      marks = c.in_ok-make_room.ensures.marks;
      kept_are = c.in_ok-reserve.ensures.items;
      rank_is = c.in_ok-rank.ensures.index;
    } in
    touched_uncovered _ _ _ _ _ _ c.push_reserved.new.self.items c.args.self.now c.in_ok-rank.rank c.args.touch c.self.view_is looks
    (sym c.covers.ensures.covered ∙ c.if-covers.false) c.push_reserved.ensures.items
