use Rattle.std.proofs.Common.{◌≡◌, sym, ◌∙◌, ap, ◌∷◌, [], ◌++◌, arith}
use Rattle.mst_note_text.specs.Places.{no_depth, deeper_of, depths_at}
use Rattle.mst_note_text.specs.Walk.{IsWalk}
use Rattle.mst_note_text.proofs.Unseen.{read}
use Rattle.mst_note_text.proofs.Down.{down_alone, down_below}
use Rattle.mst_note_text.proofs.find.Walk.descend.Goals as goal
use Rattle.mst_note_text.proofs.find.Walk.descend.Goals.{in-None, in-Some-parents}

pub loop-at-preserved : goal.loop-at-preserved
loop-at-preserved c =
    let parents = c.args.parents.now in
    let found = c.loop-at.self.found.items in
    let walk : IsWalk parents c.loop-at.self.seen.items (c.pop.new.self.items ++ c.in-Some.at ∷ []) found = rw c.in-Some.ensures.items at c.loop-at.invariant.walk in
    elim c.match-parents-at.branch [
      | in-None w ↦ record { walk = rw w.t-11-is (down_alone parents c.loop-at.self.seen.items c.pop.new.self.items c.in-Some.at found walk w.in-None.is); seen = c.loop-at.invariant.seen }
      | in-Some-parents w ↦ (
          let p = w.in-Some-parents.parent in
          let low = c.requires.forest.in_list c.in-Some.at p w.in-Some-parents.is in
          let each = c.loop-at.invariant.walk.each_found in
          let was : depths_at found p.place ≡ w.index.result.now = read found p.place w.index.result.now no_depth (omega arith) w.index.ensures in
          let is : deeper_of p.is_between (depths_at found p.place) ≡ w.deeper.result = ap (deeper_of p.is_between) was ∙ sym w.deeper.ensures in
          record { walk = rw (w.t-11-is, ← is) (down_below parents c.loop-at.self.seen.items c.pop.new.self.items c.in-Some.at found walk p w.in-Some-parents.is); seen = c.loop-at.invariant.seen })
    ]
