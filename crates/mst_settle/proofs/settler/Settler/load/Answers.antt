use Rattle.std.proofs.Common.{◌≡◌, ℕ, List, Option, Some, sym, ap, subst, ◌∙◌}
use Rattle.mst_outcome.specs.Assignment.{vector_of, designated_of}
use Rattle.mst_topology.specs.Places.{option_at}
use Rattle.mst_topology.specs.Slots.{HasRoom}
use Rattle.mst_topology.proofs.Places.{keys_room}
use Rattle.mst_topology.proofs.Loaded.{overwritten}
use Rattle.mst_settle.proofs.settler.Settler.load.Goals as goal

pub invariant_of-self : goal.invariant_of-self
invariant_of-self g c =
    let old = c.self.invariant in
    record {
      in_queue = λ n r. old.in_queue n (keys_room c.overwrite.new.table c.self.inside.settling.vectors c.overwrite.ensures.keys n r);
      for_bridges = λ n r. keys_room c.self.inside.settling.vectors c.overwrite.new.table (sym c.overwrite.ensures.keys) n (old.for_bridges n r);
      for_lans = λ n r. keys_room c.self.inside.settling.designations.ports c.overwrite-2.new.table (sym c.overwrite-2.ensures.keys) n (old.for_lans n r);
      idle = old.idle;
    }

pub returns-clause-vectors : goal.returns-clause-vectors
returns-clause-vectors g c =
    let rooms : (n : ℕ) (x : g.row.M-Vector.Denot) → vector_of c.args.outcome.now n ≡ Some x → HasRoom c.self.inside.touched_bridges n = rw (← c.self.view_is) at c.requires.bridges in
    subst (λ (bs : List (ℕ × Option g.row.M-Vector.Denot)). (n : ℕ) → option_at c.overwrite.new.table n ≡ option_at bs n) c.vectors.ensures
    (overwritten c.self.inside.settling.vectors c.overwrite.new.table c.vectors.result.now c.overwrite.ensures.keys c.overwrite.ensures.values
    (λ n x e. c.self.invariant.for_bridges n (rooms n x (ap (λ (bs : List (ℕ × Option g.row.M-Vector.Denot)). option_at bs n) (sym c.vectors.ensures) ∙ e))))

pub returns-clause-designated : goal.returns-clause-designated
returns-clause-designated g c =
    let rooms : (lan port : ℕ) → designated_of c.args.outcome.now lan ≡ Some port → HasRoom c.self.inside.touched_lans lan = rw (← c.self.view_is) at c.requires.lans in
    subst (λ (ls : List (ℕ × Option ℕ)). (n : ℕ) → option_at c.overwrite-2.new.table n ≡ option_at ls n) c.ports.ensures
    (overwritten c.self.inside.settling.designations.ports c.overwrite-2.new.table c.ports.result.now c.overwrite-2.ensures.keys c.overwrite-2.ensures.values
    (λ n x e. c.self.invariant.for_lans n (rooms n x (ap (λ (ls : List (ℕ × Option ℕ)). option_at ls n) (sym c.ports.ensures) ∙ e))))
