use Rattle.std.proofs.Common.{◌++◌, map, sym, ap, ◌∙◌, append-nil}
use Rattle.mst_diff.specs.Seen.{row_of_root}
use Rattle.mst_diff.proofs.Shared.{no_roots_left, no_roots_right}
use Rattle.mst_diff.proofs.all_roots.add_roots_in.Goals as goal

pub returns-then-not-is_had : goal.returns-then-not-is_had
returns-then-not-is_had c =
    let h = c.args.change.now in
    let s = h.old.now in
    let out = map row_of_root c.args.changes.now.items in
    sym (ap (λ l. out ++ l) (no_roots_left s h.new.now c.known.ensures c.known-2.ensures c.args.tree (sym (c.is_had.ensures s.view h.are_used) ∙ c.if-not-is_had.true)) ∙ append-nil out)

pub returns-then-not-is_had-2 : goal.returns-then-not-is_had-2
returns-then-not-is_had-2 c =
    let h = c.args.change.now in
    let t = h.new.now in
    let out = map row_of_root c.args.changes.now.items in
    sym (ap (λ l. out ++ l) (no_roots_right h.old.now t c.known.ensures c.known-2.ensures c.args.tree (sym (c.is_had-2.ensures t.view h.are_used_too) ∙ c.if-not-is_had-2.true)) ∙ append-nil out)
