use Rattle.std.proofs.Common.{refl, sym, append-nil, ◌∙◌, ap, length}
use Rattle.mst_edits.proofs.LinesMade.{length-mapped, edit_made, table_made}
use Rattle.mst_edits.proofs.tables.make.Goals as goal

pub loop-line-init : goal.loop-line-init
loop-line-init c = record { long = c.requires; edits = sym (append-nil c.args.edits.now.items); table = refl }

pub loop-line-preserved : goal.loop-line-preserved
loop-line-preserved c =
    let line = c.line-item.result in
    let lines = c.args.lines.now in
    let i = c.loop-line.line-index in
    record {
      long = ap length c.map_vids.ensures ∙ length-mapped line.vids line.tree c.loop-line.now;
      edits = edit_made c.args.name.now lines i line c.args.edits.now.items c.loop-line.edits.items c.add_line.new.edits.items c.loop-line-test.true c.line-item.is c.loop-line.invariant.edits c.in_ok-add_line.ensures;
      table = table_made lines i line c.args.now.now c.loop-line.now c.map_vids.new.table c.loop-line-test.true c.line-item.is c.loop-line.invariant.table c.map_vids.ensures;
    }
