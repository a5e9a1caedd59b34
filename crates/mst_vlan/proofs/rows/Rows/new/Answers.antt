use Rattle.std.proofs.Common.{◌+◌, ◌<◌, map, ap, sym, subst, ◌∙◌}
use Rattle.std.specs.List.{All}
use Rattle.mst_classes.proofs.Firsts.{firsts_below}
use Rattle.mst_vlan.specs.Kept.{seen_row}
use Rattle.mst_vlan.proofs.VidsAlike.{have_rows}
use Rattle.mst_vlan.proofs.rows.Rows.new.Goals as goal

pub rows_of-requires : goal.rows_of-requires
rows_of-requires c =
    let are = c.in_ok-numbers.ensures in
    subst (All (λ place. place < 4094)) (sym c.as_slice.ensures.value) (firsts_below are.numbers c.in_ok-numbers.field-0.numbers.items c.in_ok-numbers.field-0.firsts.items are.tell.as_long are.classes)

pub returns : goal.returns
returns c =
    let v = c.args.view.now in
    let f = c.args.forest.now in
    let are = c.in_ok-numbers.ensures in
    have_rows v f are.tables are.have_tables are.numbers c.in_ok-numbers.field-0.numbers.items c.in_ok-numbers.field-0.firsts.items are.tell are.classes (map (λ row. row.items) c.in_ok-rows.rows.items)
    (c.in_ok-rows.ensures ∙ ap (map (λ place. seen_row v f (place + 1))) c.as_slice.ensures.value)
