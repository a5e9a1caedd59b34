use Rattle.std.proofs.Common.{◌≡◌, ◌++◌, [], sym, ap, ◌∙◌, append-nil, vec_len}
use Rattle.std.proofs.lemmas.Bool.{eqb-true}
use Rattle.std.proofs.lemmas.List.{nil_from_length}
use Rattle.mst_net.specs.tables.After.{table_of}
use Rattle.mst_net.specs.tables.Table.{mstis_in}
use Rattle.mst_edits.proofs.NewTable.{no_lines}
use Rattle.mst_edits.proofs.bridges.add_first_table.Goals as goal

pub returns-then-is_empty : goal.returns-then-is_empty
returns-then-is_empty g c =
    let name = c.args.name.now in
    let table = table_of (g.D.Contents.tables c.args.new.now).net name in
    let old = c.args.edits.now.items in
    let trees = c.in_ok-trees.trees in
    let none : mstis_in table ≡ [] = sym c.in_ok-trees.ensures ∙ nil_from_length trees.items (sym trees.ok.0 ∙ eqb-true (vec_len trees) 0 (sym c.is_empty.ensures ∙ c.if-is_empty.true)) in
    sym (ap (λ es. old ++ es) (no_lines name table none) ∙ append-nil old)
