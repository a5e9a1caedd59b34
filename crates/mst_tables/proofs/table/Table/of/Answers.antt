use Rattle.std.proofs.Common.{ap, ◌∙◌, refl}
use Rattle.mst_tables.specs.After.{table_of}
use Rattle.mst_tables.proofs.table.Table.of.Goals as goal

pub returns-in-Some : goal.returns-in-Some
returns-in-Some g c = λ name found.
    c.table.ensures
    ∙ ap (table_of (g.C.Contents.tables c.args.contents.now).net)
    (c.known.ensures.numbered.bridges_differ c.in-Some.name name c.args.bridge (c.in-Some.ensures.found c.in-Some.name refl) found)
