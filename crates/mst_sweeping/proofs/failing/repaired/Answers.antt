use Rattle.mst_sweeping.proofs.Swept.{if_ok}
use Rattle.mst_sweeping.proofs.failing.repaired.Goals as goal

pub repaired_forest-requires : goal.repaired_forest-requires
repaired_forest-requires g c =
    let tables = g.C.Contents.tables c.args.contents.now in
    record {
      net = tables.net;
      numbers = tables.numbers;
      of = record { network = c.known.ensures.network; numbered = c.known.ensures.numbered; view = c.requires.seen; regions = c.requires.regions };
    }

pub returns : goal.returns
returns g c =
    let tables = g.C.Contents.tables c.args.contents.now in
    if_ok c.repaired_forest.result _ _ (λ trees is.
    let forest = is tables.net tables.numbers (record { network = c.known.ensures.network; numbered = c.known.ensures.numbered; view = c.requires.seen; regions = c.requires.regions }) in
    record {
      of = record { network = c.known.ensures.network; numbered = c.known.ensures.numbered; view = c.requires.seen; regions = forest.regions };
      regions = c.requires.regions;
      forest = forest;
    })
    c.repaired_forest.ensures.outcome
