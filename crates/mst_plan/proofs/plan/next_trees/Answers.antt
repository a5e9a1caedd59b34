use Rattle.mst_plan.proofs.plan.next_trees.Goals as goal

pub repaired_forest-requires : goal.repaired_forest-requires
repaired_forest-requires g c =
    let tables = g.C.Contents.tables c.args.contents.now in
    record {
      net = tables.net;
      numbers = tables.numbers;
      of = record { network = c.known.ensures.network; numbered = c.known.ensures.numbered; view = c.requires.view; regions = c.in_ok-regions.ensures };
    }

pub returns-clause-trees : goal.returns-clause-trees
returns-clause-trees g c =
    let tables = g.C.Contents.tables c.args.contents.now in
    let forest =
    c.in_ok-forest.ensures.outcome tables.net tables.numbers
    (record { network = c.known.ensures.network; numbered = c.known.ensures.numbered; view = c.requires.view; regions = c.in_ok-regions.ensures }) in
    record {
      of = record { network = c.known.ensures.network; numbered = c.known.ensures.numbered; view = c.requires.view; regions = forest.regions };
      regions = c.in_ok-regions.ensures;
      forest = forest;
    }

pub returns-clause-bounds : goal.returns-clause-bounds
returns-clause-bounds g c = record { cist = c.in_ok-forest.ensures.bounds.cist; mstis = c.in_ok-forest.ensures.bounds.mstis }

pub returns-clause-unused : goal.returns-clause-unused
returns-clause-unused g c =
    let tables = g.C.Contents.tables c.args.contents.now in
    c.in_ok-forest.ensures.unused tables.net tables.numbers
    (record { network = c.known.ensures.network; numbered = c.known.ensures.numbered; view = c.requires.view; regions = c.in_ok-regions.ensures })
