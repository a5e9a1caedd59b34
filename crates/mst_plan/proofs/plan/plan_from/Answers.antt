use Rattle.mst_plan.proofs.plan.plan_from.Goals as goal

pub repaired_forest-requires : goal.repaired_forest-requires
repaired_forest-requires g c =
    let tables = g.C.Contents.tables c.args.contents.now in
    record {
      net = tables.net;
      numbers = tables.numbers;
      of = record { network = c.known.ensures.network; numbered = c.known.ensures.numbered; view = c.in_ok-view.ensures; regions = c.requires };
    }

pub returns-clause-plan : goal.returns-clause-plan
returns-clause-plan g c =
    let tables = g.C.Contents.tables c.args.contents.now in
    let regions = c.requires in
    let forest =
    c.in_ok-forest.ensures.outcome tables.net tables.numbers
    (record { network = c.known.ensures.network; numbered = c.known.ensures.numbered; view = c.in_ok-view.ensures; regions = regions }) in
    record {
      of = record { network = c.known.ensures.network; numbered = c.known.ensures.numbered; view = c.in_ok-view.ensures; regions = forest.regions };
      regions = regions;
      forest = forest;
    }

pub returns-clause-bounds : goal.returns-clause-bounds
returns-clause-bounds g c = record { cist = c.in_ok-forest.ensures.bounds.cist; mstis = c.in_ok-forest.ensures.bounds.mstis }

pub returns-clause-unused : goal.returns-clause-unused
returns-clause-unused g c =
    let tables = g.C.Contents.tables c.args.contents.now in
    c.in_ok-forest.ensures.unused tables.net tables.numbers
    (record { network = c.known.ensures.network; numbered = c.known.ensures.numbered; view = c.in_ok-view.ensures; regions = c.requires })
