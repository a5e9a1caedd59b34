use Rattle.mst_planner_tests.proofs.tests.calls.settlings_from_nothing.Goals as goal

pub forest_of-requires : goal.forest_of-requires
forest_of-requires c = record {
  net = c.args.network.now.net;
  numbers = c.args.network.now.numbers;
  of = record { network = c.known.ensures.network; numbered = c.known.ensures.numbered; view = c.in_ok-view.ensures; regions = c.in_ok-regions.ensures };
}
