use Rattle.std.proofs.Common.{rules}
use Rattle.std.proofs.lemmas.Iterator.Adapters.{items_from_extend}
use Rattle.std.proofs.lemmas.Iterator.Consumers.{YieldsList-from_filter_map}
use Rattle.std.proofs.lemmas.Iterator.{YieldsList-from_slice, YieldsList-from_zip}
use Rattle.std.proofs.lemmas.Result.{on_ok_weaker}
use Rattle.std.specs.List.{filter_map, zip}
use Rattle.mst_changes.specs.Stored.{port_entry}
use Rattle.mst_changes.proofs.kept.push_ports_kept.Goals as goal

pub returns : goal.returns
returns c =
    let row = port_entry c.args.tree in
    on_ok_weaker c.extend.result (λ w. w.0)
    (items_from_extend {all = filter_map row (zip c.args.names.now c.args.roles.now)} c.extend.result c.extend.ensures.ran
    (YieldsList-from_filter_map _ row (YieldsList-from_zip (YieldsList-from_slice c.args.names.now (cc)) (YieldsList-from_slice c.args.roles.now (cc))) c.filter_map.ensures.closure (λ x r q k. search rules)))
