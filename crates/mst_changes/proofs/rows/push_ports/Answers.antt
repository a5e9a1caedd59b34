use Rattle.std.proofs.Common.{rules}
use Rattle.std.proofs.lemmas.Iterator.Adapters.{items_from_extend}
use Rattle.std.proofs.lemmas.Iterator.Consumers.{YieldsList-from_filter_map}
use Rattle.std.proofs.lemmas.Iterator.{YieldsList-from_slice}
use Rattle.std.proofs.lemmas.Result.{on_ok_weaker}
use Rattle.std.specs.List.{filter_map}
use Rattle.mst_changes.specs.Seen.{seen_port_entry}
use Rattle.mst_changes.proofs.rows.push_ports.Goals as goal

pub returns : goal.returns
returns c =
    let v = c.args.view.now in
    let row = seen_port_entry v c.args.forest.now c.args.tree in
    on_ok_weaker c.extend.result (λ w. w.0)
    (items_from_extend {all = filter_map row v.ports} c.extend.result c.extend.ensures.ran
    (YieldsList-from_filter_map _ row (YieldsList-from_slice v.ports (cc)) c.filter_map.ensures.closure (λ x r q k. search rules)))
