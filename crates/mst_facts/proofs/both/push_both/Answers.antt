use Rattle.std.proofs.Common.{rules}
use Rattle.std.proofs.lemmas.Iterator.Adapters.{items_from_extend}
use Rattle.std.proofs.lemmas.Iterator.Consumers.{YieldsList-from_filter_map}
use Rattle.std.proofs.lemmas.Iterator.{YieldsList-from_slice}
use Rattle.std.proofs.lemmas.Result.{on_ok_weaker}
use Rattle.std.specs.List.{filter_map}
use Rattle.mst_facts.specs.Both.{seen_in_both}
use Rattle.mst_facts.proofs.both.push_both.Goals as goal

pub returns : goal.returns
returns c =
    let v = c.args.old.now in
    let row = seen_in_both c.args.new.now in
    on_ok_weaker c.extend.result (λ w. w.0)
    (items_from_extend {all = filter_map row v.bridges} c.extend.result c.extend.ensures.ran
    (YieldsList-from_filter_map _ row (YieldsList-from_slice v.bridges (cc)) c.filter_map.ensures.closure (λ x r q k. search rules)))
