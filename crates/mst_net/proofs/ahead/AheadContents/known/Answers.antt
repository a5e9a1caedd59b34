use Rattle.std.proofs.Common.{Some, ap, sym, subst, ◌∙◌}
use Rattle.mst_tables.specs.Tables.{IsNetwork}
use Rattle.mst_tables.specs.Contents.{IsNumbered}
use Rattle.mst_tables.proofs.AfterLemmas.{effect_is_network}
use Rattle.mst_net.proofs.NumbersAfter.{numbered_after}
use Rattle.mst_net.proofs.ahead.AheadContents.known.Goals as goal

pub returns-clause-network : goal.returns-clause-network
returns-clause-network c =
    let old = c.self.inside.network.now in
    let can = c.self.invariant in
    subst (λ t. IsNetwork t.net) c.self.view_is (effect_is_network old.net c.known.ensures.network c.self.inside.edit.now can.in_range can.accepted)

pub returns-clause-numbered : goal.returns-clause-numbered
returns-clause-numbered c =
    let old = c.self.inside.network.now in
    subst (λ t. IsNumbered t.net t.numbers) c.self.view_is (numbered_after old.net old.next old.numbers c.known.ensures.numbered (record {
      bridge = λ q at. c.next_bridge.ensures.fresh q (at ∙ ap Some (sym c.next_bridge.ensures.next));
      port = λ q at. c.next_port.ensures.fresh q (at ∙ ap Some (sym c.next_port.ensures.next));
      lan = λ q at. c.next_lan.ensures.fresh q (at ∙ ap Some (sym c.next_lan.ensures.next));
    }) c.self.inside.edit.now)
