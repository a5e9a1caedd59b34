use Rattle.std.proofs.Common.{ap, ◌∙◌}
use Rattle.mst_ids.specs.Identifiers.{mac_of}
use Rattle.mst_compare.proofs.Sending.{seen_here}
use Rattle.mst_compare.proofs.senders.sender_in.Goals as goal

pub returns : goal.returns
returns c =
    seen_here c.args.view.now c.args.bpdu.now c.in_ok-bridge.bridge.now c.in_ok-port.port.now c.mac.result c.port_number.result c.sends.result (c.mac.ensures ∙ ap mac_of c.bridge.ensures) c.port_number.ensures
    c.in_ok-bridge.ensures c.if-not-sends.false c.sends.ensures c.in_ok-port.ensures
