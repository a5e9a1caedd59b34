use Rattle.mst_edits.specs.Edits.{edits_with, going, coming, joined}
use Rattle.mst_edit_laws.proofs.Accepting.{accepted_append}
use Rattle.mst_edit_laws.proofs.NoDefaults.{seen_alike, after_edits, network_has_none}
use Rattle.mst_edit_laws.proofs.BridgeMade.{bridge_changed}
use Rattle.mst_edit_laws.proofs.PortMade.{port_changed}
use Rattle.mst_edit_laws.proofs.LanMade.{lan_changed}
use Rattle.mst_edit_laws.proofs.Coming.{coming_accepted}
use Rattle.mst_edit_laws.proofs.Room.{table_room}
use Rattle.mst_edit_laws.proofs.Going.{going_accepted}
use Rattle.mst_edit_laws.proofs.laws.changed_with.Goals as goal

pub returns-clause-accepted : goal.returns-clause-accepted
returns-clause-accepted c in_place a b is_a is_b = accepted_append (joined (going a b)) (joined (coming in_place a b)) a (going_accepted a b is_a is_b) (coming_accepted in_place c.table_made.ensures table_room a b is_a is_b)

pub returns-clause-made : goal.returns-clause-made
returns-clause-made c in_place a b is_a is_b =
    seen_alike _ _ (after_edits (edits_with in_place a b) a (network_has_none a is_a)) (network_has_none b is_b)
    (λ q t. bridge_changed c.table_made.ensures a b is_a is_b q t in_place) (λ q t. port_changed a b is_a is_b q t in_place) (λ q. lan_changed a b q in_place)
