use Rattle.std.proofs.Common.{length, ap, arith, length-drop}
use Rattle.mst_bpdu.proofs.layout.mst_bpdu.Goals as goal

pub configuration_id-requires : goal.configuration_id-requires
configuration_id-requires c = omega (arith, ap length c.rest_from.ensures, length-drop 38 c.args.bpdu.now)
