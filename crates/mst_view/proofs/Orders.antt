-- The order of names of ports.
use Rattle.std.specs.Cmp.{IsTotalOrder}
use Rattle.std.specs.Cmp.Lexicographic.{nat_list_cmp_total}
use Rattle.std.proofs.lemmas.Cmp.{on_total, then_total, nat_cmp_total}
use Rattle.mst_ids.specs.Names.{port_cmp}
use Rattle.mst_ids.specs.declared.name.PortName.{PortName}

pub ports_total : IsTotalOrder port_cmp
ports_total = then_total (on_total (λ (p : PortName). p.bridge) nat_list_cmp_total) (on_total (λ (p : PortName). p.number) nat_cmp_total)
