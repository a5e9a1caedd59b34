use Rattle.std.proofs.Common.{◌&&◌, ℕ, List, sym, ◌∙◌}
use Rattle.std.proofs.lemmas.Bool.{and_parts}
use Rattle.mst_ids.specs.declared.name.PortName.{PortName}
use Rattle.mst_tables.specs.Tables.{port_eq}
use Rattle.mst_view.specs.Aggregation.{same_name}
use Rattle.mst_view.proofs.Names.{same_names, same_ports}
use Rattle.mst_vlan.proofs.Lists.{equal_lists, not_false}
use Rattle.mst_vlan.proofs.comparing.differs.Goals as goal

pub returns : goal.returns
returns c e =
    sym c.in_ok-carried.ensures
    ∙ equal_lists (λ (x y : PortName × List ℕ). port_eq x.0 y.0 && same_name x.1 y.1)
    (λ x y same. let both = and_parts (port_eq x.0 y.0) (same_name x.1 y.1) same in let port = same_ports x.0 y.0 both.0 in let lan = same_names x.1 y.1 both.1 in λ i. (port i, lan i))
    c.in_ok-carried.carried.items c.in_ok-others.others.items (not_false _ (sym c.ne.ensures ∙ e))
    ∙ c.in_ok-others.ensures
