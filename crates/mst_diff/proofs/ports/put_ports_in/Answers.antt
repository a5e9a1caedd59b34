use Rattle.std.proofs.Common.{◌++◌, List, sym, ap, subst, ◌∙◌, append-nil}
use Rattle.mst_changes.specs.PortChanges.{counted}
use Rattle.mst_changes.proofs.NoPorts.{no_port_changes}
use Rattle.mst_rows.specs.Rows.{Row}
use Rattle.mst_diff.proofs.ports.put_ports_in.Goals as goal

pub returns : goal.returns
returns g c first rows grew =
    let h = c.args.change.now in
    let s = h.old.now in
    let t = h.new.now in
    let none = sym (c.is_had.ensures s.view h.are_used) ∙ c.if-is_had.false in
    let none_too = sym (c.is_had-else-is_had.ensures t.view h.are_used_too) ∙ c.if-is_had-2.false in
    let nothing = no_port_changes s t c.known.ensures c.known-2.ensures c.args.tree none none_too in
    (sym (ap counted nothing), subst (g.R.Rows.grew first c.args.out.now) (sym (ap (λ (own : List Row). rows ++ own) nothing ∙ append-nil rows)) grew)
