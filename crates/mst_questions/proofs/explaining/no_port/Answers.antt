use Rattle.std.proofs.Common.{not, Some, None, sym, ap, ◌∙◌}
use Rattle.std.specs.Prelude.{if◌then◌else◌}
use Rattle.std.specs.Option.{option_copied}
use Rattle.mst_ids.specs.declared.name.PortName.{PortName}
use Rattle.mst_questions.specs.Explaining.{has_asked}
use Rattle.mst_questions.specs.declared.explaining.Unexplained.TheVariants.{NoTree}
use Rattle.mst_questions.proofs.Explained.{without_port, with_port, not_found, is_found, found_there, has_name}
use Rattle.mst_questions.proofs.explaining.no_port.Goals as goal

pub no_tree-requires : goal.no_tree-requires
no_tree-requires c = found_there c.args.plan.now c.known.ensures c.args.name.now c.in-Some.port.now (sym c.port_named.ensures ∙ ap option_copied c.in-Some.is)

pub returns-in-None : goal.returns-in-None
returns-in-None c =
    let s = c.args.plan.now in
    let name = c.args.name.now in
    sym (without_port s.net name c.args.tree.now c.requires (not_found s c.known.ensures name (sym c.port_named.ensures ∙ ap option_copied c.in-None.is)))

pub returns-in-Some : goal.returns-in-Some
returns-in-Some c =
    let s = c.args.plan.now in
    let name = c.args.name.now in
    let tree = c.args.tree.now in
    let port = c.in-Some.port.now in
    let found = sym c.port_named.ensures ∙ ap option_copied c.in-Some.is in
    c.no_tree.ensures
    ∙ ap (λ (n : PortName). if not (has_asked s.net n.bridge tree) then Some NoTree else None) (has_name name s.view.ports port found)
    ∙ sym (with_port s.net name tree c.requires (is_found s c.known.ensures name port found))
