use Rattle.std.proofs.Common.{◌≡◌, ◌++◌, List, ap, sym, subst, ◌∙◌, append_assoc}
use Rattle.std.specs.List.{flat_map}
use Rattle.std.specs.Prelude.{OnOk}
use Rattle.mst_view.specs.Viewed.{named_port}
use Rattle.mst_view.specs.declared.in_view.PortInView.{PortInView}
use Rattle.mst_roles.specs.forest.Settled.{outcome_of}
use Rattle.mst_rows.specs.Rows.{Row}
use Rattle.mst_note_text.specs.NotesText.{restricted_note, restricted_notes, trees_notes}
use Rattle.mst_note_text.proofs.Flat.{of_mapped}
use Rattle.mst_note_text.proofs.notes.put_notes.Goals as goal

pub returns : goal.returns
returns g c notes are first rows grew =
    let s = c.args.plan.now in
    let is = c.known.ensures in
    let trees = trees_notes s.net (outcome_of s) are.depths in
    let ports : flat_map (λ (p : PortInView). restricted_note (named_port p)) c.ports.result.now ≡ restricted_notes s.net =
    ap (flat_map (λ (p : PortInView). restricted_note (named_port p))) (c.ports.ensures ∙ ap (λ v. v.ports) c.view-view.ensures) ∙ of_mapped restricted_note named_port s.view.ports ∙ ap (flat_map restricted_note) is.of.view.ports in
    subst (λ (all : List Row). OnOk c.put_ports.result (g.R.Rows.grew first c.put_ports.new.out all))
    (append_assoc rows trees _ ∙ ap (λ t. rows ++ (trees ++ t)) ports ∙ ap (λ t. rows ++ t) (sym are.is_rows))
    (c.put_ports.ensures first (rows ++ trees) (c.in_ok-put_trees.ensures are.depths are.are_depths first rows grew))
