use Rattle.std.proofs.Common.{[], map, ◌++◌, sym, ap, ◌∙◌, append-nil}
use Rattle.std.specs.List.{flat_map}
use Rattle.std.proofs.lemmas.List.{flat_map_more}
use Rattle.mst_roles.specs.SeenRoles.{seen_role}
use Rattle.mst_roles.proofs.forest_lemmas.SettledNet.{forest_of}
use Rattle.mst_changes.specs.Seen.{seen_vector}
use Rattle.mst_changes.specs.Stored.{kept_in, kept_of}
use Rattle.mst_roles.proofs.forest_lemmas.NotInUse.{unused_by}
use Rattle.mst_changes.proofs.Gathered.{kept_entries_are, no_entries}
use Rattle.mst_changes.proofs.entries.keep_tree.Goals as goal

pub returns-then-not-is_had : goal.returns-then-not-is_had
returns-then-not-is_had c =
    let s = c.args.plan.now in
    let is = c.known.ensures in
    let tree = c.args.tree in
    let kept = kept_of s.view c.args.trees.now.items in
    let x = unused_by s.view tree (sym (c.is_had.ensures s.view c.requires) ∙ c.if-not-is_had.true) in
    sym (ap (λ l. kept ++ l) (no_entries s.net s.numbers s.view s.forest is.of (forest_of s is) tree x.other x.none) ∙ append-nil kept)

pub returns : goal.returns
returns c =
    let s = c.args.plan.now in
    let is = c.known.ensures in
    let tree = c.args.tree in
    let g = kept_in (map (λ b. b.name) s.view.bridges) (map (λ p. p.name) s.view.ports) in
    let old = c.args.trees.now.items in
    let kept = c.in_ok-kept.kept in
    let vectors = c.in_ok-kept.ensures.vectors ∙ (λ i. map (λ b. seen_vector (c.view-view.ensures i) (c.forest-forest.ensures i) tree b.bridge.number) (c.view-view.ensures i).bridges) in
    let roles = c.in_ok-kept.ensures.roles ∙ (λ i. map (seen_role (c.view-view.ensures i) (c.forest-forest.ensures i) tree) (c.view-view.ensures i).ports) in
    ap (flat_map g) c.in_ok-push.ensures.items ∙ sym (flat_map_more g [] old kept)
    ∙ ap (λ l. flat_map g old ++ l) (kept_entries_are s.net s.numbers s.view s.forest is.of (forest_of s is) tree kept c.in_ok-kept.ensures.tree vectors roles)
