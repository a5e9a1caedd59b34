use Rattle.std.proofs.Common.{◌≡◌, ◌==◌, ◌||◌, false, sym, ap, ◌∙◌}
use Rattle.std.specs.Prelude.{option_copied}
use Rattle.std.proofs.lemmas.Bool.{ne_eqb}
use Rattle.mst_roles.specs.forest.config.Regions.{same_region}
use Rattle.mst_roles.specs.forest.config.Shared.{same_in}
use Rattle.mst_roles.specs.forest.Forest.{Forest}
use Rattle.mst_tree_judges.proofs.RegionOf.{none_same, some_same}
use Rattle.mst_tree_judges.proofs.roots.is_of.Goals as goal

pub returns-in-None : goal.returns-in-None
returns-in-None c =
    let s = c.args.plan.now in
    let is = c.known.ensures in
    let name = c.args.name.now in
    let b = c.args.bridge.now in
    let other : (c.args.tree == 0) ≡ false = ne_eqb c.args.tree 0 (λ e. c.if-value-eq0.false (c.value.ensures.value ∙ e)) in
    none_same s.net s.numbers s.view s.forest.regions is.of name (sym c.requires.of ∙ ap option_copied c.in-None.is) b c.requires.bridge ∙ ap (λ t. t || same_region s.net name b.name) (sym other)

pub returns-in-Some : goal.returns-in-Some
returns-in-Some c =
    let s = c.args.plan.now in
    let is = c.known.ensures in
    let name = c.args.name.now in
    let a = c.in-Some.of.now in
    let b = c.args.bridge.now in
    let other : (c.args.tree == 0) ≡ false = ne_eqb c.args.tree 0 (λ e. c.if-value-eq0.false (c.value.ensures.value ∙ e)) in
    c.same.ensures
    ∙ ap (λ (f : Forest). same_in f.regions a.bridge.number b.bridge.number) c.forest.ensures
    ∙ some_same s.net s.numbers s.view s.forest.regions is.of name a (sym c.requires.of ∙ ap option_copied c.in-Some.is) b c.requires.bridge
    ∙ ap (λ t. t || same_region s.net name b.name) (sym other)
