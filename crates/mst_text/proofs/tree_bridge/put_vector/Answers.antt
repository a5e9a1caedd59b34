use Rattle.std.proofs.Common.{◌≡◌, ◌==◌, ◌++◌, ◌∷◌, [], true, false, cond, List, Some, sym, subst, ◌∙◌, eq-eqb}
use Rattle.std.specs.Option.{option_map_or}
use Rattle.std.proofs.lemmas.Bool.{ne_eqb}
use Rattle.std.proofs.lemmas.Result.{on_ok_weaker}
use Rattle.mst_rows.specs.Rows.{Row}
use Rattle.mst_vlan.specs.forest.Settled.{outcome_of}
use Rattle.mst_text.specs.TreeRows.{cist_row, msti_row, vector_rows}
use Rattle.mst_text.proofs.tree_bridge.put_vector.Goals as goal

pub returns-in-Some : goal.returns-in-Some
returns-in-Some g c first rows grew =
    let net = c.args.plan.now.net in
    let o = outcome_of c.args.plan.now in
    let name = c.args.bridge.now.name in
    let id = c.args.id in
    let msti = (o.msti c.args.tree).vector name in
    let zero : (c.args.tree == 0) ≡ true = eq-eqb c.args.tree 0 (sym c.value.ensures.value ∙ c.if-value-eq0.true) in
    let vector : o.cist.vector name ≡ Some c.in-Some.vector = sym c.cist.ensures ∙ c.in-Some.is in
    let own : vector_rows net c.args.tree name id (o.cist.vector name) msti ≡ cist_row net name id c.in-Some.vector ∷ [] =
    λ i. cond (zero i) (option_map_or (λ v. cist_row net name id v ∷ []) (vector i) []) (option_map_or (λ v. msti_row net c.args.tree name id v ∷ []) msti []) in
    on_ok_weaker c.put_in_cist.result (subst (λ (l : List Row). g.R.Rows.grew first c.put_in_cist.new.out (rows ++ l)) (sym own)) (c.put_in_cist.ensures net c.requires.holders first rows grew)

pub returns-in-Some-msti : goal.returns-in-Some-msti
returns-in-Some-msti g c first rows grew =
    let net = c.args.plan.now.net in
    let o = outcome_of c.args.plan.now in
    let name = c.args.bridge.now.name in
    let id = c.args.id in
    let cist = o.cist.vector name in
    let other : (c.args.tree == 0) ≡ false = ne_eqb c.args.tree 0 (λ e. c.if-value-eq0.false (c.value.ensures.value ∙ e)) in
    let vector : (o.msti c.args.tree).vector name ≡ Some c.in-Some-msti.vector = sym c.msti.ensures ∙ c.in-Some-msti.is in
    let own : vector_rows net c.args.tree name id cist ((o.msti c.args.tree).vector name) ≡ msti_row net c.args.tree name id c.in-Some-msti.vector ∷ [] =
    λ i. cond (other i) (option_map_or (λ v. cist_row net name id v ∷ []) cist []) (option_map_or (λ v. msti_row net c.args.tree name id v ∷ []) (vector i) []) in
    on_ok_weaker c.put_in_msti.result (subst (λ (l : List Row). g.R.Rows.grew first c.put_in_msti.new.out (rows ++ l)) (sym own)) (c.put_in_msti.ensures net c.requires.holders first rows grew)
