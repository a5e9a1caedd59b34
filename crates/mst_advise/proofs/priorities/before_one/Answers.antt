use Rattle.std.proofs.Common.{◌≡◌, ◌&&◌, ℕ, [], ◌∷◌, true, false, nat_lt, Option, sym, ap, ◌∙◌, arith}
use Rattle.std.specs.Option.{option_map_or}
use Rattle.std.proofs.lemmas.Bool.{le-ltb}
use Rattle.mst_ids.specs.Identifiers.{bridge_id}
use Rattle.mst_verify.specs.tree_judges.judged.reasons.Roots.{identifier}
use Rattle.mst_advise.specs.Priorities.{comes_first, greatest_upto}
use Rattle.mst_advise.proofs.GreatestUpto.{never_greatest}
use Rattle.mst_advise.proofs.priorities.before_one.Goals as goal

never_less : (n : ℕ) → (nat_lt n 0 && true) ≡ false
never_less n = ap (λ t. t && true) (le-ltb n 0 (omega arith))

pub returns-in-None : goal.returns-in-None
returns-in-None c =
    let net = c.args.plan.now.net in
    let tree = c.args.tree in
    let mac = c.args.mac in
    let zero : 0 ≡ identifier net tree c.args.other.now = ap (λ (id : Option ℕ). option_map_or (λ id. id) id 0) (sym c.in-None.is) ∙ c.identifier.ensures in
    sym (never_greatest (comes_first net tree mac (c.args.other.now ∷ [])) (λ p. ap (λ id. nat_lt (bridge_id p tree mac) id && true) (sym zero) ∙ never_less (bridge_id p tree mac)) 15)

pub returns-in-Some : goal.returns-in-Some
returns-in-Some c =
    let net = c.args.plan.now.net in
    let tree = c.args.tree in
    let mac = c.args.mac in
    let same : c.in-Some.id ≡ identifier net tree c.args.other.now = ap (λ (id : Option ℕ). option_map_or (λ id. id) id 0) (sym c.in-Some.is) ∙ c.identifier.ensures in
    c.greatest.ensures ∙ ap (λ id. greatest_upto (λ p. nat_lt (bridge_id p tree mac) id && true) 15) same
