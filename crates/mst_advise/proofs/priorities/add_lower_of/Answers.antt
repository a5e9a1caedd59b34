use Rattle.std.proofs.Common.{List, [], ◌∷◌, ◌++◌, Option, sym, ap, ◌∙◌, append_assoc}
use Rattle.std.specs.Option.{option_map_or}
use Rattle.std.proofs.lemmas.Result.{on_ok_weaker}
use Rattle.mst_net.specs.tables.Tables.{BridgeRow}
use Rattle.mst_roles.specs.forest.Settled.{outcome_of}
use Rattle.mst_roles.proofs.forest_lemmas.Seen.{bridge_seen}
use Rattle.mst_verify.specs.summary.declared.roots.Follower.{Follower}
use Rattle.mst_advise.specs.Priorities.{below_own, greatest_upto, lower_priority, others}
use Rattle.mst_advise.specs.Seen.{ids_of, seen_first}
use Rattle.mst_advise.specs.declared.setting.Setting.{Setting}
use Rattle.mst_advise.proofs.OthersSeen.{greatest_same}
use Rattle.mst_advise.proofs.priorities.add_lower_of.Goals as goal

pub returns : goal.returns
returns c =
    let s = c.args.plan.now in
    let o = outcome_of s in
    let tree = c.args.tree in
    let b = c.args.bridge.now in
    let mac = b.bridge.mac in
    let old : List Setting = c.args.found.now.items in
    let seen = bridge_seen s.net s.numbers s.view c.known.ensures.of.view b c.requires in
    let one = ap (below_own s.net tree b.name) c.before_one-one.ensures in
    let all = ap (below_own s.net tree b.name) (c.in_ok-all.ensures ∙ ap (λ (fs : List Follower). greatest_upto (seen_first tree mac (ids_of fs)) 15) (c.as_slice.ensures.value ∙ c.in_ok-others.ensures) ∙ greatest_same s.net o tree b.name mac) in
    on_ok_weaker c.add_below-2.result
    (λ more.
    more
    ∙ (λ i. c.in_ok-add_below.ensures i ++ all i)
    ∙ ap (λ (l : List Setting). (old ++ l) ++ lower_priority s.net tree b.name mac (others s.net o tree b.name)) one
    ∙ append_assoc old (lower_priority s.net tree b.name mac (c.args.other.now ∷ [])) (lower_priority s.net tree b.name mac (others s.net o tree b.name))
    ∙ ap (λ (row : Option BridgeRow). old ++ option_map_or (λ (r : BridgeRow). lower_priority s.net tree b.name r.mac (c.args.other.now ∷ []) ++ lower_priority s.net tree b.name r.mac (others s.net o tree b.name)) row []) (sym seen.has_row))
    c.add_below-2.ensures
