use Rattle.std.proofs.Common.{List, [], Option, sym, ap, ◌∙◌}
use Rattle.std.specs.Option.{option_map_or}
use Rattle.std.proofs.lemmas.Result.{IfOk-weaker}
use Rattle.mst_net.specs.tables.Tables.{BridgeRow}
use Rattle.mst_roles.specs.forest.Settled.{outcome_of}
use Rattle.mst_roles.proofs.forest_lemmas.Seen.{bridge_seen}
use Rattle.mst_verify.specs.summary.declared.roots.Follower.{Follower}
use Rattle.mst_advise.specs.Priorities.{greatest_priority, greatest_upto, others, priorities}
use Rattle.mst_advise.specs.Seen.{ids_of, seen_first}
use Rattle.mst_advise.proofs.OthersSeen.{greatest_same}
use Rattle.mst_advise.proofs.priorities.settings_of.Goals as goal

pub priorities-requires : goal.priorities-requires
priorities-requires c = c.as_slice-2.ensures.value ∙ c.in_ok-others.ensures

pub returns : goal.returns
returns c =
    let s = c.args.plan.now in
    let o = outcome_of s in
    let tree = c.args.tree in
    let b = c.args.bridge.now in
    let mac = b.bridge.mac in
    let seen = bridge_seen s.net s.numbers s.view c.known.ensures.of.view b c.requires in
    let greatest = c.in_ok-greatest.ensures ∙ ap (λ (fs : List Follower). greatest_upto (seen_first tree mac (ids_of fs)) 15) (c.as_slice.ensures.value ∙ c.in_ok-others.ensures) ∙ greatest_same s.net o tree b.name mac in
    IfOk-weaker c.priorities.result _ _
    (λ settings told.
    told
    ∙ ap (priorities s.net tree b.name mac (others s.net o tree b.name)) greatest
    ∙ ap (λ (row : Option BridgeRow). option_map_or (λ (r : BridgeRow). priorities s.net tree b.name r.mac (others s.net o tree b.name) (greatest_priority s.net tree r.mac (others s.net o tree b.name))) row []) (sym seen.has_row))
    c.priorities.ensures
