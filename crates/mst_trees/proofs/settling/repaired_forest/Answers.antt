use Rattle.std.proofs.Common.{sym, subst, ap, ◌∙◌}
use Rattle.mst_vector.specs.Cist.{cist_rules}
use Rattle.mst_forest.specs.outcome.Assignment.{designated_of, IsSettledFor}
use Rattle.mst_forest.specs.Seen.{internal_seen, cist_seen}
use Rattle.mst_forest.specs.Agrees.{AreOf}
use Rattle.mst_forest.specs.Forest.{Forest}
use Rattle.mst_forest.specs.Mstis.{outcomes}
use Rattle.mst_trees.specs.Internal.{KnownInternal}
use Rattle.mst_trees.specs.Wirings.{msti_wires, own_in}
use Rattle.mst_trees.proofs.Growing.{internal_agrees, is_forest}
use Rattle.mst_trees.proofs.Keeping.{keeps_bounds}
use Rattle.mst_trees.proofs.OnWiring.{internal_numbers}
use Rattle.mst_trees.proofs.OwnSettings.{seen_in_trees, seen_numbers, own_internal}
use Rattle.mst_trees.proofs.SettledTrees.{same_internal, is_settled_seen}
use Rattle.mst_trees.proofs.Unused.{settles_no_unused}
use Rattle.mst_trees.proofs.settling.repaired_forest.Goals as goal

pub own_settings-requires : goal.own_settings-requires
own_settings-requires c =
    let k = c.requires in
    record { set = seen_in_trees k.net k.numbers c.args.view.now c.args.regions.now k.of; numbers = seen_numbers k.net k.numbers c.args.view.now c.args.regions.now k.of }

pub next_cist-requires : goal.next_cist-requires
next_cist-requires c = record { known = c.requires; own = c.in_ok-own.ensures 0 }

pub msti_wiring-requires : goal.msti_wiring-requires
msti_wiring-requires c =
    let v = c.args.view.now in
    let region_ids = c.args.regions.now in
    let k = c.requires in
    let o = c.has_outcome.ensures k.net k.of.network in
    internal_numbers v c.as_slice.result.now (record {
      net = k.net;
      numbers = k.numbers;
      region_ids = region_ids;
      of = k.of;
      designated = o.0.cist.designated;
      is = c.as_slice.ensures.value ∙ c.in_ok-internal.ensures
          ∙ internal_agrees k.net k.numbers v region_ids k.of c.renamed.ensures.vectors c.renamed.ensures.ports o.0.cist o.1.cist c.in_ok-cist_wiring.cist.outcome c.in_ok-cist_wiring.ensures.settled.outcome;
    })

pub next_mstis-requires : goal.next_mstis-requires
next_mstis-requires c =
    let v = c.args.view.now in
    let region_ids = c.args.regions.now in
    let k = c.requires in
    let o = c.has_outcome.ensures k.net k.of.network in
    let known : KnownInternal v c.as_slice-2.result.now = record {
      net = k.net;
      numbers = k.numbers;
      region_ids = region_ids;
      of = k.of;
      designated = o.0.cist.designated;
      is = c.as_slice-2.ensures.value ∙ c.in_ok-internal.ensures
          ∙ internal_agrees k.net k.numbers v region_ids k.of c.renamed.ensures.vectors c.renamed.ensures.ports o.0.cist o.1.cist c.in_ok-cist_wiring.cist.outcome c.in_ok-cist_wiring.ensures.settled.outcome;
    } in
    record {
      known = known;
      own = λ tree. own_internal v c.as_slice-2.result.now known tree (own_in c.in_ok-own.own.entries tree) (c.in_ok-own.ensures tree);
      wiring = c.in_ok-msti_wiring.ensures ∙ ap msti_wires (c.as_slice.ensures.value ∙ sym c.as_slice-2.ensures.value);
    }

pub returns-clause-outcome : goal.returns-clause-outcome
returns-clause-outcome c = rw c.of.ensures (λ net numbers of.
    let v = c.args.view.now in
    let region_ids = c.args.regions.now in
    let o = c.has_outcome.ensures net of.network in
    let f : Forest = record { regions = c.in_ok-regions.regions; cist = c.in_ok-cist_wiring.cist.outcome; mstis = outcomes c.in_ok-mstis.mstis.entries } in
    is_forest net numbers v region_ids of c.renamed.ensures.vectors c.renamed.ensures.ports c.renamed-2.ensures.vectors c.renamed-2.ensures.ports o.0 o.1
    f c.in_ok-regions.ensures c.in_ok-cist_wiring.ensures.settled.outcome c.as_slice-2.result.now (c.as_slice-2.ensures.value ∙ c.in_ok-internal.ensures) c.args.standing.now.mstis c.in_ok-mstis.ensures.settled)

pub returns-clause-nested : goal.returns-clause-nested
returns-clause-nested c =
    let v = c.args.view.now in
    let k = c.requires in
    let o = c.has_outcome.ensures k.net k.of.network in
    let cist = c.in_ok-cist_wiring.cist.outcome in
    let regions = sym c.in_ok-regions.ensures in
    let f : Forest = record { regions = c.in_ok-regions.regions; cist = cist; mstis = outcomes c.in_ok-mstis.mstis.entries } in
    rw c.of.ensures (is_settled_seen k.net k.numbers v f (subst (AreOf k.net k.numbers v) regions k.of)
    c.renamed.ensures.vectors c.renamed.ensures.ports c.renamed.ensures.topology c.renamed-2.ensures.topology o.0 o.1 (c.nested.ensures.settled k.net o.0 k.of.network o.1)
    (subst (λ region_ids. IsSettledFor cist_rules (cist_seen v region_ids) cist) regions c.in_ok-cist_wiring.ensures.settled.outcome) c.args.standing.now.mstis
    (same_internal (c.as_slice-2.ensures.value ∙ c.in_ok-internal.ensures ∙ (λ i. internal_seen v (regions i) (designated_of cist))) c.in_ok-mstis.ensures.settled))

pub returns-clause-bounds : goal.returns-clause-bounds
returns-clause-bounds c =
    let f : Forest = record { regions = c.in_ok-regions.regions; cist = c.in_ok-cist_wiring.cist.outcome; mstis = outcomes c.in_ok-mstis.mstis.entries } in
    rw c.of.ensures (keeps_bounds c.args.standing.now f c.args.view.now c.args.regions.now c.in_ok-cist_wiring.ensures.settled c.as_slice-2.result.now c.in_ok-mstis.ensures.settled)

pub returns-clause-unused : goal.returns-clause-unused
returns-clause-unused c = rw c.of.ensures (λ net numbers of.
    settles_no_unused net numbers c.args.view.now c.args.regions.now of c.as_slice-2.result.now c.args.standing.now.mstis (outcomes c.in_ok-mstis.mstis.entries) c.in_ok-mstis.ensures.settled)
