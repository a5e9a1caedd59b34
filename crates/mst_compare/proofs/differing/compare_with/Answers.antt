use Rattle.std.proofs.Common.{sym, ap, ◌∙◌}
use Rattle.mst_compare.specs.Comparison.{fault_of}
use Rattle.mst_compare.proofs.Sending.{sent_by, sent_by_none, is_sender}
use Rattle.mst_compare.proofs.Planning.{settled_by, forest_of, has_seen, are_differences}
use Rattle.mst_compare.proofs.differing.compare_with.Goals as goal

pub returns-in-None : goal.returns-in-None
returns-in-None c =
    let s = c.args.plan.now in
    let v = c.view-view.result.now in
    let is = settled_by s c.known.ensures v c.forest-forest.result.now c.view-view.ensures c.forest-forest.ensures in
    record { found = tt; fault = sym (ap fault_of (sent_by_none s.net s.numbers v is.of.view c.args.bpdu.now (sym c.sender_in.ensures ∙ c.in-None.is))) }

pub from_plan-requires : goal.from_plan-requires
from_plan-requires c =
    let s = c.args.plan.now in
    let v = c.view-view.result.now in
    let f = c.forest-forest.result.now in
    let is = settled_by s c.known.ensures v f c.view-view.ensures c.forest-forest.ensures in
    let from = c.in-Some.sender in
    has_seen s.net s.numbers v f is.of (forest_of _ is) from (is_sender v c.args.bpdu.now from (sym c.sender_in.ensures ∙ c.in-Some.is))

pub returns-in-Ok : goal.returns-in-Ok
returns-in-Ok c =
    let s = c.args.plan.now in
    let bpdu = c.args.bpdu.now in
    let v = c.view-view.result.now in
    let f = c.forest-forest.result.now in
    let is = settled_by s c.known.ensures v f c.view-view.ensures c.forest-forest.ensures in
    let from = c.in-Some.sender in
    let seen = sym c.sender_in.ensures ∙ c.in-Some.is in
    let h = c.in-Ok.ensures in
    record {
      found = are_differences s.net s.numbers v f is.of (forest_of _ is) from (is_sender v bpdu from seen) bpdu c.in-Ok.found.items h.0 (sent_by s.net s.numbers v is.of.view bpdu from seen) h.1 h.2;
      fault = tt;
    }

pub returns-in-Err : goal.returns-in-Err
returns-in-Err c =
    let s = c.args.plan.now in
    let v = c.view-view.result.now in
    let is = settled_by s c.known.ensures v c.forest-forest.result.now c.view-view.ensures c.forest-forest.ensures in
    record { found = tt; fault = sym (ap fault_of (sent_by s.net s.numbers v is.of.view c.args.bpdu.now c.in-Some.sender (sym c.sender_in.ensures ∙ c.in-Some.is))) }
