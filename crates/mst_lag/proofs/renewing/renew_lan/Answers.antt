use Rattle.std.proofs.Common.{◌≤◌, List, length, filter, filter_map, sym, ap, subst, ◌∙◌}
use Rattle.mst_view.specs.Aggregation.{same_name}
use Rattle.mst_lag.specs.Seen.{total_of}
use Rattle.mst_view.specs.Viewed.{Viewed}
use Rattle.mst_lag.specs.Renewed.{IsViewButLan, logical_among, seen_member}
use Rattle.mst_view.specs.contracts.in_view.View.{the_view}
use Rattle.mst_view.specs.declared.in_view.MemberLan.{MemberLan}
use Rattle.mst_lag.specs.declared.members.LanSeen.{LanSeen}
use Rattle.mst_lag.proofs.Renewal.{few_members, is_view}
use Rattle.mst_lag.proofs.renewing.renew_lan.Goals as goal

pub total_now-requires : goal.total_now-requires
total_now-requires g c =
    let t = g.C.Contents.tables c.args.contents.now in
    let v : Viewed = the_view c.view.inside in
    let was : IsViewButLan c.args.lan.now t.net t.numbers v = subst (IsViewButLan c.args.lan.now t.net t.numbers) (sym c.view.view_is) c.requires in
    subst (λ (ms : List MemberLan). length ms ≤ 8192) (sym c.as_slice-2.ensures.value) (few_members c.args.lan.now t.net t.numbers v was c.known.ensures.network)

pub returns-clause-ok : goal.returns-clause-ok
returns-clause-ok g c =
    let t = g.C.Contents.tables c.args.contents.now in
    let v : Viewed = the_view c.view.inside in
    let was : IsViewButLan c.args.lan.now t.net t.numbers v = subst (IsViewButLan c.args.lan.now t.net t.numbers) (sym c.view.view_is) c.requires in
    let at = c.logical_of-logical.result in
    let total = c.in_ok-total.total in
    is_view c.args.lan.now t.net t.numbers v was c.known.ensures.numbered
    at (c.logical_of-logical.ensures ∙ ap (λ ms. logical_among ms c.args.lan.now) c.as_slice.ensures.value)
    total (c.in_ok-total.ensures
    ∙ ap (λ ms. total_of (filter (λ (x : LanSeen). same_name x.lan at) (filter_map (seen_member t.net t.numbers) (filter (λ (x : MemberLan). same_name x.lan at) ms)))) c.as_slice-2.ensures.value)
    c.is_up_now-is_up.result c.is_up_now-is_up.ensures
    c.renew_ports.new.ports c.renew_ports.ensures
    c.renew_lans.new.lans c.renew_lans.ensures
    c.renew_members.new.members.items c.renew_members.ensures
