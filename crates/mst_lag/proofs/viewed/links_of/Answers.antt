use Rattle.std.proofs.Common.{◌≡◌, ℕ, List, map, Some, nat_eq, sym, ap, subst, ◌∙◌, unwrap_or}
use Rattle.std.specs.List.{filter, filter_map, AllByRecursion}
use Rattle.std.specs.Map.{lookup}
use Rattle.std.specs.FinMap as fin
use Rattle.indexmap.specs.IndexMap.{get}
use Rattle.mst_view.specs.Aggregation.{same_name, plugs}
use Rattle.mst_view.specs.Viewed.{named_port, named_lan, HasNumbers}
use Rattle.mst_lag.specs.Seen.{seen_plug, AreClasses, no_total, total_of, seen_port, logical_seen, is_logical, is_lowest, lag_pair, member_lan_of, member_port_of}
use Rattle.mst_lag.specs.declared.plugs.PlugSeen.{PlugSeen}
use Rattle.mst_lag.specs.declared.members.LanSeen.{LanSeen}
use Rattle.mst_view.specs.declared.in_view.LanInView.{LanInView}
use Rattle.mst_lag.proofs.Known.{of_plug, plugs_are}
use Rattle.mst_lag.proofs.Viewing.{of_lan, rows, lans_are, member_lans_are, member_ports_are, lag_at, no_lag_at, lans_named, lans_numbered, ports_named, ports_numbered}
use Rattle.mst_lag.proofs.viewed.links_of.Goals as goal

pub returns : goal.returns
returns g c =
    let t = g.C.Contents.tables c.args.contents.now in
    let ok = c.requires.network in
    let num = c.requires.numbered in
    let parts = c.args.parts.now in
    let k = parts.classes in
    let m = parts.totals in
    let seen : List PlugSeen = map (of_plug t.net t.numbers) (plugs t.net) in
    let lans : List LanSeen = map (of_lan t.net t.numbers ok num) (rows t.net t.numbers ok num) in
    let are : AreClasses (filter_map (seen_plug t.net t.numbers) (fin.keys t.net.ports)) (fin.keys t.net.lans) k =
    subst (λ ps. AreClasses ps (fin.keys t.net.lans) k) c.requires.parts.plugs c.requires.parts.classes in
    let lans_is : parts.members.items ≡ lans = c.requires.parts.members ∙ lans_are t.net t.numbers ok num k are in
    let totals : (q : List ℕ) → unwrap_or (get same_name m q) no_total ≡ total_of (filter (λ x. same_name x.lan q) lans) =
    λ q. c.requires.parts.totals q ∙ ap (λ ls. total_of (filter (λ (x : LanSeen). same_name x.lan q) ls)) lans_is in
    let members : c.as_slice-members.result.now ≡ lans = c.as_slice-members.ensures.value ∙ lans_is in
    let plugs_is : parts.plugs.items ≡ seen = c.requires.parts.plugs ∙ plugs_are t.net t.numbers ok num in
    let plugged : c.as_slice-plugs.result.now ≡ seen = c.as_slice-plugs.ensures.value ∙ plugs_is in
    let ports : c.in_ok-listed_ports.field-0 ≡ filter_map (seen_port t.numbers k m) (filter (is_lowest k) seen) =
    c.in_ok-listed_ports.ensures ∙ ap (λ ps. filter_map (seen_port t.numbers k m) (filter (is_lowest k) ps)) plugs_is in
    let logical : c.in_ok-listed_lans.field-0 ≡ map (logical_seen t.net k m) (filter is_logical lans) =
    c.in_ok-listed_lans.ensures ∙ ap (λ ls. map (logical_seen t.net k m) (filter is_logical ls)) lans_is in
    let lags : (n : ℕ) → lookup (nat_eq n) c.in_ok-lags.field-0.entries ≡ lookup (nat_eq n) (filter_map (lag_pair t.net k) lans) =
    λ n. c.in_ok-lags.ensures n ∙ ap (λ ls. lookup (nat_eq n) (filter_map (lag_pair t.net k) ls)) members in
    record {
      ports = ap (map named_port) ports ∙ ports_named t.net t.numbers ok num k are m totals;
      lans = ap (map named_lan) logical ∙ lans_named t.net t.numbers ok num k are m totals;
      member_lans = c.in_ok-member_lans.ensures ∙ ap (map member_lan_of) members ∙ member_lans_are t.net t.numbers ok num k are;
      member_ports = c.in_ok-member_ports.ensures ∙ ap (map (member_port_of k)) plugged ∙ member_ports_are t.net t.numbers ok num k are;
      port_numbers = subst (AllByRecursion (HasNumbers t.numbers)) (sym ports) (ports_numbered t.net t.numbers ok num k are m totals);
      lan_numbers = subst (AllByRecursion (λ (l : LanInView). fin.get t.numbers.lans l.name ≡ Some l.number)) (sym logical) (lans_numbered t.net t.numbers ok num k are m totals);
      lags = λ lan n h. lags n ∙ lag_at t.net t.numbers ok num k are lan n h;
      no_lags = λ n h. lags n ∙ no_lag_at t.net t.numbers ok num k are n h;
    }
