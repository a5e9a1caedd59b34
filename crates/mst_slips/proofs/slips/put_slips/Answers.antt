use Rattle.std.proofs.Common.{◌++◌, List, append_assoc, ap, subst, ◌∙◌}
use Rattle.std.specs.Prelude.{OnOk}
use Rattle.mst_rows.specs.Rows.{Row}
use Rattle.mst_view.specs.declared.in_view.PortInView.{PortInView}
use Rattle.mst_slips.specs.Kept.{AreKept}
use Rattle.mst_slips.specs.Lans.{lan_rows}
use Rattle.mst_slips.specs.Regions.{region_rows}
use Rattle.mst_slips.specs.Tables.{table_rows}
use Rattle.mst_slips.specs.Vlans.{vlans_rows}
use Rattle.mst_slips.proofs.slips.put_slips.Goals as goal

pub put_slow_lans-requires : goal.put_slow_lans-requires
put_slow_lans-requires g c = subst (λ (ports : List PortInView). AreKept ports c.in_ok-kept.kept) c.ports.ensures c.in_ok-kept.ensures

pub put_links-requires : goal.put_links-requires
put_links-requires g c = subst (λ (ports : List PortInView). AreKept ports c.in_ok-kept.kept) c.ports.ensures c.in_ok-kept.ensures

pub returns : goal.returns
returns g c net numbers ok view regions first rows grew =
    let names = region_rows net in
    let tables = table_rows net in
    let lans = lan_rows net in
    let vlans = vlans_rows net in
    let all =
    ap (λ (l : List Row). l ++ lans ++ vlans) (append_assoc rows names tables)
    ∙ ap (λ (l : List Row). l ++ vlans) (append_assoc rows (names ++ tables) lans)
    ∙ append_assoc rows (names ++ tables ++ lans) vlans in
    subst (λ (told : List Row). OnOk c.put_links.result (g.R.Rows.grew first c.put_links.new.out told)) all
    (c.put_links.ensures net numbers view first _
    (c.in_ok-put_slow_lans.ensures net numbers view first _
    (c.in_ok-put_odd_tables.ensures net numbers ok view regions first _
    (c.in_ok-put_near_regions.ensures net numbers ok view regions first rows grew))))
