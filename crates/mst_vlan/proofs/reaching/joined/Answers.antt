use Rattle.std.proofs.Common.{◌≡◌, map, filter, sym, ap, subst, ◌∙◌}
use Rattle.mst_graph.specs.Islands.{HaveEnds}
use Rattle.mst_vlan.specs.Seen.{seen_bridges, seen_lans, seen_link, seen_links, seen_member}
use Rattle.mst_vlan.proofs.Listed.{seen_have}
use Rattle.mst_vlan.proofs.reaching.joined.Goals as goal

pub islands-requires : goal.islands-requires
islands-requires c =
    let v = c.args.view.now in
    let bridges : c.as_slice.result.now ≡ seen_bridges v = c.as_slice.ensures.value ∙ c.in_ok-bridges.ensures in
    let lans : c.as_slice-2.result.now ≡ seen_lans v = c.as_slice-2.ensures.value ∙ c.in_ok-lans.ensures in
    let links : c.as_slice-3.result.now ≡ seen_links v c.args.forest.now c.args.vid = c.as_slice-3.ensures.value ∙ c.in_ok-links.ensures ∙ ap (λ ps. map seen_link (filter (seen_member v c.args.vid) ps)) c.requires.active in
    subst (λ bs. HaveEnds bs c.as_slice-2.result.now c.as_slice-3.result.now) (sym bridges)
    (subst (λ ls. HaveEnds (seen_bridges v) ls c.as_slice-3.result.now) (sym lans)
    (subst (λ ks. HaveEnds (seen_bridges v) (seen_lans v) ks) (sym links) (seen_have c.requires.known.net c.requires.known.numbers v c.args.forest.now c.requires.known.of c.args.vid)))
