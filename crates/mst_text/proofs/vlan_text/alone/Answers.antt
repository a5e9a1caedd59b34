use Rattle.std.proofs.Common.{◌||◌, ◌≤◌, ◌∙◌, ℕ, ap, subst}
use Rattle.mst_ids.specs.Vids.{has, is_within, runs_from, set_where}
use Rattle.mst_text.proofs.VidAlone.{one_run}
use Rattle.mst_text.proofs.vlan_text.alone.Goals as goal

pub returns : goal.returns
returns c =
    let vid = c.args.vid in
    let range = subst (λ (n : ℕ). (1 ≤ n) × (n ≤ 4094)) c.value-number.ensures.value c.value-number.ensures.range in
    ap (runs_from 0) (c.insert.ensures ∙ ap (λ vids. set_where (λ n. has vids n || is_within (vid, vid) n)) c.none-vids.ensures) ∙ one_run vid range.0 range.1
