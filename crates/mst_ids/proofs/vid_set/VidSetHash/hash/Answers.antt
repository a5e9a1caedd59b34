use Rattle.std.proofs.Common.{◌≡◌, List, ℕ, length, ap, sym, ◌∙◌}
use Rattle.std.specs.Hash as fed
use Rattle.std.specs.List.{fold, flat_map}
use Rattle.mst_ids.specs.VidBits.{words_of, words_of-set_where}
use Rattle.mst_ids.proofs.vid_set.VidSetHash.hash.Goals as goal

pub returns : goal.returns
returns g c =
    let kept : words_of c.args.self.now ≡ c.self.inside.words =
    ap words_of (sym c.self.view_is) ∙ words_of-set_where c.self.inside.words c.self.invariant.long c.self.invariant.fits in
    let same : c.as_slice.result.now ≡ words_of c.args.self.now = c.as_slice.ensures ∙ sym kept in
    c.hash.ensures ∙ ap (λ (words : List ℕ). fold g.H.Hasher.write (g.H.Hasher.write c.args.state.now (fed.le_bytes 8 (length words))) (flat_map fed.u64 words)) same
