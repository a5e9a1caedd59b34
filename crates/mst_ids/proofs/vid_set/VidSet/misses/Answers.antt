use Rattle.std.proofs.Common.{◌≡◌, ℕ, slice_index_or, sym, ap, ◌∙◌}
use Rattle.std.proofs.lemmas.Bool.{eqb-true}
use Rattle.mst_ids.proofs.VidSetLemmas.{misses_word}
use Rattle.mst_ids.proofs.vid_set.VidSet.misses.Goals as goal

pub returns : goal.returns
returns c = λ e n at.
    let here : c.from.result ≡ c.args.block = c.from.ensures in
    let zeros : slice_index_or c.self.inside.words c.args.block 0 ≡ 0 = ap (λ (b : ℕ). slice_index_or c.self.inside.words b 0) (sym here) ∙ eqb-true (slice_index_or c.self.inside.words c.from.result 0) 0 e in
    misses_word c.args.self.now c.self.inside.words c.args.block n c.self.view_is c.requires zeros at
