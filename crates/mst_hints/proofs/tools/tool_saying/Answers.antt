use Rattle.std.proofs.Common.{◌∙◌, ◌≡◌, ◌∷◌, List, ℕ, Bor, map, ap}
use Rattle.std.specs.Option.{option_map}
use Rattle.std.specs.Prelude.{Option}
use Rattle.mst_lang.specs.Words.{words}
use Rattle.mst_hints.specs.Tools.{sayings}
use Rattle.mst_hints.proofs.Said.{said_found, saying_entry}
use Rattle.mst_hints.proofs.tools.tool_saying.Goals as goal

pub returns : goal.returns
unfolding sayings
returns c =
    let same : map saying_entry c.as_slice.result.now ≡ sayings = ap (map saying_entry) c.as_slice.ensures in
    ap (λ (o : Option (Bor (List ℕ))). option_map (λ (text : Bor (List ℕ)). text.now) o) c.first_among.ensures
    ∙ said_found (c.args.word.now ∷ words c.args.behind.now) c.as_slice.result.now sayings same
