use Rattle.std.proofs.Common.{◌∷◌, [], ℕ, List, Option, refl, ap, subst}
use Rattle.std.specs.Option.{option_map}
use Rattle.mst_rows.specs.Rows.{Row}
use Rattle.mst_advise.specs.Told.{because_row, none_row}
use Rattle.mst_advise.specs.Advising.{TriesRoot}
use Rattle.mst_sweeping.specs.Sweeping.{Puts}
use Rattle.mst_advise.proofs.Tried.{put_then}
use Rattle.mst_advise.proofs.advising.advise_root.Goals as goal

pub returns-in-None : goal.returns-in-None
returns-in-None g c is =
    let said = subst (λ (apart : Option (List (List ℕ))). (rows : List Row) × TriesRoot c.args.tree c.args.bridge.now c.args.network.now.net is.forest.outcome c.args.settings.now apart rows × Puts g.R.Rows.grew c.args.out.now c.try_root.new.out rows)
    (ap (option_map (λ names. names.items)) c.in-None.is) (c.in_ok-tried.ensures is) in
    (said.0, record { before = []; settings = c.args.settings.now; behind = []; among = refl; fail = tt; brings = said.1; counted = refl }, said.2)

pub returns-in_ok-put_nothing-in-Some : goal.returns-in_ok-put_nothing-in-Some
returns-in_ok-put_nothing-in-Some g c is =
    let grew = g.R.Rows.grew in
    let hindrance = c.args.hindrance.now in
    let apart : List (List ℕ) = c.in-Some.apart.items in
    let said = subst (λ (apart : Option (List (List ℕ))). (rows : List Row) × TriesRoot c.args.tree c.args.bridge.now c.args.network.now.net is.forest.outcome c.args.settings.now apart rows × Puts grew c.args.out.now c.try_root.new.out rows)
    (ap (option_map (λ names. names.items)) c.in-Some.is) (c.in_ok-tried.ensures is) in
    let silent = subst (λ (rows : List Row). Puts grew c.args.out.now c.try_root.new.out rows) said.1.2 said.2 in
    let rows : List Row = because_row hindrance c.as_slice.result.now 1 ∷ none_row ∷ [] in (
      rows,
      record {
        fail = (said.1.0, tt);
        apart = apart;
        are_apart = said.1.1;
        are = λ i. because_row (c.requires.hindrance i) (c.as_slice.ensures.value i) 1 ∷ none_row ∷ [];
      },
      put_then grew c.args.out.now c.try_root.new.out c.put_nothing.new.out [] rows silent c.in_ok-put_nothing-in-Some.ensures,
    )
