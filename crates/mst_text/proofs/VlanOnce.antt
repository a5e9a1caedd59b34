-- The rows of a VID: there are some, and one list only.
use Rattle.std.proofs.Common.{◌≡◌, ℕ, List, ◌∷◌, refl, sym, ap, ◌∙◌}
use Rattle.mst_graph.specs.Islands.{Island}
use Rattle.mst_tables.specs.Tables.{Net}
use Rattle.mst_rows.specs.Rows.{Row}
use Rattle.mst_vlan.specs.forest.Outcome.{Outcome}
use Rattle.mst_vlan.specs.Reach.{AreIslandsOf}
use Rattle.mst_text.specs.VlanRows.{heading}
use Rattle.mst_text.specs.VlanText.{body_rows, alone, AreBodyRows, AreVlanRows}

module _ (net : Net) (o : Outcome) (vid : ℕ) where
  -- a VID has these islands, and one list only
  module _ (islands : List (Island (List ℕ) (List ℕ))) (are : AreIslandsOf net o vid islands) where
    pub has_body : (runs : List (ℕ × ℕ)) → (body : List Row) × AreBodyRows net o vid runs body
    has_body runs = (body_rows net o vid runs islands, (islands, are, refl))

    pub has_vlan : (rows : List Row) × AreVlanRows net o vid rows
    has_vlan = let body = has_body (alone vid) in (heading (alone vid) ∷ body.0, (body.0, body.1, refl))

  module _ (one : (islands others : List (Island (List ℕ) (List ℕ))) → AreIslandsOf net o vid islands → AreIslandsOf net o vid others → islands ≡ others) where
    pub one_body : (runs : List (ℕ × ℕ)) (body other : List Row) → AreBodyRows net o vid runs body → AreBodyRows net o vid runs other → body ≡ other
    one_body runs body other a b = a.2 ∙ ap (body_rows net o vid runs) (one a.0 b.0 a.1 b.1) ∙ sym b.2

    pub one_vlan : (rows other : List Row) → AreVlanRows net o vid rows → AreVlanRows net o vid other → rows ≡ other
    one_vlan rows other a b = a.2 ∙ ap (λ (body : List Row). heading (alone vid) ∷ body) (one_body (alone vid) a.0 b.0 a.1 b.1) ∙ sym b.2
