-- Where no link that joined bridges goes, a VID has no parts.
use Rattle.std.proofs.Common.{◌≡◌, ℕ, ◌<◌, Bool, true, false, List, [], length, get_or, refl, sym, subst, ◌∙◌}
use Rattle.std.specs.List.{Contains}
use Rattle.std.proofs.lemmas.List.{get_or_default}
use Rattle.mst_graph.specs.Islands.{Island}
use Rattle.mst_net.specs.tables.Tables.{Net, Numbers}
use Rattle.mst_view.specs.Viewed.{Viewed}
use Rattle.mst_vlan.specs.forest.Agrees.{AreOf}
use Rattle.mst_vlan.specs.forest.Forest.{Forest, IsForest}
use Rattle.mst_vlan.specs.Reach.{vid_links, AreIslandsOf}
use Rattle.mst_sweep.specs.Parts.{AreParts}
use Rattle.mst_sweep.specs.Touched.{AreTouched, ArePlaces, AreWhereTouched, BreakNoLinks}
use Rattle.mst_sweep.specs.Left.{AreLeft}
use Rattle.mst_sweep.proofs.KeptLinks.{kept_or_alone}
use Rattle.mst_sweep.proofs.StillJoined.{no_parts, still_joined}

-- the ports that are touched stand where their flags are set
pub where_touched : (v w : Viewed) (f g : Forest) (flags : List Bool) (places : List ℕ) → length flags ≡ length v.ports → AreTouched v f w g flags → ArePlaces flags places → AreWhereTouched v f w g places
where_touched v w f g flags places long touched are = λ place other x y l is_x is_y. touched place (off place other (subst (λ n. place < n) (sym long) l)) x y l is_x is_y
  where
    off : (place : ℕ) → (Contains places place → ⊥) → place < length flags → get_or flags place true ≡ false
    off place other l = go (get_or flags place false) refl
      where
        go : (b : Bool) → get_or flags place false ≡ b → get_or flags place true ≡ false
        go true e = absurd (other (are place e))
        go false e = get_or_default flags place true false l ∙ e

module _ (a b : Net) (n k : Numbers) (v w : Viewed) (f g : Forest) (of : AreOf a n v f.regions) (so : AreOf b k w g.regions) (is : IsForest a n f) (are : IsForest b k g) (left : AreLeft a b)
    (vid : ℕ) (places : List ℕ) (keep : AreWhereTouched v f w g places) (none : BreakNoLinks v f w g vid places) where
  pub no_parts_of : (olds news : List (Island (List ℕ) (List ℕ))) → AreIslandsOf a is.outcome vid olds → AreIslandsOf b are.outcome vid news → AreParts a is.outcome b are.outcome vid []
  no_parts_of olds news first second = (
    olds,
    news,
    first,
    second,
    sym (no_parts a b is.outcome are.outcome vid olds news first second
        (still_joined (vid_links a is.outcome vid) (vid_links b are.outcome vid) (kept_or_alone a b n k v w f g of so is are left vid places keep none))),
  )
