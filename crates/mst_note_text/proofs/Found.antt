-- The depths that are found by places are those of the bridges in the tree.
use Rattle.std.proofs.Common.{◌≡◌, ℕ, ◌<◌, List, length, Option, subst, arith}
use Rattle.std.specs.Prelude.{Result, Ok, Err}
use Rattle.std.specs.Result.{IfOk}
use Rattle.mst_tables.specs.Tables.{Net, Numbers}
use Rattle.mst_view.specs.Viewed.{Viewed}
use Rattle.mst_roles.specs.forest.Agrees.{AreOf}
use Rattle.mst_roles.specs.forest.Forest.{IsForest, Forest}
use Rattle.mst_roles.specs.forest.Outcome.{trees_of}
use Rattle.mst_roles.specs.forest.nested.Trees.{IsSettled}
use Rattle.mst_note_text.specs.Depths.{InternalDepth, ExternalDepth}
use Rattle.mst_note_text.specs.Places.{HasDepths, depths_at}
use Rattle.mst_note_text.specs.Places as by_place
use Rattle.mst_note_text.specs.Listed.{IsListed}
use Rattle.mst_note_text.specs.declared.parent.Parent.{Parent}
use Rattle.mst_note_text.specs.declared.parent.Depths.{Depths}
use Rattle.mst_note_text.proofs.Listed.{forest, internal, external}
use Rattle.mst_note_text.specs.declared.member.Member.{Member}
use Rattle.mst_note_text.specs.Parents.{AreGiven}
use Rattle.mst_note_text.specs.Placed.{ArePlaces}
use Rattle.mst_note_text.specs.SeenTree.{members_in, name_at, given}
use Rattle.mst_note_text.proofs.InTrees.{in_tree}
use Rattle.mst_note_text.proofs.Listing.{is_listed}
use Rattle.mst_note_text.proofs.Names.{name_tests}

pub if_ok : {T E : Type 0} (r : Result T E) (P Q : T → Type 0) → ((x : T) → P x → Q x) → IfOk r P → IfOk r Q
if_ok (Ok x) P Q f h = f x h
if_ok (Err e) P Q f h = tt

-- what the ports of a view and a forest give is what those of the same view and forest give
pub same_given : (v w : Viewed) (f g : Forest) → v ≡ w → f ≡ g → (tree : ℕ) (places : List (ℕ × ℕ)) (count : ℕ) (parents : List (Option Parent)) → AreGiven (given v f tree places) v.ports v.ports count parents → AreGiven (given w g tree places) w.ports w.ports count parents
same_given v w f g same_view same_forest tree places count parents gave =
    subst (λ (x : Viewed). AreGiven (given x g tree places) x.ports x.ports count parents) same_view (subst (λ (h : Forest). AreGiven (given v h tree places) v.ports v.ports count parents) same_forest gave)

module _ (v : Viewed) (f : Forest) (tree : ℕ) (members : List Member) (are : members ≡ members_in v f tree) (places : List (ℕ × ℕ)) (placed : ArePlaces (λ (m : Member). m.number) members places)
    (parents : List (Option Parent)) (gave : AreGiven (given v f tree places) v.ports v.ports (length members) parents)
    (net : Net) (numbers : Numbers) (is : IsForest net numbers f) (of : AreOf net numbers v f.regions) (settled : IsSettled (trees_of net is.outcome)) where
  listed : IsListed (trees_of net is.outcome) tree (name_at members) parents
  listed = is_listed net numbers v f is.outcome of tree (in_tree net numbers v f of is settled tree) members are places placed parents gave

  pub is_forest : by_place.IsForest parents
  is_forest = forest (trees_of net is.outcome) name_tests settled (name_at members) parents tree listed

  module _ (found : List Depths) (each : (n : ℕ) → n < length parents → HasDepths parents n (depths_at found n)) where
    pub internal_found : (n : ℕ) → n < length members → InternalDepth (trees_of net is.outcome) tree (name_at members n) (depths_at found n).internal
    internal_found n low =
        let long = gave.long in
        let here : n < length parents = omega arith in
        internal (trees_of net is.outcome) name_tests settled (name_at members) parents tree listed n (depths_at found n) here (each n here)

    pub external_found : tree ≡ 0 → (n : ℕ) → n < length members → ExternalDepth (trees_of net is.outcome) (name_at members n) (depths_at found n).external
    external_found zero n low =
        let long = gave.long in
        let here : n < length parents = omega arith in
        external (trees_of net is.outcome) name_tests settled (name_at members) parents (subst (λ t. IsListed (trees_of net is.outcome) t (name_at members) parents) zero listed) n (depths_at found n) here (each n here)
