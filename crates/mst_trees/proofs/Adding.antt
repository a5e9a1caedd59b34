-- A wiring and bridges that are built one after another.
use Rattle.std.proofs.Common.{◌≡◌, ◌≢◌, ℕ, List, [], ◌∷◌, ◌++◌, refl, sym, ap, subst, ◌∙◌, append_assoc}
use Rattle.std.specs.List.{Contains}
use Rattle.std.proofs.lemmas.List.{append-nil}
use Rattle.mst_forest.specs.topology.Topology.{TreePort}
use Rattle.mst_forest.specs.Apart.{Apart}
use Rattle.mst_trees.specs.Wirings.{HaveNumbers}
use Rattle.mst_forest.proofs.Lists.{apart_before}

-- an element moves from those that are left to those that are there
pub moved : {A : Type 0} (there left all : List A) (x : A) → there ++ x ∷ left ≡ all → (there ++ x ∷ []) ++ left ≡ all
moved there left all x e = append_assoc there (x ∷ []) left ∙ e

-- and in the end none is left
pub none_left : {A : Type 0} (there left all : List A) → left ≡ [] → there ++ left ≡ all → there ≡ all
none_left there left all none e = sym (append-nil there) ∙ ap (λ r. there ++ r) (sym none) ∙ e

-- the number of the next port is new
pub new_port : {P : Type 0} (there left all : List (TreePort ℕ ℕ ℕ P)) (port : TreePort ℕ ℕ ℕ P) → HaveNumbers all → there ++ port ∷ left ≡ all → (p : TreePort ℕ ℕ ℕ P) → Contains there p → p.number ≢ port.number
new_port {P} there left all port numbers e p h =
    apart_before (λ (p q : TreePort ℕ ℕ ℕ P). p.number ≢ q.number) there left p port (subst (Apart (λ (p q : TreePort ℕ ℕ ℕ P). p.number ≢ q.number)) (sym e) numbers) h

-- and so is that of the next bridge
pub new_bridge : {B : Type 0} (there left all : List (ℕ × B)) (n : ℕ) (bridge : B) → Apart (λ (a b : ℕ × B). a.0 ≢ b.0) all → there ++ (n, bridge) ∷ left ≡ all → (b : B) → Contains there (n, b) → ⊥
new_bridge {B} there left all n bridge numbers e b h =
    apart_before (λ (a b : ℕ × B). a.0 ≢ b.0) there left (n, b) (n, bridge) (subst (Apart (λ (a b : ℕ × B). a.0 ≢ b.0)) (sym e) numbers) h refl
