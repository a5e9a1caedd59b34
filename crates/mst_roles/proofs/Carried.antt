-- Walks over other edges with the same ends.
use Rattle.std.proofs.Common.{◌≡◌, inl, inr, ◌∙◌}
use Rattle.mst_graph.specs.Walks.{Ends, Links, Walk, stay, along}

module _ {N E F : Type 0} (g : Ends N E) (h : Ends N F) where
  same_links : (e : E) (d : F) (a b : N) → h.from d ≡ g.from e → h.to d ≡ g.to e → Links g e a b → Links h d a b
  same_links e d a b s t l = elim l [ inl x ↦ inl (s ∙ x.0, t ∙ x.1) | inr x ↦ inr (t ∙ x.0, s ∙ x.1) ]

  -- an edge of one kind with the ends of an edge
  pub record HasEnds (Q : F → Type 0) (e : E) : Type 0 where
    pub edge : F
    pub kind : Q edge
    pub from : h.from edge ≡ g.from e
    pub to : h.to edge ≡ g.to e

  pub carried : {P : E → Type 0} {Q : F → Type 0} → ((e : E) → P e → HasEnds Q e) → {a b : N} → Walk g P a b → Walk h Q a b
  carried f stay = stay
  carried f (along {a = a} {b = b} e p l rest) = let d = f e p in along d.edge d.kind (same_links e d.edge a b d.from d.to l) (carried f rest)
