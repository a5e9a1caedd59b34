-- Each tree of a network has a list of its bridges with their parents, and how many steps to parents there are from each.
use Rattle.std.proofs.Common.{◌≡◌, ◌⊎◌, inl, inr, ℕ, zero, suc, List, [], ◌∷◌, map, Option, Some, None, MatchOption, refl, sym, subst, ◌∙◌}
use Rattle.std.specs.FinMap as fin
use Rattle.std.specs.List.{AllByRecursion, Contains}
use Rattle.mst_ids.specs.declared.name.PortName.{PortName}
use Rattle.mst_graph.specs.Groups.{IsThinned, nothing, kept, left_out}
use Rattle.mst_graph.proofs.Members.{here, there, cases, in_none}
use Rattle.mst_island_judges.specs.judged.reasons.note_text.Chains.{InternalChain, top, up, ExternalChain, last, within, across}
use Rattle.mst_island_judges.specs.judged.reasons.note_text.Children.{AreChildren, HasSteps, IsChild}
use Rattle.mst_island_judges.specs.judged.reasons.note_text.Depths.{ParentIn, ParentBetween, ParentWithin}
use Rattle.mst_island_judges.specs.judged.reasons.note_text.declared.children.Child.{Child}
use Rattle.mst_island_judges.proofs.judged_lemmas.reasons_lemmas.note_text_lemmas.Regions.{msti_region, parent_sides}
use Rattle.mst_island_judges.proofs.judged_lemmas.reasons_lemmas.note_text_lemmas.Tops.{external_depth, internal_depth}
use Rattle.mst_net.specs.tables.Tables.{Net, IsNetwork}
use Rattle.mst_roles.specs.forest.nested.Trees.{HasTree, IsSettled, Trees}
use Rattle.mst_roles.specs.forest.Outcome.{Outcome, trees_of}
use Rattle.mst_vector.specs.declared.cist.CistVector.{CistVector}
use Rattle.mst_vector.specs.declared.msti.MstiVector.{MstiVector}
use Rattle.mst_roles.proofs.forest_lemmas.Lists.{no_some}
use Rattle.mst_roles.proofs.Names.{tests}
use Rattle.mst_tree_judges.proofs.Keys.{tree_there}

module _ (net : Net) (ok : IsNetwork net) (o : Outcome) (settled : IsSettled (trees_of net o)) where
  abbrev f : Trees (List ℕ) (List ℕ) PortName
  f = trees_of net o

  -- a bridge has a tree just where it has a vector there
  has_or_not : (tree : ℕ) (name : List ℕ) → HasTree f tree name ⊎ (HasTree f tree name → ⊥)
  has_or_not zero name = go (o.cist.vector name) refl
    where
      go : (w : Option CistVector) → o.cist.vector name ≡ w → HasTree f 0 name ⊎ (HasTree f 0 name → ⊥)
      go None e = inr (λ h. let x = settled.cist.settled.has_vector name h.0 h.1 in no_some x.0 (sym e ∙ x.1))
      go (Some x) e = inl (settled.cist.settled.is_bridge name x e)
  has_or_not (suc i) name = go ((o.msti (suc i)).vector name) refl
    where
      go : (w : Option MstiVector) → (o.msti (suc i)).vector name ≡ w → HasTree f (suc i) name ⊎ (HasTree f (suc i) name → ⊥)
      go None e = inr (λ h. let x = (settled.msti i).settled.has_vector name h.0 h.1 in no_some x.0 (sym e ∙ x.1))
      go (Some x) e = inl ((settled.msti i).settled.is_bridge name x e)

  -- ---- steps to parents
  -- a chain of parents with so many steps, whatever regions it goes through
  record Chained (tree : ℕ) (root n : List ℕ) : Type 0 where
    steps : ℕ
    chain : InternalChain (ParentIn f tree) root n steps

  through : {root n : List ℕ} {d : ℕ} → ExternalChain (ParentWithin f 0) (ParentBetween f) root n d → Chained 0 root n
  through {root = root} (last none alone) = record { steps = 0; chain = top (λ k p. elim (parent_sides f tests settled root k p) [ inl w ↦ none k w | inr b ↦ alone k b ]) }
  through (within w c) = let r = through c in record { steps = suc r.steps; chain = up w.is_parent r.chain }
  through (across b c) = let r = through c in record { steps = suc r.steps; chain = up b.is_parent r.chain }

  inside : (i : ℕ) {root n : List ℕ} {d : ℕ} → InternalChain (ParentWithin f (suc i)) root n d → Chained (suc i) root n
  inside i {root = root} (top none) = record { steps = 0; chain = top (λ k p. none k (record { is_parent = p; same_region = msti_region f tests settled i root k p })) }
  inside i (up w c) = let r = inside i c in record { steps = suc r.steps; chain = up w.is_parent r.chain }

  has_steps : (tree : ℕ) (n : List ℕ) → HasTree f tree n → (steps : ℕ) × HasSteps f tree n steps
  has_steps zero n h = let d = external_depth f tests settled n h.0 h.1 in let c = through d.1.chain in (c.steps, record { has_tree = h; top = d.1.root; chain = c.chain })
  has_steps (suc i) n h = let d = internal_depth f tests settled (suc i) n h in let c = inside i d.1.chain in (c.steps, record { has_tree = h; top = d.1.root; chain = c.chain })

  module _ (tree : ℕ) where
    abbrev HasItsParent : List ℕ → Option (List ℕ) → Type 0
    HasItsParent n parent = MatchOption parent ((k : List ℕ) → ParentIn f tree n k → ⊥) (ParentIn f tree n)

    its_parent : {root n : List ℕ} {d : ℕ} → InternalChain (ParentIn f tree) root n d → (parent : Option (List ℕ)) × HasItsParent n parent
    its_parent (top none) = (None, none)
    its_parent (up {k = k} p c) = (Some k, p)

    child_of : (n : List ℕ) → HasTree f tree n → (c : Child) × (c.name ≡ n) × IsChild f tree c
    child_of n h =
        let s = has_steps tree n h in
        let p = its_parent s.1.chain in
        (record { name = n; parent = p.0; steps = s.0 }, refl, record { steps = s.1; parent = p.1 })

    abbrev name_of : Child → List ℕ
    name_of c = c.name

    -- ---- all of them
    record Listed (names : List (List ℕ)) : Type 0 where
      children : List Child
      each : AllByRecursion (IsChild f tree) children
      in_order : IsThinned (map name_of children) names
      all : (name : List ℕ) → Contains names name → HasTree f tree name → Contains (map name_of children) name

    listed : (names : List (List ℕ)) → Listed names
    listed [] = record { children = []; each = tt; in_order = nothing; all = λ name h _. absurd (in_none name h) }
    listed (n ∷ names) = go (has_or_not tree n) (listed names)
      where
        go : HasTree f tree n ⊎ (HasTree f tree n → ⊥) → Listed names → Listed (n ∷ names)
        go (inl h) rest =
            let c = child_of n h in record {
              children = c.0 ∷ rest.children;
              each = (c.2, rest.each);
              in_order = subst (λ m. IsThinned (m ∷ map name_of rest.children) (n ∷ names)) (sym c.1) (kept rest.in_order);
              all = λ name k has. elim (cases n name names k) [
                | inl same ↦ subst (Contains (map name_of (c.0 ∷ rest.children))) (c.1 ∙ same) (here c.0.name (map name_of rest.children))
                | inr a ↦ there c.0.name name (map name_of rest.children) (rest.all name a has)
              ];
            }
        go (inr none) rest = record {
          children = rest.children;
          each = rest.each;
          in_order = left_out rest.in_order;
          all = λ name k has. elim (cases n name names k) [
            | inl same ↦ absurd (none (subst (HasTree f tree) (sym same) has))
            | inr a ↦ rest.all name a has
          ];
        }

    pub has_children : (children : List Child) × AreChildren f tree (fin.keys net.bridges) children
    has_children =
        let l = listed (fin.keys net.bridges) in
        (l.children, record { each = l.each; in_order = l.in_order; all = λ name h. l.all name (tree_there net ok o tree name h) h })
