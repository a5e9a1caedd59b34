-- A network with another priority of a bridge in a tree: that one is set, and those of other bridges stay.
use Rattle.std.proofs.Common.{◌≡◌, ◌≢◌, ℕ, ◌==◌, ◌&&◌, Bool, true, false, cond, nat_eq, List, Option, Some, None, Ok, Err, Result, refl, sym, ap, ◌∙◌, true≢false, eq-eqb}
use Rattle.std.specs.Prelude.{if◌then◌else◌}
use Rattle.std.specs.Option.{option_map_or, unwrap_or}
use Rattle.std.specs.Cmp.Lexicographic.{bytes_decides}
use Rattle.std.specs.FinMap as fin
use Rattle.std.proofs.lemmas.Bool.{eqb-true}
use Rattle.mst_view.specs.Aggregation.{same_name}
use Rattle.mst_lang.specs.declared.line.Edit.TheVariants.{SetByTree}
use Rattle.mst_lang.specs.declared.line.TreeChange.TheVariants.{Priority}
use Rattle.mst_tables.specs.After.{effect, own_priority}
use Rattle.mst_tables.specs.ByTree.{priority_in}
use Rattle.mst_tables.specs.Tables.{Net, BridgeTree, bridge_tree_eq}
use Rattle.mst_tables.specs.declared.refusal.Refusal.{Refusal}
use Rattle.mst_tables.proofs.Keyed.{get_kept}
use Rattle.mst_tables.proofs.Keys.{bridge_trees}
use Rattle.mst_advise_laws.proofs.OwnRoot.{IsIn}

-- an edit that isn't refused has its effect
pub effect_is : (was made now : Net) (refusal : Option Refusal) → option_map_or Err refusal (Ok made) ≡ Ok now → made ≡ now
effect_is was made now None e = ap net_in e
  where
    net_in : Result Net Refusal → Net
    net_in (Ok net) = net
    net_in (Err refusal) = was
effect_is was made now (Some refusal) e = absurd (true≢false (sym (ap is_ok e)))
  where
    is_ok : Result Net Refusal → Bool
    is_ok (Ok net) = true
    is_ok (Err refusal) = false

own_of : (q : ℕ) → unwrap_or (own_priority q) 8 ≡ q
own_of q = go (q == 8) refl
  where
    go : (t : Bool) → (q == 8) ≡ t → unwrap_or (if t then None else Some q) 8 ≡ q
    go true e = sym (eqb-true q 8 e)
    go false e = refl

module _ (net : Net) (b : List ℕ) (tree q : ℕ) where
  abbrev pub with_priority : Net
  with_priority = effect (SetByTree (Priority b tree q)) net

  abbrev key : List ℕ → BridgeTree
  key c = record { bridge = c; tree = tree }

  pub own_set : priority_in with_priority.priorities b tree ≡ q
  own_set = ap (λ o. unwrap_or o 8) (get_kept bridge_trees net.priorities (key b) (own_priority q) (key b) ∙ ap (λ t. cond t (own_priority q) (fin.get net.priorities (key b))) itself) ∙ own_of q
    where
      itself : bridge_tree_eq (key b) (key b) ≡ true
      itself = λ i. (bytes_decides b b).1 refl i && eq-eqb tree tree refl i

  pub others_stay : (c : List ℕ) → c ≢ b → priority_in with_priority.priorities c tree ≡ priority_in net.priorities c tree
  others_stay c other = ap (λ o. unwrap_or o 8) (get_kept bridge_trees net.priorities (key b) (own_priority q) (key c) ∙ ap (λ t. cond t (own_priority q) (fin.get net.priorities (key c))) (differ (same_name b c) refl))
    where
      differ : (t : Bool) → same_name b c ≡ t → bridge_tree_eq (key b) (key c) ≡ false
      differ true e = absurd (other (sym ((bytes_decides b c).0 e)))
      differ false e = ap (λ t. t && nat_eq tree tree) e

  abbrev pub stays_in : (t : ℕ) (c : List ℕ) → IsIn net t c → IsIn with_priority t c
  stays_in t c x = record { row = x.row; has_row = x.has_row; is_on = x.is_on; has_tree = x.has_tree }
