-- A network with several priorities of bridges in a tree.
use Rattle.std.proofs.Common.{◌≡◌, ◌≢◌, ◌⊎◌, ℕ, Bool, true, false, true≢false, List, [], ◌∷◌, ◌++◌, map, fold, Option, None, Some, Result, Ok, Err, refl, sym, ap, subst, ◌∙◌, ⊎_elim}
use Rattle.std.specs.List.{AllByRecursion, Contains}
use Rattle.std.specs.Option.{option_map_or}
use Rattle.std.specs.Cmp.Lexicographic.{bytes_decides}
use Rattle.std.specs.FinMap as fin
use Rattle.mst_graph.specs.Groups.{StandOnce}
use Rattle.mst_graph.proofs.Members.{cases, here, in_none, there}
use Rattle.mst_view.specs.Aggregation.{same_name}
use Rattle.mst_lang.specs.declared.line.Edit.TheVariants.{SetByTree}
use Rattle.mst_lang.specs.declared.line.TreeChange.TheVariants as change
use Rattle.mst_tables.specs.After.{effect, refusal_of}
use Rattle.mst_tables.specs.ByTree.{priority_in}
use Rattle.mst_tables.specs.Tables.{Net, bridge_tree_cmp}
use Rattle.mst_tables.specs.declared.refusal.Refusal.{Refusal}
use Rattle.mst_advise.specs.Made.{after_settings, then_set}
use Rattle.mst_advise.specs.Settings.{edit_of}
use Rattle.mst_advise.specs.declared.setting.Setting.{Setting}
use Rattle.mst_advise.specs.declared.setting.Setting.TheVariants.{Priority, PortPriority, ExternalCost, InternalCost}
use Rattle.mst_advise_laws.proofs.PrioritySet.{others_stay, own_set, with_priority}

-- ---- lists
abbrev some_there : {A : Type 0} → List A → Bool
some_there [] = false
some_there (x ∷ xs) = true

pub no_middle : {A : Type 0} (xs : List A) (y : A) (ys : List A) → [] ≡ xs ++ y ∷ ys → ⊥
no_middle [] y ys e = true≢false (sym (ap some_there e))
no_middle (x ∷ xs) y ys e = true≢false (sym (ap some_there e))

pub record IsParted {A B : Type 0} (f : A → B) (xs : List A) (before : List B) (y : B) (behind : List B) : Type 0 where
  pub front : List A
  pub it : A
  pub back : List A
  pub is : xs ≡ front ++ it ∷ back
  pub its : y ≡ f it
  pub rest : before ++ behind ≡ map f (front ++ back)

pub parted : {A B : Type 0} (f : A → B) (xs : List A) (before : List B) (y : B) (behind : List B) → map f xs ≡ before ++ y ∷ behind → IsParted f xs before y behind
parted f [] before y behind e = absurd (no_middle before y behind e)
parted f (x ∷ xs) [] y behind e = let first : y ≡ f x = cc in let more : behind ≡ map f xs = cc in record { front = []; it = x; back = xs; is = refl; its = first; rest = more }
parted f (x ∷ xs) (z ∷ before) y behind e =
    let first : z ≡ f x = cc in
    let more : map f xs ≡ before ++ y ∷ behind = cc in
    let r = parted f xs before y behind more in
    record { front = x ∷ r.front; it = r.it; back = r.back; is = ap (λ l. x ∷ l) r.is; its = r.its; rest = λ i. first i ∷ r.rest i }

pub in_middle : {A : Type 0} (xs : List A) (y : A) (ys : List A) → Contains (xs ++ y ∷ ys) y
in_middle [] y ys = here y ys
in_middle (x ∷ xs) y ys = there x y (xs ++ y ∷ ys) (in_middle xs y ys)

pub once_without : {A : Type 0} (xs : List A) (y : A) (ys : List A) → StandOnce (xs ++ y ∷ ys) → Contains (xs ++ ys) y → ⊥
once_without [] y ys h k = h.0 k
once_without (x ∷ xs) y ys h k =
    ⊎_elim (λ same. h.0 (subst (Contains (xs ++ y ∷ ys)) (sym same) (in_middle xs y ys))) (λ later. once_without xs y ys h.1 later) (cases x y (xs ++ ys) k)

-- ---- settings one after another
pub ok_is : (a b : Net) → ◌≡◌ {A = Result Net Refusal} (Ok a) (Ok b) → a ≡ b
ok_is a b e = ap net_in e
  where
    net_in : Result Net Refusal → Net
    net_in (Ok net) = net
    net_in (Err refused) = a

never_ok : (settings : List Setting) (refused : Refusal) (now : Net) → fold then_set (Err refused) settings ≡ Ok now → ⊥
never_ok [] refused now e = true≢false (sym (ap is_made e))
  where
    is_made : Result Net Refusal → Bool
    is_made (Ok net) = true
    is_made (Err other) = false
never_ok (s ∷ settings) refused now e = never_ok settings refused now e

first_made : (net now : Net) (s : Setting) (rest : List Setting) → after_settings net (s ∷ rest) ≡ Ok now → after_settings (effect (edit_of s) net) rest ≡ Ok now
first_made net now s rest e = go (refusal_of (edit_of s) net) e
  where
    go : (r : Option Refusal) → fold then_set (option_map_or Err r (Ok (effect (edit_of s) net))) rest ≡ Ok now → after_settings (effect (edit_of s) net) rest ≡ Ok now
    go None h = h
    go (Some refused) h = absurd (never_ok rest refused now h)

-- ---- priorities in a tree
-- a setting is of the priority of another bridge than C
abbrev pub Spares : ℕ → List ℕ → Setting → Type 0
Spares tree c (Priority x t q) = (t ≡ tree) × (x ≡ c → ⊥)
Spares tree c _ = ⊥

abbrev pub with_table : Net → fin.FinMap bridge_tree_cmp ℕ → Net
with_table net table = record net { priorities = table }

pub record IsSpared (net now : Net) (tree : ℕ) (c : List ℕ) : Type 0 where
  pub table : fin.FinMap bridge_tree_cmp ℕ
  pub is : now ≡ with_table net table
  pub stays : priority_in table c tree ≡ priority_in net.priorities c tree

pub spared : (tree : ℕ) (c : List ℕ) (settings : List Setting) → AllByRecursion (Spares tree c) settings → (net now : Net) → after_settings net settings ≡ Ok now → IsSpared net now tree c
spared tree c [] h net now e = record { table = net.priorities; is = sym (ok_is net now e); stays = refl }
spared tree c (Priority x t q ∷ rest) h net now e =
    let s = spared tree c rest h.1 (effect (edit_of (Priority x t q)) net) now (first_made net now (Priority x t q) rest e) in
    record {
      table = s.table;
      is = s.is;
      stays = s.stays ∙ subst (λ u. priority_in (effect (SetByTree (change.Priority x u q)) net).priorities c tree ≡ priority_in net.priorities c tree) (sym h.0.0) (others_stay net x tree q c (λ same. h.0.1 (sym same)));
    }
spared tree c (PortPriority p t q ∷ rest) h net now e = absurd h.0
spared tree c (ExternalCost p n ∷ rest) h net now e = absurd h.0
spared tree c (InternalCost p t n ∷ rest) h net now e = absurd h.0

-- ---- the next priority after the best one
abbrev pub next : ℕ → List ℕ → Setting
next tree c = Priority c tree 1

pub spares_next : (tree : ℕ) (c : List ℕ) (bridges : List (List ℕ)) → ((x : List ℕ) → Contains bridges x → x ≡ c → ⊥) → AllByRecursion (Spares tree c) (map (next tree) bridges)
spares_next tree c [] h = tt
spares_next tree c (x ∷ bridges) h = ((refl, h x (here x bridges)), spares_next tree c bridges (λ y k. h y (there x y bridges k)))

module _ (tree : ℕ) (c : List ℕ) where
  next_stays : (bridges : List (List ℕ)) (net now : Net) → after_settings net (map (next tree) bridges) ≡ Ok now → priority_in net.priorities c tree ≡ 1 → priority_in now.priorities c tree ≡ 1
  next_stays [] net now e h = ap (λ (n : Net). priority_in n.priorities c tree) (sym (ok_is net now e)) ∙ h
  next_stays (x ∷ bridges) net now e h = next_stays bridges (with_priority net x tree 1) now (first_made net now (next tree x) (map (next tree) bridges) e) (go (same_name c x) refl)
    where
      go : (t : Bool) → same_name c x ≡ t → priority_in (with_priority net x tree 1).priorities c tree ≡ 1
      go true s = subst (λ y. priority_in (with_priority net x tree 1).priorities y tree ≡ 1) (sym ((bytes_decides c x).0 s)) (own_set net x tree 1)
      go false s = others_stay net x tree 1 c (λ same. true≢false (sym ((bytes_decides c x).1 same) ∙ s)) ∙ h

  pub next_made : (bridges : List (List ℕ)) (net now : Net) → after_settings net (map (next tree) bridges) ≡ Ok now → Contains bridges c → priority_in now.priorities c tree ≡ 1
  next_made [] net now e h = absurd (in_none c h)
  next_made (x ∷ bridges) net now e h =
      let made = first_made net now (next tree x) (map (next tree) bridges) e in
      ⊎_elim (λ same. next_stays bridges (with_priority net x tree 1) now made (subst (λ y. priority_in (with_priority net x tree 1).priorities y tree ≡ 1) same (own_set net x tree 1)))
      (λ later. next_made bridges (with_priority net x tree 1) now made later) (cases x c bridges h)
