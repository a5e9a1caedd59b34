-- The priorities by what is seen of the bridges in question are those by their names.
use Rattle.std.proofs.Common.{◌≡◌, ◌&&◌, ◌==◌, ℕ, Bool, true, false, cond, nat_lt, not, List, [], ◌∷◌, map, Option, Some, None, refl, sym, ap, ◌∙◌}
use Rattle.std.specs.Prelude.{if◌then◌else◌}
use Rattle.std.specs.List.{AllByRecursion, Contains, cons_option, filter, filter_map, list_all}
use Rattle.std.specs.Option.{option_map_or}
use Rattle.std.specs.FinMap as fin
use Rattle.mst_graph.proofs.Members.{from_filter}
use Rattle.mst_ids.specs.Identifiers.{bridge_id}
use Rattle.mst_view.specs.Aggregation.{same_name}
use Rattle.mst_net.specs.tables.ByTree.{by_tree}
use Rattle.mst_net.specs.tables.Tables.{Net, BridgeRow}
use Rattle.mst_roles.specs.forest.InUse.{id_in}
use Rattle.mst_roles.specs.forest.Outcome.{Outcome}
use Rattle.mst_roles.proofs.forest_lemmas.Entries.{all_weaker}
use Rattle.mst_roles.proofs.forest_lemmas.Lists.{all_contained, all_there, filter_mapped, mapped_twice}
use Rattle.mst_roles.proofs.forest_lemmas.Looking.{filter_alike}
use Rattle.mst_roles.proofs.forest_lemmas.Views.{bridges_are}
use Rattle.mst_verify.specs.summary.declared.roots.Follower.{Follower}
use Rattle.mst_verify.proofs.summary_lemmas.Lists.{all_mapped}
use Rattle.mst_verify.specs.tree_judges.judged.reasons.Roots.{identifier}
use Rattle.mst_verify.specs.tree_judges.Seen.{concerned_followers}
use Rattle.mst_verify.proofs.tree_judges_lemmas.RootsTold.{follows, names_are}
use Rattle.mst_advise.specs.Hindrances.{apart_by, names_root}
use Rattle.mst_advise.specs.Priorities.{before_best, comes_first, greatest_priority, greatest_upto, others}
use Rattle.mst_advise.specs.Seen.{ids_of, seen_apart, seen_first, seen_next, seen_others}
use Rattle.mst_advise.specs.declared.setting.Setting.TheVariants.{Priority}

-- tests that agree on each
all_alike : {A : Type 0} (f g : A → Bool) (xs : List A) → AllByRecursion (λ x. f x ≡ g x) xs → list_all f xs ≡ list_all g xs
all_alike f g [] h = refl
all_alike f g (x ∷ xs) h = let first = h.0 in let rest = all_alike f g xs h.1 in λ i. first i && rest i

-- those that pass a test, changed
kept_passing : {A B : Type 0} (test : A → Bool) (f : A → B) (xs : List A) → filter_map (λ x. if test x then Some (f x) else None) xs ≡ map f (filter test xs)
kept_passing test f [] = refl
kept_passing {A} {B} test f (x ∷ xs) = go (test x) (kept_passing test f xs)
  where
    go : (b : Bool) → filter_map (λ x. if test x then Some (f x) else None) xs ≡ map f (filter test xs)
        → cons_option (if b then Some (f x) else None) (filter_map (λ x. if test x then Some (f x) else None) xs) ≡ map f (cond b (x ∷ filter test xs) (filter test xs))
    go true e = ap (λ ys. f x ∷ ys) e
    go false e = e

module _ (net : Net) (o : Outcome) (tree : ℕ) (b : List ℕ) where
  abbrev fs : List Follower
  fs = seen_others net o tree b

  abbrev name : Follower → List ℕ
  name f = f.name

  names : map name fs ≡ others net o tree b
  names = sym (filter_mapped (λ (c : List ℕ). not (same_name c b)) name (concerned_followers net o tree b)) ∙ ap (filter (λ (c : List ℕ). not (same_name c b))) (names_are net o tree b)

  -- each has its identifier
  own : (f : Follower) → Contains fs f → f.id ≡ identifier net tree f.name
  own f h =
      let w = follows net o tree b f (from_filter (λ (f : Follower). not (same_name f.name b)) (concerned_followers net o tree b) f h).0 in
      let row : fin.get net.bridges f.name ≡ Some w.row = all_contained (λ (e : List ℕ × BridgeRow). fin.get net.bridges e.0 ≡ Some e.1) (fin.entries net.bridges) (f.name, w.row) (bridges_are net) w.there in
      w.id ∙ ap (λ (r : Option BridgeRow). option_map_or (id_in (by_tree net) tree f.name) r 0) (sym row)

  module _ (mac : ℕ) where
    pub first_same : (p : ℕ) → seen_first tree mac (ids_of fs) p ≡ comes_first net tree mac (others net o tree b) p
    first_same p =
        all_mapped (λ id. nat_lt (bridge_id p tree mac) id) (λ (f : Follower). f.id) fs
        ∙ all_alike (λ (f : Follower). nat_lt (bridge_id p tree mac) f.id) (λ (f : Follower). nat_lt (bridge_id p tree mac) (identifier net tree f.name)) fs
        (all_weaker (Contains fs) _ (λ f h. ap (λ id. nat_lt (bridge_id p tree mac) id) (own f h)) fs (all_there fs))
        ∙ sym (all_mapped (λ (c : List ℕ). nat_lt (bridge_id p tree mac) (identifier net tree c)) name fs)
        ∙ ap (list_all (λ (c : List ℕ). nat_lt (bridge_id p tree mac) (identifier net tree c))) names

    pub greatest_same : greatest_upto (seen_first tree mac (ids_of fs)) 15 ≡ greatest_priority net tree mac (others net o tree b)
    greatest_same = λ i. greatest_upto (λ p. first_same p i) 15

    pub next_same : filter_map (seen_next tree (bridge_id 0 tree mac)) fs ≡ map (λ (c : List ℕ). Priority c tree 1) (before_best net tree mac (others net o tree b))
    next_same =
        kept_passing (λ (f : Follower). nat_lt f.id (bridge_id 0 tree mac)) (λ (f : Follower). Priority f.name tree 1) fs
        ∙ ap (map (λ (f : Follower). Priority f.name tree 1))
        (filter_alike (λ (f : Follower). nat_lt f.id (bridge_id 0 tree mac)) (λ (f : Follower). nat_lt (identifier net tree f.name) (bridge_id 0 tree mac)) fs
        (all_weaker (Contains fs) _ (λ f h. ap (λ id. nat_lt id (bridge_id 0 tree mac)) (own f h)) fs (all_there fs)))
        ∙ sym (mapped_twice (λ (c : List ℕ). Priority c tree 1) name (filter (λ (f : Follower). nat_lt (identifier net tree f.name) (bridge_id 0 tree mac)) fs))
        ∙ ap (map (λ (c : List ℕ). Priority c tree 1)) (sym (filter_mapped (λ (c : List ℕ). nat_lt (identifier net tree c) (bridge_id 0 tree mac)) name fs))
        ∙ ap (λ cs. map (λ (c : List ℕ). Priority c tree 1) (filter (λ (c : List ℕ). nat_lt (identifier net tree c) (bridge_id 0 tree mac)) cs)) names

  -- ---- those that have another root
  apart_seen_by : (id : ℕ) (f : Follower) → Contains (concerned_followers net o tree b) f → not (f.root == id) ≡ not (names_root net o tree id f.name)
  apart_seen_by id f h = ap (λ (root : Option ℕ). not (option_map_or (λ root. root == id) root false)) (sym (follows net o tree b f h).root)

  pub apart_seen : (id : ℕ) → filter_map (seen_apart id) (concerned_followers net o tree b) ≡ apart_by net o tree b id
  apart_seen id =
      let all = concerned_followers net o tree b in
      kept_passing (λ (f : Follower). not (f.root == id)) name all
      ∙ ap (map name) (filter_alike (λ (f : Follower). not (f.root == id)) (λ (f : Follower). not (names_root net o tree id f.name)) all (all_weaker (Contains all) _ (apart_seen_by id) all (all_there all)))
      ∙ sym (filter_mapped (λ (c : List ℕ). not (names_root net o tree id c)) name all)
      ∙ ap (filter (λ (c : List ℕ). not (names_root net o tree id c))) (names_are net o tree b)
