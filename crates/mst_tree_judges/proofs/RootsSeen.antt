-- What is told of roots, as it is seen: how many name each root, and which of three reasons there is.
use Rattle.std.proofs.Common.{◌≡◌, ℕ, suc, ◌+◌, ◌<◌, ◌≤◌, ◌==◌, nat_eq, Bool, true, false, cond, not, List, [], ◌∷◌, ◌++◌, length, map, take, get_or, Option, Some, refl, sym, ap, ◌∙◌, arith}
use Rattle.std.specs.Prelude.{unwrap_or, if◌then◌else◌}
use Rattle.std.specs.List.{cons_option, filter, filter_map, flat_map}
use Rattle.std.specs.Option.{option_map, option_map_or}
use Rattle.std.specs.FinMap as fin
use Rattle.std.proofs.lemmas.Bool.{eqb-true}
use Rattle.std.proofs.lemmas.List.{length-take, length_push}
use Rattle.mst_view.specs.Viewed.{named_bridge}
use Rattle.mst_view.specs.declared.in_view.BridgeInView.{BridgeInView}
use Rattle.mst_tables.specs.Tables.{Net, IsNetwork}
use Rattle.mst_roles.specs.forest.Outcome.{Outcome}
use Rattle.mst_graph.specs.Lists.{has_any}
use Rattle.mst_judged.specs.reasons.sweep.facts.Roots.{root_of}
use Rattle.mst_judged.specs.reasons.summary.Roots.{least}
use Rattle.mst_judged.specs.reasons.summary.declared.roots.Follower.{Follower}
use Rattle.mst_judged.proofs.reasons_lemmas.summary_lemmas.Lists.{passed_more}
use Rattle.mst_roles.proofs.forest_lemmas.Lists.{length_filtered}
use Rattle.mst_judged.specs.reasons.Reasons.{AreRootReasons, other_next}
use Rattle.mst_tree_judges.specs.Seen.{concerned_followers, seen_other_root}
use Rattle.mst_judged.specs.reasons.declared.reason.Reason.{Reason}
use Rattle.mst_judged.specs.reasons.declared.reason.Reason.TheVariants as why
use Rattle.mst_tree_judges.proofs.Keys.{InNet}
use Rattle.mst_tree_judges.proofs.RootsTold.{any_concerned, next_told, others_told}
use Rattle.mst_view.specs.Aggregation.{same_name}

-- ---- how many name each root
abbrev pub naming : ℕ → List Follower → List Follower
naming id fs = filter (λ f. f.root == id) fs

pub naming_below : (id : ℕ) (fs : List Follower) (i : ℕ) → i < length fs → length (naming id (take i fs)) ≤ i
naming_below id fs i l =
    let low : length (naming id (take i fs)) ≤ length (take i fs) = length_filtered (λ (f : Follower). f.root == id) (take i fs) in
    let short : length (take i fs) ≤ i = omega (arith, length-take i fs) in
    omega arith

pub counts_more : (fs : List Follower) (i : ℕ) (x : Follower) → i < length fs → x ≡ get_or fs i x → (old new : ℕ → Option ℕ) → ((id : ℕ) → unwrap_or (old id) 0 ≡ length (naming id (take i fs)))
    → (count : ℕ) → count ≡ unwrap_or (old x.root) 0 → ((q : ℕ) → new q ≡ cond (nat_eq x.root q) (Some (count + 1)) (old q)) → (id : ℕ) → unwrap_or (new id) 0 ≡ length (naming id (take (i + 1) fs))
counts_more fs i x l is old new before count count_is after id = ap (λ n. unwrap_or n 0) (after id) ∙ go (nat_eq x.root id) refl ∙ ap length (sym (passed_more (λ (f : Follower). f.root == id) fs i x l is))
  where
    go : (b : Bool) → nat_eq x.root id ≡ b → unwrap_or (cond (nat_eq x.root id) (Some (count + 1)) (old id)) 0 ≡ length (naming id (take i fs) ++ cond (x.root == id) (x ∷ []) [])
    go true e =
        let same : x.root ≡ id = eqb-true x.root id e in
        let counted : count ≡ length (naming id (take i fs)) = count_is ∙ ap (λ n. unwrap_or (old n) 0) same ∙ before id in
        ap (λ b. unwrap_or (cond b (Some (count + 1)) (old id)) 0) e ∙ ap (λ n. n + 1) counted ∙ sym (length_push (naming id (take i fs)) x) ∙ ap (λ b. length (naming id (take i fs) ++ cond b (x ∷ []) [])) (sym e)
    go false e =
        ap (λ b. unwrap_or (cond b (Some (count + 1)) (old id)) 0) e ∙ before id ∙ nothing_more (naming id (take i fs)) ∙ ap (λ b. length (naming id (take i fs) ++ cond b (x ∷ []) [])) (sym e)
      where
        nothing_more : (ys : List Follower) → length ys ≡ length (ys ++ [])
        nothing_more [] = refl
        nothing_more (y ∷ ys) = ap suc (nothing_more ys)

-- ---- bridges of a view
pub kept_named : {A B C : Type 0} (name : A → B) (f : B → Option C) (xs : List A) → filter_map (λ x. f (name x)) xs ≡ filter_map f (map name xs)
kept_named name f [] = refl
kept_named name f (x ∷ xs) = ap (cons_option (f (name x))) (kept_named name f xs)

pub each_named : {A B C : Type 0} (name : A → B) (f : B → List C) (xs : List A) → flat_map (λ x. f (name x)) xs ≡ flat_map f (map name xs)
each_named name f [] = refl
each_named name f (x ∷ xs) = ap (λ ys. f (name x) ++ ys) (each_named name f xs)

-- ---- which reasons
module _ (net : Net) (ok : IsNetwork net) (o : Outcome) (tree : ℕ) (roots_there : (bridge : List ℕ) (id : ℕ) → root_of net o tree bridge ≡ Some id → (r : List ℕ) × InNet net ok o tree r id) (b : List ℕ) where
  abbrev pub followers : List Follower
  followers = concerned_followers net o tree b

  abbrev pub seen_others : List Reason
  seen_others = flat_map (seen_other_root net tree b followers) (fin.entries net.bridges)

  abbrev pub seen_next : Option (List ℕ)
  seen_next = option_map (λ f. f.name) (least (filter (λ f. not (same_name f.name b)) followers))

  abbrev pub chosen : Option (List ℕ) → Bool → Bool → List Reason
  chosen wanted some others = if not some then why.NoRoot tree ∷ [] else (if others then seen_others else option_map_or (λ c. other_next tree b c seen_next) wanted [])

  pub root_told : (wanted : Option (List ℕ)) (reasons : List Reason) (some others : Bool) → has_any followers ≡ some → has_any seen_others ≡ others → reasons ≡ chosen wanted some others → AreRootReasons net o tree b wanted reasons
  root_told wanted reasons some others e f are = record {
    next = seen_next;
    is_next = next_told net ok o tree roots_there b seen_next refl;
    are =
        are
        ∙ (λ i. chosen wanted (sym e i) (sym f i))
        ∙ (λ i. if not (sym (any_concerned net o tree b) i) then why.NoRoot tree ∷ [] else (if has_any (others_told net ok o tree roots_there b i) then others_told net ok o tree roots_there b i else option_map_or (λ c. other_next tree b c seen_next) wanted []));
  }

  -- the other roots, by the bridges of a view
  pub others_seen : (bridges : List BridgeInView) → map named_bridge bridges ≡ fin.entries net.bridges → (fs : List Follower) → fs ≡ followers → flat_map (λ x. seen_other_root net tree b fs (named_bridge x)) bridges ≡ seen_others
  others_seen bridges are fs same =
      (λ i. flat_map (λ x. seen_other_root net tree b (same i) (named_bridge x)) bridges)
      ∙ each_named named_bridge (seen_other_root net tree b followers) bridges
      ∙ ap (flat_map (seen_other_root net tree b followers)) are
