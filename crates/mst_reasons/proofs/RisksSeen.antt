-- The risks of a policy, as they are seen in a view, are those of the network.
use Rattle.std.proofs.Common.{◌≡◌, ◌∙◌, ◌<◌, ◌+◌, ℕ, Bool, true, false, cond, List, [], ◌∷◌, ◌++◌, append-nil, append_assoc, Option, None, Some, is_none, filter, get_or, length, map, refl, sym, take, ap}
use Rattle.std.specs.Cmp.Lexicographic.{nat_list_eq_equiv}
use Rattle.std.specs.List.{cons_option, filter_map, flat_map, list_all, list_any}
use Rattle.std.proofs.lemmas.List.{take_more}
use Rattle.indexmap.specs.IndexSet.{insert_key}
use Rattle.std.specs.Prelude.{option_and_then, option_to_list}
use Rattle.std.specs.FinMap as fin
use Rattle.mst_graph.specs.Lists.{each_once, has_any, with_new}
use Rattle.mst_policy.specs.Lines.{risk_in}
use Rattle.mst_policy.specs.declared.policy.PolicyLine.{PolicyLine}
use Rattle.mst_policy.specs.declared.risk.RiskItems.{RiskItems}
use Rattle.mst_policy.specs.declared.risk.RiskItems.TheVariants.{Lans, Bridges}
use Rattle.mst_policy.specs.declared.risk.RiskLine.{RiskLine}
use Rattle.mst_sweep.specs.Failures.{Event, failures}
use Rattle.mst_tables.specs.Tables.{Net, Numbers}
use Rattle.mst_view.specs.Aggregation.{same_name}
use Rattle.mst_view.specs.Viewed.{IsView, Viewed, member_lan}
use Rattle.mst_view.specs.declared.in_view.MemberLan.{MemberLan}
use Rattle.mst_roles.proofs.forest_lemmas.Lists.{mapped_twice}
use Rattle.mst_reasons.specs.Risks.{has_one, items_lack, lines_of, risk_lines, risk_of, risks}
use Rattle.mst_reasons.specs.SeenRisks.{seen_have, seen_lines, seen_risk, seen_risk_in, seen_whole}
use Rattle.mst_reasons.specs.declared.missing.Missing.{Missing}
use Rattle.mst_reasons.specs.declared.missing.Missing.TheVariants as lacking
use Rattle.mst_reasons.proofs.NamedIn.{names_are}

-- what passes of each thing is what passes of all
kept_of_each : {A B : Type 0} (f : A → B) (test : B → Bool) (xs : List A) → flat_map (λ x. filter test (f x ∷ [])) xs ≡ filter test (map f xs)
kept_of_each f test [] = refl
kept_of_each {A} {B} f test (x ∷ xs) = go (test (f x)) (kept_of_each f test xs)
  where
    go : (b : Bool) → flat_map (λ x. filter test (f x ∷ [])) xs ≡ filter test (map f xs) → cond b (f x ∷ []) [] ++ flat_map (λ x. filter test (f x ∷ [])) xs ≡ cond b (f x ∷ filter test (map f xs)) (filter test (map f xs))
    go true rest = ap (λ (l : List B). f x ∷ l) rest
    go false rest = rest

-- ---- lines so far, and one more
module _ (v : Viewed) where
  -- what a line says of a risk, if it isn't refused
  passes : (said : Option RiskLine) (more : List RiskLine) → filter (seen_whole v) (cons_option said more) ≡ option_to_list (option_and_then (λ risk. cond (seen_whole v risk) (Some risk) None) said) ++ filter (seen_whole v) more
  passes None more = refl
  passes (Some risk) more = by (seen_whole v risk)
    where
      by : (b : Bool) → cond b (risk ∷ filter (seen_whole v) more) (filter (seen_whole v) more) ≡ option_to_list (cond b (Some risk) None) ++ filter (seen_whole v) more
      by true = refl
      by false = refl

  pub seen_more : (lines : List PolicyLine) (line : PolicyLine) → seen_lines v (lines ++ line ∷ []) ≡ seen_lines v lines ++ option_to_list (seen_risk_in v line)
  seen_more [] line = passes (risk_in line.read) [] ∙ append-nil (option_to_list (seen_risk_in v line))
  seen_more (x ∷ lines) line =
      passes (risk_in x.read) (filter_map (λ (l : PolicyLine). risk_in l.read) (lines ++ line ∷ []))
      ∙ ap (λ (more : List RiskLine). option_to_list (seen_risk_in v x) ++ more) (seen_more lines line)
      ∙ sym (append_assoc (option_to_list (seen_risk_in v x)) (seen_lines v lines) (option_to_list (seen_risk_in v line)))
      ∙ ap (λ (more : List RiskLine). more ++ option_to_list (seen_risk_in v line)) (sym (passes (risk_in x.read) (filter_map (λ (l : PolicyLine). risk_in l.read) lines)))

-- ---- lists
flat_on : {A B : Type 0} (f : A → List B) (xs : List A) (x : A) → flat_map f (xs ++ x ∷ []) ≡ flat_map f xs ++ f x
flat_on f [] x = append-nil (f x)
flat_on {A} {B} f (y ∷ ys) x = ap (λ (l : List B). f y ++ l) (flat_on f ys x) ∙ sym (append_assoc (f y) (flat_map f ys) (f x))

pub flat_more : {A B : Type 0} (f : A → List B) (xs : List A) (i : ℕ) (x : A) → i < length xs → x ≡ get_or xs i x → flat_map f (take (i + 1) xs) ≡ flat_map f (take i xs) ++ f x
flat_more f xs i x below is = ap (flat_map f) (take_more xs i x below ∙ ap (λ y. take i xs ++ y ∷ []) (sym is)) ∙ flat_on f (take i xs) x

-- a key goes behind the others as a name does that is new
pub with_key : (keys : List (List ℕ)) (name : List ℕ) → insert_key same_name keys name ≡ with_new same_name keys name
with_key keys name = λ i. cond (list_any (λ (other : List ℕ). nat_list_eq_equiv.symm name other i) keys) keys (keys ++ name ∷ [])

-- ---- what is lacked
none_lacks : (what : Missing) (b : Bool) → b ≡ is_none (cond b None (Some what))
none_lacks what true = refl
none_lacks what false = refl

module _ (net : Net) (numbers : Numbers) (v : Viewed) (view : IsView net numbers v) where
  pub lans_are : map (λ (l : MemberLan). l.name) v.member_lans ≡ fin.keys net.lans
  lans_are = ap (map (λ (l : MemberLan). l.name)) view.member_lans ∙ mapped_twice (λ (l : MemberLan). l.name) (member_lan net) (fin.entries net.lans)

  pub have_seen : (items : RiskItems) → seen_have v items ≡ is_none (items_lack net items)
  have_seen (Lans names) = ap (λ (lans : List (List ℕ)). list_all (has_one lans) names) lans_are ∙ none_lacks lacking.Lan (list_all (has_one (fin.keys net.lans)) names)
  have_seen (Bridges names) =
      ap (λ (bridges : List (List ℕ)). list_all (has_one bridges) names) (names_are net numbers v view) ∙ none_lacks lacking.Bridge (list_all (has_one (fin.keys net.bridges)) names)

  -- the lines that aren't refused
  pub lines_seen : (lines : List PolicyLine) → seen_lines v lines ≡ risk_lines net lines
  lines_seen lines = λ i. filter (λ (line : RiskLine). have_seen line.items i) (filter_map (λ (line : PolicyLine). risk_in line.read) lines)

  -- and the risks that these say
  pub risks_seen : (lines : List PolicyLine) → flat_map (λ name. seen_risk (failures net) (lines_of name (seen_lines v lines)) name) (each_once same_name (map (λ (line : RiskLine). line.name) (seen_lines v lines))) ≡ risks net lines
  risks_seen lines =
      let those : List RiskLine = risk_lines net lines in
      ap (λ (those : List RiskLine). flat_map (λ name. seen_risk (failures net) (lines_of name those) name) (each_once same_name (map (λ (line : RiskLine). line.name) those))) (lines_seen lines)
      ∙ kept_of_each (risk_of net those) (λ (event : Event). has_any event.failures) (each_once same_name (map (λ (line : RiskLine). line.name) those))
