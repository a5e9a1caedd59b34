-- There is a hint where a line is refused.
use Rattle.std.proofs.Common.{◌≡◌, ◌∙◌, Bool, true, false, cond, ◌&&◌, List, [], ◌∷◌, Option, Some, None, is_some, Ok, Err, refl, sym, ap, true≢false}
use Rattle.std.specs.Prelude.{Result}
use Rattle.std.specs.List.{list_all}
use Rattle.std.specs.Option.{option_map_or}
use Rattle.std.specs.Result.{is_ok}
use Rattle.mst_lang.specs.declared.line.Edit.{Edit}
use Rattle.mst_lang.specs.declared.line.Edit.TheVariants.{AddBridge, DelBridge, SetBridge, AddPort, DelPort, SetPort, AddLan, DelLan, SetLan, Plug, Unplug, SetByTree}
use Rattle.mst_lang.specs.declared.line.Line.{Line}
use Rattle.mst_lang.specs.declared.line.Line.TheVariants.{Blank, Mark, Edit as edit, Query as query}
use Rattle.mst_lang.specs.declared.line.Query.TheVariants as queries
use Rattle.mst_lang.specs.declared.line.TreeChange.TheVariants as trees
use Rattle.mst_net.specs.tables.After.{after, effect, first_of, has_bridge, refusals, refusal_of}
use Rattle.mst_net.specs.tables.Tables.{Net}
use Rattle.mst_net.specs.tables.declared.refusal.Refusal.{Refusal}
use Rattle.mst_net.specs.tables.declared.refusal.Refusal.TheVariants.{E04, E16}
use Rattle.mst_hints.specs.Puts.{Put}
use Rattle.mst_hints.specs.Scripts.{Adding, after_line, refused_text}
use Rattle.mst_hints.specs.Standing.{Making}

-- ---- what refuses an edit is one of its refusals
split : (x y : Bool) → (x && y) ≡ true → (x ≡ true) × (y ≡ true)
split true y h = (refl, h)
split false y h = absurd (true≢false (sym h))

one_further : (P : Refusal → Bool) (b : Bool) (other r : Refusal) (rest : Option Refusal) → P other ≡ true → (rest ≡ Some r → P r ≡ true) → cond b (Some other) rest ≡ Some r → P r ≡ true
one_further P true other r rest is further e = ap (λ (o : Option Refusal). option_map_or P o true) (sym e) ∙ is
one_further P false other r rest is further e = further e

one_of : (P : Refusal → Bool) (tests : List (Bool × Refusal)) (r : Refusal) → list_all (λ (test : Bool × Refusal). P test.1) tests ≡ true → first_of tests ≡ Some r → P r ≡ true
one_of P [] r all e = absurd (true≢false (sym (ap is_some e)))
one_of P (test ∷ tests) r all e =
    let both = split (P test.1) (list_all (λ (t : Bool × Refusal). P t.1) tests) all in
    one_further P test.0 test.1 r (first_of tests) both.0 (one_of P tests r both.1) e

refused_by : (o : Option Refusal) (net : Net) (r : Refusal) → option_map_or Err o (Ok net) ≡ Err r → o ≡ Some r
refused_by None net r e = absurd (true≢false (ap is_ok e))
refused_by (Some other) net r e = ap (λ (x : Result Net Refusal). why x) e
  where
    why : Result Net Refusal → Option Refusal
    why (Ok net) = None
    why (Err refusal) = Some refusal

module _ (adds : List Adding) (makings : List Making) (puts : List Put) (net : Net) where
  abbrev hinted : Line → Refusal → Bool
  hinted line r = is_some (refused_text adds makings puts net line r)

  by_tests : (e : Edit) (r : Refusal) → list_all (λ (test : Bool × Refusal). hinted (edit e) test.1) (refusals e net) ≡ true → after e net ≡ Err r → hinted (edit e) r ≡ true
  by_tests e r all h = one_of (hinted (edit e)) (refusals e net) r all (refused_by (refusal_of e net) (effect e net) r h)

  edit_hinted : (e : Edit) (r : Refusal) → after e net ≡ Err r → hinted (edit e) r ≡ true
  edit_hinted (AddBridge bridge mac) r h = by_tests (AddBridge bridge mac) r refl h
  edit_hinted (DelBridge bridge) r h = by_tests (DelBridge bridge) r refl h
  edit_hinted (SetBridge bridge change) r h = by_tests (SetBridge bridge change) r refl h
  edit_hinted (AddPort port) r h = by_tests (AddPort port) r refl h
  edit_hinted (DelPort port) r h = by_tests (DelPort port) r refl h
  edit_hinted (SetPort port change) r h = by_tests (SetPort port change) r refl h
  edit_hinted (AddLan lan) r h = by_tests (AddLan lan) r refl h
  edit_hinted (DelLan lan) r h = by_tests (DelLan lan) r refl h
  edit_hinted (SetLan lan change) r h = by_tests (SetLan lan change) r refl h
  edit_hinted (Plug port lan) r h = by_tests (Plug port lan) r refl h
  edit_hinted (Unplug port) r h = by_tests (Unplug port) r refl h
  edit_hinted (SetByTree (trees.Priority bridge tree priority)) r h = by_tests (SetByTree (trees.Priority bridge tree priority)) r refl h
  edit_hinted (SetByTree (trees.PortPriority port tree priority)) r h = by_tests (SetByTree (trees.PortPriority port tree priority)) r refl h
  edit_hinted (SetByTree (trees.PortCost port tree cost)) r h = by_tests (SetByTree (trees.PortCost port tree cost)) r refl h
  edit_hinted (SetByTree (trees.Table bridge tree vids)) r h = by_tests (SetByTree (trees.Table bridge tree vids)) r refl h
  edit_hinted (SetByTree (trees.Vlans port vids)) r h = by_tests (SetByTree (trees.Vlans port vids)) r refl h

  -- ---- a query
  asked : (line : Line) (b : Bool) (why r : Refusal) → hinted line why ≡ true → cond b (Ok net) (Err why) ≡ Err r → hinted line r ≡ true
  asked line true why r is h = absurd (true≢false (ap is_ok h))
  asked line false why r is h = ap (λ (x : Result Net Refusal). by x) (sym h) ∙ is
    where
      by : Result Net Refusal → Bool
      by (Ok other) = true
      by (Err refusal) = hinted line refusal

  made : {A : Type 0} (r : Refusal) → Ok net ≡ Err r → A
  made r h = absurd (true≢false (ap is_ok h))

  pub line_hinted : (line : Line) (marked : Bool) (r : Refusal) → after_line marked line net ≡ Err r → hinted line r ≡ true
  line_hinted (edit e) marked r h = edit_hinted e r h
  line_hinted (query (queries.ShowConfiguration bridge)) marked r h = asked (query (queries.ShowConfiguration bridge)) (has_bridge bridge net) E04 r refl h
  line_hinted (query queries.Changes) marked r h = asked (query queries.Changes) marked E16 r refl h
  line_hinted (query queries.ShowPlan) marked r h = made r h
  line_hinted (query queries.ShowLag) marked r h = made r h
  line_hinted (query queries.ShowRegions) marked r h = made r h
  line_hinted (query queries.ShowNotes) marked r h = made r h
  line_hinted (query (queries.ShowTree tree)) marked r h = made r h
  line_hinted (query (queries.ShowVlan vid)) marked r h = made r h
  line_hinted (query queries.Save) marked r h = made r h
  line_hinted (query queries.Digest) marked r h = made r h
  line_hinted Blank marked r h = made r h
  line_hinted Mark marked r h = made r h
