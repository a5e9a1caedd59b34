-- An edit of a bridge leaves all else.
use Rattle.std.proofs.Common.{◌≡◌, ℕ, Bool, true, false, cond, List, Option, Some, None, refl, sym, ap, subst, ◌∙◌, true≢false}
use Rattle.std.specs.Prelude.{Ok, Err, Result}
use Rattle.std.specs.Option.{option_map, option_map_or}
use Rattle.std.specs.FinMap as fin
use Rattle.mst_lang.specs.declared.line.Edit.TheVariants.{SetBridge}
use Rattle.mst_lang.specs.declared.line.BridgeChange.{BridgeChange}
use Rattle.mst_lang.specs.declared.line.BridgeChange.TheVariants.{Power, Kind, SystemPriority, Configuration, MaxHops, MaxAge}
use Rattle.mst_tables.specs.Tables.{Net, Numbers, BridgeRow}
use Rattle.mst_tables.specs.After.{after, change as changed, effect, bridge_with, refusal_of}
use Rattle.mst_tables.specs.Contents.{Contents, Commits, numbers_after}
use Rattle.mst_tables.specs.declared.refusal.Refusal.{Refusal}
use Rattle.mst_tables.proofs.Changed.{get_changed}
use Rattle.mst_tables.proofs.Keys.{names}
use Rattle.mst_tables.proofs.NamesInOrder.{names_stay}
use Rattle.mst_view.specs.Aggregation.{same_name}
use Rattle.mst_view.specs.Viewed.{Viewed, IsView}
use Rattle.mst_lag.specs.Renewed.{bridge_part, leaves_links, DifferInBridge, IsViewButBridge}

others_stay : (net : Net) (bridge : List ℕ) (f : BridgeRow → BridgeRow) (a : List ℕ) → same_name bridge a ≡ false → fin.get (changed net.bridges bridge f) a ≡ fin.get net.bridges a
others_stay net bridge f a other = get_changed names net.bridges bridge f a ∙ ap (λ t. cond t (option_map f (fin.get net.bridges a)) (fin.get net.bridges a)) other

part_stays : (change : BridgeChange) → leaves_links change ≡ true → (x : BridgeRow) → bridge_part (bridge_with change x) ≡ bridge_part x
part_stays (Power power) e x = refl
part_stays (Kind kind) e x = absurd (true≢false (sym e))
part_stays (SystemPriority priority) e x = absurd (true≢false (sym e))
part_stays (Configuration revision name) e x = refl
part_stays (MaxHops limit) e x = refl
part_stays (MaxAge limit) e x = refl

parts_stay : (net : Net) (bridge : List ℕ) (f : BridgeRow → BridgeRow) → ((x : BridgeRow) → bridge_part (f x) ≡ bridge_part x)
    → (a : List ℕ) → option_map bridge_part (fin.get (changed net.bridges bridge f) a) ≡ option_map bridge_part (fin.get net.bridges a)
parts_stay net bridge f same a = ap (option_map bridge_part) (get_changed names net.bridges bridge f a) ∙ by (same_name bridge a) (fin.get net.bridges a)
  where
    by : (t : Bool) (o : Option BridgeRow) → option_map bridge_part (cond t (option_map f o) o) ≡ option_map bridge_part o
    by true None = refl
    by true (Some x) = ap Some (same x)
    by false o = refl

pub alone_ahead : (bridge : List ℕ) (change : BridgeChange) (net : Net) (numbers : Numbers) (v : Viewed) → leaves_links change ≡ true → IsView net numbers v → IsViewButBridge bridge (effect (SetBridge bridge change) net) numbers v
alone_ahead bridge change net numbers v e view = record {
  old = net;
  view = view;
  differ = record {
    bridges = changed net.bridges bridge (bridge_with change);
    is = refl;
    names = sym (names_stay names net.bridges bridge (bridge_with change));
    others = others_stay net bridge (bridge_with change);
    parts = parts_stay net bridge (bridge_with change) (part_stays change e);
  };
}

pub alone_back : (bridge : List ℕ) (change : BridgeChange) (net : Net) (numbers : Numbers) (v : Viewed) → leaves_links change ≡ true → IsView (effect (SetBridge bridge change) net) numbers v → IsViewButBridge bridge net numbers v
alone_back bridge change net numbers v e view = record {
  old = effect (SetBridge bridge change) net;
  view = view;
  differ = record {
    bridges = net.bridges;
    is = refl;
    names = names_stay names net.bridges bridge (bridge_with change);
    others = λ a other. sym (others_stay net bridge (bridge_with change) a other);
    parts = λ a. sym (parts_stay net bridge (bridge_with change) (part_stays change e) a);
  };
}

pub alone_made : (bridge : List ℕ) (change : BridgeChange) (old new : Contents) (v : Viewed) → leaves_links change ≡ true → Commits (SetBridge bridge change) old new → IsView old.net old.numbers v → IsViewButBridge bridge new.net new.numbers v
alone_made bridge change old new v e made view =
    subst (λ n. IsViewButBridge bridge new.net n v) (sym made.numbers)
    (subst (λ n. IsViewButBridge bridge n old.numbers v) (is (refusal_of (SetBridge bridge change) old.net) made.net) (alone_ahead bridge change old.net old.numbers v e view))
  where
    net_in : Result Net Refusal → Net
    net_in (Ok net) = net
    net_in (Err refusal) = old.net

    is_ok : Result Net Refusal → Bool
    is_ok (Ok net) = true
    is_ok (Err refusal) = false

    is : (o : Option Refusal) → option_map_or Err o (Ok (effect (SetBridge bridge change) old.net)) ≡ Ok new.net → effect (SetBridge bridge change) old.net ≡ new.net
    is None h = ap net_in h
    is (Some refusal) h = absurd (true≢false (sym (ap is_ok h)))
