-- An edit of a port leaves all else.
use Rattle.std.proofs.Common.{◌≡◌, ℕ, Bool, true, false, cond, List, Option, Some, None, refl, sym, ap, subst, ◌∙◌, true≢false}
use Rattle.std.specs.Prelude.{Ok, Err, Result}
use Rattle.std.specs.Option.{option_map, option_map_or}
use Rattle.std.specs.FinMap as fin
use Rattle.mst_ids.specs.declared.name.PortName.{PortName}
use Rattle.mst_lang.specs.declared.line.Edit.TheVariants.{SetPort}
use Rattle.mst_lang.specs.declared.line.PortChange.{PortChange}
use Rattle.mst_lang.specs.declared.line.PortChange.TheVariants.{Key, PathCost, RestrictedRole}
use Rattle.mst_tables.specs.Tables.{Net, Numbers, PortRow, IsNetwork, port_eq}
use Rattle.mst_tables.specs.After.{after, change as changed, effect, port_with, refusal_of}
use Rattle.mst_tables.specs.Contents.{Contents, Commits, IsNumbered}
use Rattle.mst_tables.specs.declared.refusal.Refusal.{Refusal}
use Rattle.mst_tables.proofs.Changed.{get_changed}
use Rattle.mst_tables.proofs.Keys.{ports}
use Rattle.mst_tables.proofs.NamesInOrder.{names_stay}
use Rattle.mst_view.specs.Viewed.{Viewed, IsView}
use Rattle.mst_lag.specs.Renewed.{port_part, leaves_key, IsViewButPort}

part_stays : (change : PortChange) → leaves_key change ≡ true → (x : PortRow) → port_part (port_with change x) ≡ port_part x
part_stays (Key key) e x = absurd (true≢false (sym e))
part_stays (PathCost cost) e x = refl
part_stays (RestrictedRole restricted) e x = refl

parts_stay : (net : Net) (port : PortName) (f : PortRow → PortRow) → ((x : PortRow) → port_part (f x) ≡ port_part x)
    → (p : PortName) → option_map port_part (fin.get (changed net.ports port f) p) ≡ option_map port_part (fin.get net.ports p)
parts_stay net port f same p = ap (option_map port_part) (get_changed ports net.ports port f p) ∙ by (port_eq port p) (fin.get net.ports p)
  where
    by : (t : Bool) (o : Option PortRow) → option_map port_part (cond t (option_map f o) o) ≡ option_map port_part o
    by true None = refl
    by true (Some x) = ap Some (same x)
    by false o = refl

effect_is : (port : PortName) (change : PortChange) (old new : Net) (o : Option Refusal) → option_map_or Err o (Ok (effect (SetPort port change) old)) ≡ Ok new → effect (SetPort port change) old ≡ new
effect_is port change old new None h = ap net_in h
  where
    net_in : Result Net Refusal → Net
    net_in (Ok net) = net
    net_in (Err refusal) = old
effect_is port change old new (Some refusal) h = absurd (true≢false (sym (ap is_ok h)))
  where
    is_ok : Result Net Refusal → Bool
    is_ok (Ok net) = true
    is_ok (Err refusal) = false

pub alone_made : (port : PortName) (change : PortChange) (old new : Contents) (v : Viewed) → leaves_key change ≡ true → IsNetwork old.net → IsNumbered old.net old.numbers
    → Commits (SetPort port change) old new → IsView old.net old.numbers v → IsViewButPort port new.net new.numbers v
alone_made port change old new v e network numbered made view = record {
  old = old.net;
  network = network;
  numbered = subst (IsNumbered old.net) (sym made.numbers) numbered;
  view = subst (λ n. IsView old.net n v) (sym made.numbers) view;
  differ = record {
    ports = changed old.net.ports port (port_with change);
    is = sym (effect_is port change old.net new.net (refusal_of (SetPort port change) old.net) made.net);
    names = sym (names_stay ports old.net.ports port (port_with change));
    others = λ p other. get_changed ports old.net.ports port (port_with change) p ∙ ap (λ t. cond t (option_map (port_with change) (fin.get old.net.ports p)) (fin.get old.net.ports p)) other;
    parts = parts_stay old.net port (port_with change) (part_stays change e);
  };
}
