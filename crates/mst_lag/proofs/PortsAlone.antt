-- An edit of a port, or of where it is plugged, leaves all else, and a view whose links were made anew is that of the network now.
use Rattle.std.proofs.Common.{◌≡◌, ℕ, Bool, true, false, List, Option, Some, None, refl, sym, ap, subst, ◌∙◌, true≢false}
use Rattle.std.specs.Prelude.{Ok, Err, Result}
use Rattle.std.specs.Option.{option_map_or}
use Rattle.std.specs.FinMap as fin
use Rattle.mst_ids.specs.Names.{port_cmp}
use Rattle.mst_ids.specs.declared.name.PortName.{PortName}
use Rattle.mst_lang.specs.declared.line.Edit.{Edit}
use Rattle.mst_lang.specs.declared.line.Edit.TheVariants.{SetPort, Plug, Unplug}
use Rattle.mst_lang.specs.declared.line.PortChange.{PortChange}
use Rattle.mst_tables.specs.Tables.{Net, Numbers, PortRow}
use Rattle.mst_tables.specs.After.{after, change as changed, effect, in_lan, port_with, refusal_of}
use Rattle.mst_tables.specs.Contents.{Contents, Commits}
use Rattle.mst_tables.specs.declared.refusal.Refusal.{Refusal}
use Rattle.mst_view.specs.Viewed.{Viewed, IsView}
use Rattle.mst_lag.specs.Links.{AreLinks}
use Rattle.mst_lag.specs.Renewed.{IsViewButPorts}
use Rattle.mst_lag.specs.declared.viewed.Links.{Links}

effect_is : (edit : Edit) (old new : Net) (o : Option Refusal) → option_map_or Err o (Ok (effect edit old)) ≡ Ok new → effect edit old ≡ new
effect_is edit old new None h = ap net_in h
  where
    net_in : Result Net Refusal → Net
    net_in (Ok net) = net
    net_in (Err refusal) = old
effect_is edit old new (Some refusal) h = absurd (true≢false (sym (ap is_ok h)))
  where
    is_ok : Result Net Refusal → Bool
    is_ok (Ok net) = true
    is_ok (Err refusal) = false

by_ports : (edit : Edit) (ports : fin.FinMap port_cmp PortRow) (old new : Contents) (v : Viewed) → effect edit old.net ≡ record old.net { ports = ports }
    → new.numbers ≡ old.numbers → after edit old.net ≡ Ok new.net → IsView old.net old.numbers v → IsViewButPorts new.net new.numbers v
by_ports edit ports old new v only numbers made view = record {
  old = old.net;
  view = subst (λ n. IsView old.net n v) (sym numbers) view;
  ports = ports;
  is = sym (effect_is edit old.net new.net (refusal_of edit old.net) made) ∙ only;
}

pub set_made : (port : PortName) (change : PortChange) (old new : Contents) (v : Viewed) → Commits (SetPort port change) old new → IsView old.net old.numbers v → IsViewButPorts new.net new.numbers v
set_made port change old new v made = by_ports (SetPort port change) (changed old.net.ports port (port_with change)) old new v refl made.numbers made.net

pub plugged_made : (port : PortName) (lan : List ℕ) (old new : Contents) (v : Viewed) → Commits (Plug port lan) old new → IsView old.net old.numbers v → IsViewButPorts new.net new.numbers v
plugged_made port lan old new v made = by_ports (Plug port lan) (changed old.net.ports port (in_lan (Some lan))) old new v refl made.numbers made.net

pub unplugged_made : (port : PortName) (old new : Contents) (v : Viewed) → Commits (Unplug port) old new → IsView old.net old.numbers v → IsViewButPorts new.net new.numbers v
unplugged_made port old new v made = by_ports (Unplug port) (changed old.net.ports port (in_lan None)) old new v refl made.numbers made.net

-- the view with these links
pub is_linked : (net : Net) (numbers : Numbers) (v : Viewed) → IsViewButPorts net numbers v → (l : Links) → AreLinks net numbers l
    → IsView net numbers (record v { ports = l.ports; lans = l.lans; member_lans = l.member_lans.items; member_ports = l.member_ports.items; lags = l.lags.entries })
is_linked net numbers v but l are =
    subst (λ n. AreLinks n numbers l → IsView n numbers (record v { ports = l.ports; lans = l.lans; member_lans = l.member_lans.items; member_ports = l.member_ports.items; lags = l.lags.entries })) (sym but.is)
    (λ here. record {
      bridges = but.view.bridges;
      trees = but.view.trees;
      ports = here.ports;
      lans = here.lans;
      member_lans = here.member_lans;
      member_ports = here.member_ports;
      bridge_numbers = but.view.bridge_numbers;
      port_numbers = here.port_numbers;
      lan_numbers = here.lan_numbers;
      lags = here.lags;
      no_lags = here.no_lags;
      settings = but.view.settings;
    }) are
