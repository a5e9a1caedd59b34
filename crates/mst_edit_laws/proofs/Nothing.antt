-- From the empty network on nothing goes: so the edits that save a network are those that change the empty one into it.
use Rattle.std.proofs.Common.{◌≡◌, true, List, [], ◌++◌, map, sym, ap, ◌∙◌}
use Rattle.std.specs.List.{flat_map}
use Rattle.std.specs.FinMap as fin
use Rattle.std.specs.FinMap.{FinMap, entries, len-entries, len-empty}
use Rattle.std.specs.declared.cmp.Ordering.{Ordering}
use Rattle.std.proofs.lemmas.List.{nil_from_length}
use Rattle.mst_ids.specs.Names.{name_cmp, port_cmp}
use Rattle.mst_lang.specs.declared.line.Edit.{Edit}
use Rattle.mst_net.specs.tables.Tables.{Net, BridgeRow, PortRow, LanRow, empty_net}
use Rattle.mst_edits.specs.Edits.{joined, unplug_edits, del_port_edits, del_lan_edits, del_bridge_edits, going, edits_with, saved_edits}

no_keys : {K X : Type 0} {R : K → K → Ordering} (m : FinMap R X) → fin.len m ≡ 0 → fin.keys m ≡ []
no_keys {K = K} {X = X} m none = ap (map (λ (e : K × X). e.0)) (nil_from_length (entries m) (sym (len-entries m) ∙ none))

module _ (net : Net) where
  nothing_goes : joined (going empty_net net) ≡ []
  nothing_goes =
      let no_bridges = no_keys empty_net.bridges (len-empty name_cmp BridgeRow) in
      let no_ports = no_keys empty_net.ports (len-empty port_cmp PortRow) in
      let no_lans = no_keys empty_net.lans (len-empty name_cmp LanRow) in
      λ i.
      flat_map (unplug_edits empty_net net) (no_ports i)
      ++ (flat_map (del_port_edits empty_net net) (no_ports i) ++ (flat_map (del_lan_edits net) (no_lans i) ++ (flat_map (del_bridge_edits empty_net net) (no_bridges i) ++ [])))

  pub as_saved : edits_with true empty_net net ≡ saved_edits net
  as_saved = ap (λ (es : List Edit). es ++ saved_edits net) nothing_goes
