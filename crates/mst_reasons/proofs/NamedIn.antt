-- The names of a view's bridges are the network's.
use Rattle.std.proofs.Common.{◌≡◌, ℕ, List, map, sym, ap, ◌∙◌}
use Rattle.std.specs.FinMap as fin
use Rattle.mst_view.specs.Viewed.{Viewed, IsView, named_bridge}
use Rattle.mst_tables.specs.Tables.{Net, Numbers, BridgeRow}
use Rattle.mst_roles.proofs.forest_lemmas.Lists.{mapped_twice}
use Rattle.mst_reasons.specs.Seen.{names_in}

module _ (net : Net) (numbers : Numbers) (v : Viewed) (view : IsView net numbers v) where
  pub names_are : names_in v.bridges ≡ fin.keys net.bridges
  names_are = sym (mapped_twice (λ (e : List ℕ × BridgeRow). e.0) named_bridge v.bridges) ∙ ap (map (λ (e : List ℕ × BridgeRow). e.0)) view.bridges
