-- New keys for bridges and LANs.
use Rattle.std.specs.Prelude.{◌≡◌, List, map}
use Rattle.std.specs.List.{Contains}
use Rattle.mst_graph.specs.Islands.{Link, Island}

-- no two of the things have one key
abbrev pub KeepApart : {A K : Type 0} → (A → K) → List A → Type 0
KeepApart {A} {K} key things = (x y : A) → Contains things x → Contains things y → key x ≡ key y → x ≡ y

module _ {N L M K : Type 0} (bridge_key : N → M) (lan_key : L → K) where
  abbrev pub link_by : Link N L → Link M K
  link_by k = record { bridge = bridge_key k.bridge; lan = lan_key k.lan }

  abbrev pub island_by : Island N L → Island M K
  island_by i = record { bridges = map bridge_key i.bridges; lans = map lan_key i.lans }
