-- A bridge that is on with failures is on with some of them alone.
use Rattle.std.proofs.Common.{◌≡◌, ℕ, ◌||◌, Bool, true, false, true≢false, List, [], ◌∷◌, Option, Some, None, refl, sym, ap, ◌∙◌}
use Rattle.std.specs.FinMap as fin
use Rattle.std.specs.List.{Contains, filter, list_any}
use Rattle.std.specs.Option.{option_map}
use Rattle.mst_graph.proofs.Members.{in_map, from_map, in_filter, from_filter}
use Rattle.mst_net.specs.tables.Tables.{Net, BridgeRow}
use Rattle.mst_vlan.proofs.forest_lemmas.Lists.{all_contained, no_some, some_is}
use Rattle.mst_vlan.proofs.forest_lemmas.Views.{bridges_are, entry_there}
use Rattle.mst_vlan.specs.Reach.{bridges_on}
use Rattle.mst_sweep.specs.Failing.{fails_bridge, off_if}
use Rattle.mst_sweep.specs.Failures.{failed}
use Rattle.mst_sweep.specs.declared.failure.Failure.{Failure}
use Rattle.mst_sweep.proofs.Together.{bridge_failed}

-- one that is on has a row that says so
pub on_row : (net : Net) (name : List ℕ) → Contains (bridges_on net) name → (row : BridgeRow) × (fin.get net.bridges name ≡ Some row) × (row.is_on ≡ true)
on_row net name h =
    let e = from_map (λ (e : List ℕ × BridgeRow). e.0) (filter (λ (e : List ℕ × BridgeRow). e.1.is_on) (fin.entries net.bridges)) name h in
    let f = from_filter (λ (e : List ℕ × BridgeRow). e.1.is_on) (fin.entries net.bridges) e.0 e.1 in
    let found = all_contained (λ (e : List ℕ × BridgeRow). fin.get net.bridges e.0 ≡ Some e.1) (fin.entries net.bridges) e.0 (bridges_are net) f.0 in
    (e.0.1, ap (fin.get net.bridges) (sym e.2) ∙ found, f.1)

pub row_on : (net : Net) (name : List ℕ) (row : BridgeRow) → fin.get net.bridges name ≡ Some row → row.is_on ≡ true → Contains (bridges_on net) name
row_on net name row e on =
    in_map (λ (e : List ℕ × BridgeRow). e.0) (filter (λ (e : List ℕ × BridgeRow). e.1.is_on) (fin.entries net.bridges)) (name, row)
    (in_filter (λ (e : List ℕ × BridgeRow). e.1.is_on) (fin.entries net.bridges) (name, row) (entry_there net name row e) on)

-- ---- with failures
-- a row that is on with failures is there, and is on, and none of these is its bridge's
on_if : (fails : Bool) (o : Option BridgeRow) (row : BridgeRow) → option_map (off_if fails) o ≡ Some row → row.is_on ≡ true → (old : BridgeRow) × (o ≡ Some old) × (old.is_on ≡ true) × (fails ≡ false)
on_if fails None row e on = absurd (no_some row e)
on_if true (Some old) row e on = absurd (true≢false (sym on ∙ ap (λ (r : BridgeRow). r.is_on) (sym (some_is (off_if true old) row e))))
on_if false (Some old) row e on = (old, refl, ap (λ (r : BridgeRow). r.is_on) (some_is old row e) ∙ on, refl)

-- so a bridge that is on with failures isn't one that failed
pub not_failed : (fs : List Failure) (net : Net) (name : List ℕ) → Contains (bridges_on (failed fs net)) name → list_any (fails_bridge name) fs ≡ false
not_failed fs net name h =
    let r = on_row (failed fs net) name h in
    (on_if (list_any (fails_bridge name) fs) (fin.get net.bridges name) r.0 (sym (bridge_failed fs net.bridges name) ∙ r.1) r.2).3

-- and is on with others that aren't
module _ (net : Net) (name : List ℕ) (fs gs : List Failure) (fewer : list_any (fails_bridge name) fs ≡ false → list_any (fails_bridge name) gs ≡ false) where
  pub still_on : Contains (bridges_on (failed fs net)) name → Contains (bridges_on (failed gs net)) name
  still_on h =
      let r = on_row (failed fs net) name h in
      let s = on_if (list_any (fails_bridge name) fs) (fin.get net.bridges name) r.0 (sym (bridge_failed fs net.bridges name) ∙ r.1) r.2 in
      row_on (failed gs net) name s.0
      (bridge_failed gs net.bridges name ∙ ap (λ b. option_map (off_if b) (fin.get net.bridges name)) (fewer s.3) ∙ ap (option_map (off_if false)) s.1) s.2

either : (a b : Bool) → (a || (b || false)) ≡ false → (a ≡ false) × (b ≡ false)
either true b e = absurd (true≢false e)
either false true e = absurd (true≢false e)
either false false e = (refl, refl)

module _ (net : Net) (name : List ℕ) (f g : Failure) (on : Contains (bridges_on (failed (f ∷ g ∷ []) net)) name) where
  pub on_before : Contains (bridges_on net) name
  on_before = still_on net name (f ∷ g ∷ []) [] (λ e. refl) on

  pub on_with_first : Contains (bridges_on (failed (f ∷ []) net)) name
  on_with_first = still_on net name (f ∷ g ∷ []) (f ∷ []) (λ e. ap (λ b. b || false) (either (fails_bridge name f) (fails_bridge name g) e).0) on

  pub on_with_second : Contains (bridges_on (failed (g ∷ []) net)) name
  on_with_second = still_on net name (f ∷ g ∷ []) (g ∷ []) (λ e. ap (λ b. b || false) (either (fails_bridge name f) (fails_bridge name g) e).1) on
