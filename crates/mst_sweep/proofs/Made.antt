-- The network with some failures is the one that their edits make, one after another.
use Rattle.std.proofs.Common.{◌≡◌, ◌∷◌, [], true, List, Option, Some, None, Ok, Err, is_some, not, map, refl, ap, subst, ◌∙◌, inl, inr, ℕ}
use Rattle.std.specs.FinMap as fin
use Rattle.std.specs.List.{AllByRecursion, Contains, filter}
use Rattle.std.specs.Option.{option_map, option_map_or}
use Rattle.std.proofs.lemmas.List.Elements.{Contains-append_cases}
use Rattle.mst_graph.proofs.Members.{from_map, from_filter}
use Rattle.mst_net.specs.tables.After.{after, first_of, has_bridge, has_lan}
use Rattle.mst_net.specs.tables.Tables.{Net, BridgeRow, LanRow}
use Rattle.mst_net.specs.tables.declared.refusal.Refusal.TheVariants.{E04, E06}
use Rattle.mst_net.proofs.tables_lemmas.Keys.{names}
use Rattle.mst_vlan.proofs.forest_lemmas.Entries.{entries_found}
use Rattle.mst_vlan.proofs.forest_lemmas.Lists.{all_contained}
use Rattle.mst_vlan.specs.Reach.{bridges_on}
use Rattle.mst_sweep.specs.declared.failure.Failure.{Failure}
use Rattle.mst_sweep.specs.declared.failure.Failure.TheVariants.{Lan, Bridge}
use Rattle.mst_sweep.specs.Failures.{AreMade, edit_of, failed, failures, then_made}
use Rattle.mst_sweep.proofs.Together.{bridge_failed, lan_failed}

-- what fails is there
abbrev IsThere : Net → Failure → Type 0
IsThere net (Lan lan) = has_lan lan net ≡ true
IsThere net (Bridge bridge) = has_bridge bridge net ≡ true

some_is : {A : Type 0} (o : Option A) (x : A) → o ≡ Some x → is_some o ≡ true
some_is o x e = ap is_some e

still_some : {A : Type 0} (f : A → A) (o : Option A) → is_some o ≡ true → is_some (option_map f o) ≡ true
still_some f (Some x) e = refl
still_some f None e = e

-- each failure of a network is of a record that it has
failure_there : (net : Net) (failure : Failure) → Contains (failures net) failure → IsThere net failure
failure_there net failure h = elim (Contains-append_cases (map (λ (e : List ℕ × LanRow). Lan e.0) (filter (λ (e : List ℕ × LanRow). e.1.is_up) (fin.entries net.lans))) (map Bridge (bridges_on net)) failure h) [
  | inl x ↦
      let e = from_map (λ (e : List ℕ × LanRow). Lan e.0) (filter (λ (e : List ℕ × LanRow). e.1.is_up) (fin.entries net.lans)) failure x in
      let own = (from_filter (λ (e : List ℕ × LanRow). e.1.is_up) (fin.entries net.lans) e.0 e.1).0 in
      let found = all_contained (λ (e : List ℕ × LanRow). fin.get net.lans e.0 ≡ Some e.1) (fin.entries net.lans) e.0 (entries_found names.total net.lans) own in
      subst (IsThere net) e.2 (some_is (fin.get net.lans e.0.0) e.0.1 found)
  | inr y ↦
      let b = from_map Bridge (bridges_on net) failure y in
      let e = from_map (λ (e : List ℕ × BridgeRow). e.0) (filter (λ (e : List ℕ × BridgeRow). e.1.is_on) (fin.entries net.bridges)) b.0 b.1 in
      let own = (from_filter (λ (e : List ℕ × BridgeRow). e.1.is_on) (fin.entries net.bridges) e.0 e.1).0 in
      let found = all_contained (λ (e : List ℕ × BridgeRow). fin.get net.bridges e.0 ≡ Some e.1) (fin.entries net.bridges) e.0 (entries_found names.total net.bridges) own in
      subst (IsThere net) (ap Bridge e.2 ∙ b.2) (some_is (fin.get net.bridges e.0.0) e.0.1 found)
]

-- and still does where others have failed
still_there : (fs : List Failure) (net : Net) (failure : Failure) → IsThere net failure → IsThere (failed fs net) failure
still_there fs net (Lan lan) h = ap is_some (lan_failed fs net.lans lan) ∙ still_some _ (fin.get net.lans lan) h
still_there fs net (Bridge bridge) h = ap is_some (bridge_failed fs net.bridges bridge) ∙ still_some _ (fin.get net.bridges bridge) h

-- so its edit isn't refused, and makes the network with that failure
one_made : (net : Net) (failure : Failure) → IsThere net failure → after (edit_of failure) net ≡ Ok (failed (failure ∷ []) net)
one_made net (Lan lan) h = ap (λ has. option_map_or Err (first_of ((not has, E06) ∷ [])) (Ok (failed (Lan lan ∷ []) net))) h
one_made net (Bridge bridge) h = ap (λ has. option_map_or Err (first_of ((not has, E04) ∷ [])) (Ok (failed (Bridge bridge ∷ []) net))) h

all_still : (gone : List Failure) (net : Net) (fs : List Failure) → AllByRecursion (IsThere net) fs → AllByRecursion (IsThere (failed gone net)) fs
all_still gone net [] h = tt
all_still gone net (f ∷ fs) h = (still_there gone net f h.0, all_still gone net fs h.1)

all_there : (net : Net) (fs : List Failure) → AllByRecursion (Contains (failures net)) fs → AllByRecursion (IsThere net) fs
all_there net [] h = tt
all_there net (f ∷ fs) h = (failure_there net f h.0, all_there net fs h.1)

-- all of them, one after another, make the network with all
all_made : (fs : List Failure) (net : Net) → AllByRecursion (IsThere net) fs → AreMade net fs
all_made [] net h = refl
all_made (Lan lan ∷ fs) net h =
    let one = failed (Lan lan ∷ []) net in
    ap (then_made (map edit_of fs)) (one_made net (Lan lan) h.0) ∙ all_made fs one (all_still (Lan lan ∷ []) net fs h.1)
all_made (Bridge bridge ∷ fs) net h =
    let one = failed (Bridge bridge ∷ []) net in
    ap (then_made (map edit_of fs)) (one_made net (Bridge bridge) h.0) ∙ all_made fs one (all_still (Bridge bridge ∷ []) net fs h.1)

pub failures_made : (net : Net) (fs : List Failure) → AllByRecursion (Contains (failures net)) fs → AreMade net fs
failures_made net fs h = all_made fs net (all_there net fs h)

pub failure_made : (net : Net) (failure : Failure) → Contains (failures net) failure → after (edit_of failure) net ≡ Ok (failed (failure ∷ []) net)
failure_made net failure h = one_made net failure (failure_there net failure h)
