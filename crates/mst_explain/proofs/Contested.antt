-- The reason of an enabled port of a tree, under the numbers of records, tells what the tree has under names.
use Rattle.std.proofs.Common.{◌≡◌, ℕ, ◌==◌, ◌*◌, ◌-◌, ◌≤◌, ◌^◌, Bool, false, List, [], ◌∷◌, length, Option, Some, None, refl, sym, ap, subst, ◌∙◌, eq-eqb, arith}
use Rattle.std.specs.Prelude.{◌≢◌, if◌then◌else◌, filter_map}
use Rattle.std.specs.List.{Contains, cons_option}
use Rattle.std.specs.FinMap as fin
use Rattle.std.specs.FinMap.{len-entries}
use Rattle.mst_ids.specs.declared.name.PortName.{PortName}
use Rattle.mst_vector.specs.Rules.{Rules, IsMetric}
use Rattle.mst_roles.specs.forest.topology.Topology.{Topology, IsTopology}
use Rattle.mst_roles.specs.forest.topology.Settled.{Settled}
use Rattle.mst_tables.specs.Tables.{Net, Numbers}
use Rattle.mst_view.specs.View.{LogicalPort, view_ports}
use Rattle.mst_view.specs.Viewed.{Viewed, named_port}
use Rattle.mst_view.specs.declared.in_view.PortInView.{PortInView}
use Rattle.mst_roles.specs.forest.Sight.{Sight, tree_of, named_bridge}
use Rattle.mst_roles.specs.forest.Outcome.{TreeOutcome, IsTreeOutcome}
use Rattle.mst_roles.specs.forest.Agrees.{AreOf}
use Rattle.mst_roles.proofs.forest_lemmas.Sights.{IsSight}
use Rattle.mst_roles.proofs.forest_lemmas.Seen.{port_seen, port_of_net}
use Rattle.mst_rows.specs.Rows.{Row}
use Rattle.mst_explain.specs.Explained.{TellsRoot, TellsContest}
use Rattle.mst_explain.specs.Fields.{Field}
use Rattle.mst_explain.specs.Lines.{designated_contest, root_contest, restricted_rows}
use Rattle.mst_explain.specs.Claims.{told_rows}
use Rattle.mst_explain.specs.Seen.{TreeSeen, CanStep, designated_on, lan_claims, bridge_claims, root_rows, second_rows, contest_rows}
use Rattle.mst_explain.proofs.ByName as by_name
use Rattle.mst_explain.proofs.ByName.{HasOwn, Chosen, tells_root}
use Rattle.mst_explain.proofs.SeenTrees.{IsSeenTree, numbers_differ, bridge_is, bridge_number, topology, lan_hold, vector_at}
use Rattle.mst_explain.proofs.Givers.{designated_found, bridge_hold}

length_kept : {A B : Type 0} (h : A → Option B) (xs : List A) → length (filter_map h xs) ≤ length xs
length_kept h [] = omega arith
length_kept {A} {B} h (x ∷ xs) = go (h x) (length_kept h xs)
  where
    go : (o : Option B) → length (filter_map h xs) ≤ length xs → length (cons_option o (filter_map h xs)) ≤ length (x ∷ xs)
    go None l = omega arith
    go (Some y) l = omega arith

-- the law that path costs are bounded, at names
abbrev pub CostsBounded : {B P V : Type 0} → Rules B P V → Type 0
CostsBounded {B} {P} {V} m =
    (t : Topology (List ℕ) (List ℕ) PortName B P) (v : List ℕ → Option V) → IsTopology m t → Settled m t v → (n : List ℕ) (x : V) → v n ≡ Some x → m.cost x ≤ 200_000_000 * (length t.bridges - 1)

module _ (net : Net) (numbers : Numbers) (v : Viewed) (region_ids : List (ℕ × ℕ)) (of : AreOf net numbers v region_ids)
    {B P V : Type 0} (m : Rules B P V) (law : IsMetric m) (s : Sight B P) (sight : IsSight net m s) (o : TreeOutcome V) (is : IsTreeOutcome m (tree_of net s) o)
    (seen : TreeSeen B P V) (same : IsSeenTree net numbers v region_ids of s o seen) where
  abbrev t : Topology (List ℕ) (List ℕ) PortName B P
  t = tree_of net s

  ok : IsTopology m t
  ok = topology net numbers v region_ids of m law s sight o is seen same

  few : length t.bridges ≤ 1024
  few = let l = length_kept (named_bridge s) (fin.entries net.bridges) in let n = of.network.bridges.few in omega (arith, l, n, len-entries net.bridges)

  low : (c n : ℕ) → c ≤ 200_000_000 * (n - 1) → n ≤ 1024 → c ≤ 2 ^ 62
  low c n l k = omega arith

  -- costs are in range
  pub can_step : CostsBounded m → CanStep m v seen
  can_step bounded = record {
    in_range = λ p c there e. sight.in_range (named_port p) c (port_seen net numbers v of.view p there).is_port (sym (same.ports p there) ∙ e);
    costs = λ p x there e.
        low (m.cost x) (length t.bridges) (bounded t o.vector ok is.settled p.name.bridge x (sym (vector_at net numbers v region_ids of m law s sight o is seen same p there) ∙ e)) few;
  }

  module _ (fields : V → List Field) (tree : ℕ) (p : PortInView) (here : Contains v.ports p) (settings : P) (has_settings : s.port (named_port p) ≡ Some settings) where
    -- the port under its name, and what is told of it by claims under names
    abbrev at : LogicalPort
    at = named_port p

    on_net : Contains (view_ports net) at
    on_net = port_of_net net numbers v of.view p here

    own : HasOwn net of.network m law s sight o is fields tree at on_net settings has_settings
    own = by_name.own net of.network m law s sight o is fields tree at on_net settings has_settings

    abbrev lan_rows : List Row
    lan_rows = told_rows m.order fields (designated_contest tree p.name) (Some p.name) (lan_claims m v seen p.lan_number)

    chosen : Chosen net of.network m law s sight o is fields tree at on_net settings has_settings lan_rows
    chosen = by_name.chosen net of.network m law s sight o is fields tree at on_net settings has_settings (lan_claims m v seen p.lan_number) (lan_hold net numbers v region_ids of m law s sight o is seen same p here)

    root_told : (d : PortName) → o.designated p.lan ≡ Some d → d.bridge ≢ p.name.bridge → p.settings.is_restricted ≡ false
        → TellsRoot m fields t o tree at (told_rows m.order fields (root_contest tree p.name) (Some p.name) (bridge_claims m v seen p.bridge))
    root_told =
        tells_root net of.network m law s sight o is fields tree at on_net settings has_settings own.bridge own.is_bridge (bridge_claims m v seen p.bridge)
        (bridge_hold net numbers v region_ids of m law s sight o is seen same p here own.bridge own.is_bridge)

    -- the reason
    pub tells_contest : TellsContest m fields t o tree (named_port p) (contest_rows m v seen fields tree p)
    tells_contest =
        let d = chosen.port in
        let f = designated_found net numbers v region_ids of m law s sight o is seen same p here d chosen.is_designated in
        let bridge : f.port.name.bridge ≡ d.bridge = ap (λ (n : PortName). n.bridge) f.name in
        let second : second_rows m v seen fields tree p (designated_on m v seen p.lan_number) ≡ (if f.port.bridge == p.bridge then [] else root_rows m v seen fields tree p) =
        ap (second_rows m v seen fields tree p) f.found in
        let apart : d.bridge ≢ p.name.bridge → (f.port.bridge == p.bridge) ≡ false =
        λ n. numbers_differ f.port.bridge p.bridge (λ i. n (sym bridge ∙ bridge_is net numbers v region_ids of f.port p f.there here i)) in
        let root : d.bridge ≢ p.name.bridge → second_rows m v seen fields tree p (designated_on m v seen p.lan_number) ≡ root_rows m v seen fields tree p =
        λ n. second ∙ ap (λ (b : Bool). if b then [] else root_rows m v seen fields tree p) (apart n) in
        let line = λ (b : Bool). if b then restricted_rows tree p.name else told_rows m.order fields (root_contest tree p.name) (Some p.name) (bridge_claims m v seen p.bridge) in
        record {
          designated = d;
          is_designated = chosen.is_designated;
          first = lan_rows;
          tells_designated = chosen.tells;
          second = second_rows m v seen fields tree p (designated_on m v seen p.lan_number);
          own = λ e. second ∙ ap (λ (b : Bool). if b then [] else root_rows m v seen fields tree p) (eq-eqb f.port.bridge p.bridge (bridge_number net numbers v region_ids of f.port p f.there here (bridge ∙ e)));
          restricted = λ n r. root n ∙ ap line r;
          free = λ n r. subst (TellsRoot m fields t o tree (named_port p)) (sym (root n ∙ ap line r)) (root_told d chosen.is_designated n r);
          is = refl;
        }
