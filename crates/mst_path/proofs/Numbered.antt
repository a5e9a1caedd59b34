-- A node for each name of a bridge and of a logical LAN.
use Rattle.std.proofs.Common.{◌≡◌, ℕ, ◌+◌, ◌<◌, ◌^◌, true, List, [], map, length, get_or, sym, ap, ◌∙◌, subst, arith}
use Rattle.std.specs.List.{All}
use Rattle.std.specs.Cmp.Lexicographic.{nat_list_eq_equiv}
use Rattle.std.proofs.lemmas.List.{length-map, get_or-map}
use Rattle.std.proofs.lemmas.List.Elements.{All-from_get_or}
use Rattle.mst_graph.specs.Numbers.{AreNumbers}
use Rattle.mst_view.specs.Aggregation.{same_name}
use Rattle.mst_view.proofs.Names.{same_names}
use Rattle.mst_view.specs.declared.in_view.PortInView.{PortInView}
use Rattle.mst_path.specs.Places.{bridge_names, lan_names, AreNodesOf}

equal_names : (a b : List ℕ) → a ≡ b → same_name a b ≡ true
equal_names a b e = ap (same_name a) (sym e) ∙ nat_list_eq_equiv.refl a

pub numbers_below : (keys : List (List ℕ)) (numbers firsts : List ℕ) → AreNumbers same_name keys numbers firsts → length firsts < 2 ^ 63 → All (λ n. n < 2 ^ 63) numbers
numbers_below keys numbers firsts are small = All-from_get_or (λ n. n < 2 ^ 63) numbers 0 (λ i h. let below = are.below i (subst (λ n. i < n) are.as_long h) in omega arith)

module _ (ports : List PortInView) (bridges first_bridges lan_numbers first_lans lans : List ℕ) (count : ℕ) (b : AreNumbers same_name (bridge_names ports) bridges first_bridges) (l : AreNumbers same_name (lan_names ports) lan_numbers first_lans)
    (shifted : lans ≡ map (λ n. length first_bridges + n) lan_numbers) (total : count ≡ length first_bridges + length first_lans) where
  bridge_keys : length (bridge_names ports) ≡ length ports
  bridge_keys = length-map ports (λ (p : PortInView). p.name.bridge)

  lan_keys : length (lan_names ports) ≡ length ports
  lan_keys = length-map ports (λ (p : PortInView). p.lan)

  bridge_in : (i : ℕ) → i < length ports → i < length (bridge_names ports)
  bridge_in i h = subst (λ n. i < n) (sym bridge_keys) h

  lan_in : (i : ℕ) → i < length ports → i < length (lan_names ports)
  lan_in i h = subst (λ n. i < n) (sym lan_keys) h

  lan_at : (i : ℕ) → i < length ports → get_or lans i 0 ≡ length first_bridges + get_or lan_numbers i 0
  lan_at i h = ap (λ l. get_or l i 0) shifted ∙ get_or-map (λ n. length first_bridges + n) lan_numbers i 0 0 (subst (λ n. i < n) (sym l.as_long) (lan_in i h))

  for_each : length bridges ≡ length ports
  for_each = b.as_long ∙ bridge_keys

  bridge_below : (i : ℕ) → i < length ports → get_or bridges i 0 < length first_bridges
  bridge_below i h = b.below i (bridge_in i h)

  lan_below : (i : ℕ) → i < length ports → get_or lan_numbers i 0 < length first_lans
  lan_below i h = l.below i (lan_in i h)

  in_ports : (i : ℕ) → i < length bridges → i < length ports
  in_ports i h = subst (λ n. i < n) for_each h

  pub nodes_of : AreNodesOf ports bridges lans count
  nodes_of = record {
    nodes = record {
      as_long = ap length shifted ∙ length-map lan_numbers (λ n. length first_bridges + n) ∙ l.as_long ∙ lan_keys ∙ sym for_each;
      bridges_below = λ i h. (let low = bridge_below i (in_ports i h) in omega arith);
      lans_below = λ i h. (let is = lan_at i (in_ports i h) in let low = lan_below i (in_ports i h) in omega arith);
    };
    for_each = for_each;
    one_bridge = λ i j h k. (
      λ e. same_names (get_or (bridge_names ports) i []) (get_or (bridge_names ports) j []) ((b.equal i j [] (bridge_in i h) (bridge_in j k)).0 e),
      λ e. (b.equal i j [] (bridge_in i h) (bridge_in j k)).1 (equal_names (get_or (bridge_names ports) i []) (get_or (bridge_names ports) j []) e),
    );
    one_lan = λ i j h k. (
      λ e. (let x = lan_at i h in let y = lan_at j k in let same : get_or lan_numbers i 0 ≡ get_or lan_numbers j 0 = omega arith in
          same_names (get_or (lan_names ports) i []) (get_or (lan_names ports) j []) ((l.equal i j [] (lan_in i h) (lan_in j k)).0 same)),
      λ e. lan_at i h ∙ ap (λ n. length first_bridges + n) ((l.equal i j [] (lan_in i h) (lan_in j k)).1 (equal_names (get_or (lan_names ports) i []) (get_or (lan_names ports) j []) e)) ∙ sym (lan_at j k),
    );
    apart = λ i j h k e. (let x = bridge_below i (in_ports i h) in let y = lan_at j (in_ports j k) in absurd (omega arith));
  }
