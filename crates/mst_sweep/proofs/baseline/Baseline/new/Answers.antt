use Rattle.std.proofs.Common.{◌≡◌, ◌+◌, ◌<◌, ℕ, List, length, map, get_or, nat_eq, ap, sym, subst, ◌∙◌}
use Rattle.std.specs.List.{All, AllZip}
use Rattle.std.proofs.lemmas.List.{get_or_default}
use Rattle.mst_graph.specs.Numbers.{AreNumbers}
use Rattle.mst_net.specs.tables.Tables.{Net, Numbers}
use Rattle.mst_vlan.specs.Carried.{ViewWithTrees}
use Rattle.mst_vlan.specs.forest.Agrees.{AreOf}
use Rattle.mst_vlan.specs.forest.Forest.{IsForest}
use Rattle.mst_sweep.specs.Baseline.{AreHomes}
use Rattle.mst_sweep.proofs.baseline.Baseline.new.Goals as goal

firsts_below : (told numbers firsts : List ℕ) → length told ≡ 4094 → AreNumbers nat_eq told numbers firsts → All (λ place. place < 4094) firsts
firsts_below told numbers firsts long are = λ n d below. let e = get_or_default firsts n d 0 below in subst (λ place. place < 4094) (sym e) (subst (λ k. get_or firsts n 0 < k) long (are.first n below).0)

pub homes_at-requires : goal.homes_at-requires
homes_at-requires c =
    let s = c.in_ok-classes.ensures in
    subst (All (λ place. place < 4094)) (sym c.as_slice.ensures.value) (firsts_below s.numbers c.in_ok-classes.classes.numbers.items c.in_ok-classes.classes.firsts.items s.tell.as_long s.classes)

pub returns : goal.returns
returns c =
    let s = c.in_ok-classes.ensures in
    let homes : List (List (ℕ × ℕ)) = map (λ h. h.entries) c.in_ok-homes.homes.items in
    let firsts : List ℕ = c.in_ok-classes.classes.firsts.items in
    let Are : List ℕ → ViewWithTrees → Type 0 =
    λ places s. (net : Net) (k : Numbers) (is : IsForest net k s.forest) → AreOf net k s.view s.forest.regions → AllZip (λ place homes. AreHomes net k is.outcome (place + 1) homes) places homes in
    record {
      tables = s.tables;
      sets = s.sets;
      have_tables = s.have_tables;
      have_sets = s.have_sets;
      numbers = s.numbers;
      tell = s.tell;
      classes = s.classes;
      as_long = c.in_ok-homes.ensures.as_long ∙ ap length c.as_slice.ensures.value;
      homes = subst (Are firsts) c.in_ok-carriage.ensures (subst (λ places. Are places c.in_ok-carriage.carriage) c.as_slice.ensures.value c.in_ok-homes.ensures.homes);
    }
