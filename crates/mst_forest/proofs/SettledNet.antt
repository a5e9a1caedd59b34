-- The outcome that a settled network names is that of its trees.
use Rattle.std.proofs.Common.{◌≡◌, ℕ, ◌==◌, List, Option, Some, None, is_some, refl, sym, ap, subst, ◌∙◌, true≢false, eq-eqb}
use Rattle.std.specs.Option.{option_map, option_and_then}
use Rattle.std.specs.FinMap as fin
use Rattle.std.proofs.lemmas.Bool.{eqb-true}
use Rattle.mst_ids.specs.declared.name.PortName.{PortName}
use Rattle.mst_vector.specs.Rules.{Rules}
use Rattle.mst_vector.specs.Cist.{cist_rules}
use Rattle.mst_vector.specs.Msti.{msti_rules}
use Rattle.mst_topology.specs.Settled.{IsDesignated}
use Rattle.mst_outcome.specs.Assignment.{vector_of, designated_of}
use Rattle.mst_net.specs.tables.Tables.{Net, Numbers}
use Rattle.mst_view.specs.Viewed.{Viewed}
use Rattle.mst_view.specs.declared.in_view.PortInView.{PortInView}
use Rattle.mst_forest.specs.Sight.{Sight, tree_of}
use Rattle.mst_forest.specs.Cist.{cist_sight}
use Rattle.mst_forest.specs.Msti.{msti_sight}
use Rattle.mst_forest.specs.Outcome.{TreeOutcome, IsTreeOutcome, Outcome, IsOutcome}
use Rattle.mst_forest.specs.Agrees.{Agrees, IsNameOf, AreOf, Known}
use Rattle.mst_forest.specs.Forest.{Forest, IsForest, msti_vector, msti_designated}
use Rattle.mst_forest.specs.Settled.{SettledNet, name_of_port, outcome_by, outcome_of, IsSettledNet}
use Rattle.mst_forest.proofs.Lists.{some_is}
use Rattle.mst_forest.proofs.CistTopology.{cist_is_sight}
use Rattle.mst_forest.proofs.MstiTopology.{msti_is_sight}
use Rattle.mst_forest.proofs.Sights.{IsSight, bridge_from, port_from}
use Rattle.mst_forest.proofs.Numbering.{has_keys}
use Rattle.mst_forest.proofs.Seen.{port_seen, port_there}
use Rattle.mst_forest.proofs.Looking.{first_found}

-- ---- one tree
module _ {B P V : Type 0} (net : Net) (numbers : Numbers) (v : Viewed) (region_ids : List (ℕ × ℕ)) (of : AreOf net numbers v region_ids)
    (m : Rules B P V) (s : Sight B P) (sight : IsSight net m s) (o : TreeOutcome V) (is : IsTreeOutcome m (tree_of net s) o)
    (vector : ℕ → Option V) (designated : ℕ → Option ℕ) (agrees : Agrees numbers o vector designated) where
  -- a name of no bridge has no vector
  no_vector : (a : List ℕ) → fin.get numbers.bridges a ≡ None → o.vector a ≡ None
  no_vector a none = go (o.vector a) refl
    where
      go : (x : Option V) → o.vector a ≡ x → o.vector a ≡ None
      go None e = e
      go (Some x) e =
          let h = is.settled.is_bridge a x e in
          let b = bridge_from net of.network m s sight a h.0 h.1 in
          absurd (true≢false (sym (ap is_some b.has_row) ∙ sym (of.numbered.bridges a) ∙ ap is_some none))

  vector_is : (a : List ℕ) → option_and_then vector (fin.get numbers.bridges a) ≡ o.vector a
  vector_is a = go (fin.get numbers.bridges a) refl
    where
      go : (x : Option ℕ) → fin.get numbers.bridges a ≡ x → option_and_then vector (fin.get numbers.bridges a) ≡ o.vector a
      go None e = ap (option_and_then vector) e ∙ sym (no_vector a e)
      go (Some n) e = ap (option_and_then vector) e ∙ agrees.vectors a n e

  -- a name of no LAN has no designated port
  none_designated : (l : List ℕ) → fin.get numbers.lans l ≡ None → o.designated l ≡ None
  none_designated l none = go (o.designated l) refl
    where
      go : (x : Option PortName) → o.designated l ≡ x → o.designated l ≡ None
      go None e = e
      go (Some q) e =
          let d = subst (λ x. IsDesignated m (tree_of net s) o.vector l x) e (is.designated l) in
          let k = has_keys net numbers of.network of.numbered v of.view m s sight d.0 d.3.says.has_port in
          absurd (true≢false (sym (ap is_some k.lan) ∙ ap (λ x. is_some (fin.get numbers.lans x)) d.3.on_lan ∙ ap is_some none))

  -- the port of a designated port's number has its name
  named : (l : List ℕ) (q : PortName) (k : ℕ) → o.designated l ≡ Some q → fin.get numbers.ports q ≡ Some k → name_of_port v k ≡ Some q
  named l q k e f =
      let d = subst (λ x. IsDesignated m (tree_of net s) o.vector l x) e (is.designated l) in
      let x = port_from net of.network m s sight d.0 d.3.says.has_port in
      let z = port_there net numbers v of.view x.port x.there in
      let name : z.0.name ≡ q = ap (λ y. y.name) z.2 ∙ ap (λ y. y.number) x.is ∙ d.2 in
      let own = (port_seen net numbers v of.view z.0 z.1).has_numbers in
      let number : k ≡ z.0.number = some_is k z.0.number (sym f ∙ ap (fin.get numbers.ports) (sym name) ∙ own.port) in
      let first = first_found (λ (y : PortInView). k == y.number) v.ports z.0 z.1 (eq-eqb k z.0.number number) in
      let other = (port_seen net numbers v of.view first.it first.there).has_numbers in
      let one : first.it.name ≡ q = of.numbered.ports_differ first.it.name q k (other.port ∙ ap Some (sym (eqb-true k first.it.number first.passes))) f in
      ap (option_map (λ (y : PortInView). y.name)) first.found ∙ ap Some one

  designated_is : (l : List ℕ) → option_and_then (name_of_port v) (option_and_then designated (fin.get numbers.lans l)) ≡ o.designated l
  designated_is l = go (fin.get numbers.lans l) refl
    where
      by : (n : ℕ) (x : Option ℕ) → designated n ≡ x → IsNameOf numbers x (o.designated l) → option_and_then (name_of_port v) (designated n) ≡ o.designated l
      by n None e h = ap (option_and_then (name_of_port v)) e ∙ sym h
      by n (Some k) e h = ap (option_and_then (name_of_port v)) e ∙ named l h.0 k h.1 h.2 ∙ sym h.1

      go : (x : Option ℕ) → fin.get numbers.lans l ≡ x → option_and_then (name_of_port v) (option_and_then designated (fin.get numbers.lans l)) ≡ o.designated l
      go None e = ap (λ (y : Option ℕ). option_and_then (name_of_port v) (option_and_then designated y)) e ∙ sym (none_designated l e)
      go (Some n) e = ap (λ (y : Option ℕ). option_and_then (name_of_port v) (option_and_then designated y)) e ∙ by n (designated n) refl (agrees.designated_ports l n e)

  tree_is : outcome_by numbers v vector designated ≡ o
  tree_is = λ i. record { vector = λ a. vector_is a i; designated = λ l. designated_is l i }

-- ---- all trees
module _ (net : Net) (numbers : Numbers) (v : Viewed) (f : Forest) (of : AreOf net numbers v f.regions) (is : IsForest net numbers f) where
  abbrev s : SettledNet
  s = record { net = net; numbers = numbers; view = v; forest = f }

  outcome_is : outcome_of s ≡ is.outcome
  outcome_is = λ i. record {
    cist = tree_is net numbers v f.regions of cist_rules (cist_sight net) (cist_is_sight net of.network) is.outcome.cist is.is_outcome.cist (vector_of f.cist) (designated_of f.cist) is.cist i;
    msti = λ tree.
        tree_is net numbers v f.regions of msti_rules (msti_sight net tree is.outcome.cist.designated) (msti_is_sight net of.network tree is.outcome.cist.designated) (is.outcome.msti tree) (is.is_outcome.mstis tree)
        (msti_vector f tree) (msti_designated f tree) (is.mstis tree) i;
  }

  -- a view and a forest of one network make a settled network
  pub is_settled_net : IsSettledNet s
  is_settled_net = record {
    of = of;
    is_outcome = subst (λ (o : Outcome). IsOutcome net o) (sym outcome_is) is.is_outcome;
    cist = subst (λ (o : Outcome). Agrees numbers o.cist (vector_of f.cist) (designated_of f.cist)) (sym outcome_is) is.cist;
    mstis = λ tree. subst (λ (o : Outcome). Agrees numbers (o.msti tree) (msti_vector f tree) (msti_designated f tree)) (sym outcome_is) (is.mstis tree);
  }

-- and the forest of a settled network has the outcome that the network names
abbrev pub forest_of : (s : SettledNet) → IsSettledNet s → IsForest s.net s.numbers s.forest
forest_of s is = record { outcome = outcome_of s; is_outcome = is.is_outcome; cist = is.cist; mstis = is.mstis; regions = is.of.regions }

-- ---- what is told of a view and a forest under any network's numbers is told of a settled network
module _ (s : SettledNet) (is : IsSettledNet s) (v : Viewed) (f : Forest) (same_view : v ≡ s.view) (same_forest : f ≡ s.forest) where
  pub told_of : (Says : Net → Numbers → Outcome → Type 0) → ((net : Net) (numbers : Numbers) (is : IsForest net numbers f) → AreOf net numbers v f.regions → Says net numbers is.outcome)
      → Says s.net s.numbers (outcome_of s)
  told_of Says told =
      subst (λ (g : Forest). (net : Net) (numbers : Numbers) (is : IsForest net numbers g) → AreOf net numbers s.view g.regions → Says net numbers is.outcome) same_forest
      (subst (λ (w : Viewed). (net : Net) (numbers : Numbers) (is : IsForest net numbers f) → AreOf net numbers w f.regions → Says net numbers is.outcome) same_view told)
      s.net s.numbers (forest_of s is) is.of

  pub known_of : Known v f.regions
  known_of = record { net = s.net; numbers = s.numbers; of = subst (λ (w : Viewed). AreOf s.net s.numbers w f.regions) (sym same_view) (subst (λ (g : Forest). AreOf s.net s.numbers s.view g.regions) (sym same_forest) is.of) }
