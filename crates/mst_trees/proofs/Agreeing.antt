-- The outcome of one tree under names is the one under numbers.
use Rattle.std.proofs.Common.{◌≡◌, ℕ, List, Option, Some, None, refl, sym, ap, subst, ◌∙◌, MatchOption}
use Rattle.std.specs.Option.{unwrap_or}
use Rattle.std.specs.FinMap as fin
use Rattle.mst_ids.specs.declared.name.PortName.{PortName}
use Rattle.mst_vector.specs.Rules.{Rules}
use Rattle.mst_forest.specs.topology.Topology.{TreePort, Topology, IsTopology, HasBridge, HasPort}
use Rattle.mst_forest.specs.topology.Settled.{Settled, IsDesignated}
use Rattle.mst_forest.specs.outcome.Renamed.{Renaming, IsRenamed}
use Rattle.mst_forest.specs.outcome.Assignment.{Assignment, vector_of, designated_of, IsSettledFor}
use Rattle.mst_net.specs.tables.Tables.{Net, Numbers, IsNetwork}
use Rattle.mst_net.specs.tables.Contents.{IsNumbered}
use Rattle.mst_view.specs.Viewed.{Viewed, IsView}
use Rattle.mst_forest.specs.Sight.{Sight, tree_of}
use Rattle.mst_forest.specs.Outcome.{TreeOutcome, IsTreeOutcome}
use Rattle.mst_forest.specs.Agrees.{Agrees, IsNameOf}
use Rattle.mst_forest.proofs.Lists.{some_is}
use Rattle.mst_forest.proofs.Sights.{IsSight, is_topology}
use Rattle.mst_forest.proofs.Numbering.{numbering, number_tree, tree_renamed, bridge_number, HasKeys, has_keys}

-- the laws on renamed topologies, from names to numbers
abbrev pub RenamedVectors : {B P V : Type 0} → Rules B P V → Type 0
RenamedVectors {B} {P} {V} m =
    (r : Renaming (List ℕ) (List ℕ) PortName ℕ ℕ ℕ) (t : Topology (List ℕ) (List ℕ) PortName B P) (u : Topology ℕ ℕ ℕ B P) (v : List ℕ → Option V) (w : ℕ → Option V)
    → IsTopology m t → IsRenamed r t u → Settled m t v → Settled m u w → (n : List ℕ) (b : B) → HasBridge t n b → w (r.bridge n) ≡ v n

abbrev pub RenamedPorts : {B P V : Type 0} → Rules B P V → Type 0
RenamedPorts {B} {P} {V} m =
    (r : Renaming (List ℕ) (List ℕ) PortName ℕ ℕ ℕ) (t : Topology (List ℕ) (List ℕ) PortName B P) (u : Topology ℕ ℕ ℕ B P) (v : List ℕ → Option V) (w : ℕ → Option V)
    → IsTopology m t → IsRenamed r t u → Settled m t v → Settled m u w → (p : TreePort (List ℕ) (List ℕ) PortName P) → HasPort t p
    → (o : Option PortName) (q : Option ℕ) → IsDesignated m t v p.lan o → IsDesignated m u w (r.lan p.lan) q → MatchOption o (q ≡ None) (λ k. q ≡ Some (r.port k))

module _ {B P V : Type 0} (net : Net) (numbers : Numbers) (ok : IsNetwork net) (num : IsNumbered net numbers) (v : Viewed) (view : IsView net numbers v)
    (m : Rules B P V) (s : Sight B P) (sight : IsSight net m s) (same_vectors : RenamedVectors m) (same_ports : RenamedPorts m)
    (o : TreeOutcome V) (is : IsTreeOutcome m (tree_of net s) o) (a : Assignment V) (settled : IsSettledFor m (number_tree s v) a) where
  abbrev r : Renaming (List ℕ) (List ℕ) PortName ℕ ℕ ℕ
  r = numbering numbers

  abbrev t : Topology (List ℕ) (List ℕ) PortName B P
  t = tree_of net s

  abbrev u : Topology ℕ ℕ ℕ B P
  u = number_tree s v

  topology : IsTopology m t
  topology = is_topology net ok m s sight

  is_renamed : IsRenamed r t u
  is_renamed = tree_renamed net numbers ok num v view m s sight

  -- a bridge of the tree has the same vector
  in_tree : (n : List ℕ) (b : B) (k : ℕ) → HasBridge t n b → fin.get numbers.bridges n ≡ Some k → vector_of a k ≡ o.vector n
  in_tree n b k h e = ap (vector_of a) (sym (ap (λ x. unwrap_or x 0) e)) ∙ same_vectors r t u o.vector (vector_of a) topology is_renamed is.settled settled.vectors n b h

  -- a vector under a number is that of a bridge with the number
  record HasName (k : ℕ) : Type 0 where
    name : List ℕ
    settings : B
    there : HasBridge t name settings
    has_number : fin.get numbers.bridges name ≡ Some k

  named : (k : ℕ) (x : V) → vector_of a k ≡ Some x → HasName k
  named k x e =
      let b = settled.vectors.is_bridge k x e in
      let n = is_renamed.from_bridge k b.0 b.1 in
      let has = bridge_number net numbers ok num v view m s sight n.0 b.0 n.1 in
      record { name = n.0; settings = b.0; there = n.1; has_number = has.1 ∙ ap Some (sym (ap (λ x. unwrap_or x 0) has.1) ∙ n.2) }

  vectors : (n : List ℕ) (k : ℕ) → fin.get numbers.bridges n ≡ Some k → vector_of a k ≡ o.vector n
  vectors n k e = go (o.vector n) (vector_of a k) refl refl
    where
      go : (x y : Option V) → o.vector n ≡ x → vector_of a k ≡ y → vector_of a k ≡ o.vector n
      go (Some x) y f g = let b = is.settled.is_bridge n x f in in_tree n b.0 k b.1 e
      go None None f g = g ∙ sym f
      go None (Some y) f g =
          let z = named k y g in
          let one : z.name ≡ n = num.bridges_differ z.name n k z.has_number e in
          in_tree n z.settings k (subst (λ q. HasBridge t q z.settings) one z.there) e

  no_vector : (k : ℕ) → ((n : List ℕ) → fin.get numbers.bridges n ≡ Some k → ⊥) → vector_of a k ≡ None
  no_vector k none = go (vector_of a k) refl
    where
      go : (y : Option V) → vector_of a k ≡ y → vector_of a k ≡ None
      go None g = g
      go (Some y) g = let z = named k y g in absurd (none z.name z.has_number)

  keys : (p : TreePort (List ℕ) (List ℕ) PortName P) → HasPort t p → HasKeys net numbers ok num v view m s sight p
  keys p h = has_keys net numbers ok num v view m s sight p h

  -- a port that is designated under its name is so under its number
  by_name : (l : List ℕ) (n : ℕ) (q : PortName) → fin.get numbers.lans l ≡ Some n → o.designated l ≡ Some q → IsNameOf numbers (designated_of a n) (Some q)
  by_name l n q e f =
      let d = subst (λ x. IsDesignated m t o.vector l x) f (is.designated l) in
      let p = d.0 in
      let on : p.lan ≡ l = d.3.on_lan in
      let k = keys p d.3.says.has_port in
      let at : n ≡ r.lan p.lan = some_is n (r.lan p.lan) (sym e ∙ ap (fin.get numbers.lans) (sym on) ∙ k.lan) in
      let here : designated_of a (r.lan p.lan) ≡ Some (r.port q) =
      same_ports r t u o.vector (vector_of a) topology is_renamed is.settled settled.vectors p d.3.says.has_port (Some q) (designated_of a (r.lan p.lan))
      (subst (λ x. IsDesignated m t o.vector x (Some q)) (sym on) d) (settled.designated (r.lan p.lan)) in
      subst (λ x. IsNameOf numbers x (Some q)) (sym (ap (designated_of a) at ∙ here)) (q, refl, ap (fin.get numbers.ports) (sym d.2) ∙ k.port ∙ ap (λ x. Some (r.port x)) d.2)

  -- where none is designated under names, none is under numbers
  record OnLan (n : ℕ) : Type 0 where
    port : TreePort (List ℕ) (List ℕ) PortName P
    there : HasPort t port
    lan_number : fin.get numbers.lans port.lan ≡ Some n

  on_lan : (n k : ℕ) → designated_of a n ≡ Some k → OnLan n
  on_lan n k e =
      let d = subst (λ x. IsDesignated m u (vector_of a) n x) e (settled.designated n) in
      let p = is_renamed.from_port d.0 d.3.says.has_port in
      let lan : r.lan p.0.lan ≡ n = ap (λ (x : TreePort ℕ ℕ ℕ P). x.lan) p.2 ∙ d.3.on_lan in
      record { port = p.0; there = p.1; lan_number = (keys p.0 p.1).lan ∙ ap Some lan }

  silent : (l : List ℕ) (n : ℕ) → fin.get numbers.lans l ≡ Some n → o.designated l ≡ None → designated_of a n ≡ None
  silent l n e f = go (designated_of a n) refl
    where
      go : (y : Option ℕ) → designated_of a n ≡ y → designated_of a n ≡ None
      go None g = g
      go (Some k) g =
          let x = on_lan n k g in
          let one : x.port.lan ≡ l = num.lans_differ x.port.lan l n x.lan_number e in
          let at : r.lan x.port.lan ≡ n = ap (λ y. unwrap_or y 0) x.lan_number in
          ap (designated_of a) (sym at)
          ∙ same_ports r t u o.vector (vector_of a) topology is_renamed is.settled settled.vectors x.port x.there None (designated_of a (r.lan x.port.lan))
          (subst (λ y. IsDesignated m t o.vector x.port.lan y) (ap o.designated one ∙ f) (is.designated x.port.lan)) (settled.designated (r.lan x.port.lan))

  designated_ports : (l : List ℕ) (n : ℕ) → fin.get numbers.lans l ≡ Some n → IsNameOf numbers (designated_of a n) (o.designated l)
  designated_ports l n e = go (o.designated l) refl
    where
      go : (x : Option PortName) → o.designated l ≡ x → IsNameOf numbers (designated_of a n) x
      go None f = subst (λ y. IsNameOf numbers y None) (sym (silent l n e f)) refl
      go (Some q) f = by_name l n q e f

  no_designated : (n : ℕ) → ((l : List ℕ) → fin.get numbers.lans l ≡ Some n → ⊥) → designated_of a n ≡ None
  no_designated n none = go (designated_of a n) refl
    where
      go : (y : Option ℕ) → designated_of a n ≡ y → designated_of a n ≡ None
      go None g = g
      go (Some k) g = let x = on_lan n k g in absurd (none x.port.lan x.lan_number)

  pub agrees : Agrees numbers o (vector_of a) (designated_of a)
  agrees = record { vectors = vectors; no_vector = no_vector; designated_ports = designated_ports; no_designated = no_designated }
