-- A port has one explanation.
use Rattle.std.proofs.Common.{◌≡◌, ℕ, ◌==◌, Bool, true, false, List, [], ◌∷◌, ◌++◌, Option, Some, None, inl, inr, ◌⊎◌, refl, sym, ap, subst, ◌∙◌, true≢false}
use Rattle.std.specs.Prelude.{◌≢◌, nat_eq, if◌then◌else◌}
use Rattle.std.specs.Ordering.{is_gt}
use Rattle.std.specs.Cmp.Lexicographic.{pointwise, bytes_decides}
use Rattle.mst_ids.specs.declared.name.PortName.{PortName}
use Rattle.mst_vector.specs.Rules.{Rules, IsMetric}
use Rattle.mst_vector.specs.Cist.{cist_rules, within_region, between_regions}
use Rattle.mst_vector.specs.CistLaws.{cist_lawful}
use Rattle.mst_vector.specs.Msti.{msti_rules}
use Rattle.mst_vector.specs.MstiLaws.{msti_lawful}
use Rattle.mst_vector.specs.declared.cist.CistVector.{CistVector}
use Rattle.mst_vector.specs.declared.cist.CistBridge.{CistBridge}
use Rattle.mst_vector.specs.declared.cist.CistPort.{CistPort}
use Rattle.mst_roles.specs.forest.topology.Topology.{TreePort, Topology, IsTopology, HasBridge, HasPort}
use Rattle.mst_roles.specs.forest.topology.Settled.{IsDesignatedVector, Designates, IsRootPathVector}
use Rattle.mst_roles.proofs.forest_lemmas.topology_lemmas.Below.{one_message, one_speaker, one_designated}
use Rattle.mst_roles.proofs.forest_lemmas.topology_lemmas.Orders.{both}
use Rattle.mst_tables.specs.Tables.{Net, IsNetwork}
use Rattle.mst_view.specs.View.{LogicalPort}
use Rattle.mst_roles.specs.forest.Cist.{cist_sight, cist_of}
use Rattle.mst_roles.specs.forest.Msti.{msti_sight, msti_of, is_internal}
use Rattle.mst_roles.specs.forest.Outcome.{TreeOutcome, Outcome}
use Rattle.mst_roles.proofs.forest_lemmas.Lists.{some_is}
use Rattle.mst_roles.proofs.forest_lemmas.Sights.{has_port_ids}
use Rattle.mst_roles.proofs.forest_lemmas.CistTopology.{cist_is_sight, cist_topology}
use Rattle.mst_roles.proofs.forest_lemmas.MstiTopology.{msti_is_sight, msti_topology}
use Rattle.mst_roles.specs.Roles.{cist_role}
use Rattle.mst_rows.specs.Rows.{Row}
use Rattle.mst_explain.specs.declared.lines.Contest.{Contest}
use Rattle.mst_explain.specs.Contest.{IsFirst, IsRival, IsAlone, IsDesignatedVectorOn, Gives}
use Rattle.mst_explain.specs.Explained.{TellsRival, TellsDesignated, TellsRoot, TellsContest, TellsBoundary, TellsInMsti, TellsEnabled, TellsReason, IsExplained, AreExplained}
use Rattle.mst_explain.specs.Fields.{Field, cist_fields, msti_fields, decided}
use Rattle.mst_explain.specs.Lines.{explain_rows, designated_contest, root_contest, over_rows, alone_rows, boundary_rows}
use Rattle.mst_explain.specs.Claims.{same_key}
use Rattle.mst_explain.proofs.Firsts.{key_is, key_same}

-- ---- among some of whom each has one vector, and no two the same
module _ {B P V : Type 0} (m : Rules B P V) (law : IsMetric m) (Has : Option PortName → V → Type 0) (one_vector : (k : Option PortName) (x y : V) → Has k x → Has k y → x ≡ y)
    (one_key : (j k : Option PortName) (x : V) → Has j x → Has k x → j ≡ k) where
  -- vectors that are least are one
  least : (x y : V) → is_gt (m.order x y) ≡ false → is_gt (m.order y x) ≡ false → x ≡ y
  least x y a b = law.equal x y (both law.total x y a b)

  pub one_first : (j k : Option PortName) (x y : V) → IsFirst m Has j x → IsFirst m Has k y → (j ≡ k) × (x ≡ y)
  one_first j k x y a b =
      let same = least x y (a.upto k y b.has) (b.upto j x a.has) in
      (one_key j k y (subst (Has j) same a.has) b.has, same)

  one_rival : (me c d e : Option PortName) (x y : V) → IsRival m Has me c d x → IsRival m Has me c e y → (d ≡ e) × (x ≡ y)
  one_rival me c d e x y a b = go (same_key me c) refl
    where
      go : (t : Bool) → same_key me c ≡ t → (d ≡ e) × (x ≡ y)
      go true f =
          let own = key_is me c f in
          let same = least x y (a.next own e y b.other b.has) (b.next own d x a.other a.has) in
          (one_key d e y (subst (Has d) same a.has) b.has, same)
      go false f =
          let other : me ≢ c = λ i. true≢false (sym (key_same me c i) ∙ f) in
          let same : d ≡ e = a.itself other ∙ sym (b.itself other) in
          (same, one_vector e x y (subst (λ k. Has k x) same a.has) b.has)

  module _ (fields : V → List Field) (me : Option PortName) (contest : Contest) where
    abbrev Told : Option PortName → V → List Row → Type 0
    Told c x rows = TellsRival m fields Has me c x (over_rows contest c) rows

    pub one_told : (c : Option PortName) (x : V) (rows other : List Row) → Told c x rows → Told c x other → rows ≡ other
    one_told c x rows other a b =
        let r = one_rival me c a.rival b.rival a.vector b.vector a.is_rival b.is_rival in
        a.is ∙ (λ i. over_rows contest c (r.0 i) (decided (fields x) (fields (r.1 i)))) ∙ sym b.is

    pub one_line : (c : Option PortName) (x : V) (rows other : List Row) → Told c x rows ⊎ (IsAlone m Has c × (rows ≡ alone_rows contest c)) → Told c x other ⊎ (IsAlone m Has c × (other ≡ alone_rows contest c)) → rows ≡ other
    one_line c x rows other a b = elim a [
      | inl h ↦ elim b [ inl k ↦ one_told c x rows other h k | inr k ↦ absurd (h.is_rival.other (k.0 h.rival h.vector h.is_rival.has)) ]
      | inr h ↦ elim b [ inl k ↦ absurd (k.is_rival.other (h.0 k.rival k.vector k.is_rival.has)) | inr k ↦ h.1 ∙ sym k.1 ]
    ]

-- ---- in one tree, where a vector tells the port that it came by, and a bridge's own vector none
pub record TellsReceiver {B P V : Type 0} (m : Rules B P V) (receiver : V → ℕ) : Type 0 where
  pub own : (b : B) → receiver (m.bridge_vector b) ≡ 0
  pub step : (x : V) (s b : B) (p : P) → receiver (m.root_path_vector x s b p) ≡ m.port_id p

module _ {B P V : Type 0} (m : Rules B P V) (law : IsMetric m) (receiver : V → ℕ) (tells : TellsReceiver m receiver) (t : Topology (List ℕ) (List ℕ) PortName B P) (ok : IsTopology m t)
    (ids : (p : TreePort (List ℕ) (List ℕ) PortName P) → HasPort t p → m.port_id p.settings ≢ 0) (v : List ℕ → Option V) where
  -- what ports say on a LAN
  pub one_said : (lan : List ℕ) (k : Option PortName) (x y : V) → IsDesignatedVectorOn m t v lan k x → IsDesignatedVectorOn m t v lan k y → x ≡ y
  one_said lan None x y a b = absurd a
  one_said lan (Some k) x y a b =
      let same : a.0 ≡ b.0 = ok.one_port a.0 b.0 a.3.has_port b.3.has_port (a.1 ∙ sym b.1) in
      one_message m law t ok v b.0 x y (subst (λ p. IsDesignatedVector m t v p x) same a.3) b.3

  pub one_sayer : (lan : List ℕ) (j k : Option PortName) (x : V) → IsDesignatedVectorOn m t v lan j x → IsDesignatedVectorOn m t v lan k x → j ≡ k
  one_sayer lan None k x a b = absurd a
  one_sayer lan (Some j) None x a b = absurd b
  one_sayer lan (Some j) (Some k) x a b =
      let same : a.0 ≡ b.0 = one_speaker m law t ok v v a.0 b.0 x a.3 b.3 in
      ap Some (sym a.1 ∙ ap (λ (p : TreePort (List ℕ) (List ℕ) PortName P). p.number) same ∙ b.1)

  -- what ports give their bridge
  module _ (n : List ℕ) (b : B) where
    pub receiver_of : (x : V) (s : IsRootPathVector m t v n b x) → receiver x ≡ m.port_id s.port.settings
    receiver_of x s = ap receiver (sym s.is_made) ∙ tells.step s.message s.sender b s.port.settings

    pub one_given : (k : Option PortName) (x y : V) → Gives m t v n b k x → Gives m t v n b k y → x ≡ y
    one_given None x y f g = f ∙ sym g
    one_given (Some k) x y f g =
        let p = f.0 in
        let q = g.0 in
        let ports : p.port ≡ q.port = ok.one_port p.port q.port p.has_port q.has_port (f.1 ∙ sym g.1) in
        let there : Designates m t v q.port.lan p.from p.message = subst (λ (z : TreePort (List ℕ) (List ℕ) PortName P). Designates m t v z.lan p.from p.message) ports p.designates in
        let from : p.from ≡ q.from = one_designated m law t ok v q.port.lan p.from q.from p.message q.message there q.designates in
        let messages : p.message ≡ q.message = one_message m law t ok v q.from p.message q.message (subst (λ z. IsDesignatedVector m t v z p.message) from p.designates.says) q.designates.says in
        let senders : p.sender ≡ q.sender = ok.one_bridge q.from.bridge p.sender q.sender (subst (λ (z : TreePort (List ℕ) (List ℕ) PortName P). HasBridge t z.bridge p.sender) from p.has_sender) q.has_sender in
        sym p.is_made ∙ (λ i. m.root_path_vector (messages i) (senders i) b (ports i).settings) ∙ q.is_made

    pub one_giver : (j k : Option PortName) (x : V) → Gives m t v n b j x → Gives m t v n b k x → j ≡ k
    one_giver None None x f g = refl
    one_giver None (Some k) x f g = absurd (ids g.0.port g.0.has_port (sym (receiver_of x g.0) ∙ ap receiver f ∙ tells.own b))
    one_giver (Some j) None x f g = absurd (ids f.0.port f.0.has_port (sym (receiver_of x f.0) ∙ ap receiver g ∙ tells.own b))
    one_giver (Some j) (Some k) x f g =
        let ports : f.0.port ≡ g.0.port =
        ok.port_ids f.0.port g.0.port f.0.has_port f.0.is_part g.0.has_port g.0.is_part (f.0.on_bridge ∙ sym g.0.on_bridge) (sym (receiver_of x f.0) ∙ receiver_of x g.0) in
        ap Some (sym f.1 ∙ ap (λ (p : TreePort (List ℕ) (List ℕ) PortName P). p.number) ports ∙ g.1)

module _ {B P V : Type 0} (m : Rules B P V) (law : IsMetric m) (receiver : V → ℕ) (tells : TellsReceiver m receiver) (fields : V → List Field)
    (t : Topology (List ℕ) (List ℕ) PortName B P) (ok : IsTopology m t) (ids : (p : TreePort (List ℕ) (List ℕ) PortName P) → HasPort t p → m.port_id p.settings ≢ 0) (o : TreeOutcome V) (tree : ℕ) (p : LogicalPort) where
  one_designated_line : (q : PortName) (rows other : List Row) → TellsDesignated m fields t o tree p q rows → TellsDesignated m fields t o tree p q other → rows ≡ other
  one_designated_line q rows other a b =
      let designated_vector = one_said m law receiver tells t ok ids o.vector p.lan in
      let sayer = one_sayer m law receiver tells t ok ids o.vector p.lan in
      let f = one_first m law (IsDesignatedVectorOn m t o.vector p.lan) designated_vector sayer (Some q) (Some q) a.vector b.vector a.is_first b.is_first in
      one_line m law (IsDesignatedVectorOn m t o.vector p.lan) designated_vector sayer fields (Some p.name) (designated_contest tree p.name) (Some q) b.vector rows other
      (subst (λ (x : V). TellsRival m fields (IsDesignatedVectorOn m t o.vector p.lan) (Some p.name) (Some q) x (over_rows (designated_contest tree p.name) (Some q)) rows ⊎ (IsAlone m (IsDesignatedVectorOn m t o.vector p.lan) (Some q) × (rows ≡ alone_rows (designated_contest tree p.name) (Some q)))) f.1 a.told) b.told

  one_root_line : (rows other : List Row) → TellsRoot m fields t o tree p rows → TellsRoot m fields t o tree p other → rows ≡ other
  one_root_line rows other a b = go a.bridge b.bridge (ok.one_bridge p.name.bridge a.bridge b.bridge a.is_bridge b.is_bridge) a.giver b.giver a.vector b.vector a.is_first b.is_first a.told b.told
    where
      At : B → Option PortName → V → Type 0
      At b = Gives m t o.vector p.name.bridge b

      Told : B → Option PortName → V → List Row → Type 0
      Told b w x rows = TellsRival m fields (At b) (Some p.name) w x (over_rows (root_contest tree p.name) w) rows

      go : (b c : B) → b ≡ c → (w z : Option PortName) (x y : V) → IsFirst m (At b) w x → IsFirst m (At c) z y → Told b w x rows → Told c z y other → rows ≡ other
      go b c e w z x y f g h k =
          let given = one_given m law receiver tells t ok ids o.vector p.name.bridge c in
          let giver = one_giver m law receiver tells t ok ids o.vector p.name.bridge c in
          let r = one_first m law (At c) given giver w z x y (subst (λ d. IsFirst m (At d) w x) e f) g in
          one_told m law (At c) given giver fields (Some p.name) (root_contest tree p.name) z y rows other
          (subst (λ (u : V). Told c z u rows) r.1 (subst (λ u. Told c u x rows) r.0 (subst (λ d. Told d w x rows) e h))) k

  pub one_contest : (rows other : List Row) → TellsContest m fields t o tree p rows → TellsContest m fields t o tree p other → rows ≡ other
  one_contest rows other a b =
      let names : a.designated ≡ b.designated = some_is a.designated b.designated (sym a.is_designated ∙ b.is_designated) in
      let firsts : a.first ≡ b.first = one_designated_line b.designated a.first b.first (subst (λ q. TellsDesignated m fields t o tree p q a.first) names a.tells_designated) b.tells_designated in
      a.is ∙ (λ i. firsts i ++ seconds (ap (λ (n : PortName). n.bridge) names) (pointwise nat_eq b.designated.bridge p.name.bridge) refl i) ∙ sym b.is
    where
      seconds : a.designated.bridge ≡ b.designated.bridge → (s : Bool) → pointwise nat_eq b.designated.bridge p.name.bridge ≡ s → a.second ≡ b.second
      seconds names true e = let own = (bytes_decides b.designated.bridge p.name.bridge).0 e in a.own (names ∙ own) ∙ sym (b.own own)
      seconds names false e = by p.settings.is_restricted refl
        where
          other_bridge : b.designated.bridge ≢ p.name.bridge
          other_bridge i = true≢false (sym ((bytes_decides b.designated.bridge p.name.bridge).1 i) ∙ e)

          by : (r : Bool) → p.settings.is_restricted ≡ r → a.second ≡ b.second
          by true f = a.restricted (λ i. other_bridge (sym names ∙ i)) f ∙ sym (b.restricted other_bridge f)
          by false f = one_root_line a.second b.second (a.free (λ i. other_bridge (sym names ∙ i)) f) (b.free other_bridge f)

-- ---- in all trees
pub cist_tells : TellsReceiver cist_rules (λ x. x.receiver)
cist_tells = record { own = λ b. refl; step = λ x s b p. go x b p (s.region == b.region) }
  where
    go : (x : CistVector) (b : CistBridge) (p : CistPort) (t : Bool) → (if t then within_region x p else between_regions x b p).receiver ≡ p.id
    go x b p true = refl
    go x b p false = refl

pub msti_tells : TellsReceiver msti_rules (λ x. x.receiver)
msti_tells = record { own = λ b. refl; step = λ x s b p. refl }

module _ (net : Net) (ok : IsNetwork net) (o : Outcome) (tree : ℕ) (p : LogicalPort) where
  abbrev d : List ℕ → Option PortName
  d = o.cist.designated

  one_boundary : (rows other : List Row) → TellsBoundary net o tree p rows → TellsBoundary net o tree p other → rows ≡ other
  one_boundary rows other a b = a.2 ∙ ap (boundary_rows tree p.name (cist_role net o p)) (some_is a.0 b.0 (sym a.1 ∙ b.1)) ∙ sym b.2

  one_in_msti : (internal : Bool) (rows other : List Row) → TellsInMsti net o tree p internal rows → TellsInMsti net o tree p internal other → rows ≡ other
  one_in_msti true rows other a b =
      one_contest msti_rules msti_lawful (λ x. x.receiver) msti_tells msti_fields (msti_of net tree d) (msti_topology net ok tree d)
      (has_port_ids net ok msti_rules (msti_sight net tree d) (msti_is_sight net ok tree d)) (o.msti tree) tree p rows other a b
  one_in_msti false rows other a b = one_boundary rows other a b

  one_enabled : (cist : Bool) (rows other : List Row) → TellsEnabled net o tree p cist rows → TellsEnabled net o tree p cist other → rows ≡ other
  one_enabled true rows other a b =
      one_contest cist_rules cist_lawful (λ x. x.receiver) cist_tells cist_fields (cist_of net) (cist_topology net ok)
      (has_port_ids net ok cist_rules (cist_sight net) (cist_is_sight net ok)) o.cist tree p rows other a b
  one_enabled false rows other a b = one_in_msti (is_internal net d p) rows other a b

  one_reason : (enabled : Bool) (rows other : List Row) → TellsReason net o tree p enabled rows → TellsReason net o tree p enabled other → rows ≡ other
  one_reason true rows other a b = one_enabled (tree == 0) rows other a b
  one_reason false rows other a b = a ∙ sym b

  pub one_explained : (rows other : List Row) → IsExplained net o tree p rows → IsExplained net o tree p other → rows ≡ other
  one_explained rows other a b =
      let roles : a.role ≡ b.role = some_is a.role b.role (sym a.has_role ∙ b.has_role) in
      let reasons : a.reason ≡ b.reason = one_reason p.is_enabled a.reason b.reason a.tells b.tells in
      a.is ∙ (λ i. explain_rows tree p.name p.lan (roles i) ++ reasons i) ∙ sym b.is

-- in each of some trees
pub all_explained_once : (net : Net) → IsNetwork net → (o : Outcome) (p : LogicalPort) (trees : List ℕ) (rows other : List Row) → AreExplained net o p trees rows → AreExplained net o p trees other → rows ≡ other
all_explained_once net ok o p [] rows other a b = a ∙ sym b
all_explained_once net ok o p (tree ∷ trees) rows other a b =
    a.4 ∙ (λ i. one_explained net ok o tree p a.0 b.0 a.2 b.2 i ++ all_explained_once net ok o p trees a.1 b.1 a.3 b.3 i) ∙ sym b.4
