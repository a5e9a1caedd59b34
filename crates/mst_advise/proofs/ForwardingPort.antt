-- Whether the logical port of a name forwards in a tree: a port that is there is the only one of its name, and so it hasn't stopped.
use Rattle.std.proofs.Common.{◌≡◌, ℕ, ◌&&◌, ◌||◌, Bool, true, false, true≢false, not, List, [], Some, None, refl, sym, ap, subst, ◌∙◌}
use Rattle.std.specs.List.{Contains, find}
use Rattle.std.proofs.lemmas.Bool.{and_parts, and_from}
use Rattle.mst_graph.proofs.Members.{from_filter, in_filter, passing}
use Rattle.mst_ids.specs.declared.name.PortName.{PortName}
use Rattle.mst_view.specs.View.{LogicalPort, view_ports}
use Rattle.mst_policy.specs.Items as policy
use Rattle.mst_policy.specs.declared.expectation.Expectation.TheVariants as expect
use Rattle.mst_net.specs.tables.Tables.{Net, port_eq}
use Rattle.mst_roles.specs.Roles.{forwards, role_in}
use Rattle.mst_roles.specs.declared.kind.Role.{Role}
use Rattle.mst_roles.specs.declared.kind.Role.TheVariants as role
use Rattle.mst_roles.specs.forest.Outcome.{Outcome}
use Rattle.mst_roles.specs.forest.Settled.{SettledNet, IsSettledNet, outcome_of}
use Rattle.mst_roles.proofs.Named.{port_found, port_is, port_same}
use Rattle.mst_roles.proofs.forest_lemmas.Lists.{no_some, some_is}
use Rattle.mst_roles.proofs.forest_lemmas.Looking.{first_found}
use Rattle.mst_roles.proofs.forest_lemmas.Seen.{port_there}
use Rattle.mst_verify.specs.tree_judges.judged.reasons.Holds.{Holds, is_wanted}
use Rattle.mst_verify.specs.tree_judges.judged.reasons.Named.{is_enabled, is_port_named, nothing_before, stopped}
use Rattle.mst_verify.proofs.tree_judges_lemmas.RegionOf.{found_there}
use Rattle.mst_advise.specs.Costs.{port_named}
use Rattle.mst_advise.specs.Goals.{forwarding, this_port}

pub wanted_forwards : (r : Role) → forwards r ≡ is_wanted forwarding (Some r)
wanted_forwards role.Root = refl
wanted_forwards role.Designated = refl
wanted_forwards role.Alternate = refl
wanted_forwards role.Backup = refl
wanted_forwards role.Master = refl
wanted_forwards role.Disabled = refl

or_none : (b : Bool) → (b || false) ≡ true → b ≡ true
or_none true e = refl
or_none false e = e

module _ (s : SettledNet) (is : IsSettledNet s) (tree : ℕ) (name : PortName) where
  abbrev net : Net
  net = s.net

  abbrev o : Outcome
  o = outcome_of s

  abbrev ps : List LogicalPort
  ps = view_ports s.net

  abbrev its : LogicalPort → Bool
  its = is_port_named s.net (this_port name)

  abbrev IsWanted : Type 0
  IsWanted = Holds s.net (outcome_of s) s.net [] nothing_before (expect.Role tree (this_port name) forwarding)

  -- one of these has the name
  has_name : (p : LogicalPort) → its p ≡ true → p.name ≡ name
  has_name p e = sym (port_is name p.name (or_none (port_eq name p.name) (and_parts (policy.has_port (this_port name) p.name) (not (stopped net p)) e).0))

  -- where none is found there is none
  pub none_wanted : port_named net name ≡ None → IsWanted
  none_wanted none p h =
      let r = from_filter its ps p h in
      let f = first_found (λ (q : LogicalPort). port_eq q.name name) ps p r.0 (port_same p.name name (has_name p r.1)) in
      absurd (no_some f.it (sym none ∙ f.found))

  -- a port of the name is the one that is found
  listed : (q : LogicalPort) → Contains ps q → q.name ≡ name → port_named net name ≡ Some q
  listed q h e =
      let t = port_there s.net s.numbers s.view is.of.view q h in
      let same : t.0.name ≡ name = ap (λ (x : LogicalPort). x.name) t.2 ∙ e in
      ap (λ (n : PortName). find (λ (r : LogicalPort). port_eq r.name n) ps) (sym same) ∙ port_found s.net s.numbers s.view s.forest.regions is.of t.0 t.1 ∙ ap Some t.2

  module _ (p : LogicalPort) (found : port_named net name ≡ Some p) where
    same_port : (q : LogicalPort) → Contains ps q → q.name ≡ name → q ≡ p
    same_port q h e = some_is q p (sym (listed q h e) ∙ found)

    there : Contains ps p
    there = (found_there (λ (q : LogicalPort). port_eq q.name name) ps p found).0

    own_name : p.name ≡ name
    own_name = port_is p.name name (found_there (λ (q : LogicalPort). port_eq q.name name) ps p found).1

    not_stopped : stopped net p ≡ false
    not_stopped = go p.is_enabled refl
      where
        none_enabled : p.is_enabled ≡ false → (b : Bool) → is_enabled net p.name ≡ b → b ≡ false
        none_enabled off false e = refl
        none_enabled off true e =
            let q = passing (λ (q : LogicalPort). q.is_enabled && port_eq q.name p.name) ps e in
            let parts = and_parts q.0.is_enabled (port_eq q.0.name p.name) q.2 in
            let same = same_port q.0 q.1 (port_is q.0.name p.name parts.1 ∙ own_name) in
            absurd (true≢false (sym parts.0 ∙ ap (λ (r : LogicalPort). r.is_enabled) same ∙ off))

        go : (b : Bool) → p.is_enabled ≡ b → stopped net p ≡ false
        go true e = ap (λ b. not b && is_enabled net p.name) e
        go false e = ap (λ b. not b && is_enabled net p.name) e ∙ none_enabled e (is_enabled net p.name) refl

    pub wanted_where : is_wanted forwarding (role_in net o tree p) ≡ true → IsWanted
    wanted_where w q h =
        let r = from_filter its ps q h in
        subst (λ (r : LogicalPort). is_wanted forwarding (role_in net o tree r) ≡ true) (sym (same_port q r.0 (has_name q r.1))) w

    pub where_wanted : IsWanted → is_wanted forwarding (role_in net o tree p) ≡ true
    where_wanted w =
        let listed_so : policy.has_port (this_port name) p.name ≡ true = ap (λ b. b || false) (port_same name p.name (sym own_name)) in
        w p (in_filter its ps p there (and_from (policy.has_port (this_port name) p.name) (not (stopped net p)) listed_so (ap not not_stopped)))
