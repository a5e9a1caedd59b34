-- VIDs that the same ports carry have the same paths.
use Rattle.std.proofs.Common.{◌≡◌, ℕ, List, Option, Some, None, sym, subst}
use Rattle.mst_graph.specs.declared.keys.Numbering.{Numbering}
use Rattle.mst_roles.specs.forest.Outcome.{Outcome}
use Rattle.mst_roles.specs.forest.Settled.{SettledNet, IsSettledNet, outcome_of}
use Rattle.mst_tables.specs.Tables.{Net}
use Rattle.mst_judged.specs.reasons.sweep.vlan.classes.Alike.{AreAlike}
use Rattle.mst_judged.specs.reasons.sweep.vlan.classes.Classes.{AreClasses}
use Rattle.mst_judged.specs.reasons.Stretches.{HasLongest, LieApart, Stretch}
use Rattle.mst_judged.proofs.reasons_lemmas.sweep_lemmas.vlan_lemmas.LinksAlike.{members_shared}
use Rattle.mst_path.specs.Paths.{Hop, IsPathOf, IsPathOver, carrying}
use Rattle.mst_path_judges.specs.Asked.{HasTold}
use Rattle.mst_path_judges.specs.declared.asked.Asked.{Asked}
use Rattle.mst_path_judges.specs.declared.asked.Asked.TheVariants as asked

module _ (net : Net) (o : Outcome) (x y : ℕ) (same : carrying net o x ≡ carrying net o y) where
  path_moved : (a b : List ℕ) (path : Option (List Hop)) → IsPathOf net o x a b path → IsPathOf net o y a b path
  path_moved a b None p = λ on. subst (λ ports. IsPathOver ports a b None) same (p on)
  path_moved a b (Some hops) p = (p.0, subst (λ ports. IsPathOver ports a b (Some hops)) same p.1)

  lies_moved : (bridges : List (List ℕ)) (a b : List ℕ) (hops : ℕ) → LieApart net o bridges x a b hops → LieApart net o bridges y a b hops
  lies_moved bridges a b hops l = record { first = l.first; second = l.second; two = l.two; path = l.path; is_path = path_moved a b (Some l.path) l.is_path; as_many = l.as_many }

longest_moved : (net : Net) (o : Outcome) (x y : ℕ) → carrying net o x ≡ carrying net o y → (bridges : List (List ℕ)) (s : Option Stretch) → HasLongest net o bridges x s → HasLongest net o bridges y s
longest_moved net o x y same bridges None h = λ a b hops l. h a b hops (lies_moved net o y x (sym same) bridges a b hops l)
longest_moved net o x y same bridges (Some s) h = record {
  from = h.from;
  to = h.to;
  ends = h.ends;
  lie = lies_moved net o x y same bridges h.from h.to s.hops h.lie;
  most = λ a b hops l. h.most a b hops (lies_moved net o y x (sym same) bridges a b hops l);
  least = λ a b l. h.least a b (lies_moved net o y x (sym same) bridges a b s.hops l);
}

-- so have VIDs of one class
module _ (s : SettledNet) (is : IsSettledNet s) (c : Numbering) (k : AreClasses s.view c) (x y : ℕ) (alike : AreAlike k.tables k.sets x y) where
  same_ports : carrying s.net (outcome_of s) x ≡ carrying s.net (outcome_of s) y
  same_ports = members_shared s.net s.numbers s.view s.forest is.of (outcome_of s) k.tables k.sets k.have_tables k.have_sets x y alike

  pub told_moved : (asked : Asked) (stretch : Option Stretch) → HasTold s.net (outcome_of s) asked x stretch → HasTold s.net (outcome_of s) asked y stretch
  told_moved (asked.Hops most bridges) stretch h = longest_moved s.net (outcome_of s) x y same_ports bridges.now stretch h
  told_moved (asked.Via from to by) stretch h = record { path = h.path; is_path = path_moved s.net (outcome_of s) x y same_ports from to h.path h.is_path; are = h.are }
