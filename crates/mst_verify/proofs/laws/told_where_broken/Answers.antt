use Rattle.std.proofs.Common.{◌≡◌, ◌↔◌, [], List}
use Rattle.mst_policy.specs.declared.expectation.Expectation.{Expectation}
use Rattle.mst_policy.specs.declared.expectation.Expectation.TheVariants as expect
use Rattle.mst_rows.specs.Rows.{Row}
use Rattle.mst_net.specs.tables.Tables.{Net, IsNetwork}
use Rattle.mst_roles.specs.forest.nested.Trees.{IsSettled}
use Rattle.mst_roles.specs.forest.Outcome.{Outcome, IsOutcome, trees_of}
use Rattle.mst_island_judges.specs.judged.reasons.note_text.NotesText.{AreNoteRows}
use Rattle.mst_island_judges.specs.judged.reasons.sweep.declared.failure.Failure.{Failure}
use Rattle.mst_island_judges.specs.judged.reasons.Named.{Prior, is_named, named, ports_named, unnamed}
use Rattle.mst_island_judges.specs.judged.reasons.Holds.{Holds}
use Rattle.mst_island_judges.specs.judged.reasons.Reasons.{AreReasons}
use Rattle.mst_island_judges.specs.judged.reasons.declared.reason.Reason.{Reason}
use Rattle.mst_tree_judges.proofs.Keys.{names_once}
use Rattle.mst_tree_judges.proofs.RootsThere.{roots_there}
use Rattle.mst_verify.proofs.BrokenLists.{carries_broken, avoids_broken, role_broken}
use Rattle.mst_verify.proofs.BrokenParts.{region_broken, reach_broken, apart_broken, leaves_broken}
use Rattle.mst_verify.proofs.BrokenTrees.{leaf_broken, depth_broken}
use Rattle.mst_verify.proofs.BrokenPaths.{hops_broken, via_broken}
use Rattle.mst_tree_judges.proofs.BrokenRoots.{root_broken}
use Rattle.mst_verify.proofs.ReasonsTogether.{together_broken}
use Rattle.mst_verify.proofs.Limits.{fits_broken}
use Rattle.mst_verify.proofs.laws.told_where_broken.Goals as goal

module _ (net : Net) (o : Outcome) (before : Net) (lost : List Failure) (prior : Prior) (ok : IsNetwork net) (is : IsOutcome net o) (settled : IsSettled (trees_of net o))
    (one : (notes other : List Row) → AreNoteRows net o notes → AreNoteRows net o other → notes ≡ other) where
  broken : (e : Expectation) (reasons : List Reason) → AreReasons net o before lost prior e reasons → (reasons ≡ []) ↔ Holds net o before lost prior e
  broken (expect.Root tree b next) reasons r = root_broken net ok o tree (roots_there net ok o settled tree) b next reasons r
  broken (expect.Region names) reasons r = region_broken net (named net lost names) (names_once net (is_named lost names)) reasons r
  broken (expect.Role tree ports roles) reasons r = role_broken net o tree (ports_named net before ports) roles reasons r
  broken (expect.Reach vids names) reasons r = reach_broken net o vids (named net lost names) (names_once net (is_named lost names)) reasons r
  broken (expect.Apart vids names others) reasons r = apart_broken net o vids (named net lost names) (named net lost others) reasons r
  broken (expect.Leaves vids names) reasons r = leaves_broken net o vids (named net lost names) (unnamed net names) reasons r
  broken (expect.Together vids names) reasons r = together_broken net o vids lost names prior.leaving prior.before reasons r
  broken (expect.Leaf tree names) reasons r = leaf_broken net o ok is tree (named net lost names) reasons r
  broken (expect.Depth tree steps) reasons r = depth_broken net o tree steps reasons r
  broken (expect.Hops vids most names) reasons r = hops_broken net o vids most (named net lost names) reasons r
  broken (expect.Via vids a b c) reasons r = via_broken net o vids a b c reasons r
  broken (expect.Carries lan vids) reasons r = carries_broken net o lan vids reasons r
  broken (expect.Avoids lan vids) reasons r = avoids_broken net o lan vids reasons r
  broken expect.Fits reasons r = fits_broken net o one reasons r

pub returns : goal.returns
returns c net o before lost prior e reasons ok is r =
    broken net o before lost prior ok is (c.nested.ensures.settled net o ok is) (λ notes other a b. c.notes.ensures.one_list net o notes other ok is a b) e reasons r
