-- What looks back at the network before has no reason where there is none.
use Rattle.std.proofs.Common.{◌≡◌, true, true≢false, List, [], None, sym}
use Rattle.mst_policy.specs.Leaving.{Leaving}
use Rattle.mst_policy.specs.declared.expectation.Expectation.{Expectation}
use Rattle.mst_policy.specs.declared.expectation.Expectation.TheVariants as expect
use Rattle.mst_net.specs.tables.Tables.{Net}
use Rattle.mst_forest.specs.Outcome.{Outcome}
use Rattle.mst_verify.specs.tree_judges.judged.reasons.Judged.{looks_back}
use Rattle.mst_verify.specs.tree_judges.judged.reasons.Reasons.{AreReasons}
use Rattle.mst_verify.specs.tree_judges.judged.reasons.declared.reason.Reason.{Reason}

pub nothing_back : (net : Net) (o : Outcome) (leaving : Leaving) (e : Expectation) (reasons : List Reason) → looks_back e ≡ true
    → AreReasons net o net [] (record { before = None; leaving = leaving }) e reasons → reasons ≡ []
nothing_back net o leaving (expect.Root tree b next) reasons e r = absurd (true≢false (sym e))
nothing_back net o leaving (expect.Region names) reasons e r = absurd (true≢false (sym e))
nothing_back net o leaving (expect.Role tree ports roles) reasons e r = absurd (true≢false (sym e))
nothing_back net o leaving (expect.Reach vids names) reasons e r = absurd (true≢false (sym e))
nothing_back net o leaving (expect.Apart vids names others) reasons e r = absurd (true≢false (sym e))
nothing_back net o leaving (expect.Leaves vids names) reasons e r = absurd (true≢false (sym e))
nothing_back net o leaving (expect.Together vids names) reasons e r = r
nothing_back net o leaving (expect.Leaf tree names) reasons e r = absurd (true≢false (sym e))
nothing_back net o leaving (expect.Depth tree steps) reasons e r = absurd (true≢false (sym e))
nothing_back net o leaving (expect.Hops vids most names) reasons e r = absurd (true≢false (sym e))
nothing_back net o leaving (expect.Via vids a b c) reasons e r = absurd (true≢false (sym e))
nothing_back net o leaving (expect.Carries lan vids) reasons e r = absurd (true≢false (sym e))
nothing_back net o leaving (expect.Avoids lan vids) reasons e r = absurd (true≢false (sym e))
nothing_back net o leaving expect.Fits reasons e r = absurd (true≢false (sym e))
