use Rattle.std.proofs.Common.{◌≡◌, ℕ, ◌-◌, ◌∷◌, [], ◌++◌, refl, ap, sym, ◌∙◌, arith, rules}
use Rattle.mst_records.specs.Blocks.{in_block}
use Rattle.mst_tables.proofs.TreesListed.{one_passes, some_fail, all_listed}
use Rattle.mst_tables.proofs.trees.trees_of.Goals as goal

pub loop-number-preserved-then-has : goal.loop-number-preserved-then-has
loop-number-preserved-then-has c =
    let n = c.loop-number.number in
    let value : c.unwrap.result ≡ n = search rules in
    let wrote : c.push.new.self.items ≡ c.loop-number.trees.items ++ c.unwrap.result ∷ [] = c.in_ok-push.ensures.items in
    record {
      listed = wrote ∙ ap (λ v. c.loop-number.trees.items ++ v ∷ []) value ∙ ap (λ l. l ++ n ∷ []) c.loop-number.invariant.listed ∙ sym (one_passes (in_block c.args.blocks.now) n (sym c.has.ensures ∙ c.if-has.true));
      within = omega arith;
    }

pub loop-number-preserved : goal.loop-number-preserved
loop-number-preserved c =
    let n = c.loop-number.number in
    let m = c.after-number.result in
    record {
      listed = c.loop-number.invariant.listed ∙ sym (some_fail (in_block c.args.blocks.now) (m - n) n m (omega (arith, c.after-number.ensures.above)) c.after-number.ensures.passed);
      within = c.after-number.ensures.within;
    }

pub returns : goal.returns
returns c = c.loop-number.invariant.listed ∙ all_listed (in_block c.args.blocks.now) c.loop-number.number (omega arith)
