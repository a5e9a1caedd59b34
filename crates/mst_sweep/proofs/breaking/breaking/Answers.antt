use Rattle.std.proofs.Common.{◌≡◌, ℕ, ◌+◌, Bool, List, [], ◌∷◌, ◌++◌, true, get_or, length, sym, ap, subst, ◌∙◌}
use Rattle.mst_sweep.specs.Breaking.{HasNoParts}
use Rattle.mst_sweep.proofs.Untouched.{one_flag, one_longer}
use Rattle.mst_sweep.proofs.breaking.breaking.Goals as goal

pub loop-class-preserved : goal.loop-class-preserved
loop-class-preserved c =
    let flags : List Bool = c.loop-class.flags.items in
    let flag : Bool = c.breaks.result in
    let grown : c.push.new.self.items ≡ flags ++ flag ∷ [] = c.in_ok-push.ensures.items in
    let long : length flags ≡ c.loop-class.class = c.loop-class.invariant.as_long in
    let P : ℕ → Type 0 = λ k. HasNoParts c.args.old.now c.args.new.now (get_or c.args.baseline.now.classes.firsts.items k 0 + 1) in
    record {
      as_long = ap length grown ∙ one_longer flags flag ∙ ap (λ n. n + 1) long;
      others = λ k e. one_flag P flags flag c.loop-class.invariant.others (λ off. subst P (sym long) (c.breaks.ensures off)) k (ap (λ (xs : List Bool). get_or xs k true) (sym grown) ∙ e);
    }
