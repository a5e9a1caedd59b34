use Rattle.std.proofs.Common.{◌≡◌, ℕ, ◌+◌, Bool, List, [], ◌∷◌, ◌++◌, true, get_or, length, sym, ap, subst, ◌∙◌}
use Rattle.mst_vlan.specs.forest.InUse.{seen_mstis}
use Rattle.mst_sweep.specs.Touched.{KeepsRoles}
use Rattle.mst_sweep.proofs.Untouched.{one_flag, one_longer}
use Rattle.mst_sweep.proofs.touched.touched.Goals as goal

pub loop-place-preserved : goal.loop-place-preserved
loop-place-preserved c =
    let v = c.args.old.now.view.now in
    let f = c.args.old.now.forest.now in
    let w = c.args.new.now.view.now in
    let g = c.args.new.now.forest.now in
    let flags : List Bool = c.loop-place.touched.items in
    let flag : Bool = c.is_touched.result in
    let grown : c.push.new.self.items ≡ flags ++ flag ∷ [] = c.in_ok-push.ensures.items in
    let long : length flags ≡ c.loop-place.place = c.loop-place.invariant.as_long in
    let mstis : c.as_slice.result.now ≡ seen_mstis v = c.as_slice.ensures.value ∙ c.in_ok-mstis.ensures in
    let P : ℕ → Type 0 = KeepsRoles v f w g (seen_mstis v) in
    record {
      as_long = ap length grown ∙ one_longer flags flag ∙ ap (λ n. n + 1) long;
      touched = λ k e. one_flag P flags flag c.loop-place.invariant.touched
          (λ off. subst P (sym long) (subst (λ trees. KeepsRoles v f w g trees c.loop-place.place) mstis (c.is_touched.ensures off)))
          k (ap (λ (xs : List Bool). get_or xs k true) (sym grown) ∙ e);
    }
