use Rattle.std.proofs.Common.{◌≡◌, ◌≢◌, ℕ, List, [], ◌∷◌, ◌++◌, map, length, Option, Some, None, true≢false, sym, ap, subst, ◌∙◌}
use Rattle.std.proofs.lemmas.List.{length-map}
use Rattle.mst_path.specs.Paths.{Hop as HopByName, bridges_met, path_told}
use Rattle.mst_path.specs.Places.{named_hop, named_path}
use Rattle.mst_path.specs.declared.hop.Hop.{Hop}
use Rattle.mst_path.specs.declared.trace.Trace.{Trace}
use Rattle.mst_rows.specs.Rows.{Row}
use Rattle.mst_sweeping.specs.sweep.declared.failure.Failure.{Failure}
use Rattle.mst_tracing.specs.Fates.{IsFate, fate_of, fate_row, no_path_row, other_path_row}
use Rattle.mst_tracing.proofs.Fated.{other_fate}
use Rattle.mst_tracing.proofs.always.put_fate.Goals as goal

-- a path that isn't the one before, as it is written
other_now : (t : Trace) (failure : Failure) (before now path : Option (List HopByName)) → path ≡ now → path_told before ≢ path_told path → IsFate t failure before path (fate_of now) (fate_row t failure now ∷ [])
other_now t failure before now path e n = subst (λ p. IsFate t failure before p (fate_of now) (fate_row t failure now ∷ [])) (sym e) (other_fate t failure before now (λ same. n (same ∙ ap path_told (sym e))))

-- its row, by the hops that stand in a list
row_of_hops : (t : Trace) (failure : Failure) (shown hops : List Hop) → shown ≡ hops → other_path_row t failure (length shown) (bridges_met t.from (map named_hop shown)) ≡ fate_row t failure (Some (map named_hop hops))
row_of_hops t failure shown hops e =
    ap (λ (l : List Hop). other_path_row t failure (length l) (bridges_met t.from (map named_hop l))) e
    ∙ ap (λ (n : ℕ). other_path_row t failure n (bridges_met t.from (map named_hop hops))) (sym (length-map hops named_hop))

pub returns-in_ok-put_none-in-None : goal.returns-in_ok-put_none-in-None
returns-in_ok-put_none-in-None g c =
    let t : Trace = c.args.trace.now in
    let f : Failure = c.args.failure.now in (
      no_path_row t f ∷ [],
      other_now t f (named_path c.args.before.now) None (named_path c.args.after.now) (ap named_path c.in-None.is) (λ e. true≢false (sym (c.is_same.ensures.1 e) ∙ c.if-is_same.false)),
      λ first rows h. c.in_ok-put_none-in-None.ensures first rows h,
    )

pub returns-in_ok-put_other-in-Some : goal.returns-in_ok-put_other-in-Some
returns-in_ok-put_other-in-Some g c =
    let t : Trace = c.args.trace.now in
    let f : Failure = c.args.failure.now in
    let hops : List Hop = c.in-Some.hops.items in
    let now : Option (List HopByName) = Some (map named_hop hops) in (
      fate_row t f now ∷ [],
      other_now t f (named_path c.args.before.now) now (named_path c.args.after.now) (ap named_path c.in-Some.is) (λ e. true≢false (sym (c.is_same.ensures.1 e) ∙ c.if-is_same.false)),
      λ first rows h. subst (λ (row : Row). g.R.Rows.grew first c.put_other.new.out (rows ++ row ∷ [])) (row_of_hops t f c.as_slice.result.now hops c.as_slice.ensures.value) (c.in_ok-put_other-in-Some.ensures first rows h),
    )
