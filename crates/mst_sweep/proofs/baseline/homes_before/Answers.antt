use Rattle.std.proofs.Common.{◌≡◌, ◌+◌, ◌<◌, ℕ, List, [], get_or, length, map, sym, ap, subst, ◌∙◌, arith}
use Rattle.std.proofs.lemmas.List.{get_or-map}
use Rattle.mst_vlan.proofs.classes_lemmas.VidPlaces.{zip_at}
use Rattle.mst_sweep.specs.Baseline.{AreHomes}
use Rattle.mst_sweep.proofs.baseline.homes_before.Goals as goal

pub returns : goal.returns
returns c net n is of =
    let i : ℕ = c.args.class in
    let baseline = c.args.baseline.now in
    let firsts : List ℕ = baseline.classes.firsts.items in
    let h = c.index-homes-class.result in
    let many : length baseline.homes.items ≡ length firsts = sym (ap length c.as_slice-homes.ensures.value) ∙ c.as_slice-homes.ensures.len ∙ c.requires.baseline.as_long in
    let below : i < length firsts = c.requires.there in
    let there : i < length baseline.homes.items = omega (arith, many, below) in
    let kept : get_or (map (λ h. h.entries) baseline.homes.items) i [] ≡ h.entries =
    get_or-map (λ h. h.entries) baseline.homes.items i h [] there ∙ ap (λ h. h.entries) (ap (λ hs. get_or hs i h) (sym c.as_slice-homes.ensures.value) ∙ sym c.index-homes-class.is) in
    subst (AreHomes net n is.outcome (get_or firsts i 0 + 1)) kept
    (zip_at (λ place homes. AreHomes net n is.outcome (place + 1) homes) firsts (map (λ h. h.entries) baseline.homes.items) i 0 [] (c.requires.baseline.homes net n is of) below)
