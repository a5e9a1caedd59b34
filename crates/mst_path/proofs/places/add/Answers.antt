use Rattle.std.proofs.Common.{◌<◌, ℕ, List, [], ◌∷◌, ◌++◌, Vec, Global, length, map, set, sym, ap, ◌∙◌, subst}
use Rattle.std.proofs.lemmas.List.{map-set, get_or-map}
use Rattle.mst_path.proofs.places.add.Goals as goal

pub returns : goal.returns
returns c =
    let lists : List (Vec ℕ Global) = c.args.lists.now.items in
    let items : Vec ℕ Global → List ℕ = λ v. v.items in
    let below : c.args.at < length lists = subst (λ n. c.args.at < n) c.args.lists.now.ok.0 c.requires in
    map-set items lists c.args.at c.push.new.self
    ∙ ap (set (map items lists) c.args.at) (c.in_ok-push.ensures.items ∙ ap (λ (l : List ℕ). l ++ c.args.number ∷ []) (ap items c.index_mut.ensures.value ∙ sym (get_or-map items lists c.args.at c.index_mut.result.now [] below)))
