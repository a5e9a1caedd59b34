use Rattle.std.proofs.Common.{◌&&◌, ◌||◌, not, Bool, List, ap, ◌∙◌}
use Rattle.std.specs.HashSet.{contains}
use Rattle.std.specs.List.{list_any}
use Rattle.mst_view.specs.Aggregation.{same_name}
use Rattle.mst_sweeping.specs.Links.{same_link}
use Rattle.mst_sweeping.specs.declared.links.Link.{Link}
use Rattle.mst_sweeping.proofs.turns.with_other_ways.Goals as goal

pub returns : goal.returns
returns c = λ name.
    let before : List Link = c.args.before.now in
    let afterwards : List Link = c.args.afterwards.now in
    let own : (Link → Bool) → List Link → Bool = λ is_other ways. list_any (λ (way : Link). same_name way.port.bridge name && not (is_other way)) ways in
    let of_old : Link → Bool = contains same_link c.in_ok-old_ways.old_ways in
    let of_new : Link → Bool = contains same_link c.in_ok-new_ways.new_ways in
    c.in_ok-add_own-2.ensures name ∙ ap (λ (b : Bool). b || own of_old afterwards) (c.in_ok-add_own.ensures name)
    ∙ (λ i. list_any (same_name name) (c.new-bridges.ensures.empty i) || own (λ (way : Link). c.in_ok-new_ways.ensures way i) before || own (λ (way : Link). c.in_ok-old_ways.ensures way i) afterwards)
