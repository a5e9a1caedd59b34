use Rattle.std.proofs.Common.{nat_eq, take, get_or, sym, ap, ◌∙◌}
use Rattle.std.specs.Cmp.{nat_eq_equiv}
use Rattle.std.specs.List.{list_any}
use Rattle.std.proofs.lemmas.List.{take_more}
use Rattle.mst_graph.proofs.Placing.{met_more}
use Rattle.mst_graph.proofs.number_places.set_of.Goals as goal

pub loop-number-preserved : goal.loop-number-preserved
loop-number-preserved c = λ n h.
    let i = c.loop-number.number-index in
    let numbers = c.args.numbers.now in
    let item = get_or numbers i 0 in
    met_more nat_eq nat_eq_equiv (take i numbers) c.loop-number.set.keys c.insert.new.self.keys item n (c.loop-number.invariant n) (c.in_ok-insert.ensures.updates.0 n)
    (ap (list_any (nat_eq n)) (sym (take_more numbers i 0 c.loop-number-test.true)) ∙ h)
