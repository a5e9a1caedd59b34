use Rattle.std.proofs.Common.{Some, sym, subst}
use Rattle.mst_path_judges.proofs.SpanOrder.{one_alone}
use Rattle.mst_path_judges.specs.Spans.{FirstSpan, IsEither}
use Rattle.mst_path_judges.proofs.span.first.Goals as goal

pub returns-in-None : goal.returns-in-None
returns-in-None c = one_alone c.args.so_far c.args.other c.in-None.is

pub returns-in-Some : goal.returns-in-Some
returns-in-Some c = subst (λ o. FirstSpan (IsEither c.args.so_far o) (Some c.earlier.result)) (sym c.in-Some.is) c.earlier.ensures
