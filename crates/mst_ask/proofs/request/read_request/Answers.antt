use Rattle.mst_ask.proofs.Requests.{word_stays}
use Rattle.mst_ask.proofs.request.read_request.Goals as goal

pub returns-in-Some-clause-stays : goal.returns-in-Some-clause-stays
returns-in-Some-clause-stays c = word_stays c.args.line.now c.in-Some.request c.in-Some.ensures
