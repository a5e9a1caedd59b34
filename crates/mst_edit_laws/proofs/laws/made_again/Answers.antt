use Rattle.std.proofs.Common.{true, sym, subst, ap, ◌∙◌}
use Rattle.mst_net.specs.tables.Tables.{empty_net}
use Rattle.mst_net.proofs.tables_lemmas.AfterLemmas.{no_network}
use Rattle.mst_edits.specs.Making.{made, Accepted}
use Rattle.mst_edit_laws.proofs.Nothing.{as_saved}
use Rattle.mst_edit_laws.proofs.laws.made_again.Goals as goal

pub returns-clause-accepted : goal.returns-clause-accepted
returns-clause-accepted c net is = subst (λ es. Accepted es empty_net) (as_saved net) (c.changed_with.ensures.accepted true empty_net net no_network is)

pub returns-clause-made : goal.returns-clause-made
returns-clause-made c net is = ap (λ es. made es empty_net) (sym (as_saved net)) ∙ c.changed_with.ensures.made true empty_net net no_network is
