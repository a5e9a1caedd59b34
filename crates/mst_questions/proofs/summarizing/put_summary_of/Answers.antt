use Rattle.std.proofs.Common.{ap, subst, ◌∙◌}
use Rattle.std.proofs.lemmas.Result.{on_ok_weaker}
use Rattle.mst_net.specs.tables.Tables.{Net}
use Rattle.mst_roles.specs.forest.Settled.{outcome_of, SettledNet}
use Rattle.mst_questions.specs.Summarizing.{Summarizes}
use Rattle.mst_questions.proofs.summarizing.put_summary_of.Goals as goal

pub returns : goal.returns
returns g c first before grew =
    let s = c.new-settled.result in
    on_ok_weaker c.put_summary.result
    (λ said. (
      said.0,
      subst (λ (net : Net). Summarizes net said.0) (ap (λ (s : SettledNet). s.net) c.new-settled.ensures ∙ ap (λ t. t.net) c.network.ensures)
          (record { outcome = outcome_of s; is_outcome = c.known.ensures.is_outcome; told = said.1 }),
      said.2,
    ))
    (c.put_summary.ensures first before grew)
