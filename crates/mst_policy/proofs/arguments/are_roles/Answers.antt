use Rattle.std.proofs.Common.{◌∙◌, sym}
use Rattle.std.specs.List.{list_all}
use Rattle.mst_lang.specs.declared.line.Fault.TheVariants.{E02}
use Rattle.mst_policy.specs.Arguments.{is_among, items_of, role_names, roles_among}
use Rattle.mst_policy.proofs.ListLemmas.{there_where}
use Rattle.mst_policy.proofs.arguments.are_roles.Goals as goal

pub returns : goal.returns
returns c =
    let items = items_of c.args.word.now in
    c.are_role_names.ensures ∙ sym (there_where (list_all (is_among role_names) items) (roles_among items) E02)
