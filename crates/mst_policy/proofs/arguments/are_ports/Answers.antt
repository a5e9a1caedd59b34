use Rattle.std.proofs.Common.{◌∙◌, sym}
use Rattle.mst_lang.specs.declared.line.Fault.TheVariants.{E02}
use Rattle.mst_policy.specs.Arguments.{items_of, port_item_value}
use Rattle.mst_policy.proofs.ListLemmas.{values_there}
use Rattle.mst_policy.proofs.arguments.are_ports.Goals as goal

pub returns : goal.returns
returns c = c.are_port_items.ensures ∙ sym (values_there port_item_value E02 (items_of c.args.word.now))
