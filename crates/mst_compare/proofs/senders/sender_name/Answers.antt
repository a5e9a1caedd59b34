use Rattle.std.proofs.Common.{Some, sym, ap, ◌∙◌}
use Rattle.std.specs.Option.{option_map}
use Rattle.mst_compare.proofs.Sending.{name_of}
use Rattle.mst_compare.proofs.senders.sender_name.Goals as goal

pub returns-in-Some : goal.returns-in-Some
returns-in-Some c = ap Some c.port_name.ensures ∙ ap (option_map name_of) (sym c.in-Some.is ∙ c.sender_in.ensures)
