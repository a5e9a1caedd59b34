use Rattle.std.proofs.Common.{◌≡◌, ap, ◌∙◌, arith}
use Rattle.mst_ids.specs.Texts.{is_conf_name, mac_text}
use Rattle.mst_ids.proofs.ConfNameLemmas.{is_conf_name-mac_text}
use Rattle.mst_ids.proofs.conf_name.ConfName.of_mac.Goals as goal

-- the text is that of the bridge's MAC, which is a name
pub of_text-requires : goal.of_text-requires
of_text-requires c =
    let text_is : c.digits_of.result ≡ mac_text c.args.mac = c.digits_of.ensures ∙ ap mac_text c.number.ensures.value in
    ap is_conf_name text_is ∙ is_conf_name-mac_text c.args.mac (omega arith)
