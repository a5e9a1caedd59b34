use Rattle.mst_ids.specs.Vids.{set_where, is_vid, has}
use Rattle.mst_ids.specs.VidBits.{has-set_where}
use Rattle.std.proofs.Common.{◌≡◌, ◌<◌, ℕ, Bool, true, ◌&&◌, nat_le, ap, sym, ◌∙◌, arith}
use Rattle.std.proofs.lemmas.Bool.{le-leb}
use Rattle.std.specs.Option.{option_copied, unwrap_or}
use Rattle.mst_tables.specs.ByTree.{vlans_in}
use Rattle.mst_tables.proofs.Keyed.{get_keyed}
use Rattle.mst_tables.proofs.Keys.{ports}
use Rattle.mst_tables.proofs.tree_settings.TreeSettings.is_member.Goals as goal

pub returns-in-Some : goal.returns-in-Some
returns-in-Some c =
    let key = c.args.port.now in
    let set =
    ap (λ o. unwrap_or (option_copied o) (set_where is_vid)) (sym c.in-Some.is) ∙ ap (λ o. unwrap_or o (set_where is_vid)) (c.found.ensures.value ∙ sym (get_keyed ports c.self.inside.vlans.entries key)) ∙ ap (λ n. vlans_in n.set.vlans key) c.self.view_is in
    c.contains.ensures.value ∙ ap (λ vids. has vids c.value-number.result) set ∙ ap (λ n. has (vlans_in c.args.self.now.set.vlans key) n) c.value-number.ensures.value

pub returns-in-None : goal.returns-in-None
returns-in-None c =
    let key = c.args.port.now in
    let number : ℕ = c.value-number.result in
    let set =
    ap (λ o. unwrap_or (option_copied o) (set_where is_vid)) (sym c.in-None.is) ∙ ap (λ o. unwrap_or o (set_where is_vid)) (c.found.ensures.value ∙ sym (get_keyed ports c.self.inside.vlans.entries key)) ∙ ap (λ n. vlans_in n.set.vlans key) c.self.view_is in
    let low = c.value-number.ensures.range.0 in
    let high = c.value-number.ensures.range.1 in
    let below : number < 4096 = omega arith in
    let all : is_vid number ≡ true = ap (λ (b : Bool). b && nat_le number 4094) (le-leb 1 number low) ∙ le-leb number 4094 high in
    sym (has-set_where is_vid number below ∙ all) ∙ ap (λ vids. has vids number) set ∙ ap (λ n. has (vlans_in c.args.self.now.set.vlans key) n) c.value-number.ensures.value
