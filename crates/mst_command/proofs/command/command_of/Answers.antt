use Rattle.std.proofs.Common.{ap, ap₂, codes, ◌∙◌, ◌≡◌}
use Rattle.std.proofs.lemmas.Result.{IfOk-weaker}
use Rattle.clap.specs.Words.{App, app_of, new_app}
use Rattle.clap.specs.Simple.{app_of_fields}
use Rattle.mst_command.specs.Table.{row_of}
use Rattle.mst_command.specs.Words.{with_place}
use Rattle.mst_command.proofs.Commands.{all_placed, place_at}
use Rattle.mst_command.proofs.command.command_of.Goals as goal

pub returns : goal.returns
returns c =
    let row = row_of c.args.verb in
    let items = c.row-row.result.places.now in
    let same = c.row-row.ensures.places in
    let named : app_of c.after_help-named.result ≡ new_app row.name = ap app_of_fields c.after_help-named.ensures ∙ ap app_of_fields c.about.ensures ∙ c.new.ensures.app ∙ ap new_app c.row-row.ensures.name in
    let one = c.in_ok-one.ensures ∙ ap₂ (λ a p. with_place a (codes "1") p) named (place_at items row.places 0 c.get.result c.get.ensures.lookup same) in
    let two = c.in_ok-two.ensures ∙ ap₂ (λ a p. with_place a (codes "2") p) one (place_at items row.places 1 c.get-2.result c.get-2.ensures.lookup same) in
    let three = c.in_ok-three.ensures ∙ ap₂ (λ a p. with_place a (codes "3") p) two (place_at items row.places 2 c.get-3.result c.get-3.ensures.lookup same) in
    let four = c.in_ok-four.ensures ∙ ap₂ (λ a p. with_place a (codes "4") p) three (place_at items row.places 3 c.get-4.result c.get-4.ensures.lookup same) in
    let five = ap₂ (λ a p. with_place a (codes "5") p) four (place_at items row.places 4 c.get-5.result c.get-5.ensures.lookup same) in
    IfOk-weaker c.with_place-5.result _ _ (λ r h. ap (λ (a : App). a.top) (h ∙ five) ∙ all_placed row.name row.places) c.with_place-5.ensures
