use Rattle.std.proofs.Common.{◌≡◌, true, rules}
use Rattle.std.specs.List.{list_all}
use Rattle.json.specs.Run.{is_plain}
use Rattle.mst_rows.proofs.Escapes.{plain_escape}
use Rattle.mst_rows.proofs.escape.push_content.Goals as goal

pub returns-then-is_plain : goal.returns-then-is_plain
returns-then-is_plain c =
    let h : list_all is_plain c.args.text.now ≡ true = cc in
    rw (plain_escape c.args.text.now h) (search rules)
