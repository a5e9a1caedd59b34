use Rattle.std.proofs.Common.{◌∙◌, Err, ap, sym}
use Rattle.std.specs.Option.{option_map_or}
use Rattle.mst_lang.specs.Forms.{command_of}
use Rattle.mst_lang.specs.Reading.{says_as}
use Rattle.mst_lang.specs.Words.{words}
use Rattle.mst_lang.specs.declared.line.Fault.TheVariants.{E01}
use Rattle.mst_lang.proofs.Tables.{found_is, none_is}
use Rattle.mst_lang.proofs.read.read_command.Goals as goal

pub read_arguments-requires : goal.read_arguments-requires
read_arguments-requires c = (found_is c.in-Some.form.now (command_of c.args.word.now) c.in-Some.ensures).0

pub returns-in-Some : goal.returns-in-Some
returns-in-Some c =
    c.read_arguments.ensures
    ∙ sym (ap (λ o. option_map_or (λ command. says_as c.args.version command (words c.args.text.now)) o (Err E01)) ((found_is c.in-Some.form.now (command_of c.args.word.now) c.in-Some.ensures).1))

pub returns-in-None : goal.returns-in-None
returns-in-None c = sym (ap (λ o. option_map_or (λ command. says_as c.args.version command (words c.args.text.now)) o (Err E01)) (none_is (command_of c.args.word.now) c.in-None.ensures))
