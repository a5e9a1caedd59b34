use Rattle.mst_ask.proofs.AsScript.{script_stands}
use Rattle.mst_ask.proofs.laws.as_script.Goals as goal

pub returns : goal.returns
returns c form script loads policy asked turns whole loaded full asks again too = script_stands form script loads policy asked turns whole loaded full asks again too
