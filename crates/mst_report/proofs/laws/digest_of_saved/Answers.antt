use Rattle.hex.specs.Hex.{encode_lower}
use Rattle.md5.specs.Md5.{md5}
use Rattle.mst_report.proofs.Digest.{digest_said}
use Rattle.mst_report.proofs.laws.digest_of_saved.Goals as goal

pub returns : goal.returns
returns c s saved told = digest_said (λ text. encode_lower (md5 text)) s.net saved told
