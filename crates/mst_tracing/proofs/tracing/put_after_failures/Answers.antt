use Rattle.std.proofs.Common.{Bool, [], refl, sym, subst}
use Rattle.mst_net.specs.tables.Contents.{Contents}
use Rattle.mst_path.specs.Places.{named_path}
use Rattle.mst_sweeping.proofs.Swept.{none_put}
use Rattle.mst_tracing.specs.Fates.{AreFates}
use Rattle.mst_tracing.specs.Tracing.{AreToldIf}
use Rattle.mst_tracing.proofs.tracing.put_after_failures.Goals as goal

pub returns-then-not-asked : goal.returns-then-not-asked
returns-then-not-asked g c =
    let net = c.args.planner.now.contents.net in
    let asked = c.args.asked.now in
    let path = named_path c.args.found.now in (
      [],
      subst (λ (b : Bool). AreToldIf b net asked path c.is_lost.result []) (sym c.if-not-asked.true) (c.is_lost.ensures, refl),
      none_put g.R.Rows.grew c.args.out.now,
    )

pub returns : goal.returns
returns g c =
    let net = c.args.planner.now.contents.net in
    let asked = c.args.asked.now in
    let path = named_path c.args.found.now in
    let said = c.in_ok-fates.ensures in
    let told : AreFates net asked.trace path c.in_ok-fates.fates said.0 = subst (λ (k : Contents). AreFates k.net asked.trace path c.in_ok-fates.fates said.0) c.network-network.ensures said.1 in (
      said.0,
      subst (λ (b : Bool). AreToldIf b net asked path c.is_broken.result said.0) (sym c.if-not-asked.false) (record { fates = c.in_ok-fates.fates; are_fates = told; broken = c.is_broken.ensures }),
      said.2,
    )
