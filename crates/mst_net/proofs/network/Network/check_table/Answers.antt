use Rattle.std.proofs.Common.{◌≡◌, ◌<◌, Bool, true, false, not, [], ◌∷◌, Ok, refl, sym, ap, subst, nat_lt, arith}
use Rattle.std.specs.Prelude.{⊤, Result}
use Rattle.std.proofs.lemmas.Bool.{le-ltb}
use Rattle.mst_tables.specs.After.{first_of, table_of}
use Rattle.mst_net.specs.Checks.{answer_of}
use Rattle.mst_tables.specs.Table.{mapped, tree_count}
use Rattle.mst_tables.specs.declared.refusal.Refusal.{Refusal}
use Rattle.mst_tables.specs.declared.refusal.Refusal.TheVariants.{E04, E15}
use Rattle.mst_tables.proofs.TablesCounted.{one_more}
use Rattle.mst_net.proofs.network.Network.check_table.Goals as goal

accepted : (there many : Bool) → Ok tt ≡ answer_of (first_of ((not there, E04) ∷ [])) → many ≡ false → Ok tt ≡ answer_of (first_of ((not there, E04) ∷ (many, E15) ∷ []))
accepted true many h few = sym (ap (λ b. answer_of (first_of ((b, E15) ∷ []))) few)
accepted false many h few = h

pub returns-then-has_room_for_tree : goal.returns-then-has_room_for_tree
returns-then-has_room_for_tree c =
    let table = table_of c.args.self.now.net c.args.bridge.now in
    let small : tree_count table < 64 = subst (λ n. tree_count (table_of n.net c.args.bridge.now) < 64) c.self.view_is (c.has_room_for_tree.ensures c.if-has_room_for_tree.true) in
    let after = mapped c.args.vids.now c.args.tree table in
    accepted _ (nat_lt 64 (tree_count after)) c.in_ok-check_bridge.ensures (le-ltb 64 (tree_count after) (omega (arith, small, one_more c.args.vids.now c.args.tree table)))
