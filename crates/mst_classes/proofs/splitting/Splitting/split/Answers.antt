use Rattle.std.proofs.Common.{subst}
use Rattle.mst_ids.specs.Vids.{has}
use Rattle.mst_classes.specs.Alike.{IsSplit}
use Rattle.mst_classes.specs.declared.splitting.Splitting.{Splitting}
use Rattle.mst_classes.proofs.Starting.{split_after, split_apart, with_room}
use Rattle.mst_classes.proofs.splitting.Splitting.split.Goals.{then-self+else-are_apart, else-self}
use Rattle.mst_classes.proofs.splitting.Splitting.split.Goals as goal

pub split_members-requires : goal.split_members-requires
split_members-requires c = elim c.if-self.branch [
  | then-self+else-are_apart w ↦ rw w.self-is (with_room c.args.vids.now w.renew.new.self w.renew.ensures.ready w.renew.ensures.room)
  | else-self w ↦ rw w.self-is (with_room c.args.vids.now c.args.self.now c.requires w.if-self.false)
]

pub returns-clause-split : goal.returns-clause-split
returns-clause-split c =
    let key = has c.args.vids.now in
    let split = c.split_members.new.self.numbers.items in
    elim c.if-self.branch [
      | then-self+else-are_apart w ↦
          split_after key c.args.self.now.numbers.items w.renew.new.self.numbers.items split w.renew.ensures.split
          (subst (λ (s : Splitting). IsSplit key s.numbers.items split) w.self-is c.split_members.ensures.split)
      | else-self w ↦ subst (λ (s : Splitting). IsSplit key s.numbers.items split) w.self-is c.split_members.ensures.split
    ]

pub returns-then-are_apart-clause-split : goal.returns-then-are_apart-clause-split
returns-then-are_apart-clause-split c =
    split_apart (has c.args.vids.now) c.args.self.now.numbers.items c.renew.new.self.numbers.items c.renew.ensures.ready.as_long (c.are_apart.ensures c.if-are_apart.true)
