use Rattle.std.proofs.Common.{arith, sym, ◌∙◌, set, get_or}
use Rattle.std.proofs.lemmas.List.{length-set}
use Rattle.mst_io.proofs.Starts.{pushed, kept_blank, given_way, given_way_blank, not_given_way}
use Rattle.mst_io.proofs.held_line.HeldLine.push.Goals as goal

pub invariant_of-self : goal.invariant_of-self
invariant_of-self c =
    let f = c.self.inside in
    (omega arith, omega (arith, length-set f.bytes f.len c.args.byte), c.still_blank-self-inside.ensures ∙ kept_blank f.bytes f.len c.args.byte f.is_blank (omega arith) (omega arith) c.self.invariant.2)

pub invariant_of-self-then-self : goal.invariant_of-self-then-self
invariant_of-self-then-self c =
    let f = c.self.inside in
    (omega arith, omega (arith, length-set f.bytes 4096 (get_or f.bytes 4097 0), length-set (set f.bytes 4096 (get_or f.bytes 4097 0)) 4097 c.args.byte), c.is_blank-self-inside.ensures ∙ given_way_blank f.bytes f.len c.args.byte (omega arith) (omega arith) (omega arith) (sym c.self.invariant.2 ∙ c.if-self.true))

pub returns-then-self-lt-MOST_HELD : goal.returns-then-self-lt-MOST_HELD
returns-then-self-lt-MOST_HELD c =
    let f = c.self.inside in
    pushed f.bytes f.len c.args.byte c.args.self.now (omega arith) (omega arith) c.self.view_is

pub returns-then-self : goal.returns-then-self
returns-then-self c =
    let f = c.self.inside in
    given_way f.bytes c.args.self.now f.len c.args.byte (omega arith) (omega arith) (omega arith) c.self.view_is (sym c.self.invariant.2 ∙ c.if-self.true)

pub returns-else-self : goal.returns-else-self
returns-else-self c =
    let f = c.self.inside in
    not_given_way f.bytes c.args.self.now f.len c.args.byte (omega arith) (omega arith) (omega arith) c.self.view_is (sym c.self.invariant.2 ∙ c.if-self.false)
