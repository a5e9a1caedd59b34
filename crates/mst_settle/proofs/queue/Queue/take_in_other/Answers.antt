use Rattle.std.proofs.Common.{rules, refl, sym, ◌∙◌, ap, subst, ◌≡◌, ◌∷◌, true, false}
use Rattle.std.specs.List.{Contains}
use Rattle.mst_topology.specs.Topology.{TreePort}
use Rattle.mst_topology.specs.Slots.{HasRoom, IsSetAt}
use Rattle.mst_topology.specs.Effects.{LooksAnew}
use Rattle.mst_progress.specs.Progress.{vector_of, vectors_with}
use Rattle.mst_settle.specs.Mixed.{is_upto}
use Rattle.mst_settle.proofs.Mixed.{mixed_now}
use Rattle.mst_settle.proofs.Taken.{takes_one, takes_low, takes_high, takes_keys}
use Rattle.mst_settle.proofs.queue.Queue.take_in_other.Goals as goal

pub look_once-requires-clause-room : goal.look_once-requires-clause-room
look_once-requires-clause-room g c =
    subst (λ z. HasRoom c.args.self.now.keys z) (sym (ap (λ (q : TreePort _ _ _ _). q.bridge) c.port.view_is)) (c.requires.taking.rooms c.args.port.now c.requires.port)

pub returns-in_default-clause-taken : goal.returns-in_default-clause-taken
returns-in_default-clause-taken g c =
    let at : c.port.inside.bridge ≡ c.args.port.now.bridge = ap (λ (q : TreePort _ _ _ _). q.bridge) c.port.view_is in
    let looked : LooksAnew g.M.Metric.rules c.args.progress.now.topology (vector_of c.args.progress.now) c.args.self.now.keys c.look_once.new.keys (λ n. n ≡ c.args.port.now.bridge) = subst (λ z. LooksAnew g.M.Metric.rules c.args.progress.now.topology (vector_of c.args.progress.now) c.args.self.now.keys c.look_once.new.keys (λ n. n ≡ z)) at c.look_once.ensures.looked in
    takes_one g.M.Metric.rules c.args.progress.now.topology (vectors_with (vector_of c.args.progress.now) c.args.written c.args.stored) (vector_of c.args.progress.now) c.args.written c.args.self.now.looked_on c.args.self.now.keys c.look_once.new.keys c.args.port.now c.requires.other
    (λ done h. mixed_now g.M.Metric.rules g.met.M.Metric.lawful c.args.progress.now.topology c.requires.taking.topology (vectors_with (vector_of c.args.progress.now) c.args.written c.args.stored) (vector_of c.args.progress.now) (c.args.port.now ∷ done) c.args.port.now.bridge c.look_once.new.keys (looked.found c.args.port.now.bridge refl)) (λ n k ne h. c.look_once.ensures.others n k (λ e. ne (e ∙ at)) h) looked.rooms

pub returns-then-is_upto-clause-taken : goal.returns-then-is_upto-clause-taken
returns-then-is_upto-clause-taken g c =
    let at : c.port.inside.bridge ≡ c.args.port.now.bridge = ap (λ (q : TreePort _ _ _ _). q.bridge) c.port.view_is in
    let vector : c.vector-vector.result ≡ vector_of c.args.progress.now c.args.port.now.bridge = c.vector-vector.ensures ∙ ap (vector_of c.args.progress.now) at in
    let has : Contains c.args.self.now.keys (c.args.port.now.bridge, c.in-Some.known) = subst (λ z. Contains c.args.self.now.keys (z, c.in-Some.known)) (c.number.view_is ∙ at) (c.in-Some.ensures.some c.in-Some.known refl) in
    let set : IsSetAt c.args.self.now.keys c.args.port.now.bridge c.key.result c.set.new.self = subst (λ z. IsSetAt c.args.self.now.keys z c.key.result c.set.new.self) (c.number-then-is_upto.view_is ∙ at) c.set.ensures in
    let low : is_upto g.M.Metric.rules.order c.offered-now.result c.lower_by-lower.result ≡ true = sym c.is_upto.ensures ∙ c.if-is_upto.true in
    takes_low g.M.Metric.rules c.args.progress.now.topology (vectors_with (vector_of c.args.progress.now) c.args.written c.args.stored) (vector_of c.args.progress.now) c.args.written g.met.M.Metric.lawful c.requires.taking.topology c.args.self.now.looked_on c.args.self.now.keys c.args.port.now c.requires.port c.requires.other c.in-Some.known c.offered-now.result c.vector-vector.result c.lower_by-lower.result
    vector c.lower_by-lower.ensures c.offered-now.ensures.some c.set.new.self c.key.result has low c.key.ensures set

pub returns-then-is_upto-clause-seen : goal.returns-then-is_upto-clause-seen
returns-then-is_upto-clause-seen g c =
    let at : c.port.inside.bridge ≡ c.args.port.now.bridge = ap (λ (q : TreePort _ _ _ _). q.bridge) c.port.view_is in
    let vector : c.vector-vector.result ≡ vector_of c.args.progress.now c.args.port.now.bridge = c.vector-vector.ensures ∙ ap (vector_of c.args.progress.now) at in
    let has : Contains c.args.self.now.keys (c.args.port.now.bridge, c.in-Some.known) = subst (λ z. Contains c.args.self.now.keys (z, c.in-Some.known)) (c.number.view_is ∙ at) (c.in-Some.ensures.some c.in-Some.known refl) in
    let set : IsSetAt c.args.self.now.keys c.args.port.now.bridge c.key.result c.set.new.self = subst (λ z. IsSetAt c.args.self.now.keys z c.key.result c.set.new.self) (c.number-then-is_upto.view_is ∙ at) c.set.ensures in
    let low : is_upto g.M.Metric.rules.order c.offered-now.result c.lower_by-lower.result ≡ true = sym c.is_upto.ensures ∙ c.if-is_upto.true in
    takes_keys g.M.Metric.rules c.args.progress.now.topology (vectors_with (vector_of c.args.progress.now) c.args.written c.args.stored) (vector_of c.args.progress.now) c.args.written g.met.M.Metric.lawful c.requires.taking.topology c.args.self.now.looked c.args.self.now.looked_on c.args.self.now.looked_on c.args.self.now.keys c.set.new.self (λ p. p ≡ c.args.port.now)
    (takes_low g.M.Metric.rules c.args.progress.now.topology (vectors_with (vector_of c.args.progress.now) c.args.written c.args.stored) (vector_of c.args.progress.now) c.args.written g.met.M.Metric.lawful c.requires.taking.topology c.args.self.now.looked_on c.args.self.now.keys c.args.port.now c.requires.port c.requires.other c.in-Some.known c.offered-now.result c.vector-vector.result c.lower_by-lower.result
    vector c.lower_by-lower.ensures c.offered-now.ensures.some c.set.new.self c.key.result has low c.key.ensures set) c.requires.seen

pub returns-then-was_due-clause-taken : goal.returns-then-was_due-clause-taken
returns-then-was_due-clause-taken g c =
    let at : c.port.inside.bridge ≡ c.args.port.now.bridge = ap (λ (q : TreePort _ _ _ _). q.bridge) c.port.view_is in
    let looked : LooksAnew g.M.Metric.rules c.args.progress.now.topology (vector_of c.args.progress.now) c.args.self.now.keys c.look_once-then-was_due.new.keys (λ n. n ≡ c.args.port.now.bridge) = subst (λ z. LooksAnew g.M.Metric.rules c.args.progress.now.topology (vector_of c.args.progress.now) c.args.self.now.keys c.look_once-then-was_due.new.keys (λ n. n ≡ z)) at c.look_once-then-was_due.ensures.looked in
    takes_one g.M.Metric.rules c.args.progress.now.topology (vectors_with (vector_of c.args.progress.now) c.args.written c.args.stored) (vector_of c.args.progress.now) c.args.written c.args.self.now.looked_on c.args.self.now.keys c.look_once-then-was_due.new.keys c.args.port.now c.requires.other
    (λ done h. mixed_now g.M.Metric.rules g.met.M.Metric.lawful c.args.progress.now.topology c.requires.taking.topology (vectors_with (vector_of c.args.progress.now) c.args.written c.args.stored) (vector_of c.args.progress.now) (c.args.port.now ∷ done) c.args.port.now.bridge c.look_once-then-was_due.new.keys (looked.found c.args.port.now.bridge refl)) (λ n k ne h. c.look_once-then-was_due.ensures.others n k (λ e. ne (e ∙ at)) h) looked.rooms

pub returns-else-was_due-clause-taken : goal.returns-else-was_due-clause-taken
returns-else-was_due-clause-taken g c =
    let at : c.port.inside.bridge ≡ c.args.port.now.bridge = ap (λ (q : TreePort _ _ _ _). q.bridge) c.port.view_is in
    let vector : c.vector-vector.result ≡ vector_of c.args.progress.now c.args.port.now.bridge = c.vector-vector.ensures ∙ ap (vector_of c.args.progress.now) at in
    let high : is_upto g.M.Metric.rules.order c.offered-now.result c.lower_by-lower.result ≡ false = sym c.is_upto.ensures ∙ c.if-is_upto.false in
    let was : c.was_due.result ≡ false = search rules in
    takes_high g.M.Metric.rules c.args.progress.now.topology (vectors_with (vector_of c.args.progress.now) c.args.written c.args.stored) (vector_of c.args.progress.now) c.args.written g.met.M.Metric.lawful c.requires.taking.topology c.args.self.now.looked_on c.args.self.now.keys c.args.port.now c.requires.port c.requires.other c.in-Some.known c.offered-now.result c.vector-vector.result c.lower_by-lower.result
    vector c.lower_by-lower.ensures c.offered-now.ensures.some
    (λ l h. c.in-Some.ensures.alone c.in-Some.known l refl (subst (λ z. Contains c.args.self.now.keys (z, l)) (sym (c.number.view_is ∙ at)) h)) c.offered-now.ensures.none high (c.was_due.ensures was)
