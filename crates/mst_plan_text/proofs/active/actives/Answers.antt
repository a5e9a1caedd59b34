use Rattle.std.proofs.Common.{Vec, Global, ◌≡◌, ℕ, ◌+◌, Bool, List, ◌++◌, ◌∷◌, [], get_or, map, take, sym, ap, ◌∙◌, arith, rules}
use Rattle.std.proofs.lemmas.Grind.{common_steps}
use Rattle.std.proofs.lemmas.List.{map-append, take_more}
use Rattle.mst_ids.specs.declared.name.PortName.{PortName}
use Rattle.mst_vlan.specs.forest.Settled.{outcome_of}
use Rattle.mst_plan_text.specs.Bodies.{pairs_of}
use Rattle.mst_plan_text.proofs.active.actives.Goals as goal

pub loop-place-preserved : goal.loop-place-preserved
loop-place-preserved c = record {
  as_long = grind (arith, common_steps);
  ports =
      let s = c.args.plan.now in
      let items : Vec (PortName × Bool) Global → List (PortName × Bool) = λ active. active.items in
      let f : ℕ → List (PortName × Bool) = λ place. pairs_of s.net (outcome_of s) (place + 1) in
      let i : ℕ = c.loop-place.place-index in
      let places = c.args.places.now in
      let place : ℕ = get_or places i 0 in
      let vid : c.unwrap-vid.result ≡ place + 1 = first_of (grind (arith, common_steps), search (rules, common_steps)) in
      ap (map items) c.in_ok-push.ensures.items ∙ map-append items c.loop-place.actives.items (c.in_ok-active_of.field-0 ∷ [])
      ∙ (λ k. c.loop-place.invariant.ports k ++ (c.in_ok-active_of.ensures ∙ ap (pairs_of s.net (outcome_of s)) vid) k ∷ [])
      ∙ sym (ap (map f) (take_more places i 0 c.loop-place-test.true) ∙ map-append f (take i places) (place ∷ []));
}
