use Rattle.std.proofs.Common.{◌≡◌, ◌∙◌, ◌∷◌, [], map, refl, subst}
use Rattle.run_order.specs.Lists.{acts, Cut}
use Rattle.run_order.proofs.Lists.{some_acts}
use Rattle.phase_pool.specs.Passes.{Makes}
use Rattle.pass_jobs.specs.Inside.Floors.{Does, cancelling, known}
use Rattle.pass_jobs.proofs.Turns.{acts_all, acts_cut, turns_all, turns_cut, turns_next, turns_none}
use Rattle.pass_jobs.proofs.scheduling.cancel_all.Goals as goal

pub loop-name-init : goal.loop-name-init
loop-name-init g c = (c.requires.here.0, c.requires.here.1, turns_none (λ x h. acts h ≡ cancelling x ∷ []) (λ x. some_acts (cancelling x ∷ [])) c.args.names.now (known (g.R.JobRoom.knows c.args.pass.now)))

pub cancel_one-requires-clause-here : goal.cancel_one-requires-clause-here
cancel_one-requires-clause-here g c = (c.loop-name.invariant.0, c.loop-name.invariant.1)

pub cancel_one-requires-clause-zeroth : goal.cancel_one-requires-clause-zeroth
cancel_one-requires-clause-zeroth g c = c.loop-name.invariant.2.number ∙ c.requires.zeroth

pub loop-name-preserved : goal.loop-name-preserved
loop-name-preserved g c =
    let k = g.R.JobRoom.knows c.args.pass.now in
    let i = g.R.JobRoom.knows c.loop-name.pass in
    let j = g.R.JobRoom.knows c.cancel_one.new.pass in (
      c.cancel_one.ensures.here.0,
      c.cancel_one.ensures.here.1,
      turns_next (λ x h. acts h ≡ cancelling x ∷ []) (λ x. some_acts (cancelling x ∷ [])) c.args.names.now (known k) c.loop-name.name-index c.name-item.result (known i) (known j) c.loop-name-test.true c.loop-name.invariant.2
          (subst (λ x. Makes (λ h. acts h ≡ cancelling x ∷ []) (known i) (known j)) c.name-item.is
          (subst (λ r. Does r (λ h. acts h ≡ cancelling c.name-item.result ∷ []) (known i) (known j)) c.in-Ok.is c.cancel_one.ensures.done)),
    )

pub returns-in-Err-clause-done : goal.returns-in-Err-clause-done
returns-in-Err-clause-done g c =
    let k = g.R.JobRoom.knows c.args.pass.now in
    let i = g.R.JobRoom.knows c.loop-name.pass in
    let j = g.R.JobRoom.knows c.cancel_one.new.pass in
    acts_cut (λ x. cancelling x) c.args.names.now _ refl (known k) (known j)
    (turns_cut (λ x h. acts h ≡ cancelling x ∷ []) (λ x. some_acts (cancelling x ∷ [])) c.args.names.now (known k) c.loop-name.name-index c.name-item.result (known i) (known j) c.loop-name-test.true c.loop-name.invariant.2
    (subst (λ x. Makes (Cut (λ h. acts h ≡ cancelling x ∷ [])) (known i) (known j)) c.name-item.is
    (subst (λ r. Does r (λ h. acts h ≡ cancelling c.name-item.result ∷ []) (known i) (known j)) c.in-Err.is c.cancel_one.ensures.done)))

pub returns-clause-done : goal.returns-clause-done
returns-clause-done g c =
    let k = g.R.JobRoom.knows c.args.pass.now in
    let i = g.R.JobRoom.knows c.loop-name.pass in
    acts_all (λ x. cancelling x) c.args.names.now _ refl (known k) (known i)
    (turns_all (λ x h. acts h ≡ cancelling x ∷ []) (λ x. some_acts (cancelling x ∷ [])) c.args.names.now (known k) c.loop-name.name-index (known i) c.loop-name-test.false c.loop-name.invariant.2)
