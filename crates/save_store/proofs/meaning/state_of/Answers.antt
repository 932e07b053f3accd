use Rattle.std.proofs.lemmas.Result.{IfOk-weaker, IfErr-weaker}
use Rattle.ws_durable.specs.Saved.{saved}
use Rattle.save_store.specs.Damages.{BadRecord, BadTexts, FailsFor}
use Rattle.save_store.specs.States.{Lead, StandFor}
use Rattle.save_store.proofs.Meanings.{texts_stand, texts_bad}
use Rattle.save_store.proofs.meaning.state_of.Goals as goal

pub returns-clause-ok : goal.returns-clause-ok
returns-clause-ok c =
    let first = saved c.in_ok-first.first in
    let image = c.as_slice-image.result.now in
    let records = c.as_slice.result.now in
    IfOk-weaker c.read_records.result (λ d. Lead first records (saved d)) (λ d. StandFor c.args.texts.now (saved d))
    (λ d. texts_stand c.args.texts.now first image records c.as_slice-image.ensures c.as_slice.ensures c.in_ok-first.ensures.ok (saved d)) c.read_records.ensures.ok

pub returns-clause-bad : goal.returns-clause-bad
returns-clause-bad c =
    let first = saved c.in_ok-first.first in
    let image = c.as_slice-image.result.now in
    let records = c.as_slice.result.now in
    IfErr-weaker c.read_records.result (FailsFor (BadRecord first c.further.result records)) (FailsFor (BadTexts c.args.texts.now))
    (texts_bad c.args.texts.now first image records c.as_slice-image.ensures c.as_slice.ensures c.in_ok-first.ensures.ok c.further.result c.further.ensures) c.read_records.ensures.bad
