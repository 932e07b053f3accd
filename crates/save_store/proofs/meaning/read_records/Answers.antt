use Rattle.std.proofs.Common.{length, ◌∙◌, ap}
use Rattle.ws_durable.specs.Saved.{saved}
use Rattle.save_store.specs.Damages.{further, BadRecord, FailsFor}
use Rattle.save_store.proofs.Meanings.{handed, record_leads, record_fails, record_bad}
use Rattle.save_store.proofs.meaning.read_records.Goals as goal

pub returns-in_err-durable-clause-bad : goal.returns-in_err-durable-clause-bad
returns-in_err-durable-clause-bad c =
    let l = c.loop-body in
    let bodies = c.args.records.now in
    let before = saved c.args.first in
    handed (FailsFor (BadRecord before c.args.from bodies)) c.from_residual.result c.in_err-durable.field-0.0 c.from_residual.ensures.1
    (record_fails before c.args.from bodies l.body-index c.body-item.result c.loop-body-test.true c.body-item.is (saved l.durable) l.gate c.as_slice-bytes.result.now c.as_slice-bytes.ensures l.invariant.bad
    c.in_err-durable.field-0.0 c.in_err-durable.ensures.bad)

pub loop-body-preserved : goal.loop-body-preserved
loop-body-preserved c =
    let l = c.loop-body in
    let bodies = c.args.records.now in
    let before = saved c.args.first in
    let next = saved c.in_ok-durable.durable in
    let bytes = c.as_slice-bytes.result.now in
    let is = c.in_ok-durable.ensures.ok in
    record {
      valid = is.0;
      leads = record_leads before c.args.from bodies l.body-index c.body-item.result c.loop-body-test.true c.body-item.is (saved l.durable) l.gate next bytes c.as_slice-bytes.ensures is l.invariant.leads;
      bad = record_bad before c.args.from bodies l.body-index c.body-item.result c.loop-body-test.true c.body-item.is (saved l.durable) l.gate next bytes c.further-gate.result c.as_slice-bytes.ensures
          (c.further-gate.ensures ∙ ap (λ gate. further gate (length bytes)) c.further.ensures) is l.invariant.bad;
    }
