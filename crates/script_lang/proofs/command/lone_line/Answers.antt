use Rattle.std.proofs.Common.{refl}
use Rattle.script_lang.specs.declared.line.Line.TheVariants.{BeginPhase, InJob, EndJob, EndPhase}
use Rattle.script_lang.specs.declared.script.Command.TheVariants.{Batch, EndBatch, Checkpoint}
use Rattle.script_ops.specs.declared.verb.Verb.TheVariants as verb
use Rattle.script_lang.proofs.Begun.{alone_found, of_verb}
use Rattle.script_lang.proofs.command.lone_line.Goals as goal

pub returns-in-Phase : goal.returns-in-Phase
returns-in-Phase c =
    of_verb c.alone.result c.args.verb verb.Phase c.args.rest.now c.in-Phase.is
    (alone_found verb.Phase BeginPhase c.args.rest.now c.alone.result c.alone.ensures (λ words. refl) refl refl)

pub returns-in-EndPhase : goal.returns-in-EndPhase
returns-in-EndPhase c =
    of_verb c.alone-in-EndPhase.result c.args.verb verb.EndPhase c.args.rest.now c.in-EndPhase.is
    (alone_found verb.EndPhase EndPhase c.args.rest.now c.alone-in-EndPhase.result c.alone-in-EndPhase.ensures (λ words. refl) refl refl)

pub returns-in-EndJob : goal.returns-in-EndJob
returns-in-EndJob c =
    of_verb c.alone-in-EndJob.result c.args.verb verb.EndJob c.args.rest.now c.in-EndJob.is
    (alone_found verb.EndJob EndJob c.args.rest.now c.alone-in-EndJob.result c.alone-in-EndJob.ensures (λ words. refl) refl refl)

pub returns-in-Batch : goal.returns-in-Batch
returns-in-Batch c =
    of_verb c.alone-in-Batch.result c.args.verb verb.Batch c.args.rest.now c.in-Batch.is
    (alone_found verb.Batch (InJob Batch) c.args.rest.now c.alone-in-Batch.result c.alone-in-Batch.ensures (λ words. refl) refl refl)

pub returns-in-EndBatch : goal.returns-in-EndBatch
returns-in-EndBatch c =
    of_verb c.alone-in-EndBatch.result c.args.verb verb.EndBatch c.args.rest.now c.in-EndBatch.is
    (alone_found verb.EndBatch (InJob EndBatch) c.args.rest.now c.alone-in-EndBatch.result c.alone-in-EndBatch.ensures (λ words. refl) refl refl)

pub returns-in-Checkpoint : goal.returns-in-Checkpoint
returns-in-Checkpoint c =
    of_verb c.alone-in-Checkpoint.result c.args.verb verb.Checkpoint c.args.rest.now c.in-Checkpoint.is
    (alone_found verb.Checkpoint (InJob Checkpoint) c.args.rest.now c.alone-in-Checkpoint.result c.alone-in-Checkpoint.ensures (λ words. refl) refl refl)
