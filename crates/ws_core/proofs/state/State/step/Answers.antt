use Rattle.ws_core.proofs.SoundKept.{sound_after}
use Rattle.ws_core.proofs.state.State.step.Goals as goal

pub returns-clause-sound : goal.returns-clause-sound
returns-clause-sound g c =
    sound_after c.advance.result c.args.wants_copy c.args.self.now c.advance.new.self c.args.pass c.args.event.now c.requires.sound c.advance.ensures.ok c.advance.ensures.err
