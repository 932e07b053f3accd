use Rattle.std.proofs.Common.{Some}
use Rattle.ws_turn.proofs.steps.raise_for.Given as goal

abbrev pub ghosts-make_raise : goal.ghosts-make_raise
ghosts-make_raise g a = record { told = Some a.value.now }
