use Rattle.std.proofs.Common.{length}
use Rattle.output_edits.proofs.standing.+add_folders.Given as goal

abbrev pub decreases-add_folders : goal.decreases-add_folders
decreases-add_folders l = length l.path.now
