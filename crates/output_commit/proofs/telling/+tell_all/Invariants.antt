use Rattle.std.proofs.Common.{length}
use Rattle.output_commit.proofs.telling.+tell_all.Given as goal

abbrev pub decreases-tell_all : goal.decreases-tell_all
decreases-tell_all l = length l.ids.now
