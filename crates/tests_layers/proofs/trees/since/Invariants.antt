use Rattle.tests_layers.proofs.trees.since.Given as goal

abbrev pub ghosts-since_by : goal.ghosts-since_by
ghosts-since_by a = record { name = a.blank.name; parts = a.blank.parts }
