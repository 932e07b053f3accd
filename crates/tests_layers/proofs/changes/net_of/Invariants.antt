use Rattle.tests_layers.proofs.changes.net_of.Given as goal

abbrev pub ghosts-join : goal.ghosts-join
ghosts-join g a = record { name = a.blank.name; parts = a.blank.parts }
