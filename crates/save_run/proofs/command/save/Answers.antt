use Rattle.save_run.proofs.command.save.Goals as goal

-- the host stays over both calls
pub returns-in-None-clause-stays : goal.returns-in-None-clause-stays
returns-in-None-clause-stays g c = g.H.Host.stays_on _ _ _ c.start.ensures.stays c.save_begun.ensures.stays
