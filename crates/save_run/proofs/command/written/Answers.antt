use Rattle.save_run.proofs.command.written.Goals as goal

-- the host stays over both calls
pub returns-in-Ok-clause-stays : goal.returns-in-Ok-clause-stays
returns-in-Ok-clause-stays g c = g.H.Host.stays_on _ _ _ c.keep.ensures.stays c.write.ensures.stays
