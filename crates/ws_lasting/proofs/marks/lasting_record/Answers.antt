use Rattle.ws_lasting.proofs.marks.lasting_record.Goals as goal

pub returns-clause-valid : goal.returns-clause-valid
returns-clause-valid g c h = c.in_ok-text_of.ensures.valid c.args.of.now.project h

pub returns-clause-back : goal.returns-clause-back
returns-clause-back g c h = c.in_ok-text_of.ensures.back c.args.of.now.project h
