use Rattle.script_lang.proofs.command.line_with.Goals as goal

pub returns-in-Job : goal.returns-in-Job
returns-in-Job c = rw c.in-Job.is c.job_line.ensures

pub returns-in-Begin : goal.returns-in-Begin
returns-in-Begin c = rw c.in-Begin.is c.begin_line.ensures

pub returns-in-TryBegin : goal.returns-in-TryBegin
returns-in-TryBegin c = rw c.in-TryBegin.is c.try_begin_line.ensures

pub returns-in-End : goal.returns-in-End
returns-in-End c = rw c.in-End.is c.end_line.ensures

pub returns-in-Sleep : goal.returns-in-Sleep
returns-in-Sleep c = rw c.in-Sleep.is c.sleep_line.ensures

pub returns-in-Wake : goal.returns-in-Wake
returns-in-Wake c = rw c.in-Wake.is c.wake_line.ensures

pub returns-in-Cancel : goal.returns-in-Cancel
returns-in-Cancel c = rw c.in-Cancel.is c.cancel_line.ensures

pub returns-in-Build : goal.returns-in-Build
returns-in-Build c = rw c.in-Build.is c.build_line.ensures

pub returns-in-Save : goal.returns-in-Save
returns-in-Save c = rw c.in-Save.is c.save_line.ensures
