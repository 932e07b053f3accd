-- The jobs of a workspace, and the passes that work on it.
use Rattle.std.specs.Prelude.{Option, Some, None}
use Rattle.job_queue.specs.Queues.{no_jobs}
use Rattle.pass_table.specs.Passes.{first_pass}
use Rattle.job_manager.specs.declared.manager.JobManager.{JobManager}

-- when a workspace is opened: no job was ever scheduled, and pass 0 is there
abbrev pub first_manager : JobManager
first_manager = record { jobs = no_jobs; passes = first_pass }
