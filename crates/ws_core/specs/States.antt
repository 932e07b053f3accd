-- What contracts see of a state.
use Rattle.op_kind.specs.Resources.{Resources}
use Rattle.job_manager.specs.declared.manager.JobManager.{JobManager}
use Rattle.service_desk.specs.declared.desk.Desk.{Desk}
use Rattle.ws_content.specs.States.{Contents, Remembered}

-- what there is at one moment
pub record Moment : Type 0 where
  -- the tree, the members of closed projects, the counters and the partners
  pub resources : Resources
  -- the trees that are remembered
  pub remembered : Remembered
  -- the jobs, and the passes with what each has
  pub manager : JobManager
  -- the builders' names, the command under way, and for what a pass has the services
  pub desk : Desk

-- what is there, with what is remembered
abbrev pub contents_of : Moment → Contents
contents_of s = record { resources = s.resources; remembered = s.remembered }

-- the state with these contents
abbrev pub with_contents : Moment → Contents → Moment
with_contents s c = record s { resources = c.resources; remembered = c.remembered }
