-- What a pass asks of a job, as an event of the core.
use Rattle.core_event.specs.declared.event.Event.{Event}
use Rattle.core_event.specs.declared.event.Event.TheVariants as events
use Rattle.ws_shared.specs.declared.job.JobEvent.{JobEvent}
use Rattle.ws_shared.specs.declared.job.JobEvent.TheVariants as jobs

abbrev pub job_event : JobEvent → Event
job_event (jobs.Schedule name priority rule asleep) = events.Schedule name priority rule asleep
job_event (jobs.Sleep name) = events.Sleep name
job_event (jobs.Wake name) = events.Wake name
job_event (jobs.Cancel name) = events.Cancel name
job_event jobs.Take = events.Take
job_event jobs.Finish = events.Finish
