use Rattle.script_lang.proofs.Begun.{job_long, job_name, job_priority, job_start, job_found}
use Rattle.script_lang.proofs.command.job_line.Goals as goal

pub returns-in_default : goal.returns-in_default
returns-in_default c = λ line h. job_long c.args.rest.now line h c.in_default.len_below

pub returns-in_default-priority_of : goal.returns-in_default-priority_of
returns-in_default-priority_of c =
    job_priority c.args.rest.now c.priority-item.result c.priority-item.is c.in-len2-up.len_at_least (rw c.in_default-priority_of.is at c.priority_of.ensures)

pub returns-in_default-2 : goal.returns-in_default-2
returns-in_default-2 c = job_name c.args.rest.now c.name-item.result c.name-item.is c.in-len2-up.len_at_least (rw c.in_default-2.is at c.in_ok-name.ensures)

pub returns-in-None : goal.returns-in-None
returns-in-None c = job_start c.args.rest.now c.in-len2-up.len_at_least (rw c.in-None.is at c.in_ok-start_of.ensures)

pub returns-in-Some-3 : goal.returns-in-Some-3
returns-in-Some-3 c =
    job_found c.args.rest.now c.name-item.result c.priority-item.result c.in-Some-2.name c.in-Some.priority c.in-Some-3.asleep c.in-Some-3.rule c.name-item.is c.priority-item.is c.in-len2-up.len_at_least
    (rw c.in-Some-2.is at c.in_ok-name.ensures) (rw c.in-Some.is at c.priority_of.ensures) (rw c.in-Some-3.is at c.in_ok-start_of.ensures)
