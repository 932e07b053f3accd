-- How jobs and their turns are stored.
use Rattle.std.specs.Prelude.{ℕ, List, refl}
use Rattle.std.specs.Coded.{Coded, code_by, coded×, coded_ℕ, coded_list}
use Rattle.std.specs.FinMap as map
use Rattle.job_queue.specs.declared.state.JobState.{JobState}
use Rattle.job_queue.specs.declared.job.Job.{Job}
use Rattle.job_queue.specs.declared.job.Turn.{Turn}
use Rattle.job_queue.specs.Queues.{Jobs, Queue}

abbrev pub turn_code : Coded Turn
turn_code = code_by (ℕ × ℕ) (coded× coded_ℕ coded_ℕ) (λ t. (t.priority, t.number)) (λ p. record { priority = p.0; number = p.1 }) (λ _. refl)

abbrev pub job_code : {A : Type 0} → Coded JobState → Coded A → Coded (Job A)
job_code {A} s a = code_by (JobState × (Turn × List A)) (coded× s (coded× turn_code (coded_list a)))
    (λ j. (j.state, (j.turn, j.rule))) (λ p. record { state = p.0; turn = p.1.0; rule = p.1.1 }) (λ _. refl)

-- a queue is stored as the tuple of its fields
abbrev pub queue_code : {A : Type 0} → Coded JobState → Coded A → Coded (Queue A)
queue_code {A} s a = code_by (Jobs A × (ℕ × ℕ)) (coded× (map.code (coded_list coded_ℕ) (job_code s a)) (coded× coded_ℕ coded_ℕ))
    (λ q. (q.jobs, (q.next_number, q.finished))) (λ p. record { jobs = p.0; next_number = p.1.0; finished = p.1.1 }) (λ _. refl)
