-- The words of what concerns the services.
use Rattle.std.specs.Prelude.{ℕ, List, [], ◌∷◌, ◌++◌, length, Option, Some, None, codes, decimal}
use Rattle.std.specs.List.{flat_map}
use Rattle.builder_api.specs.Kinds.{build_number}
use Rattle.builder_api.specs.declared.outcome.BuildOutcome.{BuildOutcome}
use Rattle.builder_api.specs.declared.outcome.BuildOutcome.TheVariants as ends
use Rattle.save_kind.specs.Kinds.{save_number}
use Rattle.save_kind.specs.declared.answer.SaveAnswer.{SaveAnswer}
use Rattle.save_kind.specs.declared.answer.SaveAnswer.TheVariants as saves
use Rattle.core_event.specs.declared.service.Outcomes.{Outcomes}
use Rattle.core_event.specs.declared.service.Outcomes.TheVariants as outcomes
use Rattle.core_event.specs.declared.service.Purpose.{Purpose}
use Rattle.core_event.specs.declared.service.Purpose.TheVariants as purposes
use Rattle.core_event.specs.declared.service.ServiceEvent.{ServiceEvent}
use Rattle.core_event.specs.declared.service.ServiceEvent.TheVariants.{Checkout, CheckIn, Handed, Commit, Clean, Saving}
use Rattle.script_words.specs.Words.{word_text}
use Rattle.report_text.specs.Words.{path_word}
use Rattle.service_desk.specs.declared.desk.UnderWay.{UnderWay}

-- the path of the project of this name, as a word
abbrev pub project_word : List ℕ → List ℕ
project_word name = path_word (name ∷ [])

-- a project's path, and the number of one of its commands
abbrev pub command_words : List ℕ → ℕ → List ℕ
command_words project index = project_word project ++ codes " " ++ decimal index

-- the path of the one project that is built, if it is one
abbrev pub scope_text : Option (List ℕ) → List ℕ
scope_text None = []
scope_text (Some project) = codes " " ++ project_word project

abbrev pub purpose_text : Purpose → List ℕ
purpose_text (purposes.Build kind project) = codes "build " ++ decimal (build_number kind) ++ scope_text project
purpose_text (purposes.Save kind) = codes "save " ++ decimal (save_number kind)

-- one project of a knot
abbrev pub member_text : List ℕ → List ℕ
member_text name = codes " " ++ project_word name

abbrev pub build_outcome_text : BuildOutcome → List ℕ
build_outcome_text ends.Settled = codes "settled"
build_outcome_text (ends.Unsettled knot) = codes "unsettled" ++ flat_map member_text knot
build_outcome_text (ends.BuilderFailed project index) = codes "failed " ++ command_words project index
build_outcome_text (ends.Refused number) = codes "refused " ++ decimal number
build_outcome_text ends.Cleaned = codes "cleaned"
build_outcome_text ends.NoMemory = codes "no-memory"

abbrev pub save_answer_text : SaveAnswer → List ℕ
save_answer_text saves.Saved = codes "saved"
save_answer_text saves.SaveFailed = codes "save-failed"
save_answer_text (saves.ParticipantFailed name) = codes "participant " ++ word_text name
save_answer_text saves.SaveTooLarge = codes "save-too-large"
save_answer_text saves.SaveNumbers = codes "save-numbers"
save_answer_text saves.NoMemory = codes "no-memory"

abbrev pub outcome_text : Outcomes → List ℕ
outcome_text (outcomes.Build outcome) = build_outcome_text outcome
outcome_text (outcomes.Save answer) = save_answer_text answer

-- the command that is under way, if one is
abbrev pub under_words : Option UnderWay → List ℕ
under_words None = codes "- -"
under_words (Some u) = command_words u.project u.index

-- what is asked of the services, where this command is under way
abbrev pub service_text : Option UnderWay → ServiceEvent → List ℕ
service_text u (Checkout purpose) = codes "checkout " ++ purpose_text purpose
service_text u (CheckIn outcome) = codes "checkin " ++ outcome_text outcome
service_text u (Handed project index kind) = codes "handed " ++ command_words project index ++ codes " " ++ decimal (build_number kind)
service_text u (Commit edits) = codes "commit " ++ under_words u
service_text u (Clean project index) = codes "clean " ++ command_words project index
service_text u (Saving states) = codes "saving " ++ decimal (length states)
