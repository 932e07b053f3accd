-- What changes of a workspace's contents come to, and what is told of them.
use Rattle.std.specs.Prelude.{ℕ, Bool, true, false, not, List, [], ◌∷◌, length, Option, Some, None}
use Rattle.std.specs.Option.{option_map}
use Rattle.std.specs.FinMap.{insert, remove, retain_keys}
use Rattle.res_path.specs.Paths.{Names}
use Rattle.ws_elem.specs.Trees.{Tree}
use Rattle.delta_kind.specs.Deltas.{delta}
use Rattle.op_kind.specs.declared.op.Op.{Op}
use Rattle.op_kind.specs.declared.op.Op.TheVariants.{Delete, Move, Describe, Forget}
use Rattle.op_kind.specs.declared.refusal.OpRefusal.TheVariants as ops
use Rattle.op_kind.specs.Effects.{effect}
use Rattle.op_kind.specs.Problems.{command_count}
use Rattle.op_kind.specs.Refusals.{refusal}
use Rattle.op_kind.specs.Resources.{Resources}
use Rattle.builder_api.specs.declared.edits.Edits.{Edits}
use Rattle.output_edits.specs.declared.refusal.EditRefusal.{EditRefusal}
use Rattle.output_edits.specs.declared.refusal.EditRefusal.TheVariants as edits
use Rattle.output_edits.specs.Wanted.{wanted}
use Rattle.output_commit.specs.Committed as outputs
use Rattle.output_commit.specs.Touched.{touched}
use Rattle.ws_marks.specs.declared.record.Record.{Record}
use Rattle.ws_marks.specs.Marked.{is_from}
use Rattle.ws_marks.specs.Places.{Records}
use Rattle.build_due.specs.declared.site.Site.{Site}
use Rattle.core_event.specs.declared.reply.Answer.{Answer}
use Rattle.core_event.specs.declared.reply.Answer.TheVariants.{Done, Committed, Refused}
use Rattle.core_event.specs.declared.reply.Refusal.{Refusal}
use Rattle.core_event.specs.declared.reply.Refusal.TheVariants.{Operation, BadEdits}
use Rattle.core_event.specs.declared.reply.Reply.{Reply}
use Rattle.core_event.specs.Replies.{answered, some_nodes}
use Rattle.ws_content.specs.States.{Contents, Remembered, with_built, with_told}

-- what a change comes to that isn't refused: the resources, what was built last, and the answer
pub record Deed : Type 0 where
  pub resources : Resources
  pub built : Records Tree
  pub answer : Answer

-- a refused change changes nothing
abbrev pub made : Option Refusal → Contents → Deed → Contents × Answer
made None c d = (record { resources = d.resources; remembered = with_built c.remembered d.built }, d.answer)
made (Some r) c d = (c, Refused r)

-- ---- operations

-- the commands of a project, from this one on
abbrev pub From : Type 0
From = List ℕ × ℕ

-- those of the project at the path
abbrev pub all_from : Names → ℕ → Option From
all_from [] n = None
all_from (project ∷ []) n = Some (project, n)
all_from (project ∷ name ∷ p) n = None

-- the commands of which an operation forgets what was built last
abbrev pub forgets : Op → Option From
forgets (Delete p) = all_from p 0
forgets (Move from to) = all_from from 0
forgets (Describe p text) = all_from p (command_count text)
forgets (Forget p) = all_from p 0
forgets op = None

-- what was built last of the others
abbrev pub forgotten : Option From → Records Tree → Records Tree
forgotten None built = built
forgotten (Some from) built = retain_keys built (λ k. not (is_from from.0 from.1 k))

abbrev pub operation : Contents → Op → Deed
operation c op = record {
  resources = (effect c.resources op).0;
  built = forgotten (forgets op) c.remembered.built;
  answer = answered (effect c.resources op).1;
}

abbrev pub operated : Contents → Op → Contents × Answer
operated c op = made (option_map Operation (refusal c.resources op)) c (operation c op)

-- ---- outputs

-- why edits are refused, as the core tells it
abbrev pub edit_refusal : EditRefusal → Refusal
edit_refusal (edits.BadEdits path) = BadEdits path
edit_refusal edits.TooDeep = Operation ops.TooDeep
edit_refusal edits.TooLong = Operation ops.TooLong
edit_refusal edits.TreeFull = Operation ops.TreeFull
edit_refusal edits.NumbersUsed = Operation ops.NumbersUsed

-- the command as it stands, with the tree
abbrev pub record_of : Site → Tree → Record Tree
record_of s t = record { project = s.project; index = s.index; command = s.command; references = s.references; tree = t }

-- the edits are made below the command's output, and the tree after that is what was built last
abbrev pub commit : Contents → Site → Edits → Deed
commit c s e = let after = outputs.committed c.resources s.output s.index e in record {
  resources = after;
  built = insert c.remembered.built (s.project, s.index) (record_of s after.tree);
  answer = Committed (touched c.resources.tree s.output (wanted s.output (outputs.files_after c.resources s.output e))) (length e.problems);
}

abbrev pub committed : Contents → Site → Edits → Contents × Answer
committed c s e = made (option_map edit_refusal (outputs.refusal c.resources s.output s.index e)) c (commit c s e)

-- all below the command's output goes, its problems, and what was built last
abbrev pub clean : Contents → Site → Deed
clean c s = record {
  resources = outputs.cleaned c.resources s.output s.index;
  built = remove c.remembered.built (s.project, s.index);
  answer = Done;
}

abbrev pub cleaned : Contents → Site → Contents × Answer
cleaned c s = made None c (clean c s)

-- ---- telling

-- the reply to this answer: where something is told, what changed since that was done last
abbrev pub reply_of : Bool → Tree → Tree → Answer → Reply
reply_of true told tree a = record { answer = a; notice = some_nodes (delta told tree) }
reply_of false told tree a = record { answer = a; notice = None }

-- the tree is told, or not
abbrev pub kept_if : Bool → Tree → Remembered → Remembered
kept_if true tree r = with_told r tree
kept_if false tree r = r

-- what is there is told, or not
abbrev pub told_if : Bool → Contents → Contents
told_if tells c = record c { remembered = kept_if tells c.resources.tree c.remembered }

-- what was done is told, or not
abbrev pub replied : Bool → Contents × Answer → Contents × Reply
replied tells d = (told_if tells d.0, reply_of tells d.0.remembered.told d.0.resources.tree d.1)
