-- Operations by the verbs that their lines begin with.
use Rattle.std.proofs.Common.{◌≡◌, Some, None, List, ◌∷◌, drop, refl}
use Rattle.op_kind.specs.declared.op.Op.{Op}
use Rattle.op_kind.specs.declared.op.Op.TheVariants as op
use Rattle.op_kind.specs.declared.op.Want.TheVariants as want
use Rattle.script_ops.specs.declared.verb.Verb.{Verb}
use Rattle.script_ops.specs.declared.verb.Verb.TheVariants.{Create, Delete, Write, Touch, Derived, Move, Copy, Open, Close, Describe, Forget, Mark, Attr, Unmark, ClearMarks, Partner, Sync, NoSync, Flush, Show, Cat, Tree, Digest}
use Rattle.script_parts.specs.Parts.{Part, keyword}
use Rattle.script_ops.specs.Operations.{operation_parts}
use Rattle.script_ops.specs.Inside.Verbs.{verb_word}

pub record HasVerb (parts : List Part) : Type 0 where
  pub verb : Verb
  pub more : List Part
  pub parts_are : parts ≡ keyword (verb_word verb) ∷ more

pub with_verb : (verb : Verb) (more : List Part) → HasVerb (keyword (verb_word verb) ∷ more)
with_verb verb more = record { verb = verb; more = more; parts_are = refl }

pub op_verb : (x : Op) → HasVerb (operation_parts x)
op_verb (op.CreateProject p) = with_verb Create (drop 1 (operation_parts (op.CreateProject p)))
op_verb (op.CreateFolder p) = with_verb Create (drop 1 (operation_parts (op.CreateFolder p)))
op_verb (op.CreateFile p bytes) = with_verb Create (drop 1 (operation_parts (op.CreateFile p bytes)))
op_verb (op.Delete p) = with_verb Delete (drop 1 (operation_parts (op.Delete p)))
op_verb (op.Write p bytes) = with_verb Write (drop 1 (operation_parts (op.Write p bytes)))
op_verb (op.Touch p) = with_verb Touch (drop 1 (operation_parts (op.Touch p)))
op_verb (op.Derived p derived) = with_verb Derived (drop 1 (operation_parts (op.Derived p derived)))
op_verb (op.Move p q) = with_verb Move (drop 1 (operation_parts (op.Move p q)))
op_verb (op.Copy p q) = with_verb Copy (drop 1 (operation_parts (op.Copy p q)))
op_verb (op.Open p) = with_verb Open (drop 1 (operation_parts (op.Open p)))
op_verb (op.Close p) = with_verb Close (drop 1 (operation_parts (op.Close p)))
op_verb (op.Describe p text) = with_verb Describe (drop 1 (operation_parts (op.Describe p text)))
op_verb (op.Forget p) = with_verb Forget (drop 1 (operation_parts (op.Forget p)))
op_verb (op.Mark p kind attributes) = with_verb Mark (drop 1 (operation_parts (op.Mark p kind attributes)))
op_verb (op.Attr p id name value) = with_verb Attr (drop 1 (operation_parts (op.Attr p id name value)))
op_verb (op.Unmark p id) = with_verb Unmark (drop 1 (operation_parts (op.Unmark p id)))
op_verb (op.ClearMarks p kind depth) = with_verb ClearMarks (drop 1 (operation_parts (op.ClearMarks p kind depth)))
op_verb (op.Partner name) = with_verb Partner (drop 1 (operation_parts (op.Partner name)))
op_verb (op.Sync p name (Some bytes)) = with_verb Sync (drop 1 (operation_parts (op.Sync p name (Some bytes))))
op_verb (op.Sync p name None) = with_verb NoSync (drop 1 (operation_parts (op.Sync p name None)))
op_verb (op.Flush p name depth) = with_verb Flush (drop 1 (operation_parts (op.Flush p name depth)))
op_verb (op.Read p want.Show) = with_verb Show (drop 1 (operation_parts (op.Read p want.Show)))
op_verb (op.Read p want.Cat) = with_verb Cat (drop 1 (operation_parts (op.Read p want.Cat)))
op_verb (op.Read p want.Tree) = with_verb Tree (drop 1 (operation_parts (op.Read p want.Tree)))
op_verb (op.Read p want.Digest) = with_verb Digest (drop 1 (operation_parts (op.Read p want.Digest)))
