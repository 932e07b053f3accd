-- Whole trees, and equal stamps for equal contents, are kept by every operation that isn't refused.
use Rattle.std.proofs.Common.{◌≡◌}
use Rattle.std.specs.Prelude.{None}
use Rattle.ws_elem.specs.Trees.{Tree, branch}
use Rattle.ws_elem.specs.declared.element.Element.{Element}
use Rattle.op_kind.specs.declared.op.Op.{Op}
use Rattle.op_kind.specs.declared.op.Op.TheVariants.{CreateFile, CreateFolder, CreateProject, Delete, Write, Touch, Derived, Move, Copy, Open, Close, Describe, Forget, Mark, Attr, Unmark, ClearMarks, Partner, Sync, Flush, Read}
use Rattle.op_kind.specs.Resources.{Resources}
use Rattle.op_kind.specs.Refusals.{refusal}
use Rattle.op_kind.specs.Effects.{effect, new_file, new_folder, new_project}
use Rattle.op_kind.specs.Sound.{IsConsistent}
use Rattle.op_kind.specs.Stamps.{IsKnown}
use Rattle.op_sound.proofs.SoundSteps.{Keeps, kept_sound, kept_known}
use Rattle.op_sound.proofs.SoundCreate.{file_keeps, folder_keeps, project_keeps, delete_keeps}
use Rattle.op_sound.proofs.SoundChange.{IsChanged, rewrite_with, write_keeps, touch_keeps, derive_keeps, describe_keeps}
use Rattle.op_sound.proofs.SoundOpen.{read_keeps, open_keeps, close_keeps}
use Rattle.op_sound.proofs.SoundMove.{move_keeps}
use Rattle.op_sound.proofs.SoundCopy.{IsCopy, copy_keeps}
use Rattle.op_sound.proofs.SoundNotes.{mark_keeps, attribute_keeps, unmark_keeps, clear_keeps, register_keeps, sync_keeps, flush_keeps}

-- the elements to which an operation gives fresh stamps
abbrev pub Fresh : Resources → Op → Element → Type 0
Fresh r (CreateFile p bytes) e = e ≡ new_file r.next_node r.next_stamp bytes
Fresh r (CreateFolder p) e = e ≡ new_folder r.next_node
Fresh r (CreateProject p) e = e ≡ new_project r.next_node r.next_stamp
Fresh r (Delete p) e = ⊥
Fresh r (Write p bytes) e = IsChanged r p (rewrite_with r.next_stamp (λ _. bytes)) e
Fresh r (Touch p) e = IsChanged r p (rewrite_with r.next_stamp (λ b. b)) e
Fresh r (Derived p on) e = ⊥
Fresh r (Move from to) e = ⊥
Fresh r (Copy from to) e = IsCopy r (branch r.tree from) e
Fresh r (Open p) e = ⊥
Fresh r (Close p) e = ⊥
Fresh r (Describe p text) e = ⊥
Fresh r (Forget p) e = ⊥
Fresh r (Mark p mark_type attributes) e = ⊥
Fresh r (Attr p id name value) e = ⊥
Fresh r (Unmark p id) e = ⊥
Fresh r (ClearMarks p mark_type depth) e = ⊥
Fresh r (Partner name) e = ⊥
Fresh r (Sync p name bytes) e = ⊥
Fresh r (Flush p name depth) e = ⊥
Fresh r (Read p want) e = ⊥

keeps : (r : Resources) (op : Op) → IsConsistent r → refusal r op ≡ None → Keeps (Fresh r op) r (effect r op).0
keeps r (CreateFile p bytes) x h = file_keeps r p bytes x h
keeps r (CreateFolder p) x h = folder_keeps r p x h
keeps r (CreateProject p) x h = project_keeps r p x h
keeps r (Delete p) x h = delete_keeps r p x h
keeps r (Write p bytes) x h = write_keeps r p bytes x h
keeps r (Touch p) x h = touch_keeps r p x h
keeps r (Derived p on) x h = derive_keeps r p on x h
keeps r (Move from to) x h = move_keeps r from to x h
keeps r (Copy from to) x h = copy_keeps r from to x h
keeps r (Open p) x h = open_keeps r p x h
keeps r (Close p) x h = close_keeps r p x h
keeps r (Describe p text) x h = describe_keeps r p text x h
keeps r (Forget p) x h = read_keeps r x
keeps r (Mark p mark_type attributes) x h = mark_keeps r p mark_type attributes x
keeps r (Attr p id name value) x h = attribute_keeps r p id name value x
keeps r (Unmark p id) x h = unmark_keeps r p id x
keeps r (ClearMarks p mark_type depth) x h = clear_keeps r p mark_type depth x
keeps r (Partner name) x h = register_keeps r name x
keeps r (Sync p name bytes) x h = sync_keeps r p name bytes x h
keeps r (Flush p name depth) x h = flush_keeps r p name depth x
keeps r (Read p want) x h = read_keeps r x

-- what is sound stays so
pub effect_sound : (r : Resources) (op : Op) → IsConsistent r → refusal r op ≡ None → IsConsistent (effect r op).0
effect_sound r op x h = kept_sound (Fresh r op) r (effect r op).0 x (keeps r op x h)

-- a remembered tree that agrees by its stamps with what stands there agrees with what stands there after
pub effect_known : (r : Resources) (op : Op) (t : Tree) → IsConsistent r → refusal r op ≡ None → IsKnown r t → IsKnown (effect r op).0 t
effect_known r op t x h k = kept_known (Fresh r op) r (effect r op).0 t (keeps r op x h) k
