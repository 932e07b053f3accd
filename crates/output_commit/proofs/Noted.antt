-- Resources stay sound where a project is told the problems of a command.
use Rattle.std.proofs.Common.{◌≡◌, ℕ, ◌+◌, Bool, true, false, cond, List, [], ◌∷◌, length, subst, arith}
use Rattle.std.specs.Prelude.{Option, Some, None}
use Rattle.std.specs.Option.{option_map}
use Rattle.std.specs.FinMap.{get, insert, remove}
use Rattle.mark_set.specs.Markers.{Marks, new_marker}
use Rattle.res_path.specs.Paths.{Names}
use Rattle.ws_elem.specs.Trees.{Tree}
use Rattle.ws_elem.specs.declared.element.Element.{Element}
use Rattle.op_kind.specs.Effects.{put_some}
use Rattle.op_kind.specs.Marking.{with_marks, with_marker, removed}
use Rattle.op_kind.specs.Places.{project_of}
use Rattle.op_kind.specs.Resources.{Resources}
use Rattle.op_kind.specs.Sound.{IsConsistent}
use Rattle.op_kind.proofs.Looks.{is_at, get-change_at, changed_at}
use Rattle.op_sound.proofs.SoundNotes.{note_keeps, put_below, taken_below, more_below}
use Rattle.op_sound.proofs.SoundStamps.{Below}
use Rattle.builder_api.specs.declared.edits.Problem.{Problem}
use Rattle.output_commit.specs.Told.{problem_type, attributes_of, problem_ids, are_told, with_problems, retold, told_at, ids_drawn, with_told}
use Rattle.output_commit.proofs.Pruned.{StaysSound, keeps_sound, sound_same}

removed_below : (n : ℕ) (marks : Marks) (ids : List ℕ) → Below n marks → Below n (removed marks ids)
removed_below n marks [] h = h
removed_below n marks (id ∷ ids) h = removed_below n (remove marks id) ids (taken_below n marks id h)

problems_below : (index id : ℕ) (ps : List Problem) (marks : Marks) → Below id marks → Below (id + length ps) (with_problems index id ps marks)
problems_below index id [] marks h = more_below id (id + 0) marks (omega arith) h
problems_below index id (p ∷ ps) marks h =
    more_below (id + 1 + length ps) (id + length (p ∷ ps)) (with_problems index (id + 1) ps (with_marker marks id problem_type (attributes_of index p))) (omega arith)
    (problems_below index (id + 1) ps (with_marker marks id problem_type (attributes_of index p))
    (put_below (id + 1) marks id (new_marker id problem_type (attributes_of index p)) (omega arith) (more_below id (id + 1) marks (omega arith) h)))

-- the problems take the place of those that the project had
retold_sound : (r : Resources) (p : Names) (index : ℕ) (ps : List Problem) (e : Element) → IsConsistent r → get r.tree p ≡ Some e
    → StaysSound r (record r { tree = insert r.tree p (with_marks (retold index r.next_marker ps) e); next_marker = r.next_marker + length ps })
retold_sound r p index ps e x there = keeps_sound (λ _. ⊥) r (record r { tree = insert r.tree p (with_marks change e); next_marker = r.next_marker + length ps }) x
    (note_keeps r (insert r.tree p (with_marks change e)) (r.next_marker + length ps) (λ q. is_at q p) change (λ syncs. syncs) x (omega arith)
    (subst (λ y. (q : Names) → get (put_some r.tree p (option_map (with_marks change) y)) q ≡ changed_at (get r.tree) p (with_marks change) q) there (get-change_at r.tree p (with_marks change)))
    (λ marks all. problems_below index r.next_marker ps (removed marks (problem_ids index marks)) (removed_below r.next_marker marks (problem_ids index marks) all))
    (λ _ all. all))
  where
    change : Marks → Marks
    change = retold index r.next_marker ps

-- the project is told, which is as it was in t
pub tell_sound : (t : Tree) (r : Resources) (o : Names) (index : ℕ) (ps : List Problem) → IsConsistent r → get r.tree (project_of o) ≡ get t (project_of o) → StaysSound r (with_told t r o index ps)
tell_sound t r o index ps x same = by (get t (project_of o)) same
  where
    after : Option Element → Resources
    after y = record r { tree = put_some r.tree (project_of o) (told_at index r.next_marker ps y); next_marker = r.next_marker + ids_drawn index ps y }

    none : r.next_marker ≡ r.next_marker + 0
    none = omega arith

    told : (e : Element) → get r.tree (project_of o) ≡ Some e → (b : Bool)
        → StaysSound r (record r { tree = put_some r.tree (project_of o) (cond b None (Some (with_marks (retold index r.next_marker ps) e))); next_marker = r.next_marker + cond b 0 (length ps) })
    told e there true = sound_same r _ x (λ i. record r { next_marker = none i })
    told e there false = retold_sound r (project_of o) index ps e x there

    by : (y : Option Element) → get r.tree (project_of o) ≡ y → StaysSound r (after y)
    by None there = sound_same r (after None) x (λ i. record r { next_marker = none i })
    by (Some e) there = told e there (are_told index ps e.attached.marks)
