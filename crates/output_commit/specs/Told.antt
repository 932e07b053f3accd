-- The problem markers of a command, on its project.
use Rattle.std.specs.Prelude.{ℕ, pos, ◌+◌, Bool, true, false, ◌&&◌, if◌then◌else◌, List, [], ◌∷◌, filter, length, codes, Option, Some, None}
use Rattle.std.specs.Ordering.{int_eq}
use Rattle.std.specs.FinMap.{get, keys}
use Rattle.mark_set.specs.declared.marker.Marker.{Marker}
use Rattle.mark_set.specs.declared.value.RawValue.{RawValue}
use Rattle.mark_set.specs.declared.value.RawValue.TheVariants.{Int as RawInt, Text as RawText}
use Rattle.mark_set.specs.declared.value.Value.{Value}
use Rattle.mark_set.specs.declared.value.Value.TheVariants.{Int, Bool as Truth, Text}
use Rattle.mark_set.specs.Markers.{Marks, has_type, new_marker, same_marker}
use Rattle.res_path.specs.Paths.{Names, path_text}
use Rattle.ws_elem.specs.declared.element.Element.{Element}
use Rattle.ws_elem.specs.Trees.{Tree}
use Rattle.op_kind.specs.Effects.{put_some}
use Rattle.op_kind.specs.Marking.{with_marks, with_marker, removed}
use Rattle.op_kind.specs.Places.{project_of}
use Rattle.op_kind.specs.Resources.{Resources}
use Rattle.builder_api.specs.declared.edits.Problem.{Problem}

abbrev pub problem_type : List ℕ
problem_type = codes "org.eclipse.core.resources.problemmarker"

-- the attributes of the marker of a problem of the command with this index
abbrev pub attributes_of : ℕ → Problem → List (List ℕ × RawValue)
attributes_of index p =
    (codes "command", RawInt (pos index))
    ∷ (codes "lineNumber", RawInt p.line)
    ∷ (codes "location", RawText (path_text p.location))
    ∷ (codes "message", RawText p.message)
    ∷ (codes "severity", RawInt p.severity)
    ∷ []

-- this integer; neither a truth value nor a text is
abbrev pub is_number : ℕ → Option Value → Bool
is_number n None = false
is_number n (Some (Int k)) = int_eq k (pos n)
is_number n (Some (Truth b)) = false
is_number n (Some (Text text)) = false

-- a problem of the command with this index
abbrev pub is_problem_of : ℕ → Option Marker → Bool
is_problem_of index None = false
is_problem_of index (Some marker) = has_type problem_type (Some marker) && is_number index (get marker.attrs (codes "command"))

-- the ids of its problems, in order
abbrev pub problem_ids : ℕ → Marks → List ℕ
problem_ids index marks = filter (λ id. is_problem_of index (get marks id)) (keys marks)

-- the marker is that of the problem
abbrev pub tells : ℕ → ℕ → Problem → Option Marker → Bool
tells index id p None = false
tells index id p (Some marker) = same_marker marker (new_marker id problem_type (attributes_of index p))

-- the markers of these ids are those of the problems, one by one
abbrev pub tell_all : ℕ → Marks → List ℕ → List Problem → Bool
tell_all index marks [] [] = true
tell_all index marks [] (p ∷ ps) = false
tell_all index marks (id ∷ ids) [] = false
tell_all index marks (id ∷ ids) (p ∷ ps) = tells index id p (get marks id) && tell_all index marks ids ps

-- the command's problems are these already
abbrev pub are_told : ℕ → List Problem → Marks → Bool
are_told index ps marks = tell_all index marks (problem_ids index marks) ps

-- a marker for each problem, with the ids from this one on
abbrev pub with_problems : ℕ → ℕ → List Problem → Marks → Marks
with_problems index id [] marks = marks
with_problems index id (p ∷ ps) marks = with_problems index (id + 1) ps (with_marker marks id problem_type (attributes_of index p))

-- the markers with these problems of the command in the place of those that were there
abbrev pub retold : ℕ → ℕ → List Problem → Marks → Marks
retold index id ps marks = with_problems index id ps (removed marks (problem_ids index marks))

-- what is to be put on the project: nothing where there is none, and where its problems of the command are these already
abbrev pub told_at : ℕ → ℕ → List Problem → Option Element → Option Element
told_at index id ps None = None
told_at index id ps (Some e) = if are_told index ps e.attached.marks then None else Some (with_marks (retold index id ps) e)

-- how many ids are drawn for that
abbrev pub ids_drawn : ℕ → List Problem → Option Element → ℕ
ids_drawn index ps None = 0
ids_drawn index ps (Some e) = if are_told index ps e.attached.marks then 0 else length ps

-- the problems of the command with this index, of the project in which o lies, are these; the project is as it was in t
abbrev pub with_told : Tree → Resources → Names → ℕ → List Problem → Resources
with_told t r o index ps = let project = get t (project_of o) in record r {
  tree = put_some r.tree (project_of o) (told_at index r.next_marker ps project);
  next_marker = r.next_marker + ids_drawn index ps project;
}
