-- An operation has the rule of a path, or changes markers alone.
use Rattle.std.proofs.Common.{◌≡◌, ◌⊎◌, ℕ, Bool, true, false, cond, List, [], ◌∷◌, ◌++◌, refl, ap, ◌∙◌, inl, inr}
use Rattle.std.specs.Prelude.{Option, Some, None}
use Rattle.std.specs.Option.{option_map}
use Rattle.std.specs.FinMap.{get}
use Rattle.res_path.specs.Paths.{Names}
use Rattle.sched_rules.specs.AtomLaws.{atoms_lawful, atom_cmp_total, atom_cmp_exact}
use Rattle.sched_rules.specs.Atoms.{atom_contains}
use Rattle.sched_rules.specs.Rules.{rule_contains}
use Rattle.sched_rules.proofs.Combining.{combined_contains_left}
use Rattle.sched_rules.proofs.RuleLaws.{rule_contains_itself}
use Rattle.mark_set.specs.Markers.{Marks}
use Rattle.ws_elem.specs.declared.element.Element.{Element}
use Rattle.ws_elem.specs.Depths.{is_within}
use Rattle.ws_elem.specs.Trees.{Tree}
use Rattle.op_kind.specs.declared.op.Op.{Op}
use Rattle.op_kind.specs.declared.op.Op.TheVariants.{CreateFile, CreateFolder, CreateProject, Delete, Write, Touch, Derived, Move, Copy, Open, Close, Describe, Forget, Mark, Attr, Unmark, ClearMarks, Partner, Sync, Flush, Read}
use Rattle.op_kind.specs.Effects.{change_marks, effect, register}
use Rattle.op_kind.specs.Marking.{with_marks}
use Rattle.op_kind.specs.Marking.{unmarked as without_type}
use Rattle.op_kind.specs.Partners.{is_partner}
use Rattle.op_kind.specs.Resources.{Resources}
use Rattle.op_kind.proofs.ChangedWhere.{get-change_where}
use Rattle.op_kind.proofs.Looks.{is_at, get-change_at}
use Rattle.op_rule.specs.Rules.{at, operation_rule, up}
use Rattle.build_laws.specs.States.{IsAlikeAt, unmarked}
use Rattle.service_desk.specs.Desks.{unless_stopped}
use Rattle.service_desk.specs.declared.desk.UnderWay.{UnderWay}

-- nothing but markers changes, and the command under way goes on
pub record IsAside (op : Op) : Type 0 where
  pub alike : (r : Resources) (q : Names) → IsAlikeAt r.tree (effect r op).0.tree q
  pub goes_on : (under : Option UnderWay) → unless_stopped op under ≡ under

-- the operation's rule contains a path
abbrev pub HasPath : Op → Type 0
HasPath op = (p : Names) × (rule_contains atom_contains (operation_rule op) (at p) ≡ true)

-- ---- markers

-- where some elements have other markers
others_alike : (change : Marks → Marks) (b : Bool) (o : Option Element) → option_map unmarked (cond b (option_map (with_marks change) o) o) ≡ option_map unmarked o
others_alike change true None = refl
others_alike change true (Some e) = refl
others_alike change false o = refl

marks_alike : (t : Tree) (p : Names) (change : Marks → Marks) (q : Names) → IsAlikeAt t (change_marks t p change) q
marks_alike t p change q = ap (option_map unmarked) (get-change_at t p (with_marks change) q) ∙ others_alike change (is_at q p) (get t q)

cleared_alike : (mark_type : List ℕ) (b : Bool) (o : Option Element) → option_map unmarked (cond b (option_map (without_type mark_type) o) o) ≡ option_map unmarked o
cleared_alike mark_type true None = refl
cleared_alike mark_type true (Some e) = refl
cleared_alike mark_type false o = refl

-- ---- each operation

at_itself : (p : Names) → rule_contains atom_contains (at p) (at p) ≡ true
at_itself p = rule_contains_itself atoms_lawful (at p)

pub path_or_aside : (op : Op) → HasPath op ⊎ IsAside op
path_or_aside (CreateFile p bytes) = inl (up p, at_itself (up p))
path_or_aside (CreateFolder p) = inl (up p, at_itself (up p))
path_or_aside (CreateProject p) = inl (up p, at_itself (up p))
path_or_aside (Delete p) = inl (up p, at_itself (up p))
path_or_aside (Write p bytes) = inl (p, at_itself p)
path_or_aside (Touch p) = inl (p, at_itself p)
path_or_aside (Derived p on) = inl (p, at_itself p)
path_or_aside (Move from to) = inl (up from, combined_contains_left atoms_lawful atom_cmp_total atom_cmp_exact (at (up from)) (at (up to)) (tt, tt) (tt, tt))
path_or_aside (Copy from to) = inl (up to, at_itself (up to))
path_or_aside (Open p) = inl (p, at_itself p)
path_or_aside (Close p) = inl (p, at_itself p)
path_or_aside (Describe p text) = inl (p, at_itself p)
path_or_aside (Forget p) = inl (p, at_itself p)
path_or_aside (Sync p name bytes) = inl (p, at_itself p)
path_or_aside (Flush p name depth) = inl (p, at_itself p)
path_or_aside (Mark p mark_type attributes) = inr (record { alike = λ r q. marks_alike r.tree p _ q; goes_on = goes_on })
  where
    goes_on : (under : Option UnderWay) → unless_stopped (Mark p mark_type attributes) under ≡ under
    goes_on None = refl
    goes_on (Some u) = refl
path_or_aside (Attr p id name value) = inr (record { alike = λ r q. marks_alike r.tree p _ q; goes_on = goes_on })
  where
    goes_on : (under : Option UnderWay) → unless_stopped (Attr p id name value) under ≡ under
    goes_on None = refl
    goes_on (Some u) = refl
path_or_aside (Unmark p id) = inr (record { alike = λ r q. marks_alike r.tree p _ q; goes_on = goes_on })
  where
    goes_on : (under : Option UnderWay) → unless_stopped (Unmark p id) under ≡ under
    goes_on None = refl
    goes_on (Some u) = refl
path_or_aside (ClearMarks p mark_type depth) = inr (record { alike = alike; goes_on = goes_on })
  where
    alike : (r : Resources) (q : Names) → IsAlikeAt r.tree (effect r (ClearMarks p mark_type depth)).0.tree q
    alike r q = ap (option_map unmarked) (get-change_where r.tree (is_within depth p) (without_type mark_type) q) ∙ cleared_alike mark_type (is_within depth p q) (get r.tree q)

    goes_on : (under : Option UnderWay) → unless_stopped (ClearMarks p mark_type depth) under ≡ under
    goes_on None = refl
    goes_on (Some u) = refl
path_or_aside (Partner name) = inr (record { alike = alike; goes_on = goes_on })
  where
    alike : (r : Resources) (q : Names) → IsAlikeAt r.tree (register r name).tree q
    alike r q = by (is_partner r.partners name)
      where
        by : (b : Bool) → option_map unmarked (get (cond b r (record r { partners = r.partners ++ name ∷ [] })).tree q) ≡ option_map unmarked (get r.tree q)
        by true = refl
        by false = refl

    goes_on : (under : Option UnderWay) → unless_stopped (Partner name) under ≡ under
    goes_on None = refl
    goes_on (Some u) = refl
path_or_aside (Read p want) = inr (record { alike = λ r q. refl; goes_on = goes_on })
  where
    goes_on : (under : Option UnderWay) → unless_stopped (Read p want) under ≡ under
    goes_on None = refl
    goes_on (Some u) = refl
