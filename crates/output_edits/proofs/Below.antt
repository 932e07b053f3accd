-- Whether something lies below a path.
use Rattle.std.proofs.Common.{◌≡◌, Bool, true, false, cond, ◌||◌, [], ◌∷◌, map, refl, sym, ap, ◌∙◌}
use Rattle.std.specs.Prelude.{Some, None, filter}
use Rattle.std.specs.List.{list_any}
use Rattle.std.specs.FinMap.{keys, entries}
use Rattle.res_path.specs.Paths.{Names, is_prefix}
use Rattle.ws_elem.specs.Trees.{Tree, entry_after}
use Rattle.ws_elem.specs.declared.element.Element.{Element}
use Rattle.op_kind.specs.Entries.{Entries}
use Rattle.op_kind.specs.Members.{is_below, members}
use Rattle.op_plan.proofs.Walked.{members_step, members_end, members_none, members_start, prefix_itself}

abbrev is_some_left : Entries → Bool
is_some_left [] = false
is_some_left (e ∷ es) = true

any_left : (test : Names → Bool) (es : Entries) → list_any test (map (λ e. e.0) es) ≡ is_some_left (filter (λ e. test e.0) es)
any_left test [] = refl
any_left test (e ∷ es) = by (test e.0) (any_left test es)
  where
    by : (b : Bool) → list_any test (map (λ e. e.0) es) ≡ is_some_left (filter (λ e. test e.0) es)
        → (b || list_any test (map (λ e. e.0) es)) ≡ is_some_left (cond b (e ∷ filter (λ e. test e.0) es) (filter (λ e. test e.0) es))
    by true h = refl
    by false h = h

any_member : (t : Tree) (p : Names) → list_any (is_below p) (keys t) ≡ is_some_left (members t p)
any_member t p = any_left (is_below p) (entries t)

-- what comes next tells whether something lies below
pub next_tells : (t : Tree) (p : Names) (x : Names × Element) → entry_after t p ≡ Some x → is_prefix p x.0 ≡ list_any (is_below p) (keys t)
next_tells t p x next = by (is_prefix p x.0) refl
  where
    by : (b : Bool) → is_prefix p x.0 ≡ b → is_prefix p x.0 ≡ list_any (is_below p) (keys t)
    by true e = e ∙ sym (any_member t p ∙ ap is_some_left (sym (members_start t p) ∙ members_step t p p x next (prefix_itself p) e))
    by false e = e ∙ sym (any_member t p ∙ ap is_some_left (sym (members_start t p) ∙ members_end t p p x next (prefix_itself p) e))

-- where nothing comes next, nothing lies below
pub none_tells : (t : Tree) (p : Names) → entry_after t p ≡ None → false ≡ list_any (is_below p) (keys t)
none_tells t p next = sym (any_member t p ∙ ap is_some_left (sym (members_start t p) ∙ members_none t p p next))
