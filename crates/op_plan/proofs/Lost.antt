-- Elements that lose markers or synchronisation bytes.
use Rattle.std.proofs.Common.{◌≡◌, ℕ, ◌==◌, nat_eq, Bool, true, false, cond, not, ◌&&◌, ◌||◌, List, [], ◌∷◌, ◌++◌, length, refl, sym, ap, ◌∙◌, arith}
use Rattle.std.specs.Prelude.{Option, Some, None, is_some, filter}
use Rattle.std.specs.List.{list_any}
use Rattle.std.specs.Ordering.{eq_by_cmp, nat_cmp}
use Rattle.std.specs.FinMap.{FinMap, get, remove, keys, retain_keys, get-retain_keys, contains_key-keys, same_map, nat_cmp-IsAntisymmetric}
use Rattle.std.proofs.lemmas.Bool.{eqb-true}
use Rattle.mark_set.proofs.Ids.{get_remove, same_gets, ties}
use Rattle.mark_set.specs.Markers.{Marks, has_type, ids_of_type}
use Rattle.mark_set.specs.declared.marker.Marker.{Marker}
use Rattle.res_path.specs.Paths.{Names}
use Rattle.res_path.specs.PathLaws.{path_cmp_total}
use Rattle.res_path.proofs.Prefixes.{path_cmp_exact}
use Rattle.ws_elem.specs.declared.depth.Depth.{Depth}
use Rattle.ws_elem.specs.declared.element.Element.{Element}
use Rattle.ws_elem.specs.Depths.{is_within}
use Rattle.ws_elem.specs.Trees.{Tree}
use Rattle.op_kind.specs.declared.answer.OpAnswer.TheVariants.{Count}
use Rattle.op_kind.specs.declared.op.Op.TheVariants.{ClearMarks, Flush}
use Rattle.op_plan.specs.declared.plan.Plan.{Plan}
use Rattle.op_plan.specs.Edits.{changed}
use Rattle.op_plan.specs.Inside.Lists.{put}
use Rattle.op_kind.specs.Effects.{effect}
use Rattle.op_kind.specs.Entries.{Entries}
use Rattle.op_kind.specs.Marking.{removed, unmarked, count_marks, unsynced, count_bytes, reached, change_all, change_within, count_all}
use Rattle.op_kind.specs.declared.side.Side.{Side}
use Rattle.op_kind.specs.Partners.{number_of}
use Rattle.op_kind.specs.Problems.{is_problem_from, without_problems_from}
use Rattle.op_plan.specs.Inside.Plans.{planned, unmark_at, unsync_at}
use Rattle.op_kind.specs.Resources.{resources}
use Rattle.op_plan.proofs.Effected.{changed_put}
use Rattle.op_kind.proofs.ChangedWhere.{get-lost, get-change_where}

-- ---- ids that go

gone : {X : Type 0} (b : Bool) (x : Option X) → (b ≡ true → x ≡ None) → cond b None x ≡ x
gone true x h = sym (h refl)
gone false x h = refl

-- what isn't there can't go
pub remove_absent : {X : Type 0} (m : FinMap nat_cmp X) (k : ℕ) → get m k ≡ None → remove m k ≡ m
remove_absent m k h = same_gets _ _ (λ q. get_remove m k q ∙ gone (nat_eq q k) (get m q) (λ same. ap (get m) (eqb-true q k same) ∙ h))

swap : (a b : Bool) (x y : Option Marker) → x ≡ cond b None y → cond a None x ≡ cond (b || a) None y
swap true true x y h = refl
swap true false x y h = refl
swap false true x y h = h
swap false false x y h = h

get-removed : (marks : Marks) (ids : List ℕ) (q : ℕ) → get (removed marks ids) q ≡ cond (list_any (nat_eq q) ids) None (get marks q)
get-removed marks [] q = refl
get-removed marks (id ∷ ids) q = get-removed (remove marks id) ids q ∙ swap (list_any (nat_eq q) ids) (nat_eq q id) _ (get marks q) (get_remove marks id q)

any_filter : (f : ℕ → Bool) (q : ℕ) (ids : List ℕ) → list_any (nat_eq q) (filter f ids) ≡ (f q && list_any (nat_eq q) ids)
any_filter f q [] = and_false (f q)
  where
    and_false : (b : Bool) → false ≡ (b && false)
    and_false true = refl
    and_false false = refl
any_filter f q (id ∷ ids) = by (f id) refl (nat_eq q id) refl (any_filter f q ids)
  where
    by : (b : Bool) → f id ≡ b → (e : Bool) → nat_eq q id ≡ e → list_any (nat_eq q) (filter f ids) ≡ (f q && list_any (nat_eq q) ids)
        → list_any (nat_eq q) (cond b (id ∷ filter f ids) (filter f ids)) ≡ (f q && (e || list_any (nat_eq q) ids))
    by true i true j h = ap (λ e. e || list_any (nat_eq q) (filter f ids)) j ∙ sym (ap (λ b. b && true) (ap f (eqb-true q id j) ∙ i))
    by true i false j h = ap (λ e. e || list_any (nat_eq q) (filter f ids)) j ∙ h
    by false i true j h =
        let at_q : f q ≡ false = ap f (eqb-true q id j) ∙ i in
        h ∙ ap (λ b. b && list_any (nat_eq q) ids) at_q ∙ sym (ap (λ b. b && true) at_q)
    by false i false j h = h

key_there : (marks : Marks) (q : ℕ) → list_any (nat_eq q) (keys marks) ≡ is_some (get marks q)
key_there marks q = same_tests (keys marks) ∙ sym (contains_key-keys marks q)
  where
    same_tests : (ids : List ℕ) → list_any (nat_eq q) ids ≡ list_any (eq_by_cmp nat_cmp q) ids
    same_tests [] = refl
    same_tests (id ∷ ids) = λ i. sym (ties q id) i || same_tests ids i

-- where the markers that pass a test went one by one
removed_where : (test : ℕ → Bool) (marks : Marks) → removed marks (filter test (keys marks)) ≡ retain_keys marks (λ id. not (test id))
removed_where test marks = same_gets _ _ (λ q.
    get-removed marks (filter test (keys marks)) q
    ∙ ap (λ b. cond b None (get marks q)) (any_filter test q (keys marks) ∙ ap (λ b. test q && b) (key_there marks q))
    ∙ by (test q) (get marks q)
    ∙ sym (get-retain_keys marks (λ id. not (test id)) q (λ id tied. ap (λ (k : ℕ). not (test k)) (sym (nat_cmp-IsAntisymmetric q id tied)))))
  where
    by : (b : Bool) (x : Option Marker) → cond (b && is_some x) None x ≡ cond (not b) x None
    by true None = refl
    by true (Some m) = refl
    by false x = refl

pub all_removed : (mark_type : List ℕ) (marks : Marks)
    → removed marks (ids_of_type mark_type marks) ≡ retain_keys marks (λ id. not (has_type mark_type (get marks id)))
unfolding ids_of_type
all_removed mark_type marks = removed_where (λ id. has_type mark_type (get marks id)) marks

-- where the problems of commands went one by one
pub problems_removed : (count : ℕ) (marks : Marks) → removed marks (filter (λ id. is_problem_from count (get marks id)) (keys marks)) ≡ without_problems_from count marks
problems_removed count marks = removed_where (λ id. is_problem_from count (get marks id)) marks

no_ids : (ids : List ℕ) → (length ids == 0) ≡ true → ids ≡ []
no_ids [] h = refl
no_ids (id ∷ ids) h = let none : length (id ∷ ids) ≡ 0 = eqb-true (length (id ∷ ids)) 0 h in absurd (omega arith)

-- an element without such markers loses nothing
marks_stay : (mark_type : List ℕ) (e : Element) → not (count_marks mark_type e == 0) ≡ false → unmarked mark_type e ≡ e
marks_stay mark_type e h =
    let stay : retain_keys e.attached.marks (λ id. not (has_type mark_type (get e.attached.marks id))) ≡ e.attached.marks =
    sym (all_removed mark_type e.attached.marks) ∙ ap (removed e.attached.marks) (no_ids (ids_of_type mark_type e.attached.marks) (is_zero (count_marks mark_type e == 0) h)) in
    λ i. record e { attached = record e.attached { marks = stay i } }
  where
    is_zero : (b : Bool) → not b ≡ false → b ≡ true
    is_zero true g = refl
    is_zero false g = cc

-- nor one without such bytes
bytes_stay : (number : ℕ) (e : Element) → not (count_bytes number e == 0) ≡ false → unsynced number e ≡ e
bytes_stay number e h = by (get e.attached.syncs number) refl h
  where
    by : (x : Option (List ℕ)) → get e.attached.syncs number ≡ x → not (cond (is_some x) 1 0 == 0) ≡ false → unsynced number e ≡ e
    by None is g = λ i. record e { attached = record e.attached { syncs = remove_absent e.attached.syncs number is i } }
    by (Some bytes) is g = cc

-- ---- elements one after another

-- none is left
pub none_left : (es : Entries) → length es ≡ 0 → es ≡ []
none_left [] h = refl
none_left (e ∷ es) h = absurd (omega arith)

-- one more element that loses something, or stays as it is
pub put_step : (count : Element → ℕ) (change : Element → Element) (p : Names) (e : Element) (es : Entries)
    → put (cond (count e == 0) [] ((p, change e) ∷ [])) ++ put (change_all change (filter (λ x. not (count x.1 == 0)) es))
    ≡ put (change_all change (filter (λ x. not (count x.1 == 0)) ((p, e) ∷ es)))
put_step count change p e es = by (count e == 0)
  where
    rest : Entries
    rest = filter (λ x. not (count x.1 == 0)) es

    by : (b : Bool) → put (cond b [] ((p, change e) ∷ [])) ++ put (change_all change rest) ≡ put (change_all change (cond (not b) ((p, e) ∷ rest) rest))
    by true = refl
    by false = refl

-- ---- in a tree

-- what has nothing to lose need not be put
lost_within : (t : Tree) (p : Names) (depth : Depth) (count : Element → ℕ) (change : Element → Element) → ((e : Element) → not (count e == 0) ≡ false → change e ≡ e)
    → changed t (put (change_all change (filter (λ e. not (count e.1 == 0)) (reached t p depth)))) ≡ change_within t p depth change
lost_within t p depth count change stays =
    changed_put t (change_all change (filter (λ e. not (count e.1 == 0)) (reached t p depth)))
    ∙ same_map path_cmp_total path_cmp_exact _ _ (λ q.
    get-lost t (is_within depth p) (λ e. not (count e == 0)) change stays q ∙ sym (get-change_where t (is_within depth p) change q))

marks_lost : (t : Tree) (p : Names) (depth : Depth) (mark_type : List ℕ)
    → changed t (put (change_all (unmarked mark_type) (filter (λ e. not (count_marks mark_type e.1 == 0)) (reached t p depth)))) ≡ change_within t p depth (unmarked mark_type)
marks_lost t p depth mark_type = lost_within t p depth (count_marks mark_type) (unmarked mark_type) (marks_stay mark_type)

bytes_lost : (t : Tree) (p : Names) (depth : Depth) (number : ℕ)
    → changed t (put (change_all (unsynced number) (filter (λ e. not (count_bytes number e.1 == 0)) (reached t p depth)))) ≡ change_within t p depth (unsynced number)
bytes_lost t p depth number = lost_within t p depth (count_bytes number) (unsynced number) (bytes_stay number)

-- ---- plans

-- what is planned for markers that go
pub clear_planned : (t : Tree) (side : Side) (p : Names) (mark_type : List ℕ) (depth : Depth) (plan : Plan) → plan ≡ unmark_at side mark_type (reached t p depth)
    → planned (resources t side) plan ≡ effect (resources t side) (ClearMarks p mark_type depth)
clear_planned t side p mark_type depth plan made = ap (planned (resources t side)) made
    ∙ (λ i. (record (resources t side) { tree = marks_lost t p depth mark_type i }, Count (count_all (count_marks mark_type) (reached t p depth))))

-- what is planned for bytes that go
pub flush_planned : (t : Tree) (side : Side) (p : Names) (name : List ℕ) (depth : Depth) (number : ℕ) (plan : Plan) → number ≡ number_of side.partners name
    → plan ≡ unsync_at side number (reached t p depth) → planned (resources t side) plan ≡ effect (resources t side) (Flush p name depth)
flush_planned t side p name depth number plan is made = ap (planned (resources t side)) made
    ∙ (λ i. (record (resources t side) { tree = bytes_lost t p depth number i }, Count (count_all (count_bytes number) (reached t p depth))))
    ∙ (λ i. (record (resources t side) { tree = change_within t p depth (unsynced (is i)) }, Count (count_all (count_bytes (is i)) (reached t p depth))))
