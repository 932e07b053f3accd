-- How many elements there are after a change.
use Rattle.std.proofs.Common.{◌≡◌, ℕ, ◌+◌, ◌-◌, Bool, true, false, cond, not, ◌&&◌, ◌||◌, List, [], ◌∷◌, ◌++◌, map, length, T, refl, sym, ap, ◌∙◌, subst, arith}
use Rattle.std.specs.Prelude.{Option, Some, None, is_some, filter}
use Rattle.std.specs.List.{list_any, AllByRecursion}
use Rattle.std.specs.Ordering.{is_lt}
use Rattle.std.specs.FinMap.{get, insert, remove, entries, entries_sorted, keys, contains_key, len, get-remove, len-insert, len-remove, contains_key-keys}
use Rattle.std.specs.FinMap.Entries.{below_all, is_sorted-where_key}
use Rattle.res_path.specs.Paths.{Names, path_cmp, is_prefix}
use Rattle.res_path.specs.PathLaws.{path_cmp_total}
use Rattle.res_path.proofs.Prefixes.{path_itself}
use Rattle.ws_elem.specs.declared.element.Element.{Element}
use Rattle.ws_elem.specs.Kinds.{is_file}
use Rattle.ws_elem.specs.Trees.{Tree}
use Rattle.op_kind.specs.Entries.{Entries}
use Rattle.op_kind.specs.Effects.{put_some}
use Rattle.op_kind.specs.Members.{members, is_below, found_at, put_all}
use Rattle.op_kind.specs.Places.{project_of}
use Rattle.op_kind.proofs.Looks.{is_at, at_itself, at_other, get-put, sorted, sorted-members}
use Rattle.op_kind.proofs.PathsBelow.{project_prefix}
use Rattle.op_plan.specs.Edits.{changed}
use Rattle.op_plan.specs.Inside.Lists.{taken}
use Rattle.builder_api.specs.declared.edits.Problem.{Problem}
use Rattle.output_commit.specs.Placed.{fresh, made, nodes_of, stamps_of, placed, cleared, total}
use Rattle.output_commit.specs.Told.{told_at}
use Rattle.output_commit.specs.Touched.{unwanted}
use Rattle.output_commit.specs.Inside.Plans.{news_of}
use Rattle.output_commit.proofs.Gone.{get-cleared, cleared_is}

-- ---- lists of elements

first : (a b : Bool) → T (a && b) → T a
first true b h = tt
first false b h = h

second : (a b : Bool) → T (a && b) → T b
second true b h = h
second false b h = absurd h

pub later_other : (p q : Names) → T (is_lt (path_cmp p q)) → is_at q p ≡ false
later_other p q h = at_other q p (λ same. let less : T (is_lt (path_cmp p p)) = subst (λ x. T (is_lt (path_cmp p x))) same h in subst (λ o. T (is_lt o)) (path_itself p) less)

-- a fact of what stands elsewhere than at p
module _ (P Q : Names → Type 0) (p : Names) (kept : (q : Names) → is_at q p ≡ false → P q → Q q) where
  pub still_all : (es : Entries) → T (below_all path_cmp p es) → AllByRecursion (λ e. P e.0) es → AllByRecursion (λ e. Q e.0) es
  still_all [] h all = tt
  still_all (e ∷ es) h all = (kept e.0 (later_other p e.0 (first _ _ h)) all.0, still_all es (second _ _ h) all.1)

pub all_filter : (P : Names × Element → Type 0) (test : Names × Element → Bool) (es : Entries) → AllByRecursion P es → AllByRecursion P (filter test es)
all_filter P test [] all = tt
all_filter P test (e ∷ es) all = by (test e) (all_filter P test es all.1)
  where
    by : (b : Bool) → AllByRecursion P (filter test es) → AllByRecursion P (cond b (e ∷ filter test es) (filter test es))
    by true rest = (all.0, rest)
    by false rest = rest

all_more : (ps : List Names) (p : Names) (es : Entries) → AllByRecursion (λ e. list_any (is_at e.0) ps ≡ true) es → AllByRecursion (λ e. list_any (is_at e.0) (p ∷ ps) ≡ true) es
all_more ps p [] all = tt
all_more ps p (e ∷ es) all = (ap (λ b. is_at e.0 p || b) all.0 ∙ or_true (is_at e.0 p), all_more ps p es all.1)
  where
    or_true : (b : Bool) → (b || true) ≡ true
    or_true true = refl
    or_true false = refl

in_itself : (es : Entries) → AllByRecursion (λ e. list_any (is_at e.0) (map (λ x. x.0) es) ≡ true) es
in_itself [] = tt
in_itself (e ∷ es) = (ap (λ b. b || list_any (is_at e.0) (map (λ x. x.0) es)) (at_itself e.0), all_more (map (λ x. x.0) es) e.0 es (in_itself es))

all_there : (t : Tree) (es : Entries) → AllByRecursion (λ e. list_any (is_at e.0) (keys t) ≡ true) es → AllByRecursion (λ e. contains_key t e.0 ≡ true) es
all_there t [] all = tt
all_there t (e ∷ es) all = (contains_key-keys t e.0 ∙ all.0, all_there t es all.1)

-- each entry of a tree is there
pub entries_there : (t : Tree) → AllByRecursion (λ e. contains_key t e.0 ≡ true) (entries t)
entries_there t = all_there t (entries t) (in_itself (entries t))

-- ---- what goes

still_there : (t : Tree) (p q : Names) → is_at q p ≡ false → contains_key t q ≡ true → contains_key (remove t p) q ≡ true
still_there t p q other h = ap is_some (get-remove path_cmp_total t p q ∙ ap (λ b. cond b None (get t q)) other) ∙ h

len_less : (t : Tree) (p : Names) → contains_key t p ≡ true → len (remove t p) ≡ len t - 1
len_less t p h = len-remove path_cmp_total t p ∙ ap (λ b. cond b (len t - 1) (len t)) h

len_taken : (t : Tree) (es : Entries) → T (sorted es) → AllByRecursion (λ e. contains_key t e.0 ≡ true) es → len (changed t (taken es)) ≡ len t - length es
len_taken t [] s all = omega arith
len_taken t (e ∷ es) s all =
    let rest = len_taken (remove t e.0) es (second _ _ s)
    (still_all (λ q. contains_key t q ≡ true) (λ q. contains_key (remove t e.0) q ≡ true) e.0 (still_there t e.0) es (first _ _ s) all.1) in
    let less = len_less t e.0 all.0 in
    omega arith

pub len_cleared : (t : Tree) (o : Names) (w : Tree) → len (cleared t o w) ≡ len t - length (unwanted w (members t o))
len_cleared t o w = ap len (sym (cleared_is t o w)) ∙ len_taken t (unwanted w (members t o))
    (is_sorted-where_key path_cmp (λ q. not (contains_key w q)) (members t o) (sorted-members t o))
    (all_filter (λ e. contains_key t e.0 ≡ true) (λ e. not (contains_key w e.0)) (members t o) (all_filter (λ e. contains_key t e.0 ≡ true) (λ e. is_below o e.0) (entries t) (entries_there t)))

-- ---- what is put

pub put_first : (u : Tree) (p : Names) (x : Option Element) (es : Entries) → put_all u (found_at p x ++ es) ≡ put_all (put_some u p x) es
put_first u p None es = refl
put_first u p (Some e) es = refl

len_put : (u : Tree) (p : Names) (w : Element) (x f : Option Element) → contains_key u p ≡ is_some x → (f ≡ None → is_some x ≡ true) → len (put_some u p f) ≡ len u + news_of w x
len_put u p w x None same served = let none : news_of w x ≡ 0 = ap (λ b. cond b 0 1) (served refl) in omega arith
len_put u p w x (Some e) same served = len-insert path_cmp_total u p e ∙ ap (λ b. cond b (len u) (len u + 1)) same ∙ by (is_some x)
  where
    by : (b : Bool) → cond b (len u) (len u + 1) ≡ len u + cond b 0 1
    by true = omega arith
    by false = refl

-- where nothing is put, something is there
served : (n s : ℕ) (e : Element) (x : Option Element) → fresh n s e x ≡ None → is_some x ≡ true
served n s e (Some f) h = refl
served n s e None h = absurd (never (is_file e.kind) (made n s e) h)
  where
    never : (b : Bool) (x : Element) → cond (cond b false false) None (cond (b && false) None (Some x)) ≡ None → ⊥
    never true x h = cc
    never false x h = cc

other_put : (t u : Tree) (p : Names) (f : Option Element) (q : Names) → is_at q p ≡ false → contains_key u q ≡ contains_key t q → contains_key (put_some u p f) q ≡ contains_key t q
other_put t u p None q other h = h
other_put t u p (Some e) q other h = ap is_some (get-put u p e q ∙ ap (λ b. cond b (Some e) (get u q)) other) ∙ h

pub len_placed : (t u : Tree) (n s : ℕ) (es : Entries) → T (sorted es) → AllByRecursion (λ e. contains_key u e.0 ≡ contains_key t e.0) es
    → len (put_all u (placed t n s es)) ≡ len u + total news_of t es
len_placed t u n s [] h all = omega arith
len_placed t u n s (e ∷ es) h all =
    let x = get t e.0 in
    let f = fresh n s e.1 x in
    let rest = placed t (n + nodes_of e.1 x) (s + stamps_of e.1 x) es in
    let now = put_some u e.0 f in
    let later : len (put_all now rest) ≡ len now + total news_of t es = len_placed t now (n + nodes_of e.1 x) (s + stamps_of e.1 x) es (second _ _ h)
    (still_all (λ q. contains_key u q ≡ contains_key t q) (λ q. contains_key now q ≡ contains_key t q) e.0 (other_put t u e.0 f) es (first _ _ h) all.1) in
    let one : len now ≡ len u + news_of e.1 x = len_put u e.0 e.1 x f all.0 (served n s e.1 x) in
    ap len (put_first u e.0 f rest) ∙ later ∙ ap (λ k. k + total news_of t es) one ∙ sum (len u) (news_of e.1 x) (total news_of t es)
  where
    sum : (a b c : ℕ) → (a + b) + c ≡ a + (b + c)
    sum a b c = omega arith

-- ---- the project

still_put : (u : Tree) (es : Entries) (q : Names) → contains_key u q ≡ true → contains_key (put_all u es) q ≡ true
still_put u [] q h = h
still_put u (e ∷ es) q h = still_put (insert u e.0 e.1) es q (ap is_some (get-put u e.0 e.1 q) ∙ by (is_at q e.0) (get u q) h)
  where
    by : (b : Bool) (x : Option Element) → is_some x ≡ true → is_some (cond b (Some e.1) x) ≡ true
    by true x h = refl
    by false x h = h

pub not_below : (o : Names) → is_below o (project_of o) ≡ false
not_below o = ap (λ b. is_prefix o (project_of o) && not b) (project_prefix o) ∙ and_false (is_prefix o (project_of o))
  where
    and_false : (b : Bool) → (b && false) ≡ false
    and_false true = refl
    and_false false = refl

pub project_stays : (t : Tree) (o : Names) (w : Tree) → get (cleared t o w) (project_of o) ≡ get t (project_of o)
project_stays t o w = get-cleared t o w (project_of o) ∙ ap (λ b. cond (not (b && not (contains_key w (project_of o)))) (get t (project_of o)) None) (not_below o)

len_again : (u : Tree) (p : Names) (x f : Option Element) → (is_some x ≡ true → contains_key u p ≡ true) → (is_some f ≡ true → is_some x ≡ true) → len (put_some u p f) ≡ len u
len_again u p x None there told = refl
len_again u p x (Some e) there told = len-insert path_cmp_total u p e ∙ ap (λ b. cond b (len u) (len u + 1)) (there (told refl))

told_there : (index id : ℕ) (ps : List Problem) (x : Option Element) → is_some (told_at index id ps x) ≡ true → is_some x ≡ true
told_there index id ps None h = h
told_there index id ps (Some e) h = refl

-- ---- all of it

wanted_there : (t : Tree) (o : Names) (w : Tree) (es : Entries) → AllByRecursion (λ e. contains_key w e.0 ≡ true) es → AllByRecursion (λ e. contains_key (cleared t o w) e.0 ≡ contains_key t e.0) es
wanted_there t o w [] all = tt
wanted_there t o w (e ∷ es) all = (
  ap is_some (get-cleared t o w e.0 ∙ ap (λ b. cond (not (is_below o e.0 && not b)) (get t e.0) None) all.0 ∙ by (is_below o e.0) (get t e.0)),
  wanted_there t o w es all.1,
)
  where
    by : (b : Bool) (x : Option Element) → cond (not (b && false)) x None ≡ x
    by true x = refl
    by false x = refl

-- how many elements there are where what is wanted stands and the problems are told
pub len_after : (t : Tree) (o : Names) (w : Tree) (n s index id : ℕ) (ps : List Problem)
    → len (put_some (put_all (cleared t o w) (placed t n s (entries w))) (project_of o) (told_at index id ps (get t (project_of o)))) ≡ len t - length (unwanted w (members t o)) + total news_of t (entries w)
len_after t o w n s index id ps =
    let u = put_all (cleared t o w) (placed t n s (entries w)) in
    len_again u (project_of o) (get t (project_of o)) (told_at index id ps (get t (project_of o)))
    (λ h. still_put (cleared t o w) (placed t n s (entries w)) (project_of o) (ap is_some (project_stays t o w) ∙ h))
    (told_there index id ps (get t (project_of o)))
    ∙ len_placed t (cleared t o w) n s (entries w) (entries_sorted w) (wanted_there t o w (entries w) (entries_there w))
    ∙ ap (λ k. k + total news_of t (entries w)) (len_cleared t o w)
