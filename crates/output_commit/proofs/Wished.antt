-- What is wanted below an output, where no file lies above another.
use Rattle.std.proofs.Common.{◌≡◌, ◌≢◌, ℕ, zero, suc, ◌-◌, ◌<◌, ◌≤◌, Bool, true, false, cond, not, ◌&&◌, List, [], ◌∷◌, ◌++◌, map, length, T, refl, sym, ap, ◌∙◌, arith}
use Rattle.std.specs.Prelude.{Option, Some, None, IfSome, is_some}
use Rattle.std.specs.List.{AllByRecursion, flat_map}
use Rattle.std.specs.Option.{option_or}
use Rattle.std.specs.FinMap.{get, empty, entries, entries_sorted, get-entries, get-empty}
use Rattle.std.specs.FinMap.Entries.{below_all}
use Rattle.res_path.specs.Paths.{Names, path_cmp, parent, is_prefix}
use Rattle.ws_elem.specs.declared.element.Element.{Element}
use Rattle.ws_elem.specs.Elements.{file_bytes}
use Rattle.ws_elem.specs.Trees.{Tree}
use Rattle.ws_elem.proofs.Cuts.{same_at}
use Rattle.op_kind.specs.Entries.{Entries}
use Rattle.op_kind.specs.Effects.{new_folder}
use Rattle.op_kind.specs.Members.{is_below}
use Rattle.op_kind.proofs.Looks.{is_at, at_itself, at_same, get-put_all, last_at, find_at, sorted}
use Rattle.op_kind.proofs.PathsBelow.{never, not_true, prefix_itself, prefix_parent, prefix_length, parent_shorter}
use Rattle.builder_api.proofs.Places.{cancel, itself}
use Rattle.output_edits.specs.Wanted.{above, standing, wanted}
use Rattle.output_commit.proofs.Counting.{later_other}

-- ---- lists of elements

first : (a b : Bool) → T (a && b) → T a
first true b h = tt
first false b h = h

second : (a b : Bool) → T (a && b) → T b
second true b h = h
second false b h = absurd h

pub last_append : (q : Names) (es fs : Entries) → last_at q (es ++ fs) ≡ option_or (last_at q fs) (last_at q es)
last_append q [] fs = or_none (last_at q fs)
  where
    or_none : (x : Option Element) → x ≡ option_or x None
    or_none None = refl
    or_none (Some e) = refl
last_append q (e ∷ es) fs = ap (λ x. option_or x (cond (is_at q e.0) (Some e.1) None)) (last_append q es fs) ∙ assoc (last_at q fs) (last_at q es)
  where
    assoc : (x y : Option Element) → option_or (option_or x y) (cond (is_at q e.0) (Some e.1) None) ≡ option_or x (option_or y (cond (is_at q e.0) (Some e.1) None))
    assoc None y = refl
    assoc (Some f) y = refl

-- what holds of each element at q holds of the last one there
pub last_all : (P : Element → Type 0) (q : Names) (es : Entries) → AllByRecursion (λ x. is_at q x.0 ≡ true → P x.1) es → IfSome (last_at q es) P
last_all P q [] all = tt
last_all P q (e ∷ es) all = by (last_at q es) (last_all P q es all.1) (is_at q e.0) refl
  where
    by : (x : Option Element) → IfSome x P → (b : Bool) → is_at q e.0 ≡ b → IfSome (option_or x (cond b (Some e.1) None)) P
    by (Some f) h b at = h
    by None h true at = all.0 at
    by None h false at = tt

all_append : (Q : Names × Element → Type 0) (es fs : Entries) → AllByRecursion Q es → AllByRecursion Q fs → AllByRecursion Q (es ++ fs)
all_append Q [] fs a b = b
all_append Q (e ∷ es) fs a b = (a.0, all_append Q es fs a.1 b)

pub all_flat : (Q : Names × Element → Type 0) (f : Names × Element → Entries) (es : Entries) → AllByRecursion (λ e. AllByRecursion Q (f e)) es → AllByRecursion Q (flat_map f es)
all_flat Q f [] all = tt
all_flat Q f (e ∷ es) all = all_append Q (f e) (flat_map f es) all.0 (all_flat Q f es all.1)

pub all_map : (P Q : Names × Element → Type 0) (es : Entries) → ((e : Names × Element) → P e → Q e) → AllByRecursion P es → AllByRecursion Q es
all_map P Q [] h all = tt
all_map P Q (e ∷ es) h all = (h e all.0, all_map P Q es h all.1)

found_more : (e : Names × Element) (es fs : Entries) → T (below_all path_cmp e.0 es) → AllByRecursion (λ x. find_at x.0 fs ≡ Some x.1) es → AllByRecursion (λ x. find_at x.0 (e ∷ fs) ≡ Some x.1) es
found_more e [] fs h all = tt
found_more e (x ∷ es) fs h all = (ap (λ b. cond b (Some e.1) (find_at x.0 fs)) (later_other e.0 x.0 (first _ _ h)) ∙ all.0, found_more e es fs (second _ _ h) all.1)

found_each : (es : Entries) → T (sorted es) → AllByRecursion (λ x. find_at x.0 es ≡ Some x.1) es
found_each [] h = tt
found_each (e ∷ es) h = (ap (λ b. cond b (Some e.1) (find_at e.0 es)) (at_itself e.0), found_more e es es (first _ _ h) (found_each es (second _ _ h)))

-- each entry is what the tree has at its path
pub entries_got : (t : Tree) → AllByRecursion (λ e. get t e.0 ≡ Some e.1) (entries t)
entries_got t = all_map (λ x. find_at x.0 (entries t) ≡ Some x.1) (λ e. get t e.0 ≡ Some e.1) (entries t) (λ e h. get-entries t e.0 ∙ h) (found_each (entries t) (entries_sorted t))

-- ---- what stands above a path

names_more : (n : ℕ) (p : Names) → n < length p → p ≡ [] → ⊥
names_more n p h e = let none : length p ≡ 0 = ap length e in omega arith

pub parent_length : (p : Names) → length (parent p) ≡ length p - 1
parent_length [] = refl
parent_length (n ∷ []) = refl
parent_length (n ∷ m ∷ p) = let h : length (parent (m ∷ p)) ≡ length (m ∷ p) - 1 = parent_length (m ∷ p) in omega arith

all_names : (P Q : Names → Type 0) (ps : List Names) → ((p : Names) → P p → Q p) → AllByRecursion P ps → AllByRecursion Q ps
all_names P Q [] h all = tt
all_names P Q (p ∷ ps) h all = (h p all.0, all_names P Q ps h all.1)

-- the path is above p, and isn't p
pub record Over (p q : Names) : Type 0 where
  pub under : is_prefix q p ≡ true
  pub shorter : length q < length p

pub above_over : (n : ℕ) (p : Names) → n < length p → AllByRecursion (Over p) (above n p)
above_over zero p h = tt
above_over (suc n) p h =
    let some : p ≡ [] → ⊥ = names_more (suc n) p h in
    let less : length (parent p) < length p = parent_shorter p some in
    let fewer : length (parent p) ≡ length p - 1 = parent_length p in (
      record { under = prefix_parent (parent p) p (prefix_itself (parent p)); shorter = less },
      all_names (Over (parent p)) (Over p) (above n (parent p)) (λ q o. record { under = prefix_parent q p o.under; shorter = let s : length q < length (parent p) = o.shorter in omega arith })
          (above_over n (parent p) (omega arith)),
    )

pub over_below : (p q : Names) → Over p q → is_below q p ≡ true
over_below p q o = ap (λ b. b && not (is_prefix p q)) o.under
    ∙ ap not (not_true (is_prefix p q) (λ e. let long : length p ≤ length q = prefix_length p q e in let short : length q < length p = o.shorter in absurd (omega arith)))

pub prefix_both : (o p q : Names) → is_prefix (o ++ p) (o ++ q) ≡ is_prefix p q
prefix_both [] p q = refl
prefix_both (n ∷ o) p q = ap (λ b. b && is_prefix (o ++ p) (o ++ q)) (itself n) ∙ prefix_both o p q

pub below_both : (o p q : Names) → is_below (o ++ p) (o ++ q) ≡ is_below p q
below_both o p q = λ i. prefix_both o p q i && not (prefix_both o q p i)

-- ---- what is wanted at a path below o

-- where there is no such file, at most a folder is wanted
pub no_file_wanted : (o : Names) (f : Tree) (k : Names) → get f k ≡ None → file_bytes (get (wanted o f) (o ++ k)) ≡ None
no_file_wanted o f k none = ap file_bytes (get-put_all empty (flat_map (λ e. standing (o ++ e.0) e.1) (entries f)) (o ++ k) ∙ ap (option_or (last_at (o ++ k) (flat_map (λ e. standing (o ++ e.0) e.1) (entries f)))) (get-empty path_cmp (o ++ k)))
    ∙ folder (last_at (o ++ k) (flat_map (λ e. standing (o ++ e.0) e.1) (entries f))) (last_all IsNoFile (o ++ k) (flat_map (λ e. standing (o ++ e.0) e.1) (entries f)) (all_flat At (λ e. standing (o ++ e.0) e.1) (entries f)
    (all_map (λ e. get f e.0 ≡ Some e.1) (λ e. AllByRecursion At (standing (o ++ e.0) e.1)) (entries f) each (entries_got f))))
  where
    IsNoFile : Element → Type 0
    IsNoFile e = file_bytes (Some e) ≡ None

    At : Names × Element → Type 0
    At x = is_at (o ++ k) x.0 ≡ true → IsNoFile x.1

    all_folders : (ps : List Names) → AllByRecursion At (map (λ q. (q, new_folder 0)) ps)
    all_folders [] = tt
    all_folders (p ∷ ps) = (λ _. refl, all_folders ps)

    each : (e : Names × Element) → get f e.0 ≡ Some e.1 → AllByRecursion At (standing (o ++ e.0) e.1)
    each e is = (λ at. absurd (some_none (sym is ∙ ap (get f) (sym (cancel o k e.0 (same_at (o ++ k) (o ++ e.0) at))) ∙ none)), all_folders (above (length (o ++ e.0) - 2) (o ++ e.0)))
      where
        some_none : Some e.1 ≡ None → ⊥
        some_none h = cc

    folder : (x : Option Element) → IfSome x IsNoFile → file_bytes (option_or x None) ≡ None
    folder None h = refl
    folder (Some e) h = h

-- what is wanted at a path, element by element
pub get-wanted : (o : Names) (f : Tree) (q : Names) → get (wanted o f) q ≡ last_at q (flat_map (λ e. standing (o ++ e.0) e.1) (entries f))
get-wanted o f q = get-put_all empty (flat_map (λ e. standing (o ++ e.0) e.1) (entries f)) q ∙ ap (option_or (last_at q (flat_map (λ e. standing (o ++ e.0) e.1) (entries f)))) (get-empty path_cmp q)
    ∙ or_none (last_at q (flat_map (λ e. standing (o ++ e.0) e.1) (entries f)))
  where
    or_none : (x : Option Element) → option_or x None ≡ x
    or_none None = refl
    or_none (Some e) = refl

pub some_or : (x y : Option Element) → is_some y ≡ true → is_some (option_or x y) ≡ true
some_or None y h = h
some_or (Some e) y h = refl

pub or_some : (x y : Option Element) → is_some x ≡ true → is_some (option_or x y) ≡ true
or_some None y h = absurd (never (sym h))
or_some (Some e) y h = refl

-- an element of the files is wanted
is_wanted : (o k : Names) (es : Entries) → is_some (find_at k es) ≡ true → is_some (last_at (o ++ k) (flat_map (λ e. standing (o ++ e.0) e.1) es)) ≡ true
is_wanted o k [] h = absurd (never (sym h))
is_wanted o k (e ∷ es) h =
    let rest = flat_map (λ x. standing (o ++ x.0) x.1) es in
    ap is_some (last_append (o ++ k) (standing (o ++ e.0) e.1) rest) ∙ by (is_at k e.0) refl h (is_wanted o k es)
  where
    rest : Entries
    rest = flat_map (λ x. standing (o ++ x.0) x.1) es

    here : is_at k e.0 ≡ true → is_some (last_at (o ++ k) (standing (o ++ e.0) e.1)) ≡ true
    here at = some_or (last_at (o ++ k) (map (λ q. (q, new_folder 0)) (above (length (o ++ e.0) - 2) (o ++ e.0)))) (cond (is_at (o ++ k) (o ++ e.0)) (Some e.1) None)
        (ap (λ b. is_some (cond b (Some e.1) None)) (at_same (o ++ k) (o ++ e.0) (ap (λ p. o ++ p) (same_at k e.0 at))))

    by : (b : Bool) → is_at k e.0 ≡ b → is_some (cond b (Some e.1) (find_at k es)) ≡ true → (is_some (find_at k es) ≡ true → is_some (last_at (o ++ k) rest) ≡ true)
        → is_some (option_or (last_at (o ++ k) rest) (last_at (o ++ k) (standing (o ++ e.0) e.1))) ≡ true
    by true at g next = some_or (last_at (o ++ k) rest) (last_at (o ++ k) (standing (o ++ e.0) e.1)) (here at)
    by false at g next = or_some (last_at (o ++ k) rest) (last_at (o ++ k) (standing (o ++ e.0) e.1)) (next g)

some_is : (x : Option Element) (e : Element) → is_some x ≡ true → IfSome x (λ g. g ≡ e) → x ≡ Some e
some_is None e h g = absurd (never (sym h))
some_is (Some f) e h g = ap (λ z. Some z) g

pub fewer : (p : Names) → p ≢ [] → length p - 2 < length p
fewer [] h = absurd (h refl)
fewer (n ∷ p) h = omega arith

pub not_root : (o k : Names) → o ≢ [] → o ++ k ≢ []
not_root [] k h = absurd (h refl)
not_root (n ∷ o) k h = λ e. cc

-- a file that lies above no other is wanted as it is
pub file_wanted : (o : Names) (f : Tree) (k : Names) (g : Element) → o ≢ [] → get f k ≡ Some g → ((j : Names) → is_some (get f j) ≡ true → is_below k j ≡ false)
    → get (wanted o f) (o ++ k) ≡ Some g
file_wanted o f k g below there clear = get-wanted o f (o ++ k) ∙ some_is (last_at (o ++ k) (flat_map (λ e. standing (o ++ e.0) e.1) (entries f))) g
    (is_wanted o k (entries f) (ap is_some (sym (get-entries f k) ∙ there)))
    (last_all (λ e. e ≡ g) (o ++ k) (flat_map (λ e. standing (o ++ e.0) e.1) (entries f)) (all_flat At (λ e. standing (o ++ e.0) e.1) (entries f)
    (all_map (λ e. get f e.0 ≡ Some e.1) (λ e. AllByRecursion At (standing (o ++ e.0) e.1)) (entries f) each (entries_got f))))
  where
    At : Names × Element → Type 0
    At x = is_at (o ++ k) x.0 ≡ true → x.1 ≡ g

    one : (a b : Element) → Some a ≡ Some b → a ≡ b
    one a b h = cc

    -- a folder above the path of another file isn't at k
    folder : (j : Names) → is_some (get f j) ≡ true → (ps : List Names) → AllByRecursion (Over (o ++ j)) ps → AllByRecursion At (map (λ q. (q, new_folder 0)) ps)
    folder j h [] all = tt
    folder j h (p ∷ ps) all = (λ at. absurd (never (sym (ap (λ q. is_below q (o ++ j)) (same_at (o ++ k) p at) ∙ over_below (o ++ j) p all.0) ∙ (below_both o k j ∙ clear j h))), folder j h ps all.1)

    each : (e : Names × Element) → get f e.0 ≡ Some e.1 → AllByRecursion At (standing (o ++ e.0) e.1)
    each e is = (
      λ at. one e.1 g (sym is ∙ ap (get f) (sym (cancel o k e.0 (same_at (o ++ k) (o ++ e.0) at))) ∙ there),
      folder e.0 (ap is_some is) (above (length (o ++ e.0) - 2) (o ++ e.0)) (above_over (length (o ++ e.0) - 2) (o ++ e.0) (fewer (o ++ e.0) (not_root o e.0 below))),
    )
