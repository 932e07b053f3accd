-- A tree on its way to lasting, path by path.
use Rattle.std.proofs.Common.{◌≡◌, Bool, true, false, cond, ◌||◌, List, [], ◌∷◌, refl, sym, ap, ◌∙◌, subst}
use Rattle.std.specs.Prelude.{Option, Some, None, IfSome, map, filter}
use Rattle.std.specs.Option.{option_map}
use Rattle.std.specs.List.{list_any}
use Rattle.std.specs.Ordering.{eq_by_cmp, is_eq}
use Rattle.std.specs.declared.cmp.Ordering.{Ordering}
use Rattle.std.specs.declared.cmp.Ordering.TheVariants.{Less, Equal, Greater}
use Rattle.std.specs.FinMap.{entries, find, get, get-entries, get-insert, same_map}
use Rattle.res_path.specs.Paths.{Names, path_cmp}
use Rattle.res_path.specs.PathLaws.{path_cmp_total}
use Rattle.res_path.proofs.Prefixes.{path_cmp_exact}
use Rattle.ws_elem.specs.declared.element.Element.{Element}
use Rattle.ws_elem.specs.Trees.{Tree}
use Rattle.ws_lasting.specs.Lasting.{lasting, lasting_element, get-lasting}
use Rattle.ws_lasting.specs.Inside.{has_transient, lasting_at, paths_of, transient_paths, with_some}
use Rattle.ws_lasting.proofs.Lasts.{lasts, lasting_twice}

abbrev is_listed : Names → List Names → Bool
is_listed p ps = list_any (eq_by_cmp path_cmp p) ps

-- it has what lasts of the tree, and at all other paths than these no transient markers
pub record IsSettled (tree t : Tree) (rest : List Names) : Type 0 where
  pub same : lasting t ≡ lasting tree
  pub others : (p : Names) → is_listed p rest ≡ false → IfSome (get t p) (λ e. lasting_element e ≡ e)

never : true ≡ false → ⊥
never h = cc

-- ---- at first

unlisted : (p : Names) (es : List (Names × Element)) → is_listed p (paths_of es) ≡ false → IfSome (find path_cmp p es) (λ e. lasting_element e ≡ e)
unlisted p [] h = tt
unlisted p (e ∷ es) h = by (has_transient e.1) refl (eq_by_cmp path_cmp p e.0) refl (unlisted p es) h
  where
    by : (has : Bool) → has_transient e.1 ≡ has → (at : Bool) → eq_by_cmp path_cmp p e.0 ≡ at
        → (is_listed p (paths_of es) ≡ false → IfSome (find path_cmp p es) (λ x. lasting_element x ≡ x))
        → is_listed p (map (λ x. x.0) (cond has (e ∷ filter (λ x. has_transient x.1) es) (filter (λ x. has_transient x.1) es))) ≡ false
        → IfSome (cond at (Some e.1) (find path_cmp p es)) (λ x. lasting_element x ≡ x)
    by false none true at rest g = lasts e.1 none
    by false none false at rest g = rest g
    by true some true at rest g = absurd (never (ap (λ b. b || is_listed p (paths_of es)) (sym at) ∙ g))
    by true some false at rest g = rest (ap (λ b. b || is_listed p (paths_of es)) (sym at) ∙ g)

pub first_settled : (t : Tree) (ps : List Names) → ps ≡ transient_paths t → IsSettled t t ps
first_settled t ps is = record {
  same = refl;
  others = λ p h. subst (λ o. IfSome o (λ e. lasting_element e ≡ e)) (sym (get-entries t p)) (unlisted p (entries t) (ap (is_listed p) (sym is) ∙ h));
}

-- ---- at each step

equal : (o : Ordering) → is_eq o ≡ true → o ≡ Equal
equal Less h = cc
equal Equal h = refl
equal Greater h = cc

met : (p q : Names) → eq_by_cmp path_cmp p q ≡ true → p ≡ q
met p q h = path_cmp_exact p q (equal (path_cmp p q) h)

get-lasting_at : (t : Tree) (p q : Names) → get (lasting_at t p) q ≡ cond (eq_by_cmp path_cmp q p) (option_map lasting_element (get t q)) (get t q)
get-lasting_at t p q = by (get t p) refl (eq_by_cmp path_cmp q p) refl
  where
    by : (o : Option Element) → get t p ≡ o → (at : Bool) → eq_by_cmp path_cmp q p ≡ at
        → get (with_some t p (option_map lasting_element o)) q ≡ cond at (option_map lasting_element (get t q)) (get t q)
    by None none true at = (ap (get t) (met q p at) ∙ none) ∙ ap (option_map lasting_element) (sym (ap (get t) (met q p at) ∙ none))
    by None none false at = refl
    by (Some e) some true at = get-insert path_cmp_total t p (lasting_element e) q ∙ ap (λ b. cond b (Some (lasting_element e)) (get t q)) at
        ∙ ap (option_map lasting_element) (sym (ap (get t) (met q p at) ∙ some))
    by (Some e) some false at = get-insert path_cmp_total t p (lasting_element e) q ∙ ap (λ b. cond b (Some (lasting_element e)) (get t q)) at

twice : (o : Option Element) → option_map lasting_element (option_map lasting_element o) ≡ option_map lasting_element o
twice None = refl
twice (Some e) = ap Some (lasting_twice e)

lasting_same : (t : Tree) (p : Names) → lasting (lasting_at t p) ≡ lasting t
lasting_same t p = same_map path_cmp_total path_cmp_exact _ _ (λ q.
    get-lasting (lasting_at t p) q ∙ ap (option_map lasting_element) (get-lasting_at t p q) ∙ by (eq_by_cmp path_cmp q p) (get t q) ∙ sym (get-lasting t q))
  where
    by : (at : Bool) (o : Option Element) → option_map lasting_element (cond at (option_map lasting_element o) o) ≡ option_map lasting_element o
    by true o = twice o
    by false o = refl

pub settled_more : (tree t new : Tree) (p : Names) (rest : List Names) → new ≡ lasting_at t p → IsSettled tree t (p ∷ rest) → IsSettled tree new rest
settled_more tree t new p rest is s = record {
  same = ap lasting is ∙ lasting_same t p ∙ s.same;
  others = λ q h. subst (λ o. IfSome o (λ e. lasting_element e ≡ e)) (sym (ap (λ (u : Tree). get u q) is ∙ get-lasting_at t p q)) (by q (eq_by_cmp path_cmp q p) refl h);
}
  where
    done : (o : Option Element) → IfSome (option_map lasting_element o) (λ e. lasting_element e ≡ e)
    done None = tt
    done (Some e) = lasting_twice e

    by : (q : Names) (at : Bool) → eq_by_cmp path_cmp q p ≡ at → is_listed q rest ≡ false
        → IfSome (cond at (option_map lasting_element (get t q)) (get t q)) (λ e. lasting_element e ≡ e)
    by q true at h = done (get t q)
    by q false at h = s.others q (ap (λ b. b || is_listed q rest) at ∙ h)

-- ---- at last

pub all_settled : (tree t : Tree) (rest : List Names) → rest ≡ [] → IsSettled tree t rest → t ≡ lasting tree
all_settled tree t rest none s = sym (same_map path_cmp_total path_cmp_exact _ _ (λ p. get-lasting t p ∙ by (get t p) (s.others p (ap (is_listed p) none)))) ∙ s.same
  where
    by : (o : Option Element) → IfSome o (λ e. lasting_element e ≡ e) → option_map lasting_element o ≡ o
    by None h = refl
    by (Some e) h = ap Some h
