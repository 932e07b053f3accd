-- What is known of edits that aren't refused by themselves, and which files they leave.
use Rattle.std.proofs.Common.{◌≡◌, ℕ, Bool, true, false, cond, ◌||◌, List, [], ◌∷◌, ◌++◌, refl, sym, ap, ◌∙◌}
use Rattle.std.specs.Prelude.{Option, Some, None, is_some, filter}
use Rattle.std.specs.List.{list_any}
use Rattle.std.specs.Option.{option_map}
use Rattle.std.specs.FinMap.{get, keys, contains_key-keys}
use Rattle.res_path.specs.Paths.{Names}
use Rattle.ws_elem.specs.Elements.{file_bytes}
use Rattle.ws_elem.specs.Trees.{Tree}
use Rattle.ws_elem.proofs.Cuts.{same_at}
use Rattle.ws_elem.proofs.Kept.{get-set_at}
use Rattle.op_kind.specs.Effects.{new_file}
use Rattle.op_kind.specs.Members.{is_below}
use Rattle.op_kind.specs.Places.{is_root_path}
use Rattle.op_kind.proofs.Looks.{is_at}
use Rattle.op_kind.proofs.PathsBelow.{never}
use Rattle.builder_api.specs.Edits.{Edit, edit_paths}
use Rattle.builder_api.proofs.Commits.{after_edits}
use Rattle.output_edits.specs.Bad.{lesser, least_of, repeated, above_another, bad_paths, bad_path}
use Rattle.output_edits.specs.Outputs.{edit, edited}

lesser_some : (x : Option Names) (p : Names) → is_some (lesser x p) ≡ true
lesser_some None p = refl
lesser_some (Some q) p = refl_of (lesser (Some q) p) (two p q)
  where
    refl_of : (x : Option Names) → is_some x ≡ true → is_some x ≡ true
    refl_of x h = h

    two : (p q : Names) → is_some (lesser (Some q) p) ≡ true
    two p q = by _
      where
        by : (b : Bool) → is_some (cond b (Some p) (Some q)) ≡ true
        by true = refl
        by false = refl

least_some : (x : Option Names) (ps : List Names) → is_some x ≡ true → is_some (least_of x ps) ≡ true
least_some x [] h = h
least_some x (p ∷ ps) h = least_some (lesser x p) ps (lesser_some x p)

least_none : (ps : List Names) → least_of None ps ≡ None → ps ≡ []
least_none [] h = refl
least_none (p ∷ ps) h = absurd (never (sym (least_some (Some p) ps refl) ∙ ap is_some h))

append_none : (ps qs : List Names) → ps ++ qs ≡ [] → (ps ≡ []) × (qs ≡ [])
append_none [] qs h = (refl, h)
append_none (p ∷ ps) qs h = cc

filter_none : (test : Names → Bool) (ps : List Names) (k : Names) → filter test ps ≡ [] → list_any (is_at k) ps ≡ true → test k ≡ false
filter_none test [] k h g = absurd (never (sym g))
filter_none test (p ∷ ps) k h g = by (test p) refl h (is_at k p) refl g (filter_none test ps k)
  where
    by : (b : Bool) → test p ≡ b → cond b (p ∷ filter test ps) (filter test ps) ≡ [] → (c : Bool) → is_at k p ≡ c → (c || list_any (is_at k) ps) ≡ true
        → (filter test ps ≡ [] → list_any (is_at k) ps ≡ true → test k ≡ false) → test k ≡ false
    by true e h c at g next = cc
    by false e h true at g next = ap test (same_at k p at) ∙ e
    by false e h false at g next = next h g

any_none : (test : Names → Bool) (ps : List Names) (j : Names) → list_any test ps ≡ false → list_any (is_at j) ps ≡ true → test j ≡ false
any_none test [] j h g = absurd (never (sym g))
any_none test (p ∷ ps) j h g = by (test p) refl h (is_at j p) refl g (any_none test ps j)
  where
    by : (b : Bool) → test p ≡ b → (b || list_any test ps) ≡ false → (c : Bool) → is_at j p ≡ c → (c || list_any (is_at j) ps) ≡ true
        → (list_any test ps ≡ false → list_any (is_at j) ps ≡ true → test j ≡ false) → test j ≡ false
    by true e h c at g next = absurd (never h)
    by false e h true at g next = ap test (same_at j p at) ∙ e
    by false e h false at g next = next h g

-- no path is the root's
pub no_root : (es : List Edit) (f : Tree) → bad_path es f ≡ None → filter is_root_path (edit_paths es) ≡ []
no_root es f h = (append_none (filter is_root_path (edit_paths es)) (repeated (λ _. false) (edit_paths es))
    (append_none (filter is_root_path (edit_paths es) ++ repeated (λ _. false) (edit_paths es)) (above_another f) (least_none (bad_paths es f) h)).0).0

-- none comes again
pub no_repeated : (es : List Edit) (f : Tree) → bad_path es f ≡ None → repeated (λ _. false) (edit_paths es) ≡ []
no_repeated es f h = (append_none (filter is_root_path (edit_paths es)) (repeated (λ _. false) (edit_paths es))
    (append_none (filter is_root_path (edit_paths es) ++ repeated (λ _. false) (edit_paths es)) (above_another f) (least_none (bad_paths es f) h)).0).1

-- no file lies above another
pub none_above : (es : List Edit) (f : Tree) → bad_path es f ≡ None → (k j : Names) → is_some (get f k) ≡ true → is_some (get f j) ≡ true → is_below k j ≡ false
none_above es f h k j a b = any_none (is_below k) (keys f) j
    (filter_none (λ p. list_any (is_below p) (keys f)) (keys f) k
    (append_none (filter is_root_path (edit_paths es) ++ repeated (λ _. false) (edit_paths es)) (above_another f) (least_none (bad_paths es f) h)).1
    (sym (contains_key-keys f k) ∙ a))
    (sym (contains_key-keys f j) ∙ b)

-- ---- the files after edits, by their contents

pub bytes_edited : (f : Tree) (es : List Edit) (k : Names) → file_bytes (get (edited f es) k) ≡ after_edits es k (file_bytes (get f k))
bytes_edited f [] k = refl
bytes_edited f (e ∷ es) k = bytes_edited (edit f e) es k ∙ ap (after_edits es k) (ap file_bytes (get-set_at f e.0 (option_map (new_file 0 0) e.1) k) ∙ by (is_at k e.0) e.1)
  where
    by : (b : Bool) (x : Option (List ℕ)) → file_bytes (cond b (option_map (new_file 0 0) x) (get f k)) ≡ cond b x (file_bytes (get f k))
    by true None = refl
    by true (Some bytes) = refl
    by false x = refl
