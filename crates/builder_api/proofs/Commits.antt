-- What a commit leaves.
use Rattle.std.proofs.Common.{◌≡◌, ℕ, Bool, true, false, cond, not, List, [], ◌∷◌, ◌++◌, refl, sym, ap, ◌∙◌, Option, Some, None}
use Rattle.std.specs.Prelude.{is_some}
use Rattle.std.specs.List.{list_any}
use Rattle.std.specs.FinMap.{get, retain_keys}
use Rattle.std.specs.Ordering.{eq_by_cmp}
use Rattle.res_path.specs.Paths.{Names, path_cmp, is_prefix, overlap}
use Rattle.builder_api.specs.Places.{is_within, is_below}
use Rattle.builder_api.specs.Files.{Files, HasBelow}
use Rattle.builder_api.specs.Tasks.{Task}
use Rattle.builder_api.specs.Edits.{Edit, edit, edited, with_room, committed}
use Rattle.builder_api.specs.Meanings.{Meanings, made_by, full, IsBuilt}
use Rattle.builder_api.proofs.Places.{below_append, neither, not_above, cancel}
use Rattle.builder_api.proofs.Maps.{get_kept, same_inputs, same_path, path_is, put_here, put_elsewhere, gone_here, gone_elsewhere, not_placed}

edit_other : (o : Names) (f : Files) (r : Names) (x : Option (List ℕ)) (q : Names) → overlap q o ≡ false → get (edit o f r x) q ≡ get f q
edit_other o f r (Some bytes) q h = put_elsewhere f (o ++ r) bytes q (not_placed q o r h)
edit_other o f r None q h = gone_elsewhere f (o ++ r) q (not_placed q o r h)

edited_other : (o : Names) (f : Files) (es : List Edit) (q : Names) → overlap q o ≡ false → get (edited o f es) q ≡ get f q
edited_other o f [] q h = refl
edited_other o f (e ∷ es) q h = edited_other o (edit o f e.0 e.1) es q h ∙ edit_other o f e.0 e.1 q h

room_other : (o : Names) (f : Files) (b : Bool) (q : Names) → overlap q o ≡ false → get (cond b (retain_keys f (λ q. not (is_prefix q o))) f) q ≡ get f q
room_other o f true q h = get_kept f (λ q. not (is_prefix q o)) q ∙ ap (λ b. cond (not b) (get f q) None) (neither (is_prefix q o) (is_prefix o q) h).0
room_other o f false q h = refl

-- a commit changes no file that is clear of its output
pub committed_other : (o : Names) (f : Files) (es : List Edit) (q : Names) → overlap q o ≡ false → get (committed o f es) q ≡ get f q
committed_other o f es q h = edited_other o (with_room o f es) es q h ∙ room_other o f (list_any (λ e. is_some e.1) es) q h

-- what stands below the output isn't moved out of the way
pub room_below : (o : Names) (f : Files) (es : List Edit) (n : List ℕ) (r : Names) → get (with_room o f es) (o ++ n ∷ r) ≡ get f (o ++ n ∷ r)
room_below o f es n r = by (list_any (λ e. is_some e.1) es)
  where
    by : (b : Bool) → get (cond b (retain_keys f (λ q. not (is_prefix q o))) f) (o ++ n ∷ r) ≡ get f (o ++ n ∷ r)
    by true = get_kept f (λ q. not (is_prefix q o)) (o ++ n ∷ r) ∙ ap (λ b. cond (not b) (get f (o ++ n ∷ r)) None) (not_above o n r)
    by false = refl

-- what the last of the edits of a path says, and what was there where there is none
abbrev pub after_edits : List Edit → Names → Option (List ℕ) → Option (List ℕ)
after_edits [] q was = was
after_edits (e ∷ es) q was = after_edits es q (cond (eq_by_cmp path_cmp q e.0) e.1 was)

edit_below : (o : Names) (f : Files) (r : Names) (x : Option (List ℕ)) (q : Names) → get (edit o f r x) (o ++ q) ≡ cond (eq_by_cmp path_cmp q r) x (get f (o ++ q))
edit_below o f r x q = by (eq_by_cmp path_cmp q r) refl
  where
    here : (x : Option (List ℕ)) → get (edit o f r x) (o ++ r) ≡ x
    here (Some bytes) = put_here f (o ++ r) bytes
    here None = gone_here f (o ++ r)

    elsewhere : (x : Option (List ℕ)) → (q ≡ r → ⊥) → get (edit o f r x) (o ++ q) ≡ get f (o ++ q)
    elsewhere (Some bytes) h = put_elsewhere f (o ++ r) bytes (o ++ q) (λ e. h (cancel o q r e))
    elsewhere None h = gone_elsewhere f (o ++ r) (o ++ q) (λ e. h (cancel o q r e))

    by : (b : Bool) → eq_by_cmp path_cmp q r ≡ b → get (edit o f r x) (o ++ q) ≡ cond b x (get f (o ++ q))
    by true e = ap (λ p. get (edit o f r x) (o ++ p)) (same_path q r e) ∙ here x
    by false e = elsewhere x (λ same. let yes : eq_by_cmp path_cmp q r ≡ true = ap (eq_by_cmp path_cmp q) (sym same) ∙ path_is q in cc)

pub edited_below : (o : Names) (f : Files) (es : List Edit) (q : Names) → get (edited o f es) (o ++ q) ≡ after_edits es q (get f (o ++ q))
edited_below o f [] q = refl
edited_below o f (e ∷ es) q = edited_below o (edit o f e.0 e.1) es q ∙ ap (after_edits es q) (edit_below o f e.0 e.1 q)

-- the file at a path below the output after a commit
pub committed_below : (o : Names) (f : Files) (es : List Edit) (n : List ℕ) (r : Names) → get (committed o f es) (o ++ n ∷ r) ≡ after_edits es (n ∷ r) (get f (o ++ n ∷ r))
committed_below o f es n r = edited_below o (with_room o f es) es (n ∷ r) ∙ ap (after_edits es (n ∷ r)) (room_below o f es n r)

-- edits that say at each path what m has there leave the files of m
pub makes : (o : Names) (f m : Files) (es : List Edit) → ((n : List ℕ) (r : Names) → after_edits es (n ∷ r) (get f (o ++ n ∷ r)) ≡ get m (n ∷ r)) → HasBelow o (committed o f es) m
makes o f m es h = record { at = λ n r. committed_below o f es n r ∙ h n r }

-- what a task makes, where its inputs are the same
pub same_made : (ms : Meanings) (c : Task) (f g : Files) → ((q : Names) → is_within c.inputs q ≡ true → get f q ≡ get g q) → (full ms c f).files ≡ (full ms c g).files
same_made ms c f g is = ap (λ i. (made_by (ms c.builder) c i).files) (same_inputs c.inputs f g is)

-- it stays built where nothing within its inputs and below its output changes
pub built_still : (ms : Meanings) (c : Task) (f g : Files) → ((q : Names) → is_within c.inputs q ≡ true → get g q ≡ get f q)
    → ((q : Names) → is_below c.output q ≡ true → get g q ≡ get f q) → IsBuilt ms c f → IsBuilt ms c g
built_still ms c f g ins out was = record {
  at = λ name r. out (c.output ++ name ∷ r) (below_append c.output name r) ∙ was.at name r ∙ ap (λ m. get m (name ∷ r)) (same_made ms c f g (λ q h. sym (ins q h)));
}
