-- The files of a tree.
use Rattle.std.proofs.Common.{◌≡◌, Bool, true, false, cond, ◌&&◌, List, [], ◌∷◌, ◌++◌, T, refl, sym, ap, ◌∙◌}
use Rattle.std.specs.Prelude.{Some, None}
use Rattle.std.specs.declared.cmp.Ordering.{Ordering}
use Rattle.std.specs.declared.cmp.Ordering.TheVariants.{Less, Equal, Greater}
use Rattle.std.specs.Ordering.{eq_by_cmp, is_eq, is_lt}
use Rattle.std.specs.List.{flat_map}
use Rattle.std.specs.FinMap.{get, entries, entries_sorted, find, is_sorted, get-entries, get-from_entries}
use Rattle.std.specs.FinMap.Entries.{below_all}
use Rattle.res_path.specs.Paths.{Names, path_cmp}
use Rattle.res_path.specs.PathLaws.{path_cmp_total}
use Rattle.ws_elem.specs.declared.element.Element.{Element}
use Rattle.ws_elem.specs.Kinds.{is_file}
use Rattle.ws_elem.specs.Elements.{file_bytes}
use Rattle.ws_elem.specs.Trees.{Tree}
use Rattle.builder_api.specs.Files.{file_entry, files_of}
use Rattle.builder_api.proofs.Maps.{same_path}

first : (a b : Bool) → T (a && b) → T a
first true b h = tt
first false b h = h

second : (a b : Bool) → T (a && b) → T b
second true b h = h
second false b h = absurd h

apart : (o : Ordering) → T (is_lt o) → is_eq o ≡ false
apart Less p = refl
apart Equal p = absurd p
apart Greater p = absurd p

-- nothing is found before all entries
find_none : (p : Names) (es : List (Names × Element)) → T (below_all path_cmp p es) → find path_cmp p es ≡ None
find_none p [] h = refl
find_none p (e ∷ es) h = ap (λ b. cond b (Some e.1) (find path_cmp p es)) (apart _ (first _ _ h)) ∙ find_none p es (second _ _ h)

none_after : (q : Names) (e : Names × Element) (es : List (Names × Element)) → T (is_sorted path_cmp (e ∷ es)) → eq_by_cmp path_cmp q e.0 ≡ true → find path_cmp q es ≡ None
none_after q e es h is = ap (λ p. find path_cmp p es) (same_path q e.0 is) ∙ find_none e.0 es (first _ _ h)

find_file : (q : Names) (es : List (Names × Element)) → T (is_sorted path_cmp es) → find path_cmp q (flat_map file_entry es) ≡ file_bytes (find path_cmp q es)
find_file q [] h = refl
find_file q (e ∷ es) h = by (is_file e.1.kind) refl (eq_by_cmp path_cmp q e.0) refl (find_file q es (second _ _ h))
  where
    by : (f : Bool) → is_file e.1.kind ≡ f → (b : Bool) → eq_by_cmp path_cmp q e.0 ≡ b → find path_cmp q (flat_map file_entry es) ≡ file_bytes (find path_cmp q es)
        → find path_cmp q (cond f ((e.0, e.1.bytes) ∷ []) [] ++ flat_map file_entry es) ≡ file_bytes (cond b (Some e.1) (find path_cmp q es))
    by true f true b next = ap (λ b. cond b (Some e.1.bytes) (find path_cmp q (flat_map file_entry es))) b ∙ sym (ap (λ f. cond f (Some e.1.bytes) None) f)
    by true f false b next = ap (λ b. cond b (Some e.1.bytes) (find path_cmp q (flat_map file_entry es))) b ∙ next
    by false f true b next = next ∙ ap file_bytes (none_after q e es h b) ∙ sym (ap (λ f. cond f (Some e.1.bytes) None) f)
    by false f false b next = next

-- the file at a path
pub get-files_of : (t : Tree) (q : Names) → get (files_of t) q ≡ file_bytes (get t q)
get-files_of t q = get-from_entries path_cmp_total (flat_map file_entry (entries t)) q ∙ find_file q (entries t) (entries_sorted t) ∙ ap file_bytes (sym (get-entries t q))
