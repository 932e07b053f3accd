-- The files that are seen of a tree, as a map.
use Rattle.std.proofs.Common.{◌≡◌, ℕ, Bool, true, false, cond, List, [], ◌∷◌, ◌++◌, map, T, refl, sym, ap, ◌∙◌}
use Rattle.std.specs.Prelude.{Option, Some, None, filter}
use Rattle.std.specs.FinMap.{get, entries, entries_sorted, find, is_sorted, from_sorted, get-entries, get-from_sorted, get-from_entries, entries-from_sorted}
use Rattle.std.specs.FinMap.Entries.{is_sorted-where_key, find-where_key}
use Rattle.std.specs.List.{flat_map}
use Rattle.std.specs.List.Sorted.{IsStrictlySortedBy}
use Rattle.std.specs.Map.{keys_of}
use Rattle.res_path.specs.Paths.{Names, path_cmp}
use Rattle.res_path.specs.PathLaws.{path_cmp_total}
use Rattle.res_path.proofs.Prefixes.{path_cmp_exact}
use Rattle.ws_elem.specs.declared.element.Element.{Element}
use Rattle.ws_elem.specs.Elements.{file_bytes}
use Rattle.ws_elem.specs.Kinds.{is_file}
use Rattle.ws_elem.specs.Trees.{Tree}
use Rattle.delta_kind.proofs.Rising.{Rises, rises_lower, rises_sorted, keys_rise}
use Rattle.op_kind.specs.Entries.{Entries}
use Rattle.builder_api.specs.Files.{Files, file_entry, files_of}
use Rattle.builder_api.proofs.Maps.{get_kept, same_files}
use Rattle.builder_api.proofs.Trees.{get-files_of}
use Rattle.build_due.specs.Sights.{is_seen, seen}
use Rattle.build_due.specs.Inside.Walks.{seen_files}

module _ (inputs : List Names) (output : Names) where
  -- ---- in order

  rises : (l : Option Names) (es : Entries) → Rises l (map (λ e. e.0) es) → Rises l (keys_of (seen_files inputs output es))
  rises l [] h = tt
  rises l (e ∷ es) h = by (is_seen inputs output e.0) (rises l es (rises_lower l e.0 (map (λ e. e.0) es) h.0 h.1)) (rises (Some e.0) es h.1)
    where
      kept : Entries
      kept = filter (λ x. is_seen inputs output x.0) es

      file : (c : Bool) → Rises l (keys_of (flat_map file_entry kept)) → Rises (Some e.0) (keys_of (flat_map file_entry kept))
          → Rises l (keys_of (cond c ((e.0, e.1.bytes) ∷ []) [] ++ flat_map file_entry kept))
      file true without with = (h.0, with)
      file false without with = without

      by : (b : Bool) → Rises l (keys_of (flat_map file_entry kept)) → Rises (Some e.0) (keys_of (flat_map file_entry kept))
          → Rises l (keys_of (flat_map file_entry (cond b (e ∷ kept) kept)))
      by true without with = file (is_file e.1.kind) without with
      by false without with = without

  pub seen_sorted : (t : Tree) → IsStrictlySortedBy path_cmp (keys_of (seen_files inputs output (entries t)))
  seen_sorted t = rises_sorted None (keys_of (seen_files inputs output (entries t))) (rises None (entries t) (keys_rise t))

  -- ---- at each path

  file_kept : (b : Bool) (x : Option Element) → file_bytes (cond b x None) ≡ cond b (file_bytes x) None
  file_kept true x = refl
  file_kept false x = refl

  module _ (t : Tree) (q : Names) where
    kept : Entries
    kept = filter (λ e. is_seen inputs output e.0) (entries t)

    sorted : T (is_sorted path_cmp kept)
    unfolding kept
    sorted = is_sorted-where_key path_cmp (is_seen inputs output) (entries t) (entries_sorted t)

    found : find path_cmp q kept ≡ cond (is_seen inputs output q) (get t q) None
    unfolding kept
    found = find-where_key path_cmp (is_seen inputs output) q (λ x e. ap (is_seen inputs output) (sym (path_cmp_exact q x e))) (entries t)
        ∙ ap (λ x. cond (is_seen inputs output q) x None) (sym (get-entries t q))

    -- the files of the tree of these entries
    file_found : find path_cmp q (flat_map file_entry kept) ≡ file_bytes (find path_cmp q kept)
    file_found =
        let part : Tree = from_sorted kept in
        ap (λ es. find path_cmp q (flat_map file_entry es)) (sym (entries-from_sorted path_cmp kept sorted))
        ∙ sym (get-from_entries path_cmp_total (flat_map file_entry (entries part)) q)
        ∙ get-files_of part q
        ∙ ap file_bytes (get-from_sorted path_cmp kept q sorted)

    pub seen_at : find path_cmp q (seen_files inputs output (entries t)) ≡ get (seen inputs output (files_of t)) q
    unfolding kept
    seen_at = file_found ∙ ap file_bytes found ∙ file_kept (is_seen inputs output q) (get t q)
        ∙ ap (λ x. cond (is_seen inputs output q) x None) (sym (get-files_of t q))
        ∙ sym (get_kept (files_of t) (is_seen inputs output) q)

-- a map of these files is what is seen
pub seen_is : (inputs among : List Names) (output : Names) (t : Tree) (v : Files) (files : List (Names × List ℕ)) → among ≡ inputs
    → files ≡ seen_files among output (entries t) → entries v ≡ files → v ≡ seen inputs output (files_of t)
seen_is inputs among output t v files same all is =
    let each : entries v ≡ seen_files inputs output (entries t) = is ∙ all ∙ ap (λ x. seen_files x output (entries t)) same in
    same_files v (seen inputs output (files_of t)) (λ q. get-entries v q ∙ ap (find path_cmp q) each ∙ seen_at inputs output t q)
