-- All as it was when so many states had been replaced.
use Rattle.std.proofs.Common.{◌≡◌, ◌≤◌, ℕ, List, [], ◌∷◌, ◌++◌, length, refl, sym, ap, ◌∙◌}
use Rattle.std.specs.Prelude.{Option, Some, None, take, drop}
use Rattle.std.specs.Option.{option_map}
use Rattle.std.specs.FinMap.{insert}
use Rattle.std.proofs.lemmas.List.{drop-append-le, take-append-le, take_all}
use Rattle.std.proofs.Math.ListN.{drop_of_length-le}
use Rattle.ws_marks.specs.declared.state.Replaced.{Replaced}
use Rattle.ws_marks.specs.declared.state.State.{State}
use Rattle.ws_marks.specs.Places.{States}
use Rattle.ws_marks.specs.Marked.{IsLast, Marked, set_at, since_begin, undone, unwound, with_kept}
use Rattle.ws_marks.proofs.Kept.{replaced_by, undone_last, undone_push}

module _ {M : Type 0} where
  -- it depends on what was kept and what was replaced
  abbrev unwound_kept : ℕ → States M → Option (List (Replaced M)) → States M
  unwound_kept count kept replaced = undone kept (drop count (since_begin replaced))

  -- one more is replaced
  pub unwound_more : (count : ℕ) (m : Marked M) (s : State M) (rs : List (Replaced M)) → m.replaced ≡ Some rs → count ≤ length rs → unwound count (with_kept m s) ≡ unwound count m
  unwound_more count m s rs is le = λ i. record m { kept = kept i; replaced = replaced i }
    where
      one : List (Replaced M)
      one = replaced_by m.kept s ∷ []

      kept : unwound_kept count (insert m.kept s.participant s) (option_map (λ rs. rs ++ one) m.replaced) ≡ unwound_kept count m.kept m.replaced
      kept =
          ap (λ o. unwound_kept count (insert m.kept s.participant s) (option_map (λ rs. rs ++ one) o)) is
          ∙ ap (undone (insert m.kept s.participant s)) (drop-append-le count rs one le)
          ∙ undone_push m.kept s (drop count rs)
          ∙ ap (unwound_kept count m.kept) (sym is)

      replaced : option_map (take count) (option_map (λ rs. rs ++ one) m.replaced) ≡ option_map (take count) m.replaced
      replaced = ap (λ o. option_map (take count) (option_map (λ rs. rs ++ one) o)) is ∙ ap Some (take-append-le count rs one le) ∙ ap (option_map (take count)) (sym is)

  -- the last is put back
  pub unwound_less : (count : ℕ) (m : Marked M) (r : Replaced M) (rest : List (Replaced M)) → IsLast count m r rest
      → unwound count (record m { kept = set_at m.kept r.participant r.before; replaced = Some rest }) ≡ unwound count m
  unwound_less count m r rest h = λ i. record m { kept = kept i; replaced = replaced i }
    where
      kept : undone (set_at m.kept r.participant r.before) (drop count rest) ≡ unwound_kept count m.kept m.replaced
      kept =
          sym (undone_last m.kept (drop count rest) r) ∙ ap (undone m.kept) (sym (drop-append-le count rest (r ∷ []) h.beyond))
          ∙ ap (unwound_kept count m.kept) (sym h.all)

      replaced : Some (take count rest) ≡ option_map (take count) m.replaced
      replaced = ap Some (sym (take-append-le count rest (r ∷ []) h.beyond)) ∙ ap (option_map (take count)) (sym h.all)

  -- where no more were replaced, it is as it is
  pub unwound_none : (count : ℕ) (m : Marked M) → length (since_begin m.replaced) ≤ count → unwound count m ≡ m
  unwound_none count m le = λ i. record m { kept = kept i; replaced = replaced m.replaced le i }
    where
      kept : unwound_kept count m.kept m.replaced ≡ m.kept
      kept = ap (undone m.kept) (drop_of_length-le (since_begin m.replaced) le)

      replaced : (o : Option (List (Replaced M))) → length (since_begin o) ≤ count → option_map (take count) o ≡ o
      replaced None le = refl
      replaced (Some rs) le = ap Some (take_all count rs le)
