-- Books that grow with a history.
use Rattle.std.proofs.Common.{◌≡◌, ℕ, true, false, cond, ◌==◌, List, [], ◌∷◌, ◌++◌, refl, sym, ap, ◌∙◌, append_assoc}
use Rattle.std.specs.Prelude.{Some}
use Rattle.std.specs.Option.{option_map, option_to_list}
use Rattle.core_event.specs.declared.entry.Entry.{Entry}
use Rattle.build_run.specs.Books.{Deed, at}
use Rattle.ws_core.specs.States.{Moment}
use Rattle.ws_core.specs.Histories.{after, replay}
use Rattle.build_core.specs.States.{state_of}
use Rattle.build_core.specs.Histories.{deed_of, entries_of, entry_of}

pub entries_append : (k : ℕ) (s : Moment) (h g : List Entry) → entries_of k s (h ++ g) ≡ entries_of k s h ++ entries_of k (replay s h) g
entries_append k s [] g = refl
entries_append k s (x ∷ h) g =
    ap (λ es. entry_of k s x ++ es) (entries_append k (after s x) h g)
    ∙ sym (append_assoc (entry_of k s x) (entries_of k (after s x) h) (entries_of k (replay (after s x) h) g))

none_after : {X : Type 0} (xs : List X) → xs ++ [] ≡ xs
none_after [] = refl
none_after (x ∷ xs) = ap (λ ys. x ∷ ys) (none_after xs)

-- one entry more
pub entries_more : (k : ℕ) (s : Moment) (h : List Entry) (x : Entry) → entries_of k s (h ++ x ∷ []) ≡ entries_of k s h ++ entry_of k (replay s h) x
entries_more k s h x = entries_append k s h (x ∷ []) ∙ ap (λ es. entries_of k s h ++ es) (none_after (entry_of k (replay s h) x))

-- one of another pass adds nothing
pub others_add_none : (k : ℕ) (s : Moment) (x : Entry) → (x.pass == k) ≡ false → entry_of k s x ≡ []
others_add_none k s x other = ap (λ b. cond b (option_to_list (option_map (at (state_of s)) (deed_of x.event x.reply.answer))) []) other

-- and one of the pass what it did
pub own_adds : (k : ℕ) (s : Moment) (x : Entry) (deed : Deed) → (x.pass == k) ≡ true → deed_of x.event x.reply.answer ≡ Some deed → entry_of k s x ≡ at (state_of s) deed ∷ []
own_adds k s x deed own is =
    ap (λ b. cond b (option_to_list (option_map (at (state_of s)) (deed_of x.event x.reply.answer))) []) own
    ∙ ap (λ o. option_to_list (option_map (at (state_of s)) o)) is
