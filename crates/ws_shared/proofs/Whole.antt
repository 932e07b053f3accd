-- What a whole save of a pass leaves.
use Rattle.std.proofs.Common.{◌≡◌, ℕ, true, List, [], ◌∷◌, ◌++◌, inl, inr, refl, sym, ap, ◌∙◌, subst, append-nil, append_assoc}
use Rattle.std.specs.Prelude.{Option, Some, None, Ok}
use Rattle.save_kind.specs.declared.answer.SaveAnswer.{SaveAnswer}
use Rattle.save_kind.specs.declared.kind.SaveKind.{SaveKind}
use Rattle.save_run.specs.declared.command.Saved.TheVariants.{Ended}
use Rattle.save_run.specs.Books.{EndsUnkept}
use Rattle.core_event.specs.declared.entry.Entry.{Entry}
use Rattle.save_history.specs.Causes.{MayEndSo}
use Rattle.save_history.specs.Kept.{points_at}
use Rattle.save_history.specs.Saves.{IsDone, IsSaveOf, beginning, ending}
use Rattle.ws_turn.specs.Lists.{StartsWith}
use Rattle.pass_turns.specs.Turns.{Knows, TookTurn}
use Rattle.pass_turns.proofs.Waited.{starts_on}
use Rattle.ws_locked.specs.Fits.{session}
use Rattle.ws_locked.specs.Halls.{state_in}
use Rattle.ws_locked.specs.declared.services.Opening.{Opening}
use Rattle.ws_shared.specs.Calls.{legal_from, pass_of}
use Rattle.ws_shared.specs.Saves.{WasSaved}
use Rattle.ws_shared.specs.Inside.Hosts.{AreAdded, HasEndedSo, States}
use Rattle.ws_shared.proofs.Beginning.{Began}

-- the entries of a save, of which the first is its beginning
pub whole_save : (n : ℕ) (kind : SaveKind) (a : SaveAnswer) (kept : Option States) (first last : Entry) (entries : List Entry) → IsDone n (beginning kind) first → AreAdded n kept entries → IsDone n (ending a) last
    → (kept ≡ None → EndsUnkept a) → IsSaveOf n kind (Ended a) (first ∷ (entries ++ last ∷ []))
whole_save n kind a None first last entries begins none ends unkept = inl (record { first = first; last = last; are = ap (λ l. first ∷ (l ++ last ∷ [])) none; begins = begins; ends = ends; unkept = unkept refl })
whole_save n kind a (Some states) first last entries begins (middle, one, keeps) ends unkept =
    inr (record { states = states; first = first; middle = middle; last = last; are = ap (λ l. first ∷ (l ++ last ∷ [])) one; begins = begins; keeps = keeps; ends = ends })

pub put_together : (mine made all : List Entry) (first : Entry) (more : List Entry) → made ≡ mine ++ first ∷ [] → all ≡ made ++ more → all ≡ mine ++ (first ∷ more)
put_together mine made all first more one then = then ∙ (ap (λ l. l ++ more) one ∙ append_assoc mine (first ∷ []) more)

module _ {D B P : Type 0} (kind : SaveKind) (o : Opening D B P) (a : SaveAnswer) where
  -- the save came to its end, which the pass then told in a turn
  pub has_ended : {A : Type 0} (did : Opening D B P → ℕ → List Entry → List Entry → A → Type 0) (answer : A) (k j i : Knows Entry) (kept : Option States) (entries : List Entry) (last : Entry) → StartsWith j.seen k.seen → j.number ≡ k.number → j.lost ≡ k.lost
      → j.mine ≡ k.mine ++ entries → AreAdded k.number kept entries → (kept ≡ None → EndsUnkept a) → (t : TookTurn pass_of legal_from did o answer j i) → t.added ≡ last ∷ [] → IsDone j.number (ending a) last
      → MayEndSo a (points_at (session (state_in o) i.seen) o.keeper.value) o.keeper.value.began.areas.top → HasEndedSo kind o a k i
  has_ended did answer k j i kept entries last begins number lost mine added unkept t one is reason =
      let done = subst (λ n. IsDone n (ending a) last) number is in
      let seen = t.seen ∙ ap (λ l. t.found ++ l) one in
      record {
        begins = subst (λ l. StartsWith l k.seen) (sym seen) (starts_on k.seen t.found (t.found ++ last ∷ []) (last ∷ [], refl) (starts_on k.seen j.seen t.found t.begins begins));
        number = t.number ∙ number;
        lost = t.lost ∙ lost;
        made = (kept, entries, last, t.mine ∙ (ap (λ l. j.mine ++ l) one ∙ (ap (λ l. l ++ last ∷ []) mine ∙ append_assoc k.mine entries (last ∷ []))), added, done, unkept);
        ends = (t.found, last, seen, done);
        reason = reason;
        legal_seen = t.legal_seen;
        faithful = t.faithful;
      }

  -- and so the whole save, from before its beginning
  pub whole : {A : Type 0} (did : Opening D B P → ℕ → List Entry → List Entry → A → Type 0) (answer : A) (k j i : Knows Entry) (t : TookTurn pass_of legal_from did o answer k j) → Began k.number kind (state_in o) t.found t.added → HasEndedSo kind o a j i
      → WasSaved kind o (Ok a) k i
  whole did answer k j i t b e =
      let m = e.made in
      let kept = m.0 in
      let entries = m.1 in
      let last = m.2 in
      let n = t.number in
      record {
        begins = starts_on k.seen j.seen i.seen e.begins (subst (λ l. StartsWith l k.seen) (sym t.seen) (starts_on k.seen t.found (t.found ++ t.added) (t.added, refl) t.begins));
        number = e.number ∙ n;
        lost = e.lost ∙ t.lost;
        made = (
          b.entry ∷ (entries ++ last ∷ []),
          put_together k.mine j.mine i.mine b.entry (entries ++ last ∷ []) (t.mine ∙ ap (λ l. k.mine ++ l) b.one) m.3,
          whole_save k.number kind a kept b.entry last entries b.is (subst (λ z. AreAdded z kept entries) n m.4) (subst (λ z. IsDone z (ending a) last) n m.5) m.6,
        );
        ends = (e.ends.0, e.ends.1, e.ends.2, subst (λ z. IsDone z (ending a) e.ends.1) n e.ends.3);
        reason = e.reason;
        nothing = tt;
        legal_seen = e.legal_seen;
        faithful = e.faithful;
      }
