-- A build of a pass comes to it.
use Rattle.std.proofs.Common.{◌≡◌, ◌⊎◌, inl, inr, ◌+◌, ℕ, List, [], ◌∷◌, ◌++◌, Option, length, refl, sym, ap, ◌∙◌, subst, arith, append_assoc, append-nil, length-append}
use Rattle.std.specs.Prelude.{Result, Ok, Err, MatchResult}
use Rattle.std.specs.declared.alloc.AllocError.{AllocError}
use Rattle.std.specs.List.{AllByRecursion}
use Rattle.run_order.specs.Lists.{own, Cut, Grew}
use Rattle.run_order.specs.Fronts.{enters, lets_in}
use Rattle.run_order.proofs.Lists.{cut_none, own_append, own_more, same_tail}
use Rattle.builder_api.specs.declared.kind.BuildKind.{BuildKind}
use Rattle.builder_api.specs.Meanings.{Meanings}
use Rattle.build_run.specs.declared.answers.BuildAnswer.{BuildAnswer}
use Rattle.build_run.specs.Commands.{IsUnanswered}
use Rattle.core_event.specs.declared.entry.Entry.{Entry}
use Rattle.core_event.specs.declared.event.Event.{Event}
use Rattle.core_event.specs.declared.event.Event.TheVariants as events
use Rattle.ws_core.specs.States.{Moment}
use Rattle.ws_core.specs.Histories.{replay}
use Rattle.ws_turn.specs.Lists.{StartsWith}
use Rattle.pass_turns.specs.Turns.{IsFaithful, Knows}
use Rattle.build_core.proofs.Entered.{entries_append}
use Rattle.build_core.specs.Histories.{entries_of}
use Rattle.build_history.specs.Events.{IsBuilding, IsOwn}
use Rattle.build_beside.specs.Beside.{IsBuildBeside, IsCutBeside, WasBuilt, book_in}
use Rattle.build_beside.specs.Turns.{pass_of}
use Rattle.build_among.specs.Among.{IsBuildAmong}
use Rattle.build_among.proofs.Cutting.{cut_among, some_among}

-- of two beginnings of a list the one is a beginning of the other
pub compared : (a b t u : List Entry) → a ++ t ≡ b ++ u → StartsWith b a ⊎ StartsWith a b
compared [] b t u e = inl (b, refl)
compared (x ∷ a) [] t u e = inr (x ∷ a, refl)
compared (x ∷ a) (y ∷ b) t u e = by (compared a b t u (ap tail_of e))
  where
    tail_of : List Entry → List Entry
    tail_of [] = []
    tail_of (z ∷ zs) = zs

    head_of : List Entry → Entry
    head_of [] = x
    head_of (z ∷ zs) = z

    by : StartsWith b a ⊎ StartsWith a b → StartsWith (y ∷ b) (x ∷ a) ⊎ StartsWith (x ∷ a) (y ∷ b)
    by (inl r) = inl (r.0, ap (λ l. y ∷ l) r.1 ∙ ap (λ z. z ∷ (a ++ r.0)) (sym (ap head_of e)))
    by (inr r) = inr (r.0, ap (λ l. x ∷ l) r.1 ∙ ap (λ z. z ∷ (b ++ r.0)) (ap head_of e))

-- nothing comes before the end of what it is added to
pub none_more : (a l m : List Entry) → a ≡ (a ++ l) ++ m → l ≡ []
none_more a [] m e = refl
none_more a (x ∷ l) m e =
    let i = ap length e in
    let j = length-append (a ++ x ∷ l) m in
    let k = length-append a (x ∷ l) in
    absurd (omega (arith, i, j, k))

module _ (ms : Meanings) (kind : BuildKind) (project : Option (List ℕ)) (s : Moment) (k j : Knows Entry) (f : IsFaithful pass_of k) where
  -- what the pass made after a history, where it knows what it made in all
  pub its_since : (since l : List Entry) → own k.number (k.seen ++ since) ≡ k.mine ++ l → own k.number since ≡ l
  its_since since l e = own_more k.number k.seen since l (e ∙ ap (λ z. z ++ l) (sym f.own))

  module _ (r : Result BuildAnswer AllocError) (w : WasBuilt ms kind project s r k j) where
    pub mine_is : own k.number j.seen ≡ k.mine ++ w.made.0
    mine_is = subst (λ n. own n j.seen ≡ k.mine ++ w.made.0) w.number (w.faithful.own ∙ w.made.1)

    whole : (a : BuildAnswer) → IsBuildBeside ms k.number kind project s k.seen j.seen a → IsBuildAmong ms k.number kind project w.made.0
    whole a b = record {
      state = replay s k.seen;
      history = w.begins.0;
      its = its_since w.begins.0 w.made.0 (ap (own k.number) (sym w.begins.1) ∙ mine_is);
      before = book_in s k.number 0 [] b.told k.seen;
      answer = a;
      after = book_in s k.number b.start b.began b.now j.seen;
      answered = b.answered;
      mine = ap (entries_of k.number s) w.begins.1 ∙ entries_append k.number s k.seen w.begins.0;
      building = w.made.2;
    }

    stopped : (h : List Entry) → StartsWith j.seen h → own k.number h ≡ j.mine → IsCutBeside ms k.number kind project s k.seen h → Cut (IsBuildAmong ms k.number kind project) w.made.0
    stopped h starts its cut = by (compared k.seen h w.begins.0 starts.0 (sym w.begins.1 ∙ starts.1))
      where
        by : StartsWith h k.seen ⊎ StartsWith k.seen h → Cut (IsBuildAmong ms k.number kind project) w.made.0
        by (inl after) =
            let same : own k.number after.0 ≡ w.made.0 = its_since after.0 w.made.0 (ap (own k.number) (sym after.1) ∙ (its ∙ w.made.1)) in
            subst (Cut (IsBuildAmong ms k.number kind project)) same
            (cut_among ms k.number kind project s k.seen after.0 (subst (AllByRecursion (IsOwn k.number)) (sym same) w.made.2) cut.start [] cut.told cut.now cut.began
            (subst (λ z. IsUnanswered ms kind project (book_in s k.number 0 [] cut.told k.seen) (book_in s k.number cut.start cut.began cut.now z)) after.1 cut.unanswered))
        by (inr before) =
            let none : w.made.0 ≡ [] = none_more k.mine w.made.0 (own k.number before.0)
            (sym f.own ∙ (ap (own k.number) before.1 ∙ (own_append k.number h before.0 ∙ ap (λ z. z ++ own k.number before.0) (its ∙ w.made.1)))) in
            subst (Cut (IsBuildAmong ms k.number kind project)) (sym none) (cut_none (IsBuildAmong ms k.number kind project) (some_among ms k.number kind project))

  -- what a build of a pass left is a build among others' entries, or the first ones of one
  pub built_among : (r : Result BuildAnswer AllocError) → WasBuilt ms kind project s r k j
      → MatchResult r (λ _. Grew (IsBuildAmong ms k.number kind project) k.mine j.mine) (λ _. Grew (Cut (IsBuildAmong ms k.number kind project)) k.mine j.mine)
  built_among (Ok a) w = (w.made.0, w.made.1, whole (Ok a) w a w.built)
  built_among (Err e) w = (w.made.0, w.made.1, stopped (Err e) w w.cut.0 w.cut.1 w.cut.2 w.cut.3)

-- ---- none of its entries lets a pass in

building_enters : (e : Event) → IsBuilding e → lets_in e ≡ 0
building_enters events.Enter h = absurd h
building_enters e h = refl

own_enters : (k : ℕ) (h : List Entry) → AllByRecursion (IsOwn k) h → enters h ≡ 0
own_enters k [] all = refl
own_enters k (x ∷ h) all = let first = building_enters x.event all.0.building in let rest = own_enters k h all.1 in omega (arith, first, rest)

pub among_enters : (ms : Meanings) (k : ℕ) (kind : BuildKind) (project : Option (List ℕ)) (h : List Entry) → IsBuildAmong ms k kind project h → enters h ≡ 0
among_enters ms k kind project h m = own_enters k h m.building
