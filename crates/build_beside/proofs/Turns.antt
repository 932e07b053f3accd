-- What a turn of a pass is of a session, and how turns follow one another.
use Rattle.std.proofs.Common.{◌≡◌, ◌<◌, ℕ, Bool, true, false, nat_eq, if◌then◌else◌, List, [], ◌∷◌, ◌++◌, refl, sym, ap, ◌∙◌, subst, arith, append-nil, append_assoc}
use Rattle.std.specs.Prelude.{Result, Ok, Err, IfOk, OnErr}
use Rattle.std.specs.declared.alloc.AllocError.{AllocError}
use Rattle.std.specs.List.{AllByRecursion}
use Rattle.res_path.proofs.Spelled.{both}
use Rattle.core_event.specs.declared.entry.Entry.{Entry}
use Rattle.core_event.specs.declared.event.Event.{Event}
use Rattle.core_event.specs.declared.reply.Answer.{Answer}
use Rattle.ws_core.specs.States.{Moment}
use Rattle.ws_core.specs.Steps.{step}
use Rattle.ws_core.specs.Histories.{Legal, after, entered, entry_of, has_entered, replay}
use Rattle.ws_core.specs.Sessions.{IsConsistent}
use Rattle.ws_core.proofs.Grown.{entered_append, replay_append, replay_more}
use Rattle.ws_core.proofs.SoundKept.{step_sound}
use Rattle.ws_turn.specs.Lists.{StartsWith, of}
use Rattle.ws_turn.proofs.Lists.{of_append}
use Rattle.pass_turns.specs.Turns.{IsFaithful, Knows, TookTurn}
use Rattle.pass_turns.proofs.There.{none_between}
use Rattle.pass_history.proofs.Given.{replay_next}
use Rattle.build_core.specs.Histories.{Steps, may_build}
use Rattle.build_history.specs.Events.{IsBuilding, IsOwn}
use Rattle.build_history.proofs.Keeping.{later_replies}
use Rattle.build_history.proofs.Lists.{all_append}
use Rattle.build_beside.specs.Turns.{Answered, Grew, IsOpening, IsSame, Looked, Made, WasMade, pass_of, session}
use Rattle.build_beside.proofs.Below.{all_below}
use Rattle.build_beside.proofs.Others.{Keeps, others_keep}

pub replay_sound : (s : Moment) (h : List Entry) → IsConsistent s → IsConsistent (replay s h)
replay_sound s [] sound = sound
replay_sound s (x ∷ h) sound = replay_sound (after s x) h (step_sound s x.pass x.event sound)

-- ---- what a turn left

pub none_since : (k : Knows Entry) → IsFaithful pass_of k → (found : List Entry) (w : StartsWith found k.seen) → of pass_of k.number found ≡ k.mine → of pass_of k.number w.0 ≡ []
none_since k faithful found w own = none_between pass_of k.number k.seen w.0 k.mine faithful.own (ap (of pass_of k.number) (sym w.1) ∙ own)

module _ {A : Type 0} (s : Moment) (k j : Knows Entry) (faithful : IsFaithful pass_of k) where
  pub same_turn : (did : Moment → ℕ → List Entry → List Entry → A → Type 0) (a : A) → TookTurn pass_of Legal did s a k j → IsSame k j
  same_turn did a t = record { number = t.number; lost = t.lost; faithful = t.faithful }

  pub looked_turn : (did : Moment → ℕ → List Entry → List Entry → A → Type 0) (a : A) (t : TookTurn pass_of Legal did s a k j) → t.added ≡ [] → Looked k.number s k.seen j.seen
  looked_turn did a t none = record {
    between = t.begins.0;
    others = none_since k faithful t.found t.begins t.own_found;
    are = t.seen ∙ (ap (λ l. t.found ++ l) none ∙ (append-nil t.found ∙ t.begins.1));
    legal = t.legal_seen;
  }

  abbrev pub made_turn : (did : Moment → ℕ → List Entry → List Entry → A → Type 0) (e : Event) (a : A) (t : TookTurn pass_of Legal did s a k j) → t.added ≡ entry_of (replay s t.found) k.number e ∷ [] → Made k.number e s k.seen j.seen
  made_turn did e a t one = record {
    between = t.begins.0;
    others = none_since k faithful t.found t.begins t.own_found;
    are = t.seen ∙ (ap (λ l. t.found ++ l) one ∙ ap (λ f. f ++ entry_of (replay s f) k.number e ∷ []) t.begins.1);
    legal_found = subst (Legal s) t.begins.1 t.legal_found;
    legal = t.legal_seen;
  }

  pub answered_turn : (did : Moment → ℕ → List Entry → List Entry → A → Type 0) (e : Event) (a : A) (answer : Answer) (t : TookTurn pass_of Legal did s a k j) → t.added ≡ entry_of (replay s t.found) k.number e ∷ []
      → answer ≡ (step (replay s t.found) k.number e).1.answer → Answered k.number e s answer k.seen j.seen
  answered_turn did e a answer t one told = record {
    made = made_turn did e a t one;
    told = told ∙ ap (λ f. (step (replay s f) k.number e).1.answer) t.begins.1;
  }

-- by what it was answered
module _ (e : Event) (s : Moment) (k j : Knows Entry) (faithful : IsFaithful pass_of k) where
  pub turn_ok : (r : Result Answer AllocError) → TookTurn pass_of Legal (λ o n. WasMade e o n) s r k j → IfOk r (λ a. Answered k.number e s a k.seen j.seen)
  turn_ok (Ok a) t = answered_turn s k j faithful (λ o n. WasMade e o n) e (Ok a) a t t.did_it.entry t.did_it.told
  turn_ok (Err x) t = tt

  pub turn_err : (r : Result Answer AllocError) → TookTurn pass_of Legal (λ o n. WasMade e o n) s r k j → OnErr r (Looked k.number s k.seen j.seen)
  turn_err (Ok a) t = tt
  turn_err (Err x) t = looked_turn s k j faithful (λ o n. WasMade e o n) (Err x) t t.did_it.nothing

-- ---- turns that follow one another

pub same_on : (k j i : Knows Entry) → IsSame k j → IsSame j i → IsSame k i
same_on k j i p q = record { number = q.number ∙ p.number; lost = q.lost ∙ p.lost; faithful = q.faithful }

none_both : (n : ℕ) (a b : List Entry) → of pass_of n a ≡ [] → of pass_of n b ≡ [] → of pass_of n (a ++ b) ≡ []
none_both n a b h g = of_append pass_of n a b ∙ (λ i. h i ++ g i)

pub looked_itself : (n : ℕ) (s : Moment) (g : List Entry) → Legal s g → Looked n s g g
looked_itself n s g legal = record { between = []; others = refl; are = sym (append-nil g); legal = legal }

module _ (n : ℕ) (s : Moment) (g h l : List Entry) (p : Looked n s g h) where
  pub looked_on : Looked n s h l → Looked n s g l
  looked_on q = record {
    between = p.between ++ q.between;
    others = none_both n p.between q.between p.others q.others;
    are = q.are ∙ (ap (λ z. z ++ q.between) p.are ∙ append_assoc g p.between q.between);
    legal = q.legal;
  }

  pub looked_answered : (e : Event) (a : Answer) → Answered n e s a h l → Answered n e s a g l
  looked_answered e a q = record {
    made = record {
      between = p.between ++ q.made.between;
      others = none_both n p.between q.made.between p.others q.made.others;
      are = q.made.are ∙ ap (λ f. f ++ entry_of (replay s f) n e ∷ []) same;
      legal_found = subst (Legal s) same q.made.legal_found;
      legal = q.made.legal;
    };
    told = q.told ∙ ap (λ f. (step (replay s f) n e).1.answer) same;
  }
    where
      same : h ++ q.made.between ≡ g ++ (p.between ++ q.made.between)
      same = ap (λ z. z ++ q.made.between) p.are ∙ append_assoc g p.between q.made.between

-- ---- a session's step

-- the event was done in the session that it found
pub made_steps : (n : ℕ) (e : Event) (s : Moment) (g h : List Entry) → IsOpening s → (m : Made n e s g h) → Steps n e (session s (g ++ m.between)) (session s h)
made_steps n e s g h opening m = record {
  sound = replay_sound s (g ++ m.between) opening.sound;
  placed = refl;
  opened = refl;
  state = ap (replay s) m.are ∙ replay_more s (g ++ m.between) (entry_of (replay s (g ++ m.between)) n e);
  history = m.are;
}

-- the pass was there, so its number is below the next one
pub made_below : (n : ℕ) (e : Event) (s : Moment) (g h : List Entry) → IsOpening s → Made n e s g h → n < (replay s h).manager.passes.next
made_below n e s g h opening m =
    let f = g ++ m.between in
    let x = entry_of (replay s f) n e in
    let there : has_entered n (replay s f) ≡ true =
    (both (has_entered n (replay s f)) true (both (entered s f) (entered (replay s f) (x ∷ [])) (sym (entered_append s f (x ∷ [])) ∙ (ap (entered s) (sym m.are) ∙ m.legal.entered))).1).0 in
    let lt = all_below s f opening.first n there in
    let up = replay_next (replay s f) (x ∷ []) in
    let same = ap (λ z. z.manager.passes.next) (ap (replay s) m.are ∙ replay_append s f (x ∷ [])) in
    omega (arith, lt, up, same)

-- for a pass that may build others changed markers alone meanwhile
pub keeps_between : (n : ℕ) (s : Moment) (g between : List Entry) → IsOpening s → n < (replay s g).manager.passes.next → may_build (replay s g) n ≡ true → Legal s (g ++ between) → of pass_of n between ≡ []
    → Keeps n (replay s g) (replay s (g ++ between))
keeps_between n s g between opening lt may legal none =
    subst (Keeps n (replay s g)) (sym (replay_append s g between))
    (others_keep (replay s g) n between (replay_sound s g opening.sound) lt may (later_replies s g between legal.replies) none)

-- ---- what a pass made since

pub grew_none : (n : ℕ) (g : List Entry) → Grew n g g
grew_none n g = record { since = []; are = sym (append-nil g); own = tt }

pub grew_on : (n : ℕ) (g h l : List Entry) → Grew n g h → Grew n h l → Grew n g l
grew_on n g h l p q = record {
  since = p.since ++ q.since;
  are = q.are ∙ (ap (λ z. z ++ q.since) p.are ∙ append_assoc g p.since q.since);
  own = subst (AllByRecursion (IsOwn n)) (sym (of_append pass_of n p.since q.since)) (all_append (IsOwn n) (of pass_of n p.since) (of pass_of n q.since) p.own q.own);
}

pub looked_grew : (n : ℕ) (s : Moment) (g h : List Entry) → Looked n s g h → Grew n g h
looked_grew n s g h p = record { since = p.between; are = p.are; own = subst (AllByRecursion (IsOwn n)) (sym p.others) tt }

own_one : (n : ℕ) (x : Entry) → IsOwn n x → AllByRecursion (IsOwn n) (of pass_of n (x ∷ []))
own_one n x own = by (nat_eq x.pass n)
  where
    by : (b : Bool) → AllByRecursion (IsOwn n) (if b then x ∷ [] else [])
    by true = (own, tt)
    by false = tt

pub made_grew : (n : ℕ) (e : Event) (s : Moment) (g h : List Entry) → IsBuilding e → Made n e s g h → Grew n g h
made_grew n e s g h building m =
    let x = entry_of (replay s (g ++ m.between)) n e in record {
      since = m.between ++ x ∷ [];
      are = m.are ∙ append_assoc g m.between (x ∷ []);
      own = subst (AllByRecursion (IsOwn n)) (sym (of_append pass_of n m.between (x ∷ []) ∙ ap (λ l. l ++ of pass_of n (x ∷ [])) m.others)) (own_one n x (record { pass = refl; building = building }));
    }
