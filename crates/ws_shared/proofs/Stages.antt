-- A save goes on, while other passes do.
use Rattle.std.proofs.Common.{◌≡◌, ℕ, Bool, true, false, List, [], ◌∷◌, ◌++◌, map, refl, sym, ap, ◌∙◌, subst, append-nil, append_assoc}
use Rattle.std.specs.Prelude.{Option, Some, None, Result, Ok, Err, IfSome, is_some}
use Rattle.std.specs.Option.{ForSome, option_map}
use Rattle.std.specs.declared.alloc.AllocError.{AllocError}
use Rattle.ws_outside.specs.declared.contents.Contents.{Contents}
use Rattle.ws_durable.specs.declared.durable.Durable.{Durable}
use Rattle.ws_durable.specs.Saved.{saved}
use Rattle.save_format.specs.Valid.{Valid}
use Rattle.save_store.specs.Stored.{IsNarrow}
use Rattle.save_kind.specs.declared.answer.SaveAnswer.{SaveAnswer}
use Rattle.save_kind.specs.declared.kind.SaveKind.{SaveKind}
use Rattle.core_event.specs.declared.entry.Entry.{Entry}
use Rattle.core_event.specs.declared.service.ServiceEvent.TheVariants.{Saving}
use Rattle.ws_core.specs.States.{Moment}
use Rattle.ws_core.specs.Histories.{Legal, replay, replies}
use Rattle.ws_core.proofs.Grown.{replay_append}
use Rattle.ws_core.specs.Durables.{durable_of}
use Rattle.save_history.specs.Kept.{Keeper, IsKept, IsTried, points_at}
use Rattle.save_history.specs.Points.{IsAsked}
use Rattle.save_history.specs.Rounds.{Begun, Rounds, no_rounds, rounds_after, rounds_of, with_states}
use Rattle.save_history.specs.Saves.{IsDone}
use Rattle.save_history.specs.Stages.{IsUnderWay}
use Rattle.save_history.specs.Steps.{Keeps, step_of, steps_of}
use Rattle.save_history.proofs.Rounds.{done_step, rounds_on}
use Rattle.save_history.proofs.Safe.{asked_keeps, kept_keeps}
use Rattle.ws_turn.specs.Lists.{StartsWith, of}
use Rattle.pass_turns.specs.Turns.{IsFaithful, Knows, TookTurn}
use Rattle.pass_turns.proofs.There.{none_between}
use Rattle.pass_turns.proofs.Waited.{starts_on}
use Rattle.pass_history.specs.Served.{services_of, was_done}
use Rattle.pass_history.proofs.Serving.{serving_of}
use Rattle.pass_history.proofs.Standing.{OthersQuiet, others_stand, taken_for}
use Rattle.ws_locked.specs.Fits.{session}
use Rattle.ws_locked.specs.Moved.{WereKept}
use Rattle.ws_locked.proofs.Fitting.{points_stay, served_one, services_stay, steps_one, steps_stay, store_same}
use Rattle.ws_shared.specs.Calls.{pass_of}
use Rattle.ws_shared.specs.declared.saving.Try.{Try}
use Rattle.ws_shared.specs.Inside.Hosts.{EndsSo, IsAt, IsThrough, States, book_of, plainly}
use Rattle.save_round.specs.Told.{Told as PartTold}
use Rattle.save_run.specs.Saves.{HasEnded}
use Rattle.ws_shared.proofs.Coming.{replies_rest}
use Rattle.ws_shared.proofs.Courses.{AreOnlyKept, IsOnlyBegun, came_to, ended_is}

pub for_some : {T : Type 0} (o : Option T) (P : T → Type 0) → IfSome o P → ForSome o P
for_some None P p = λ x e. let no : None ≡ Some x = e in cc
for_some (Some y) P p = λ x e. subst P (let same : Some y ≡ Some x = e in cc) p

pub none_for : {T : Type 0} (P : T → Type 0) → ForSome None P
none_for P = λ x e. let no : None ≡ Some x = e in cc

-- the entries of others since a pass that has the services has looked
pub others_since : (s : Moment) (n : ℕ) (seen mine found : List Entry) (w : StartsWith found seen) → of pass_of n seen ≡ mine → of pass_of n found ≡ mine → Legal s found → serving_of (replay s seen) ≡ Some n
    → OthersQuiet n (replay s seen) w.0
others_since s n seen mine found w own whole legal serves =
    others_stand (replay s seen) n w.0 (replies_rest s seen w.0 (subst (λ l. map (λ (x : Entry). x.reply) l ≡ replies s l) w.1 legal.replies))
    (none_between pass_of n seen w.0 mine own (ap (of pass_of n) (sym w.1) ∙ whole)) serves

module _ {D : Type 0} (moment : D → ℕ) (left_since : D → ℕ → Contents → Type 0) (may_leave : D → Contents → Type 0) (faults : D → ℕ)
    (s : Moment) where
  abbrev At : Knows Entry → Knows Entry → Keeper D → SaveKind → Option States → Option Durable → Option Try → Option SaveAnswer → Type 0
  At k j keeper kind kept now written ended = IsAt moment left_since may_leave faults s k j keeper kind kept now written ended

  -- what holds of a history in which the save has begun
  pub record Goes (k : Knows Entry) (keeper : Keeper D) (kind : SaveKind) (h : List Entry) : Type 0 where
    pub begins : StartsWith h k.seen
    pub legal : Legal s h
    pub under_way : IsUnderWay k.number false (replay s h)
    pub ended_before : (rounds_of h).ended ≡ (rounds_of k.seen).ended
    pub round : (rounds_of h).under ≡ Some (record { kind = kind; kept = None })
    pub served : services_of s h ≡ services_of s k.seen
    pub store : IsKept moment left_since may_leave faults (session s h) keeper

  -- it holds on while others go on
  goes_on : (k j : Knows Entry) (keeper : Keeper D) (kind : SaveKind) (now : Option Durable) (rest : List Entry) → At k j keeper kind None now None None → OthersQuiet k.number (replay s j.seen) rest
      → Legal s (j.seen ++ rest) → Goes k keeper kind (j.seen ++ rest)
  goes_on k j keeper kind now rest at q legal = record {
    begins = starts_on k.seen j.seen (j.seen ++ rest) (rest, refl) at.begins;
    legal = legal;
    under_way = record {
      services = ap serving_of (replay_append s j.seen rest) ∙ q.serving;
      serving = ap taken_for (replay_append s j.seen rest) ∙ (q.taken ∙ at.under_way.serving);
    };
    ended_before = ap (λ l. (rounds_after no_rounds l).ended) (steps_stay j.seen rest q.quiet) ∙ at.ended_before;
    round = ap (λ l. (rounds_after no_rounds l).under) (steps_stay j.seen rest q.quiet) ∙ at.round;
    served = services_stay s j.seen rest q.quiet ∙ (at.served ∙ (ap (λ l. services_of s k.seen ++ map plainly l) at.added.2 ∙ append-nil (services_of s k.seen)));
    store = store_same moment left_since may_leave faults (λ _ _ _. Unit {0}) (record { state = s; builders = []; participants = [] }) keeper s j.seen (j.seen ++ rest) keeper (λ p. points_stay p s j.seen rest q.quiet) (steps_stay j.seen rest q.quiet) at.store;
  }

  pub goes_found : (k j : Knows Entry) (keeper : Keeper D) (kind : SaveKind) (now : Option Durable) (found : List Entry) → At k j keeper kind None now None None → StartsWith found j.seen → of pass_of j.number found ≡ j.mine
      → Legal s found → Goes k keeper kind found
  goes_found k j keeper kind now found at w own legal =
      subst (Goes k keeper kind) (sym w.1)
      (goes_on k j keeper kind now w.0 at
      (others_since s k.number j.seen j.mine found w (subst (λ n. of pass_of n j.seen ≡ j.mine) at.number at.faithful.own) (subst (λ n. of pass_of n found ≡ j.mine) at.number own) legal at.under_way.services)
      (subst (Legal s) w.1 legal))

  -- ---- a pass that took a turn to keep states

  module _ (k j i : Knows Entry) (keeper : Keeper D) (kind : SaveKind) (now : Option Durable) (at : At k j keeper kind None now None None) (found added : List Entry) (goes : Goes k keeper kind found)
      (number : i.number ≡ j.number) (lost : i.lost ≡ j.lost) (seen : i.seen ≡ found ++ added) (mine : i.mine ≡ j.mine ++ added) (faithful : IsFaithful pass_of i) (legal : Legal s i.seen) where
    -- where memory wanted
    pub at_nothing : added ≡ [] → At k i keeper kind None now None None
    at_nothing none =
        let same : found ≡ i.seen = sym (seen ∙ (ap (λ l. found ++ l) none ∙ append-nil found)) in
        let g = subst (Goes k keeper kind) same goes in
        record {
          begins = g.begins;
          number = number ∙ at.number;
          lost = lost ∙ at.lost;
          added = (at.added.0, mine ∙ (ap (λ l. j.mine ++ l) none ∙ (append-nil j.mine ∙ at.added.1)), at.added.2);
          legal = legal;
          faithful = faithful;
          under_way = g.under_way;
          ended_before = g.ended_before;
          round = g.round;
          served = g.served ∙ sym (ap (λ l. services_of s k.seen ++ map plainly l) at.added.2 ∙ append-nil (services_of s k.seen));
          store = g.store;
          valid = at.valid;
          unasked = at.unasked;
          asked = λ none. subst (λ d. ForSome d (λ y. IsAsked (points_at (session s i.seen) keeper) (saved y))) (sym (at.unasked refl)) (none_for (λ y. IsAsked (points_at (session s i.seen) keeper) (saved y)));
          ends = none_for _;
        }

    module _ (states : States) (x : Entry) (one : added ≡ x ∷ []) (is : IsDone k.number (Saving states) x) where
      then_one : i.seen ≡ found ++ x ∷ []
      then_one = seen ∙ ap (λ l. found ++ l) one

      made : step_of x.event x.reply.answer ≡ Some (Keeps states)
      made = done_step k.number (Saving states) x is

      rounds : rounds_of (found ++ x ∷ []) ≡ rounds_after (rounds_of found) (Keeps states ∷ [])
      rounds = rounds_on found (found ++ x ∷ []) (x ∷ []) (Keeps states ∷ []) refl (steps_one x (Some (Keeps states)) made)

      done : was_done x.reply.answer ≡ true
      done = ap was_done is.answer_is

      -- and where they are kept
      pub at_kept : (then : Option Durable) → IsUnderWay k.number true (replay s (found ++ x ∷ [])) → ForSome then (λ d. saved d ≡ durable_of (replay s (found ++ x ∷ [])))
          → ForSome then (λ d. IsNarrow d → Valid (saved d)) → At k i keeper kind (Some states) then None None
      at_kept then under lasts valid = record {
        begins = subst (λ l. StartsWith l k.seen) (sym then_one) (starts_on k.seen found (found ++ x ∷ []) (x ∷ [], refl) goes.begins);
        number = number ∙ at.number;
        lost = lost ∙ at.lost;
        added = (x ∷ [], mine ∙ (ap (λ l. j.mine ++ l) one ∙ ap (λ l. l ++ x ∷ []) (at.added.1 ∙ (ap (λ l. k.mine ++ l) at.added.2 ∙ append-nil k.mine))), (x, refl, is));
        legal = legal;
        faithful = faithful;
        under_way = subst (λ l. IsUnderWay k.number true (replay s l)) (sym then_one) under;
        ended_before = ap (λ l. (rounds_of l).ended) then_one ∙ (ap (λ (r : Rounds). r.ended) rounds ∙ goes.ended_before);
        round = ap (λ l. (rounds_of l).under) then_one ∙ (ap (λ (r : Rounds). r.under) rounds ∙ ap (λ b. option_map (with_states states) b) goes.round);
        served = ap (λ l. services_of s l) then_one ∙ (served_one s found x (Saving states) is.event_is done ∙ ap (λ l. l ++ plainly x ∷ []) goes.served);
        store = subst (λ l. IsKept moment left_since may_leave faults (session s l) keeper) (sym then_one)
            (kept_keeps moment left_since may_leave faults keeper (session s found) (session s (found ++ x ∷ [])) refl refl x refl (replay_append s found (x ∷ [])) states made goes.store);
        valid = valid;
        unasked = λ none. let no : Some states ≡ None = none in cc;
        asked = λ none. λ d is_it. subst (λ l. IsAsked (points_at (session s l) keeper) (saved d)) (sym then_one)
            (subst (IsAsked (points_at (session s (found ++ x ∷ [])) keeper)) (sym (lasts d is_it))
            (asked_keeps moment left_since may_leave faults keeper (session s found) (session s (found ++ x ∷ [])) refl refl x refl (replay_append s found (x ∷ [])) states made));
        ends = none_for _;
      }

  -- ---- what was kept is written

  pub at_tried : (k j : Knows Entry) (old new : Keeper D) (kind : SaveKind) (states : States) (now : Option Durable) (t : Try) → At k j old kind (Some states) now None None
      → IsTried moment left_since may_leave faults t.result (session s j.seen) new → At k j new kind (Some states) now (Some t) None
  at_tried k j old new kind states now t at tried = record {
    begins = at.begins;
    number = at.number;
    lost = at.lost;
    added = at.added;
    legal = at.legal;
    faithful = at.faithful;
    under_way = at.under_way;
    ended_before = at.ended_before;
    round = at.round;
    served = at.served;
    store = tried;
    valid = at.valid;
    unasked = at.unasked;
    asked = λ none. let no : Some t ≡ None = none in cc;
    ends = none_for _;
  }

  -- and how it is to end is known
  pub at_end : (k j : Knows Entry) (keeper : Keeper D) (kind : SaveKind) (kept : Option States) (now : Option Durable) (written : Option Try) (ended : Option SaveAnswer) (a : SaveAnswer) → EndsSo kept written a
      → At k j keeper kind kept now written ended → At k j keeper kind kept now written (Some a)
  at_end k j keeper kind kept now written ended a so at = record {
    begins = at.begins;
    number = at.number;
    lost = at.lost;
    added = at.added;
    legal = at.legal;
    faithful = at.faithful;
    under_way = at.under_way;
    ended_before = at.ended_before;
    round = at.round;
    served = at.served;
    store = at.store;
    valid = at.valid;
    unasked = at.unasked;
    asked = at.asked;
    ends = λ b e. subst (EndsSo kept written) (let same : Some a ≡ Some b = e in cc) so;
  }

  -- ---- the same by what a host has come to

  pub begun_at : (b : Bool) (k j : Knows Entry) (keeper : Keeper D) (kind : SaveKind) (kept : Option States) (now : Option Durable) (written : Option Try) (ended : Option SaveAnswer) → IsOnlyBegun b kept written ended
      → At k j keeper kind kept now written ended → At k j keeper kind None now None None
  begun_at b k j keeper kind kept now written ended only at =
      subst (λ z. At k j keeper kind None now None z) only.ended
      (subst (λ z. At k j keeper kind None now z ended) only.written (subst (λ z. At k j keeper kind z now written ended) only.kept at))

  pub kept_at : (b : Bool) (k j : Knows Entry) (keeper : Keeper D) (kind : SaveKind) (kept : Option States) (now : Option Durable) (written : Option Try) (ended : Option SaveAnswer) (only : AreOnlyKept b kept written ended)
      → At k j keeper kind kept now written ended → At k j keeper kind (Some only.states) now None None
  kept_at b k j keeper kind kept now written ended only at =
      subst (λ z. At k j keeper kind (Some only.states) now None z) only.ended
      (subst (λ z. At k j keeper kind (Some only.states) now z ended) only.written (subst (λ z. At k j keeper kind z now written ended) only.kept at))

  -- before states are kept the save is under way at each history that the pass may find
  pub may_keep : (k j : Knows Entry) (keeper : Keeper D) (kind : SaveKind) (now : Option Durable) (found : List Entry) → At k j keeper kind None now None None → StartsWith found j.seen → of pass_of j.number found ≡ j.mine
      → Legal s found → IsUnderWay j.number false (replay s found)
  may_keep k j keeper kind now found at w own legal = subst (λ n. IsUnderWay n false (replay s found)) (sym at.number) (goes_found k j keeper kind now found at w own legal).under_way

  module _ (k j i : Knows Entry) (keeper : Keeper D) (kind : SaveKind) (now : Option Durable) (at : At k j keeper kind None now None None) (states : States) where
    abbrev Took : Result (Option Durable) AllocError → Type 0
    Took answer = TookTurn pass_of Legal (λ b n. WereKept states b n) s answer j i

    goes : (answer : Result (Option Durable) AllocError) (t : Took answer) → Goes k keeper kind t.found
    goes answer t = goes_found k j keeper kind now t.found at t.begins t.own_found t.legal_found

    pub keep_ok : (then : Option Durable) → Took (Ok then) → At k i keeper kind (Some states) then None None
    keep_ok then t =
        let x = t.did_it.entry in
        let under = subst (λ n. IsUnderWay n true (replay s (t.found ++ t.added))) at.number t.did_it.under_way in
        at_kept k j i keeper kind now at t.found t.added (goes (Ok then) t) t.number t.lost t.seen t.mine t.faithful t.legal_seen states x.0 x.1 (subst (λ n. IsDone n (Saving states) x.0) at.number x.2) then
        (subst (λ l. IsUnderWay k.number true (replay s (t.found ++ l))) x.1 under)
        (subst (λ l. ForSome then (λ d. saved d ≡ durable_of (replay s (t.found ++ l)))) x.1 (for_some then _ t.did_it.lasts))
        (for_some then _ t.did_it.valid)

    pub keep_err : (e : AllocError) → Took (Err e) → At k i keeper kind None now None None
    keep_err e t = at_nothing k j i keeper kind now at t.found t.added (goes (Err e) t) t.number t.lost t.seen t.mine t.faithful t.legal_seen t.did_it.nothing

  -- it was written
  pub tried_at : (b : Bool) (k j : Knows Entry) (old new : Keeper D) (kind : SaveKind) (kept : Option States) (now : Option Durable) (written : Option Try) (ended : Option SaveAnswer) (only : AreOnlyKept b kept written ended) (t : Try)
      → At k j old kind kept now written ended
      → (ForSome now (λ d. IsAsked (points_at (session s j.seen) old) (saved d)) → IsKept moment left_since may_leave faults (session s j.seen) old → IsTried moment left_since may_leave faults t.result (session s j.seen) new)
      → At k j new kind kept now (Some t) ended
  tried_at b k j old new kind kept now written ended only t at tried =
      let a = kept_at b k j old kind kept now written ended only at in
      subst (λ z. At k j new kind z now (Some t) ended) (sym only.kept) (subst (λ z. At k j new kind (Some only.states) now (Some t) z) (sym only.ended)
      (at_tried k j old new kind only.states now t a (tried (a.asked refl) a.store)))

  -- no states were kept, since memory wanted
  pub not_kept : (b : Bool) (k j : Knows Entry) (keeper : Keeper D) (kind : SaveKind) (kept : Option States) (now : Option Durable) (written : Option Try) (ended : Option SaveAnswer) → IsOnlyBegun b kept written ended
      → At k j keeper kind None now None None → At k j keeper kind kept now written ended
  not_kept b k j keeper kind kept now written ended only at =
      subst (λ z. At k j keeper kind z now written ended) (sym only.kept) (subst (λ z. At k j keeper kind None now z ended) (sym only.written) (subst (λ z. At k j keeper kind None now None z) (sym only.ended) at))

  -- they were kept
  pub now_kept : (b : Bool) (k j : Knows Entry) (keeper : Keeper D) (kind : SaveKind) (kept : Option States) (states : States) (now : Option Durable) (written : Option Try) (ended : Option SaveAnswer) → IsOnlyBegun b kept written ended
      → At k j keeper kind (Some states) now None None → At k j keeper kind (Some states) now written ended
  now_kept b k j keeper kind kept states now written ended only at =
      subst (λ z. At k j keeper kind (Some states) now z ended) (sym only.written) (subst (λ z. At k j keeper kind (Some states) now None z) (sym only.ended) at)

  -- ---- it came to its end

  pub through : (b : Bool) (k j : Knows Entry) (keeper : Keeper D) (kind : SaveKind) (kept : Option States) (now : Option Durable) (written : Option Try) (ended : Option SaveAnswer) (a : SaveAnswer) (old new : List PartTold)
      → At k j keeper kind kept now written ended → HasEnded kind a (book_of b kind kept written ended) old new → IsThrough moment left_since may_leave faults s k j keeper kind a old new
  through b k j keeper kind kept now written ended a old new at h =
      let went = came_to b kind kept written ended a old new h in
      record {
        kept = kept;
        written = written;
        now = now;
        at = record {
          begins = at.begins;
          number = at.number;
          lost = at.lost;
          added = at.added;
          legal = at.legal;
          faithful = at.faithful;
          under_way = at.under_way;
          ended_before = at.ended_before;
          round = at.round;
          served = at.served;
          store = at.store;
          valid = at.valid;
          unasked = at.unasked;
          asked = at.asked;
          ends = none_for _;
        };
        ends = at.ends a (ended_is b kind kept written ended a old new h);
        deeds = went.deeds;
        keeps = went.keeps;
        came = went.came;
      }

  -- ---- it begins

  pub at_first : {X : Type 0} (k j : Knows Entry) (keeper : Keeper D) (kind : SaveKind) (value : X → States) (kept : Option X) (now : Option Durable) (written : Option Try) (ended : Option SaveAnswer) → kept ≡ None → now ≡ None → written ≡ None → ended ≡ None
      → At k j keeper kind None None None None → At k j keeper kind (option_map value kept) now written ended
  at_first k j keeper kind value kept now written ended a b c d at =
      subst (λ z. At k j keeper kind (option_map value z) now written ended) (sym a)
      (subst (λ z. At k j keeper kind None z written ended) (sym b) (subst (λ z. At k j keeper kind None None z ended) (sym c) (subst (λ z. At k j keeper kind None None None z) (sym d) at)))

  -- the pass has just begun it
  pub at_begun : (k : Knows Entry) (keeper : Keeper D) (kind : SaveKind) → Legal s k.seen → IsFaithful pass_of k → IsUnderWay k.number false (replay s k.seen) → (rounds_of k.seen).under ≡ Some (record { kind = kind; kept = None })
      → IsKept moment left_since may_leave faults (session s k.seen) keeper → At k k keeper kind None None None None
  at_begun k keeper kind legal faithful under round kept = record {
    begins = ([], sym (append-nil k.seen));
    number = refl;
    lost = refl;
    added = ([], sym (append-nil k.mine), refl);
    legal = legal;
    faithful = faithful;
    under_way = under;
    ended_before = refl;
    round = round;
    served = sym (append-nil (services_of s k.seen));
    store = kept;
    valid = none_for _;
    unasked = λ none. refl;
    asked = λ none. none_for _;
    ends = none_for _;
  }
