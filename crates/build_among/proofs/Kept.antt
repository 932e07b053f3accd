-- All builds of a pass are kept, whatever it does after them.
use Rattle.std.proofs.Common.{◌≡◌, ◌⊎◌, inl, inr, ℕ, true, false, if◌then◌else◌, List, [], ◌∷◌, ◌++◌, filter, Option, Some, None, refl, sym, ap, ◌∙◌, subst, append-nil}
use Rattle.std.specs.Prelude.{Result, Ok, Err}
use Rattle.std.specs.declared.alloc.AllocError.{AllocError}
use Rattle.std.specs.List.{AllByRecursion, flat_map}
use Rattle.std.proofs.lemmas.Grind.{flat_map-append}
use Rattle.std.proofs.lemmas.List.Elements.{filter-append}
use Rattle.run_order.specs.Lists.{own, Begins}
use Rattle.run_order.proofs.Lists.{begins_on, begins_same, own_append}
use Rattle.builder_api.specs.declared.kind.BuildKind.{BuildKind}
use Rattle.builder_api.specs.Meanings.{Meanings}
use Rattle.build_run.specs.declared.answers.BuildAnswer.{BuildAnswer}
use Rattle.core_event.specs.declared.entry.Entry.{Entry}
use Rattle.ws_core.specs.States.{Moment}
use Rattle.ws_turn.specs.Lists.{StartsWith}
use Rattle.pass_turns.specs.Turns.{IsFaithful, Knows}
use Rattle.build_history.specs.Events.{NoBuilds, is_of_build}
use Rattle.build_beside.specs.Beside.{IsBuildBeside, IsCutBeside, WasBuilt}
use Rattle.build_beside.specs.Turns.{pass_of}
use Rattle.build_among.specs.Kept.{AreBuilds, OneBuild, WasMade, asked}
use Rattle.build_among.proofs.Built.{compared, none_more}

none_asked : (l : List Entry) → NoBuilds l → filter (λ (x : Entry). is_of_build x.event) l ≡ []
none_asked [] none = refl
none_asked (x ∷ l) none = ap (λ b. if b then x ∷ filter (λ (y : Entry). is_of_build y.event) l else filter (λ (y : Entry). is_of_build y.event) l) none.0 ∙ none_asked l none.1

asked_more : (n : ℕ) (g h l : List Entry) → own n h ≡ own n g ++ l → asked n h ≡ asked n g ++ filter (λ (x : Entry). is_of_build x.event) l
asked_more n g h l e = ap (filter (λ (x : Entry). is_of_build x.event)) e ∙ filter-append (λ (x : Entry). is_of_build x.event) (own n g) l

asked_append : (n : ℕ) (a b : List Entry) → asked n (a ++ b) ≡ asked n a ++ asked n b
asked_append n a b = asked_more n a (a ++ b) (own n b) (own_append n a b)

module _ (ms : Meanings) (s : Moment) (n : ℕ) where
  stand_on : (g h : List Entry) → Begins g h → (bs : List OneBuild) → AllByRecursion (WasMade ms s n g) bs → AllByRecursion (WasMade ms s n h) bs
  stand_on g h on [] all = tt
  stand_on g h on (b ∷ bs) all = (record { stands = begins_on (b.before ++ b.since) g h all.0.stands on; did = all.0.did }, stand_on g h on bs all.1)

  -- no build is added
  pub builds_stay : (g h l : List Entry) → AreBuilds ms s n g → Begins g h → own n h ≡ own n g ++ l → NoBuilds l → AreBuilds ms s n h
  builds_stay g h l are on more none = record {
    builds = are.builds;
    each = stand_on g h on are.builds are.each;
    all = asked_more n g h l more ∙ (ap (λ z. asked n g ++ z) (none_asked l none) ∙ (append-nil (asked n g) ∙ are.all));
  }

  all_one : (P : OneBuild → Type 0) (bs : List OneBuild) (b : OneBuild) → AllByRecursion P bs → P b → AllByRecursion P (bs ++ b ∷ [])
  all_one P [] b all p = (p, tt)
  all_one P (x ∷ bs) b all p = (all.0, all_one P bs b all.1 p)

  -- one more
  builds_more : (g h : List Entry) (b : OneBuild) → AreBuilds ms s n g → b.before ≡ g → Begins g h → WasMade ms s n h b → own n h ≡ own n g ++ own n b.since → AreBuilds ms s n h
  builds_more g h b are at on made more = record {
    builds = are.builds ++ b ∷ [];
    each = all_one (WasMade ms s n h) are.builds b (stand_on g h on are.builds are.each) made;
    all = asked_more n g h (own n b.since) more
        ∙ (ap (λ z. z ++ asked n b.since) are.all
        ∙ (ap (λ z. flat_map (λ (c : OneBuild). asked n c.since) are.builds ++ z) (sym (append-nil (asked n b.since)))
        ∙ sym (flat_map-append (λ (c : OneBuild). asked n c.since) are.builds (b ∷ []))));
  }

-- a build of a pass adds one, or none
module _ (ms : Meanings) (kind : BuildKind) (project : Option (List ℕ)) (s : Moment) (k j : Knows Entry) (f : IsFaithful pass_of k) (are : AreBuilds ms s k.number k.seen) where
  grown : (r : Result BuildAnswer AllocError) (w : WasBuilt ms kind project s r k j) → own k.number j.seen ≡ own k.number k.seen ++ w.made.0
  grown r w = subst (λ n. own n j.seen ≡ own k.number k.seen ++ w.made.0) w.number (w.faithful.own ∙ (w.made.1 ∙ ap (λ z. z ++ w.made.0) (sym f.own)))

  pub builds_go_on : (r : Result BuildAnswer AllocError) → WasBuilt ms kind project s r k j → AreBuilds ms s k.number j.seen
  builds_go_on (Ok a) w = builds_more ms s k.number k.seen j.seen (record { kind = kind; project = project; before = k.seen; since = w.begins.0; answer = Some a }) are refl w.begins
      (record { stands = subst (λ z. Begins z j.seen) w.begins.1 (begins_same j.seen); did = subst (λ z. IsBuildBeside ms k.number kind project s k.seen z a) w.begins.1 w.built })
      (ap (own k.number) w.begins.1 ∙ own_append k.number k.seen w.begins.0)
  builds_go_on (Err e) w = by (compared k.seen w.cut.0 w.begins.0 w.cut.1.0 (sym w.begins.1 ∙ w.cut.1.1))
    where
      by : StartsWith w.cut.0 k.seen ⊎ StartsWith k.seen w.cut.0 → AreBuilds ms s k.number j.seen
      by (inl after) =
          let own_cut : own k.number w.cut.0 ≡ own k.number j.seen = w.cut.2 ∙ (w.made.1 ∙ (ap (λ z. z ++ w.made.0) (sym f.own) ∙ sym (grown (Err e) w))) in
          builds_more ms s k.number k.seen j.seen (record { kind = kind; project = project; before = k.seen; since = after.0; answer = None }) are refl w.begins
          (record { stands = subst (λ z. Begins z j.seen) after.1 w.cut.1; did = subst (λ z. IsCutBeside ms k.number kind project s k.seen z) after.1 w.cut.3 })
          (sym own_cut ∙ (ap (own k.number) after.1 ∙ own_append k.number k.seen after.0))
      by (inr before) =
          let none : w.made.0 ≡ [] = none_more k.mine w.made.0 (own k.number before.0)
          (sym f.own ∙ (ap (own k.number) before.1 ∙ (own_append k.number w.cut.0 before.0 ∙ ap (λ z. z ++ own k.number before.0) (w.cut.2 ∙ w.made.1)))) in
          builds_stay ms s k.number k.seen j.seen [] are w.begins (grown (Err e) w ∙ ap (λ z. own k.number k.seen ++ z) none) tt
