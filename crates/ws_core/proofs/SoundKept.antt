-- Each step keeps a state sound.
use Rattle.std.proofs.Common.{◌≡◌, ◌⊎◌, inl, inr, ℕ, Bool, true, false, cond, not, ◌||◌, [], ◌∷◌, refl, sym, ap, ◌∙◌, subst}
use Rattle.std.specs.Prelude.{List, if◌then◌else◌, Option, Some, None, Result, Ok, Err, IfOk, OnErr, IfSome, unwrap_or}
use Rattle.std.specs.Option.{option_map, option_or}
use Rattle.std.specs.Ordering.{eq_by_cmp}
use Rattle.std.specs.FinMap.{get, get-empty, get-insert, get-remove, get-retain_keys, insert, remove}
use Rattle.ws_elem.specs.Stamps.{SameContents}
use Rattle.ws_elem.specs.Trees.{Tree, Whole, fresh_tree}
use Rattle.ws_elem.specs.declared.element.Element.{Element}
use Rattle.ws_elem.specs.declared.kind.Kind.TheVariants.{File}
use Rattle.builder_api.specs.declared.edits.Edits.{Edits}
use Rattle.op_kind.specs.declared.op.Op.{Op}
use Rattle.op_kind.specs.declared.refusal.OpRefusal.{OpRefusal}
use Rattle.op_kind.specs.Effects as does
use Rattle.op_kind.specs.Refusals as causes
use Rattle.op_kind.specs.Sound as ops
use Rattle.op_kind.specs.Stamps.{IsKnown}
use Rattle.op_rule.specs.Rules.{operation_rule}
use Rattle.op_sound.proofs.SoundFresh as fresh_resources
use Rattle.op_sound.proofs.SoundKept as kept
use Rattle.output_edits.specs.declared.refusal.EditRefusal.{EditRefusal}
use Rattle.output_commit.specs.Committed as outputs
use Rattle.output_commit.proofs.SoundCommit.{clean_known, clean_sound, commit_known, commit_sound}
use Rattle.build_due.specs.declared.site.Site.{Site}
use Rattle.pass_table.specs.Passes.{is_quiet}
use Rattle.proj_desc.specs.FirstCause.{first_cause}
use Rattle.service_desk.specs.Refusals.{not_serving, unrooted}
use Rattle.core_event.specs.declared.event.Event.{Event}
use Rattle.core_event.specs.declared.event.Event.TheVariants.{Operation, Service}
use Rattle.core_event.specs.declared.reply.Answer.{Answer}
use Rattle.core_event.specs.declared.reply.Refusal.{Refusal}
use Rattle.core_event.specs.declared.reply.Refusal.TheVariants as refusals
use Rattle.core_event.specs.declared.reply.Reply.{Reply}
use Rattle.core_event.specs.declared.service.Outcomes.{Outcomes}
use Rattle.core_event.specs.declared.service.Outcomes.TheVariants as outcomes
use Rattle.core_event.specs.declared.service.Purpose.TheVariants.{Build, Save}
use Rattle.core_event.specs.declared.service.ServiceEvent.{ServiceEvent}
use Rattle.core_event.specs.declared.service.ServiceEvent.TheVariants.{Checkout, CheckIn, Handed, Commit, Clean, Saving}
use Rattle.core_event.specs.declared.twice.Twice.{Twice}
use Rattle.core_event.specs.Twice.{doubled}
use Rattle.core_event.specs.Events.{is_checkpoint}
use Rattle.job_manager.specs.Admission.{admission}
use Rattle.job_manager.specs.Effects as managing
use Rattle.job_manager.proofs.Apart.{Apart, outcome_apart}
use Rattle.service_desk.specs.declared.desk.UnderWay.{UnderWay}
use Rattle.service_desk.specs.Desks.{is_building, site_of}
use Rattle.service_desk.specs.Sites.{site_in}
use Rattle.save_kind.specs.declared.state.PartState.{PartState}
use Rattle.ws_marks.specs.declared.record.Record.{Record}
use Rattle.ws_marks.specs.declared.state.State.{State}
use Rattle.ws_marks.specs.Marked.{is_from}
use Rattle.ws_marks.specs.Places.{Place, Records, States, name_cmp, place_cmp}
use Rattle.ws_marks.proofs.Places.{name_cmp_total, place_cmp_exact, place_cmp_total}
use Rattle.ws_content.specs.States.{Remembered, with_built, with_told}
use Rattle.ws_content.specs.Deeds.{From, edit_refusal, forgets, forgotten, record_of}
use Rattle.ws_content.specs.Saves.{ended, is_saved, kept_before, kept_with, save_begun, save_ended, state_of, states_kept}
use Rattle.ws_core.specs.States.{Moment}
use Rattle.ws_core.specs.Refusals.{current, edit_cause, no_build, service_causes}
use Rattle.ws_core.specs.Effects.{check_in, clean_for, commit_for, hand, keep_states, managed, operate, serve}
use Rattle.ws_core.specs.Steps.{acted, act, told, tells, step}
use Rattle.res_path.specs.Paths.{Names}
use Rattle.ws_core.specs.Histories.{fresh_for}
use Rattle.ws_core.specs.Sessions.{IsConsistent, IsPast, AsStart, AsTold, AsBuilt, AsKept, AsBefore}
use Rattle.ws_core.proofs.OpenOutput.{open_output}
use Rattle.ws_core.proofs.Stepped.{Concern, OfOperation, OfService, OfManager, concern_of, act_keeps, act_managed}

-- ---- but for what is quiet

-- what holds of a state before anything is told
pub record IsSteady (s : Moment) : Type 0 where
  pub resources : ops.IsConsistent s.resources
  pub whole : (t : Tree) → IsPast s.remembered t → Whole t
  pub known : (t : Tree) → IsPast s.remembered t → IsKnown s.resources t
  pub alike : (t u : Tree) → IsPast s.remembered t → IsPast s.remembered u → SameContents t u
  pub apart : Apart s.manager.passes.rules

pub steady : (s : Moment) → IsConsistent s → IsSteady s
steady s x = record { resources = x.resources; whole = x.whole; known = x.known; alike = x.alike; apart = x.apart }

pub consistent : (s : Moment) → IsSteady s → (is_quiet s.manager.passes ≡ true → s.remembered.told ≡ s.resources.tree) → IsConsistent s
consistent s x quiet = record { resources = x.resources; whole = x.whole; known = x.known; alike = x.alike; apart = x.apart; quiet = quiet }

-- ---- what is remembered

same_back : (a b : Tree) → SameContents a b → SameContents b a
same_back a b h p q = by (get b p) (get a q) (h q p)
  where
    by : (o u : Option Element)
        → IfSome u (λ e. IfSome o (λ f. e.kind ≡ File → f.kind ≡ File → e.stamp ≡ f.stamp → e.bytes ≡ f.bytes))
        → IfSome o (λ e. IfSome u (λ f. e.kind ≡ File → f.kind ≡ File → e.stamp ≡ f.stamp → e.bytes ≡ f.bytes))
    by None u g = tt
    by (Some e) None g = tt
    by (Some e) (Some f) g = λ e_file f_file stamps. sym (g f_file e_file (sym stamps))

-- what is remembered then was remembered before, or is the tree then: such a state is sound too
goes : (s t : Moment) → IsSteady s → ops.IsConsistent t.resources → ((u : Tree) → IsKnown s.resources u → IsKnown t.resources u)
    → ((u : Tree) → IsPast t.remembered u → IsPast s.remembered u ⊎ (u ≡ t.resources.tree)) → Apart t.manager.passes.rules → IsSteady t
goes s t x now known past apart = record {
  resources = now;
  whole = λ u p. whole u (past u p);
  known = λ u p. still_known u (past u p);
  alike = λ u v p q. alike u v (past u p) (past v q);
  apart = apart;
}
  where
    Either : Tree → Type 0
    Either u = IsPast s.remembered u ⊎ (u ≡ t.resources.tree)

    whole : (u : Tree) → Either u → Whole u
    whole u (inl p) = x.whole u p
    whole u (inr e) = subst Whole (sym e) now.tree

    still_known : (u : Tree) → Either u → IsKnown t.resources u
    still_known u (inl p) = known u (x.known u p)
    still_known u (inr e) = subst (IsKnown t.resources) (sym e) now.tree_known

    alike : (u v : Tree) → Either u → Either v → SameContents u v
    alike u v (inl p) (inl q) = x.alike u v p q
    alike u v h (inr e) = subst (SameContents u) (sym e) (still_known u h).tree
    alike u v (inr e) (inl q) = subst (λ w. SameContents w v) (sym e) (same_back v t.resources.tree (known v (x.known v q)).tree)

-- where what was built last is found there too, or has the tree that is there now
past_of : (r : Remembered) (built : Records Tree) (now : Tree) → ((place : Place) (b : Record Tree) → get built place ≡ Some b → (get r.built place ≡ Some b) ⊎ (b.tree ≡ now))
    → (u : Tree) → IsPast (with_built r built) u → IsPast r u ⊎ (u ≡ now)
past_of r built now found u (AsStart e) = inl (AsStart e)
past_of r built now found u (AsTold e) = inl (AsTold e)
past_of r built now found u (AsKept name b got e) = inl (AsKept name b got e)
past_of r built now found u (AsBefore before name b is got e) = inl (AsBefore before name b is got e)
past_of r built now found u (AsBuilt place b got e) = by (found place b got)
  where
    by : (get r.built place ≡ Some b) ⊎ (b.tree ≡ now) → IsPast r u ⊎ (u ≡ now)
    by (inl g) = inl (AsBuilt place b g e)
    by (inr g) = inr (e ∙ g)

told_past : (r : Remembered) (now u : Tree) → IsPast (with_told r now) u → IsPast r u ⊎ (u ≡ now)
told_past r now u (AsStart e) = inl (AsStart e)
told_past r now u (AsTold e) = inr e
told_past r now u (AsBuilt place b got e) = inl (AsBuilt place b got e)
told_past r now u (AsKept name b got e) = inl (AsKept name b got e)
told_past r now u (AsBefore before name b is got e) = inl (AsBefore before name b is got e)

in_all : (c : Bool) (o : Option (Record Tree)) (b : Record Tree) → cond c o None ≡ Some b → o ≡ Some b
in_all true o b h = h
in_all false o b h = cc

in_others : (c : Bool) (o : Option (Record Tree)) (b : Record Tree) → cond c None o ≡ Some b → o ≡ Some b
in_others true o b h = cc
in_others false o b h = h

in_either : (c : Bool) (o : Option (Record Tree)) (new b : Record Tree) → cond c (Some new) o ≡ Some b → (o ≡ Some b) ⊎ (b.tree ≡ new.tree)
in_either true o new b h = let same : new ≡ b = cc in inr (ap (λ (x : Record Tree). x.tree) (sym same))
in_either false o new b h = inl h

forgotten_there : (from : Option From) (built : Records Tree) (place : Place) (b : Record Tree) → get (forgotten from built) place ≡ Some b → get built place ≡ Some b
forgotten_there None built place b h = h
forgotten_there (Some from) built place b h =
    let stays : Place → Bool = λ k. not (is_from from.0 from.1 k) in
    in_all (stays place) (get built place) b (sym (get-retain_keys built stays place (λ x e. ap stays (sym (place_cmp_exact place x e)))) ∙ h)

removed_there : (built : Records Tree) (k place : Place) (b : Record Tree) → get (remove built k) place ≡ Some b → get built place ≡ Some b
removed_there built k place b h = in_others (eq_by_cmp place_cmp place k) (get built place) b (sym (get-remove place_cmp_total built k place) ∙ h)

inserted_there : (built : Records Tree) (k : Place) (new : Record Tree) (place : Place) (b : Record Tree) → get (insert built k new) place ≡ Some b
    → (get built place ≡ Some b) ⊎ (b.tree ≡ new.tree)
inserted_there built k new place b h = in_either (eq_by_cmp place_cmp place k) (get built place) new b (sym (get-insert place_cmp_total built k new place) ∙ h)

-- ---- what participants keep

same_states : (a b : States Tree) → ◌≡◌ {A = Option (States Tree)} (Some a) (Some b) → a ≡ b
same_states a b h = cc

no_states : (b : States Tree) → ◌≡◌ {A = Option (States Tree)} None (Some b) → ⊥
no_states b h = cc

-- what they kept when the save under way began, or keep where none is, is remembered
before_past : (r : Remembered) (name : List ℕ) (b : State Tree) (u : Tree) → get (kept_before r) name ≡ Some b → b.tree ≡ Some u → IsPast r u
before_past r name b u got e = by r.before refl got
  where
    by : (o : Option (States Tree)) → r.before ≡ o → get (unwrap_or o r.kept) name ≡ Some b → IsPast r u
    by None is g = AsKept name b g e
    by (Some before) is g = AsBefore before name b is g e

-- so a save begins with what is remembered
begun_past : (r : Remembered) (now u : Tree) → IsPast (save_begun r) u → IsPast r u ⊎ (u ≡ now)
begun_past r now u (AsStart e) = inl (AsStart e)
begun_past r now u (AsTold e) = inl (AsTold e)
begun_past r now u (AsBuilt place b got e) = inl (AsBuilt place b got e)
begun_past r now u (AsKept name b got e) = inl (AsKept name b got e)
begun_past r now u (AsBefore before name b is got e) =
    inl (before_past r name b u (ap (λ (m : States Tree). get m name) (same_states (kept_before r) before is) ∙ got) e)

-- and ends with it
ended_past : (outcome : Outcomes) (r : Remembered) (now u : Tree) → IsPast (ended outcome r) u → IsPast r u ⊎ (u ≡ now)
ended_past (outcomes.Build outcome) r now u p = inl p
ended_past (outcomes.Save answer) r now u p = by (is_saved answer) p
  where
    by : (b : Bool) → IsPast (save_ended b r) u → IsPast r u ⊎ (u ≡ now)
    by true (AsStart e) = inl (AsStart e)
    by true (AsTold e) = inl (AsTold e)
    by true (AsBuilt place b got e) = inl (AsBuilt place b got e)
    by true (AsKept name b got e) = inl (AsKept name b got e)
    by true (AsBefore before name b is got e) = absurd (no_states before is)
    by false (AsStart e) = inl (AsStart e)
    by false (AsTold e) = inl (AsTold e)
    by false (AsBuilt place b got e) = inl (AsBuilt place b got e)
    by false (AsKept name b got e) = inl (before_past r name b u got e)
    by false (AsBefore before name b is got e) = absurd (no_states before is)

-- a tree that is kept now is the one that is there
asked_tree : (needs : Bool) (now u : Tree) → ◌≡◌ {A = Option Tree} (if needs then Some now else None) (Some u) → u ≡ now
asked_tree true now u h = let same : now ≡ u = cc in sym same
asked_tree false now u h = cc

put_there : (c : Bool) (o : Option (State Tree)) (new b : State Tree) → cond c (Some new) o ≡ Some b → (o ≡ Some b) ⊎ (new ≡ b)
put_there true o new b h = let same : new ≡ b = cc in inr same
put_there false o new b h = inl h

kept_there : (now : Tree) (m : States Tree) (ps : List (List ℕ × PartState)) (name : List ℕ) (b : State Tree) (u : Tree) → get (kept_with now m ps) name ≡ Some b → b.tree ≡ Some u
    → (get m name ≡ Some b) ⊎ (u ≡ now)
kept_there now m [] name b u got e = inl got
kept_there now m (p ∷ ps) name b u got e = by (kept_there now (insert m p.0 (state_of now p)) ps name b u got e)
  where
    last : (get m name ≡ Some b) ⊎ (state_of now p ≡ b) → (get m name ≡ Some b) ⊎ (u ≡ now)
    last (inl g) = inl g
    last (inr same) = inr (asked_tree p.1.needs_delta now u (ap (λ (x : State Tree). x.tree) same ∙ e))

    by : (get (insert m p.0 (state_of now p)) name ≡ Some b) ⊎ (u ≡ now) → (get m name ≡ Some b) ⊎ (u ≡ now)
    by (inl g) = last (put_there (eq_by_cmp name_cmp name p.0) (get m name) (state_of now p) b (sym (get-insert name_cmp_total m p.0 (state_of now p) name) ∙ g))
    by (inr e) = inr e

keeping_past : (r : Remembered) (now : Tree) (states : List (List ℕ × PartState)) (u : Tree) → IsPast (states_kept now r states) u → IsPast r u ⊎ (u ≡ now)
keeping_past r now states u (AsStart e) = inl (AsStart e)
keeping_past r now states u (AsTold e) = inl (AsTold e)
keeping_past r now states u (AsBuilt place b got e) = inl (AsBuilt place b got e)
keeping_past r now states u (AsKept name b got e) = by (kept_there now r.kept states name b u got e)
  where
    by : (get r.kept name ≡ Some b) ⊎ (u ≡ now) → IsPast r u ⊎ (u ≡ now)
    by (inl g) = inl (AsKept name b g e)
    by (inr same) = inr same
keeping_past r now states u (AsBefore before name b is got e) = inl (AsBefore before name b is got e)

-- ---- what each event leaves

-- the tree is told, with what is there
told_now : (s : Moment) (a : Answer) → IsSteady s → IsSteady (told true s a).0
told_now s a x = goes s (told true s a).0 x x.resources (λ u k. k) (told_past s.remembered s.resources.tree) x.apart

not_refused : (a : Option Refusal) (x : Option OpRefusal) → option_or a (option_map refusals.Operation x) ≡ None → x ≡ None
not_refused None None h = refl
not_refused None (Some x) h = cc
not_refused (Some a) x h = cc

operate_steady : (s : Moment) (op : Op) → causes.refusal s.resources op ≡ None → IsSteady s → IsSteady (operate s op).0
operate_steady s op h x =
    goes s (operate s op).0 x (kept.effect_sound s.resources op x.resources h) (λ u k. kept.effect_known s.resources op u x.resources h k)
    (past_of s.remembered (forgotten (forgets op) s.remembered.built) (does.effect s.resources op).0.tree (λ place b got. inl (forgotten_there (forgets op) s.remembered.built place b got)))
    x.apart

managed_steady : (s : Moment) (k : ℕ) (e : Event) → IsSteady s → IsSteady (managed s (managing.outcome s.manager k e)).0
managed_steady s k e x = record { resources = x.resources; whole = x.whole; known = x.known; alike = x.alike; apart = outcome_apart s.manager k e x.apart }

commit_steady : (s : Moment) (site : Site) (e : Edits) → outputs.IsOpenOutput s.resources.tree site.output → outputs.refusal s.resources site.output site.index e ≡ None → IsSteady s
    → IsSteady (commit_for s (Some site) e).0
commit_steady s site e there h x =
    let after = outputs.committed s.resources site.output site.index e in
    goes s (commit_for s (Some site) e).0 x (commit_sound s.resources site.output site.index e there x.resources h)
    (λ u k. commit_known s.resources site.output site.index e u there x.resources h k)
    (past_of s.remembered (insert s.remembered.built (site.project, site.index) (record_of site after.tree)) after.tree
    (λ place b got. inserted_there s.remembered.built (site.project, site.index) (record_of site after.tree) place b got))
    x.apart

clean_steady : (s : Moment) (site : Site) → outputs.IsOpenOutput s.resources.tree site.output → IsSteady s → IsSteady (clean_for s (Some site)).0
clean_steady s site there x =
    goes s (clean_for s (Some site)).0 x (clean_sound s.resources site.output site.index there x.resources) (λ u k. clean_known s.resources site.output site.index u there x.resources k)
    (past_of s.remembered (remove s.remembered.built (site.project, site.index)) (outputs.cleaned s.resources site.output site.index).tree
    (λ place b got. inl (removed_there s.remembered.built (site.project, site.index) place b got)))
    x.apart

-- the command that is under way has its output there
under_output : (t : Tree) (u : Option UnderWay) (site : Site) → site_of t u ≡ Some site → outputs.IsOpenOutput t site.output
under_output t None site h = absurd (no h)
  where
    no : None ≡ Some site → ⊥
    no g = cc
under_output t (Some u) site h = open_output t u.project u.index site h

-- and its edits aren't refused where the commit isn't
no_cause : (a b : Option Refusal) (r : Option EditRefusal) → option_or a (option_or None (option_or b (option_or (option_map edit_refusal r) None))) ≡ None → r ≡ None
no_cause None None None h = refl
no_cause None None (Some r) h = cc
no_cause None (Some b) r h = cc
no_cause (Some a) b r h = cc

serve_steady : (s : Moment) (k : ℕ) (x : ServiceEvent) → first_cause (service_causes s k x) ≡ None → IsSteady s → IsSteady (serve s k x).0
serve_steady s k (Checkout (Build kind scope)) h x = record { resources = x.resources; whole = x.whole; known = x.known; alike = x.alike; apart = x.apart }
serve_steady s k (Checkout (Save kind)) h x = goes s (serve s k (Checkout (Save kind))).0 x x.resources (λ u k. k) (begun_past s.remembered s.resources.tree) x.apart
serve_steady s k (CheckIn outcome) h x = goes s (check_in s outcome).0 x x.resources (λ u k. k) (ended_past outcome s.remembered s.resources.tree) x.apart
serve_steady s k (Saving states) h x = goes s (keep_states s states).0 x x.resources (λ u k. k) (keeping_past s.remembered s.resources.tree states) x.apart
serve_steady s k (Handed project index kind) h x = by (site_in s.resources.tree project index)
  where
    by : (o : Option Site) → IsSteady (hand s o kind).0
    by None = x
    by (Some site) = record { resources = x.resources; whole = x.whole; known = x.known; alike = x.alike; apart = x.apart }
serve_steady s k (Commit edits) h x = by (current s) refl h
  where
    by : (o : Option Site) → current s ≡ o → first_cause (not_serving s.manager.passes (is_building s.desk.serving) k ∷ no_build o ∷ unrooted s.manager.passes.rules k ∷ edit_cause s.resources edits o ∷ []) ≡ None
        → IsSteady (commit_for s o edits).0
    by None is g = x
    by (Some site) is g =
        commit_steady s site edits (under_output s.resources.tree s.desk.under site is)
        (no_cause (not_serving s.manager.passes (is_building s.desk.serving) k) (unrooted s.manager.passes.rules k) (outputs.refusal s.resources site.output site.index edits) g) x
serve_steady s k (Clean project index) h x = by (site_in s.resources.tree project index) refl
  where
    by : (o : Option Site) → site_in s.resources.tree project index ≡ o → IsSteady (clean_for s o).0
    by None is = x
    by (Some site) is = clean_steady s site (open_output s.resources.tree project index site is) x

act_steady : (s : Moment) (k : ℕ) (e : Event) → IsSteady s → IsSteady (act s k e).0
act_steady s k e x = by (concern_of e)
  where
    operated : (op : Op) (r : Option Refusal) → option_or (admission s.manager.passes.rules k (operation_rule op)) (option_map refusals.Operation (causes.refusal s.resources op)) ≡ r
        → IsSteady (acted r s k (Operation op)).0
    operated op None h = operate_steady s op (not_refused (admission s.manager.passes.rules k (operation_rule op)) (causes.refusal s.resources op) h) x
    operated op (Some r) h = x

    served : (v : ServiceEvent) (r : Option Refusal) → first_cause (service_causes s k v) ≡ r → IsSteady (acted r s k (Service v)).0
    served v None h = serve_steady s k v h x
    served v (Some r) h = x

    by : Concern e → IsSteady (act s k e).0
    by (OfOperation op is) = subst (λ z. IsSteady (act s k z).0) (sym is) (operated op _ refl)
    by (OfService v is) = subst (λ z. IsSteady (act s k z).0) (sym is) (served v _ refl)
    by (OfManager none plain) = subst (λ (d : Moment × Answer). IsSteady d.0) (sym (act_managed s k e none plain)) (managed_steady s k e x)

told_sound : (b : Bool) (e : Event) (s : Moment) (a : Answer) → tells e s ≡ b → IsSteady s → IsConsistent (told b s a).0
told_sound true e s a is x = consistent (told true s a).0 (told_now s a x) (λ _. refl)
told_sound false e s a is x = consistent s x (λ h. absurd (no (is_checkpoint e) (is_quiet s.manager.passes) is h))
  where
    no : (c q : Bool) → (c || q) ≡ false → q ≡ true → ⊥
    no true q g h = cc
    no false true g h = cc
    no false false g h = cc

-- a step leaves a sound state
pub step_sound : (s : Moment) (k : ℕ) (e : Event) → IsConsistent s → IsConsistent (step s k e).0
step_sound s k e x = told_sound (tells e (act s k e).0) e (act s k e).0 (act s k e).1 refl (act_steady s k e (steady s x))

-- ---- the fresh workspace

pub fresh_sound : (builders : Names) → IsConsistent (fresh_for builders)
fresh_sound builders =
    let r = fresh_resources.fresh_sound in
    consistent (fresh_for builders) (record {
      resources = r;
      whole = λ u p. subst Whole (sym (alone u p)) r.tree;
      known = λ u p. subst (IsKnown (fresh_for builders).resources) (sym (alone u p)) r.tree_known;
      alike = λ u v p q. subst (λ t. SameContents t v) (sym (alone u p)) (subst (SameContents fresh_tree) (sym (alone v q)) r.tree_known.tree);
      apart = tt;
    }) (λ _. refl)
  where
    never : (place : Place) (b : Record Tree) → get (fresh_for builders).remembered.built place ≡ Some b → ⊥
    never place b h = no (sym (get-empty place_cmp place) ∙ h)
      where
        no : None ≡ Some b → ⊥
        no g = cc

    nothing : (name : List ℕ) (b : State Tree) → get (fresh_for builders).remembered.kept name ≡ Some b → ⊥
    nothing name b h = no (sym (get-empty name_cmp name) ∙ h)
      where
        no : None ≡ Some b → ⊥
        no g = cc

    alone : (u : Tree) → IsPast (fresh_for builders).remembered u → u ≡ fresh_tree
    alone u (AsStart e) = e
    alone u (AsTold e) = e
    alone u (AsBuilt place b got e) = absurd (never place b got)
    alone u (AsKept name b got e) = absurd (nothing name b got)
    alone u (AsBefore before name b is got e) = absurd (no_states before is)

-- ---- what stays

told_start : (b : Bool) (s : Moment) (a : Answer) → (told b s a).0.remembered.start ≡ s.remembered.start
told_start false s a = refl
told_start true s a = refl

-- the tree with which the workspace was opened stays the one that is remembered
pub step_start : (s : Moment) (k : ℕ) (e : Event) → (step s k e).0.remembered.start ≡ s.remembered.start
step_start s k e = told_start (tells e (act s k e).0) (act s k e).0 (act s k e).1 ∙ (act_keeps s k e).0

-- so does a call that makes a step, or changes nothing
pub sound_after : {E : Type 0} (r : Result (Twice Reply) E) (w : Bool) (s t : Moment) (k : ℕ) (e : Event) → IsConsistent s
    → IfOk r (λ x. (t, x) ≡ doubled w (step s k e)) → OnErr r (t ≡ s) → IsConsistent t
sound_after (Ok x) w s t k e h ok err = subst IsConsistent (sym (ap (λ d. d.0) ok)) (step_sound s k e h)
sound_after (Err x) w s t k e h ok err = subst IsConsistent (sym err) h
