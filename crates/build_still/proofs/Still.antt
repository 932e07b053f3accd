-- While a command is under way its inputs and its output stand still.
use Rattle.std.proofs.Common.{◌≡◌, ℕ, Bool, true, false, not, List, [], ◌∷◌, ◌++◌, map, refl, sym, ap, ◌∙◌, subst, append_assoc}
use Rattle.std.specs.Prelude.{Option, Some, None, option_and_then, slice_get, unwrap_or}
use Rattle.std.specs.Option.{option_map}
use Rattle.std.specs.FinMap.{get}
use Rattle.res_path.specs.Paths.{Names}
use Rattle.sched_rules.specs.Atoms.{atom_conflicts, atom_contains}
use Rattle.sched_rules.specs.Rules.{rule_contains}
use Rattle.sched_rules.specs.declared.ws_atom.WsAtom.{WsAtom}
use Rattle.proj_desc.specs.FirstCause.{when}
use Rattle.proj_desc.specs.declared.command.Command.{Command}
use Rattle.proj_desc.specs.declared.desc.Desc.{Desc}
use Rattle.rule_table.specs.declared.held.Held.{Held}
use Rattle.rule_table.specs.Tables.{IsApart, is_outer, newest}
use Rattle.ws_elem.specs.declared.element.Element.{Element}
use Rattle.ws_elem.specs.Trees.{Tree}
use Rattle.builder_api.specs.declared.handed.Handed.{Handed}
use Rattle.builder_api.specs.declared.kind.BuildKind.{BuildKind}
use Rattle.builder_api.specs.Files.{files_of}
use Rattle.builder_api.proofs.Maps.{same_files}
use Rattle.build_due.specs.declared.site.Site.{Site}
use Rattle.build_due.specs.Sights.{seen}
use Rattle.build_due.specs.Sites.{site, site_at}
use Rattle.build_laws.specs.States.{IsAlikeAt, item, unmarked}
use Rattle.build_laws.proofs.Trees.{file_alike}
use Rattle.build_plan.specs.Descriptions.{desc_at, described_by}
use Rattle.core_event.specs.declared.entry.Entry.{Entry}
use Rattle.core_event.specs.declared.event.Event.{Event}
use Rattle.core_event.specs.declared.event.Event.TheVariants.{Service}
use Rattle.core_event.specs.declared.reply.Answer.TheVariants as answers
use Rattle.core_event.specs.declared.reply.Refusal.{Refusal}
use Rattle.core_event.specs.declared.reply.Refusal.TheVariants.{NotContained}
use Rattle.core_event.specs.declared.reply.Reply.{Reply}
use Rattle.core_event.specs.declared.service.ServiceEvent.TheVariants as services
use Rattle.job_manager.specs.declared.manager.JobManager.{JobManager}
use Rattle.job_manager.specs.Managers.{first_manager}
use Rattle.job_manager.proofs.Apart.{Apart}
use Rattle.service_desk.specs.Desks.{is_building, site_of}
use Rattle.service_desk.specs.declared.desk.UnderWay.{UnderWay}
use Rattle.service_desk.specs.Refusals.{command_causes, not_serving, project_causes, root_rule, unless_contained, unrooted}
use Rattle.service_desk.specs.Sites.{site_in}
use Rattle.ws_core.specs.Effects.{hand}
use Rattle.ws_core.specs.Histories.{after, Legal, replay, replies}
use Rattle.ws_core.specs.Refusals.{refusal}
use Rattle.ws_content.specs.Handing.{handing}
use Rattle.ws_core.specs.States.{Moment, contents_of}
use Rattle.ws_core.specs.Steps.{act, acted, step, tells}
use Rattle.ws_core.proofs.Grown.{replay_append}
use Rattle.ws_core.proofs.ServingPass.{serving_named}
use Rattle.run_order.proofs.Managed.{told_answer}
use Rattle.ws_turn.specs.Lists.{of}
use Rattle.ws_turn.proofs.Lists.{some_same}
use Rattle.pass_turns.proofs.There.{others}
use Rattle.pass_history.proofs.Given.{heads}
use Rattle.pass_history.proofs.Serving.{first_none}
use Rattle.build_still.specs.Still.{FindsStill, FoundStill, IsStillSo, KeptStill, StoodStill, WasHanded}
use Rattle.build_still.proofs.Splits.{split}
use Rattle.build_still.proofs.Others.{IsRooted, Stands, rest_none, same_stands, step_apart, step_rooted, step_stands}

-- ---- what others do one after another

stands_on : (a b c : Moment) → Stands a b → Stands b c → Stands a c
stands_on a b c x y = record { alike = λ q. y.alike q ∙ x.alike q; under = y.under ∙ x.under }

others_stand : (s : Moment) (n : ℕ) (h : List Entry) → of (λ (x : Entry). x.pass) n h ≡ [] → IsRooted n s.manager → Stands s (replay s h)
others_stand s n [] none rooted = same_stands s
others_stand s n (x ∷ h) none rooted =
    let o = others (λ (y : Entry). y.pass) n x h none in
    stands_on s (after s x) (replay (after s x) h) (step_stands s x.pass n x.event o.0 rooted)
    (others_stand (after s x) n h o.1 (step_rooted s x.pass n x.event o.0 rooted))

replay_apart : (s : Moment) (h : List Entry) → Apart s.manager.passes.rules → Apart (replay s h).manager.passes.rules
replay_apart s [] apart = apart
replay_apart s (x ∷ h) apart = replay_apart (after s x) h (step_apart s x.pass x.event apart)

-- ---- trees in which nothing but markers differs

described_alike : (project : List ℕ) (o : Option Element) → option_and_then (described_by project) (option_map unmarked o) ≡ option_and_then (described_by project) o
described_alike project None = refl
described_alike project (Some e) = refl

desc_same : (a b : Tree) (project : List ℕ) → IsAlikeAt a b (project ∷ []) → desc_at b project ≡ desc_at a project
desc_same a b project alike =
    sym (described_alike project (get b (project ∷ []))) ∙ (ap (option_and_then (described_by project)) alike ∙ described_alike project (get a (project ∷ [])))

site_same : (a b : Tree) → ((q : Names) → IsAlikeAt a b q) → (under : Option UnderWay) → site_of b under ≡ site_of a under
site_same a b alike None = refl
site_same a b alike (Some u) = ap (option_and_then (site_at u.project u.index)) (desc_same a b u.project (alike (u.project ∷ [])))

stood : (a b : Moment) → Stands a b → StoodStill a b
stood a b x = record {
  alike = x.alike;
  files = same_files (files_of b.resources.tree) (files_of a.resources.tree) (λ q. file_alike a.resources.tree b.resources.tree q (x.alike q));
  under = site_same a.resources.tree b.resources.tree x.alike b.desk.under ∙ ap (site_of a.resources.tree) x.under;
}

so_now : (handed : Handed) (a b : Moment) → StoodStill a b → IsStillSo handed a → IsStillSo handed b
so_now handed a b still so = record {
  site = so.site;
  under = still.under ∙ so.under;
  inputs = so.inputs;
  output = so.output;
  view = so.view ∙ ap (seen handed.inputs handed.output) (sym still.files);
}

-- ---- what was handed

never_some : {A : Type 0} (x : A) → None ≡ Some x → ⊥
never_some x e = let e : None ≡ Some x = e in cc

-- a command that was found is that of its project and its number
site_names : (project : List ℕ) (index : ℕ) (desc : Option Desc) (place : Site) → option_and_then (site_at project index) desc ≡ Some place → (place.project ≡ project) × (place.index ≡ index)
site_names project index None place is = absurd (never_some place is)
site_names project index (Some desc) place is = by (slice_get desc.commands index) is
  where
    by : (c : Option Command) → option_map (λ c. site (item project index c) desc.references) c ≡ Some place → (place.project ≡ project) × (place.index ≡ index)
    by None is = absurd (never_some place is)
    by (Some c) is =
        let same : site (item project index c) desc.references ≡ place = some_same _ _ is in
        (ap (λ (z : Site). z.project) (sym same), ap (λ (z : Site). z.index) (sym same))

again : (t : Tree) (project : List ℕ) (index : ℕ) (place : Site) → site_in t project index ≡ Some place → site_in t place.project place.index ≡ Some place
again t project index place is = let names = site_names project index (desc_at t project) place is in (λ i. site_in t (names.0 i) (names.1 i)) ∙ is

-- the topmost rule of a pass that isn't refused for it contains the root
rooted_by : (all : List (Held WsAtom)) (n : ℕ) → unrooted all n ≡ None → (outer : Held WsAtom) × (newest (is_outer n) all ≡ Some outer) × (rule_contains atom_contains outer.rule root_rule ≡ true)
rooted_by all n none = by (newest (is_outer n) all) refl none
  where
    contained : (rule : List WsAtom) (b : Bool) → when (not b) (NotContained rule) ≡ None → b ≡ true
    contained rule true h = refl
    contained rule false h = cc

    by : (o : Option (Held WsAtom)) → newest (is_outer n) all ≡ o → unless_contained (unwrap_or (option_map (λ (held : Held WsAtom). held.rule) o) []) ≡ None
        → (outer : Held WsAtom) × (newest (is_outer n) all ≡ Some outer) × (rule_contains atom_contains outer.rule root_rule ≡ true)
    by None is h = absurd (let no : Some (NotContained []) ≡ None = h in cc)
    by (Some outer) is h = (outer, is, contained outer.rule (rule_contains atom_contains outer.rule root_rule) h)

-- the pass has the services and such a rule, and what it was handed is so
abbrev IsReady : ℕ → Handed → Moment → Type 0
IsReady n handed u = IsRooted n u.manager × IsStillSo handed u

handed_ready : (t : Moment) (n : ℕ) (project : List ℕ) (index : ℕ) (kind : BuildKind) (handed : Handed) → Apart t.manager.passes.rules
    → (step t n (Service (services.Handed project index kind))).1.answer ≡ answers.Handed handed → IsReady n handed (step t n (Service (services.Handed project index kind))).0
handed_ready t n project index kind handed apart is = (ready.0, record { site = ready.1.site; under = ready.1.under; inputs = ready.1.inputs; output = ready.1.output; view = ready.1.view })
  where
    event : Event
    event = Service (services.Handed project index kind)

    more : List (Option Refusal)
    more = project_causes t.resources.tree project ++ command_causes t.resources.tree t.desk.builders project index

    at : (o : Option Site) → site_in t.resources.tree project index ≡ o → refusal t n event ≡ None → (hand t o kind).1 ≡ answers.Handed handed → IsReady n handed (hand t o kind).0
    at None found none answer = absurd (let no : answers.Done ≡ answers.Handed handed = answer in cc)
    at (Some place) found none answer =
        let same : handing (contents_of t) place kind ≡ handed = let e : answers.Handed (handing (contents_of t) place kind) ≡ answers.Handed handed = answer in cc in
        let rooted = rooted_by t.manager.passes.rules n (first_none (unrooted t.manager.passes.rules n) more (rest_none (not_serving t.manager.passes (is_building t.desk.serving) n) (unrooted t.manager.passes.rules n ∷ more) none)) in (
          record {
            serves = serving_named t.manager.passes (is_building t.desk.serving) n (first_none _ (unrooted t.manager.passes.rules n ∷ more) none);
            apart = apart;
            outer = rooted.0;
            has = rooted.1;
            root = rooted.2;
          },
          record {
            site = place;
            under = again t.resources.tree project index place found;
            inputs = ap (λ (h : Handed). h.inputs) (sym same);
            output = ap (λ (h : Handed). h.output) (sym same);
            view = subst (λ (h : Handed). h.view ≡ seen h.inputs h.output (files_of t.resources.tree)) same refl;
          },
        )

    by : (r : Option Refusal) → refusal t n event ≡ r → (acted r t n event).1 ≡ answers.Handed handed → IsReady n handed (acted r t n event).0
    by None none answer = at (site_in t.resources.tree project index) refl none answer
    by (Some r) refused answer = absurd (let no : answers.Refused r ≡ answers.Handed handed = answer in cc)

    ready : IsReady n handed (act t n event).0
    ready = by (refusal t n event) refl (sym (told_answer (tells event (act t n event).0) (act t n event).0 (act t n event).1) ∙ is)

-- the reply of an entry is the one of the step at its place
reply_at : (s : Moment) (front : List Entry) (x : Entry) (back : List Entry) → map (λ (y : Entry). y.reply) (front ++ x ∷ back) ≡ replies s (front ++ x ∷ back)
    → x.reply ≡ (step (replay s front) x.pass x.event).1
reply_at s [] x back told = (heads _ _ _ _ told).0
reply_at s (y ∷ front) x back told = reply_at (after s y) front x back (heads _ _ _ _ told).1

entry_ready : (t : Moment) (n : ℕ) (handed : Handed) (x : Entry) → Apart t.manager.passes.rules → x.reply ≡ (step t x.pass x.event).1 → WasHanded n handed x → IsReady n handed (after t x)
entry_ready t n handed x apart told was =
    subst (IsReady n handed) (sym (λ i. (step t (was.by_it i) (was.asked i)).0))
    (handed_ready t n was.project was.index was.kind handed apart
    (sym (λ i. (step t (was.by_it i) (was.asked i)).1.answer) ∙ (sym (ap (λ (r : Reply). r.answer) told) ∙ was.answered)))

-- ---- histories

-- where no pass has a rule yet no two have rules that conflict
pub first_apart : (s : Moment) → s.manager ≡ first_manager → Apart s.manager.passes.rules
first_apart s first = subst (λ (m : JobManager). Apart m.passes.rules) (sym first) tt

told_still : (s : Moment) (n : ℕ) (handed : Handed) (front : List Entry) (x : Entry) (between : List Entry) → Apart s.manager.passes.rules
    → map (λ (y : Entry). y.reply) (front ++ x ∷ between) ≡ replies s (front ++ x ∷ between) → WasHanded n handed x → of (λ (y : Entry). y.pass) n between ≡ []
    → FoundStill s n handed x (front ++ x ∷ between)
told_still s n handed front x between apart told was none = record {
  front = front;
  between = between;
  are = refl;
  others = none;
  still = subst (λ m. StoodStill m (replay s (front ++ x ∷ between))) (sym (replay_append s front (x ∷ []))) (subst (StoodStill u) now still);
  so = subst (IsStillSo handed) now (so_now handed u (replay u between) still ready.1);
}
  where
    u : Moment
    u = after (replay s front) x

    ready : IsReady n handed u
    ready = entry_ready (replay s front) n handed x (replay_apart s front apart) (reply_at s front x between told) was

    still : StoodStill u (replay u between)
    still = stood u (replay u between) (others_stand u n between none ready.0)

    now : replay u between ≡ replay s (front ++ x ∷ between)
    now = sym (replay_append s front (x ∷ between))

-- where the last entry of a pass is the one by which it was handed something for a command, all has stood still since, and
-- what it was handed is so
pub found_still : (s : Moment) (n : ℕ) (handed : Handed) (mine : List Entry) (x : Entry) (found : List Entry) → IsApart atom_contains atom_conflicts s.manager.passes.rules
    → Legal s found → WasHanded n handed x → of (λ (y : Entry). y.pass) n found ≡ mine ++ x ∷ [] → FoundStill s n handed x found
found_still s n handed mine x found apart legal was own =
    let d = split (λ (y : Entry). y.pass) n found mine x [] own in
    subst (FoundStill s n handed x) (sym d.are)
    (told_still s n handed d.front x d.back apart (subst (λ h. map (λ (y : Entry). y.reply) h ≡ replies s h) d.are legal.replies) was d.own_back)

-- in a workspace that was opened without rules
pub finds_still : (s : Moment) (n : ℕ) (found : List Entry) → s.manager ≡ first_manager → Legal s found → FindsStill s n found
finds_still s n found first legal mine x handed own was = found_still s n handed mine x found (first_apart s first) legal was own

-- the replies of the first part of a history
front_told : (s : Moment) (g k : List Entry) → map (λ (y : Entry). y.reply) (g ++ k) ≡ replies s (g ++ k) → map (λ (y : Entry). y.reply) g ≡ replies s g
front_told s [] k told = refl
front_told s (x ∷ g) k told = let t = heads _ _ _ _ told in λ i. t.0 i ∷ front_told (after s x) g k t.1 i

-- so it is in a history, up to the next entry of the pass
pub stood_still : (s : Moment) (n : ℕ) (handed : Handed) (front : List Entry) (x : Entry) (between : List Entry) (y : Entry) (rest : List Entry) → IsApart atom_contains atom_conflicts s.manager.passes.rules
    → Legal s (front ++ x ∷ (between ++ y ∷ rest)) → WasHanded n handed x → of (λ (z : Entry). z.pass) n between ≡ []
    → FoundStill s n handed x (front ++ x ∷ between)
stood_still s n handed front x between y rest apart legal was none =
    told_still s n handed front x between apart
    (front_told s (front ++ x ∷ between) (y ∷ rest) (subst (λ h. map (λ (z : Entry). z.reply) h ≡ replies s h) (sym (append_assoc front (x ∷ between) (y ∷ rest))) legal.replies)) was none

-- and where among the pass's own entries that one is directly followed by another, as by the one by which it commits
pub kept_still : (s : Moment) (n : ℕ) (handed : Handed) (before : List Entry) (x y : Entry) (later h : List Entry) → IsApart atom_contains atom_conflicts s.manager.passes.rules
    → Legal s h → WasHanded n handed x → of (λ (z : Entry). z.pass) n h ≡ before ++ x ∷ (y ∷ later) → KeptStill s n handed x y h
kept_still s n handed before x y later h apart legal was own =
    let d = split (λ (z : Entry). z.pass) n h before x (y ∷ later) own in
    let f = split (λ (z : Entry). z.pass) n d.back [] y later d.own_back in
    let are : h ≡ d.front ++ x ∷ (f.front ++ y ∷ f.back) = d.are ∙ ap (λ l. d.front ++ x ∷ l) f.are in
    record {
      found = d.front ++ x ∷ f.front;
      rest = f.back;
      are = are ∙ sym (append_assoc d.front (x ∷ f.front) (y ∷ f.back));
      still = stood_still s n handed d.front x f.front y f.back apart (subst (Legal s) are legal) was f.own_front;
    }
