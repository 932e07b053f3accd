-- Commands at their places, as builds and the core name them.
use Rattle.std.proofs.Common.{◌≡◌, ℕ, Bool, true, false, not, ◌&&◌, List, [], ◌∷◌, length, nat_le, Option, Some, None, refl, sym, ap, ◌∙◌}
use Rattle.std.specs.Prelude.{option_and_then, slice_get, unwrap_or, is_some}
use Rattle.std.specs.List.{list_any}
use Rattle.std.specs.Option.{option_map, option_or}
use Rattle.std.specs.FinMap.{contains_key}
use Rattle.std.specs.Str.{bytes_eq}
use Rattle.std.proofs.lemmas.Bool.{lt-leb}
use Rattle.std.proofs.lemmas.Option.{slice_get_within}
use Rattle.res_path.specs.Paths.{Names}
use Rattle.proj_desc.specs.FirstCause.{first_cause, when}
use Rattle.proj_desc.specs.declared.command.Command.{Command}
use Rattle.proj_desc.specs.declared.desc.Desc.{Desc}
use Rattle.sched_rules.specs.declared.ws_atom.WsAtom.{WsAtom}
use Rattle.ws_elem.specs.Kinds.{is_project}
use Rattle.ws_elem.specs.Trees.{Tree}
use Rattle.op_kind.specs.Places.{has_closed, is_shut}
use Rattle.op_kind.specs.declared.refusal.OpRefusal.TheVariants.{NotFound, ProjectClosed}
use Rattle.build_laws.specs.States.{Item, IsItem, item, refers}
use Rattle.build_plan.specs.Descriptions.{desc_at}
use Rattle.build_plan.proofs.Valid.{at_valid, described_open}
use Rattle.build_due.specs.Sites.{site, site_at}
use Rattle.build_due.specs.declared.site.Site.{Site}
use Rattle.core_event.specs.declared.reply.Refusal.{Refusal}
use Rattle.core_event.specs.declared.reply.Refusal.TheVariants.{NoBuilder, NoCommand, Operation}
use Rattle.pass_table.specs.Passes.{Passes}
use Rattle.service_desk.specs.declared.desk.Desk.{Desk}
use Rattle.service_desk.specs.declared.desk.UnderWay.{UnderWay}
use Rattle.service_desk.specs.Desks.{is_building, site_of}
use Rattle.service_desk.specs.Refusals.{commands_of, no_builder, not_serving, site_causes, unrooted}
use Rattle.service_desk.specs.Sites.{site_in}
use Rattle.build_core.specs.States.{site_of_item}

-- what stands there is a command of an open project
pub record IsSite (t : Tree) (project : List ℕ) (index : ℕ) (s : Site) : Type 0 where
  pub listed : IsItem (desc_at t) (item project index s.command)
  pub at : s ≡ site_of_item t (item project index s.command)

refers_said : (t : Tree) (project : List ℕ) (d : Desc) → desc_at t project ≡ Some d → refers (desc_at t) project ≡ d.references
refers_said t project d is = ap (λ (o : Option Desc). unwrap_or (option_map (λ e. e.references) o) []) is

-- what is found at a place is a command there
pub site_item : (t : Tree) (project : List ℕ) (index : ℕ) (s : Site) → site_in t project index ≡ Some s → IsSite t project index s
site_item t project index s h = by (desc_at t project) refl h
  where
    of : (d : Desc) (o : Option Command) → desc_at t project ≡ Some d → slice_get d.commands index ≡ o
        → option_map (λ (c : Command). site (item project index c) d.references) o ≡ Some s → IsSite t project index s
    of d None is got g = absurd (let no : None ≡ Some s = g in cc)
    of d (Some c) is got g =
        let same : site (item project index c) d.references ≡ s = cc in
        let says : c ≡ s.command = ap (λ (x : Site). x.command) same in
        record {
          listed = record { desc = d; described = is; valid = at_valid t project d is; stands = got ∙ ap (λ x. Some x) says };
          at = sym same ∙ (λ k. site (item project index (says k)) (sym (refers_said t project d is) k));
        }

    by : (o : Option Desc) → desc_at t project ≡ o → option_and_then (site_at project index) o ≡ Some s → IsSite t project index s
    by None is g = absurd (let no : None ≡ Some s = g in cc)
    by (Some d) is g = of d (slice_get d.commands index) is refl g

-- and each command is found at its place
pub item_site : (t : Tree) (i : Item) → IsItem (desc_at t) i → site_in t i.project i.index ≡ Some (site_of_item t i)
item_site t i h =
    ap (option_and_then (site_at i.project i.index)) h.described
    ∙ ap (option_map (λ (c : Command). site (item i.project i.index c) h.desc.references)) h.stands
    ∙ ap (λ rs. Some (site i rs)) (sym (refers_said t i.project h.desc h.described))

-- so is the command that is under way
pub under_site : (t : Tree) (u : Option UnderWay) (i : Item) → u ≡ Some (record { project = i.project; index = i.index }) → IsItem (desc_at t) i
    → site_of t u ≡ Some (site_of_item t i)
under_site t u i is h = ap (site_of t) is ∙ item_site t i h

-- ---- why a command is refused

open_not_closed : (kind opened : Bool) → kind ≡ true → opened ≡ true → (kind && not opened) ≡ false
open_not_closed true true h g = refl
open_not_closed true false h g = cc
open_not_closed false opened h g = cc

of_six : (a b c d e f : Option Refusal) → a ≡ None → b ≡ None → c ≡ None → d ≡ None → e ≡ None → first_cause (a ∷ b ∷ c ∷ d ∷ e ∷ f ∷ []) ≡ f
of_six a b c d e f ha hb hc hd he = (λ k. first_cause (ha k ∷ hb k ∷ hc k ∷ hd k ∷ he k ∷ f ∷ [])) ∙ by f
  where
    by : (x : Option Refusal) → option_or x None ≡ x
    by None = refl
    by (Some r) = refl

-- whether there is a builder of the command
abbrev pub has_builder : Names → Item → Bool
has_builder builders i = list_any (bytes_eq i.command.builder) builders

-- the pass that has the services for a build and the rule of the root is refused a command only where there is no builder for it
pub site_refusal : (passes : Passes WsAtom) (t : Tree) (d : Desk) (k : ℕ) (i : Item) → IsItem (desc_at t) i → not_serving passes (is_building d.serving) k ≡ None → unrooted passes.rules k ≡ None
    → first_cause (site_causes passes t d k i.project i.index) ≡ when (not (has_builder d.builders i)) (NoBuilder i.command.builder)
site_refusal passes t d k i h serving rooted =
    let there = described_open t i.project h.desc h.described in
    let cs : List Command = commands_of t i.project in
    let says : cs ≡ h.desc.commands = ap (λ (o : Option Desc). unwrap_or (option_map (λ d. d.commands) o) []) h.described in
    let got : slice_get cs i.index ≡ Some i.command = ap (λ xs. slice_get xs i.index) says ∙ h.stands in
    of_six (not_serving passes (is_building d.serving) k) (unrooted passes.rules k)
    (when (not (contains_key t (i.project ∷ []))) (Operation (NotFound (i.project ∷ []))))
    (when (is_shut t (i.project ∷ [])) (Operation (ProjectClosed (i.project ∷ []))))
    (when (nat_le (length cs) i.index) (NoCommand (length cs)))
    (no_builder d.builders (slice_get cs i.index))
    serving rooted
    (ap (λ o. when (not (is_some o)) (Operation (NotFound (i.project ∷ [])))) there.got)
    (ap (λ o. when (has_closed o) (Operation (ProjectClosed (i.project ∷ [])))) there.got ∙ ap (λ b. when b (Operation (ProjectClosed (i.project ∷ [])))) (open_not_closed (is_project there.element.kind) there.element.opened there.kind there.opened))
    (ap (λ b. when b (NoCommand (length cs))) (lt-leb (length cs) i.index (slice_get_within cs i.index i.command got)))
    ∙ ap (no_builder d.builders) got
