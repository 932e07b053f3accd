-- The output of a command lies below a project that is there and open.
use Rattle.std.proofs.Common.{◌≡◌, ◌≤◌, ℕ, Bool, true, false, not, ◌&&◌, List, [], ◌∷◌, length, refl, ap, ◌∙◌, subst, arith}
use Rattle.std.specs.Prelude.{Option, Some, None, is_some, nat_lt, option_and_then, slice_get}
use Rattle.std.specs.Option.{option_map}
use Rattle.std.specs.List.{list_all}
use Rattle.std.proofs.lemmas.Bool.{and_parts}
use Rattle.std.proofs.lemmas.Option.{get_or_from_slice_get, slice_get_within}
use Rattle.res_path.specs.Paths.{Names}
use Rattle.proj_desc.specs.Causes.{has_places, is_inside, is_path, is_placed}
use Rattle.proj_desc.specs.declared.command.Command.{Command}
use Rattle.proj_desc.specs.declared.desc.Desc.{Desc}
use Rattle.ws_elem.specs.Kinds.{is_project}
use Rattle.ws_elem.specs.Trees.{Tree}
use Rattle.op_kind.specs.Places.{has_closed}
use Rattle.output_commit.specs.Committed.{IsOpenOutput}
use Rattle.build_laws.specs.States.{item}
use Rattle.build_plan.specs.Descriptions.{desc_at}
use Rattle.build_plan.proofs.Valid.{at_valid, described_open}
use Rattle.build_due.specs.Sites.{site, site_at}
use Rattle.build_due.specs.declared.site.Site.{Site}
use Rattle.service_desk.specs.Sites.{site_in}

never : {A : Type 0} (x : A) → None ≡ Some x → ⊥
never x h = cc

two_names : (project : List ℕ) (o : Names) → nat_lt 0 (length o) ≡ true → 2 ≤ length (project ∷ o)
two_names project [] h = cc
two_names project (name ∷ o) h = omega arith

open_not_closed : (kind opened : Bool) → kind ≡ true → opened ≡ true → (kind && not opened) ≡ false
open_not_closed true true h g = refl
open_not_closed true false h g = cc
open_not_closed false opened h g = cc

pub open_output : (t : Tree) (project : List ℕ) (index : ℕ) (s : Site) → site_in t project index ≡ Some s → IsOpenOutput t s.output
open_output t project index s h = by (desc_at t project) refl h
  where
    of : (d : Desc) (o : Option Command) → desc_at t project ≡ Some d → slice_get d.commands index ≡ o
        → option_map (λ (c : Command). site (item project index c) d.references) o ≡ Some s → IsOpenOutput t s.output
    of d None at got g = absurd (never s g)
    of d (Some c) at got g =
        let same : site (item project index c) d.references ≡ s = cc in
        let places : has_places project c ≡ true =
        subst (λ (x : Command). has_places project x ≡ true) (get_or_from_slice_get d.commands index c c got) ((at_valid t project d at).placed index c (slice_get_within d.commands index c got)) in
        let inside = (and_parts (list_all (is_placed project) c.inputs) (is_inside project c.output) places).1 in
        let there = described_open t project d at in
        subst (λ (x : Site). IsOpenOutput t x.output) same (record {
          long = two_names project c.output (and_parts (nat_lt 0 (length c.output)) (is_path (project ∷ c.output)) inside).0;
          there = ap is_some there.got;
          opened = ap has_closed there.got ∙ open_not_closed (is_project there.element.kind) there.element.opened there.kind there.opened;
        })

    by : (o : Option Desc) → desc_at t project ≡ o → option_and_then (site_at project index) o ≡ Some s → IsOpenOutput t s.output
    by None at g = absurd (never s g)
    by (Some d) at g = of d (slice_get d.commands index) at refl g
