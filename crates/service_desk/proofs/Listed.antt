-- Commands by their numbers, and paths of projects.
use Rattle.std.proofs.Common.{◌≡◌, ◌≢◌, ℕ, suc, zero, arith, rules, Bool, true, false, ◌&&◌, List, [], ◌∷◌, ◌++◌, length, refl, sym, ap, ◌∙◌}
use Rattle.std.specs.Prelude.{Option, Some, None, nat_le, slice_get, IfSome, option_map, unwrap_or}
use Rattle.std.specs.Option.{option_or}
use Rattle.std.specs.Str.{bytes_eq}
use Rattle.res_path.specs.Paths.{Names, last_name, path_eq}
use Rattle.proj_desc.specs.declared.command.Command.{Command}
use Rattle.proj_desc.specs.declared.desc.Desc.{Desc}
use Rattle.proj_desc.specs.FirstCause.{first_cause, when}
use Rattle.build_due.specs.declared.site.Site.{Site}
use Rattle.build_due.specs.Sites.{site, site_at}
use Rattle.build_laws.specs.States.{item}
use Rattle.build_plan.specs.Descriptions.{desc_at}
use Rattle.ws_elem.specs.Trees.{Tree}
use Rattle.core_event.specs.declared.reply.Refusal.{Refusal}
use Rattle.core_event.specs.declared.reply.Refusal.TheVariants.{NoCommand}
use Rattle.service_desk.specs.Refusals.{command_causes, commands_of, no_builder}

-- ---- paths

pub not_one : (p : Names) (project : List ℕ) → length p ≢ 1 → path_eq p (project ∷ []) ≡ false
not_one [] project h = refl
not_one (name ∷ []) project h = absurd (h refl)
not_one (name ∷ other ∷ p) project h = off (bytes_eq name project)
  where
    off : (b : Bool) → (b && false) ≡ false
    off true = refl
    off false = refl

pub one_of : (p : Names) (project : List ℕ) → length p ≡ 1 → IfSome (last_name p) (λ name. bytes_eq name project ≡ path_eq p (project ∷ []))
one_of [] project h = absurd (omega (arith, h))
one_of (name ∷ []) project h = on (bytes_eq name project)
  where
    on : (b : Bool) → b ≡ (b && true)
    on true = refl
    on false = refl
one_of (name ∷ other ∷ p) project h = absurd (omega (arith, h))

pub no_last : (p : Names) (project : List ℕ) → last_name p ≡ None → path_eq p (project ∷ []) ≡ false
no_last [] project h = refl
no_last (name ∷ []) project h = cc
no_last (name ∷ other ∷ p) project h = off (bytes_eq name project)
  where
    off : (b : Bool) → (b && false) ≡ false
    off true = refl
    off false = refl

-- ---- causes

-- the first of some causes is the first of more
pub front : {C : Type 0} (cs ds : List (Option C)) (c : C) → first_cause cs ≡ Some c → first_cause (cs ++ ds) ≡ Some c
front [] ds c h = cc
front (None ∷ cs) ds c h = front cs ds c h
front (Some first ∷ cs) ds c h = h

-- ---- commands

commands_are : (t : Tree) (project : List ℕ) (d : Desc) → desc_at t project ≡ Some d → commands_of t project ≡ d.commands
commands_are t project d h = ap (λ (o : Option Desc). unwrap_or (option_map (λ d. d.commands) o) []) h

beyond : (cs : List Command) (n : ℕ) → slice_get cs n ≡ None → nat_le (length cs) n ≡ true
beyond [] zero h = refl
beyond [] (suc n) h = search (rules)
beyond (c ∷ cs) zero h = cc
beyond (c ∷ cs) (suc n) h = let rest = beyond cs n h in search (rules, rest)

within : (cs : List Command) (n : ℕ) (c : Command) → slice_get cs n ≡ Some c → nat_le (length cs) n ≡ false
within [] zero c h = cc
within [] (suc n) c h = cc
within (x ∷ cs) zero c h = search (rules)
within (x ∷ cs) (suc n) c h = let rest = within cs n c h in search (rules, rest)

no_site : (project : List ℕ) (n : ℕ) (d : Desc) → site_at project n d ≡ None → slice_get d.commands n ≡ None
no_site project n d = by (slice_get d.commands n)
  where
    by : (o : Option Command) → option_map (λ c. site (item project n c) d.references) o ≡ None → o ≡ None
    by None h = refl
    by (Some c) h = cc

one_site : (project : List ℕ) (n : ℕ) (d : Desc) (s : Site) → site_at project n d ≡ Some s → slice_get d.commands n ≡ Some s.command
one_site project n d s = by (slice_get d.commands n)
  where
    same : (a b : Site) → ◌≡◌ {A = Option Site} (Some a) (Some b) → a ≡ b
    same a b h = cc

    by : (o : Option Command) → option_map (λ c. site (item project n c) d.references) o ≡ Some s → o ≡ Some s.command
    by None h = cc
    by (Some c) h = ap (λ (x : Site). Some x.command) (same (site (item project n c) d.references) s h)

first_of : (builders : Names) (cs : List Command) (n : ℕ) (b : Bool) (o : Option Command) → nat_le (length cs) n ≡ b → slice_get cs n ≡ o
    → first_cause (when (nat_le (length cs) n) (NoCommand (length cs)) ∷ no_builder builders (slice_get cs n) ∷ []) ≡ first_cause (when b (NoCommand (length cs)) ∷ no_builder builders o ∷ [])
first_of builders cs n b o h g i = first_cause (when (h i) (NoCommand (length cs)) ∷ no_builder builders (g i) ∷ [])

-- a project has no command of this number
pub is_beyond : (t : Tree) (builders : Names) (project : List ℕ) (n : ℕ) (d : Desc) → desc_at t project ≡ Some d → site_at project n d ≡ None
    → first_cause (command_causes t builders project n) ≡ Some (NoCommand (length d.commands))
is_beyond t builders project n d there none =
    let none_there = no_site project n d none in
    ap (λ cs. first_cause (when (nat_le (length cs) n) (NoCommand (length cs)) ∷ no_builder builders (slice_get cs n) ∷ [])) (commands_are t project d there)
    ∙ first_of builders d.commands n true None (beyond d.commands n none_there) none_there

-- and where it has one, what counts is whether there is a builder for it
pub is_within : (t : Tree) (builders : Names) (project : List ℕ) (n : ℕ) (d : Desc) (s : Site) → desc_at t project ≡ Some d → site_at project n d ≡ Some s
    → no_builder builders (Some s.command) ≡ first_cause (command_causes t builders project n)
is_within t builders project n d s there one =
    let is = one_site project n d s one in
    last (no_builder builders (Some s.command))
    ∙ sym (ap (λ cs. first_cause (when (nat_le (length cs) n) (NoCommand (length cs)) ∷ no_builder builders (slice_get cs n) ∷ [])) (commands_are t project d there)
    ∙ first_of builders d.commands n false (Some s.command) (within d.commands n s.command is) is)
  where
    last : (o : Option Refusal) → o ≡ option_or o None
    last None = refl
    last (Some r) = refl
