-- What is described of a project is a valid description, and only open projects are described.
use Rattle.std.proofs.Common.{◌≡◌, ℕ, Bool, true, false, ◌&&◌, List, [], ◌∷◌, Option, Some, None, refl, ap, ◌∙◌, subst, arith}
use Rattle.std.specs.Prelude.{if◌then◌else◌, is_none, unwrap_or, option_and_then}
use Rattle.std.specs.FinMap.{get}
use Rattle.std.proofs.lemmas.Bool.{and_from, and_parts}
use Rattle.proj_desc.specs.declared.desc.Desc.{Desc}
use Rattle.proj_desc.specs.declared.cause.DescCause.{DescCause}
use Rattle.proj_desc.specs.Canonical.{described}
use Rattle.proj_desc.specs.Causes.{desc_cause}
use Rattle.proj_desc.specs.Valid.{IsValid}
use Rattle.proj_desc.proofs.Back.{described_keeps}
use Rattle.proj_desc.proofs.Valid.{valid}
use Rattle.ws_elem.specs.declared.element.Element.{Element}
use Rattle.ws_elem.specs.Kinds.{is_project}
use Rattle.ws_elem.specs.Trees.{Tree}
use Rattle.build_plan.specs.Descriptions.{empty_desc, desc_of, described_by, desc_at}

empty_valid : (project : List ℕ) → IsValid project empty_desc
empty_valid project = record {
  few = refl;
  named = refl;
  placed = λ k d l. absurd (omega (arith, l));
  others = λ k d l. absurd (omega (arith, l));
  once = λ i j d l m. absurd (omega (arith, m));
  referenced = λ k d l. absurd (omega (arith, l));
  apart = λ i j d l m. absurd (omega (arith, m));
  unread = λ i j c l m. absurd (omega (arith, m));
}

desc_valid : (project text : List ℕ) → IsValid project (desc_of project text)
desc_valid project text = by (desc_cause project text) refl
  where
    of : (o : Option Desc) → desc_cause project text ≡ None → described text ≡ o → IsValid project (unwrap_or o empty_desc)
    of None none is = empty_valid project
    of (Some d) none is = valid project d (described_keeps project text d none is)

    by : (o : Option DescCause) → desc_cause project text ≡ o → IsValid project (if is_none o then unwrap_or (described text) empty_desc else empty_desc)
    by None none = of (described text) none refl
    by (Some c) e = empty_valid project

by_valid : (project : List ℕ) (e : Element) (d : Desc) → described_by project e ≡ Some d → IsValid project d
by_valid project e d h = by (is_project e.kind && e.opened) h
  where
    by : (b : Bool) → (if b then Some (desc_of project e.attached.desc) else None) ≡ Some d → IsValid project d
    by true g = let same : desc_of project e.attached.desc ≡ d = cc in subst (IsValid project) same (desc_valid project e.attached.desc)
    by false g = absurd (let no : None ≡ Some d = g in cc)

-- each description of an open project is a valid one
pub at_valid : (t : Tree) (project : List ℕ) (d : Desc) → desc_at t project ≡ Some d → IsValid project d
at_valid t project d h = by (get t (project ∷ [])) h
  where
    by : (o : Option Element) → option_and_then (described_by project) o ≡ Some d → IsValid project d
    by None g = absurd (let no : None ≡ Some d = g in cc)
    by (Some e) g = by_valid project e d g

-- ---- which projects are described

-- an open project is described as its text says
pub open_described : (t : Tree) (project : List ℕ) (e : Element) → get t (project ∷ []) ≡ Some e → is_project e.kind ≡ true → e.opened ≡ true → desc_at t project ≡ Some (desc_of project e.attached.desc)
open_described t project e got kind opened =
    ap (option_and_then (described_by project)) got ∙ ap (λ b. if b then Some (desc_of project e.attached.desc) else None) (and_from (is_project e.kind) e.opened kind opened)

-- the open project of which this is the description
pub record IsOpenAs (t : Tree) (project : List ℕ) (d : Desc) : Type 0 where
  pub element : Element
  pub got : get t (project ∷ []) ≡ Some element
  pub kind : is_project element.kind ≡ true
  pub opened : element.opened ≡ true
  pub says : desc_of project element.attached.desc ≡ d

-- and no other project is described
pub described_open : (t : Tree) (project : List ℕ) (d : Desc) → desc_at t project ≡ Some d → IsOpenAs t project d
described_open t project d h = by (get t (project ∷ [])) refl h
  where
    of : (e : Element) (b : Bool) → get t (project ∷ []) ≡ Some e → (is_project e.kind && e.opened) ≡ b → (if b then Some (desc_of project e.attached.desc) else None) ≡ Some d → IsOpenAs t project d
    of e true got is g = let parts = and_parts (is_project e.kind) e.opened is in record { element = e; got = got; kind = parts.0; opened = parts.1; says = cc }
    of e false got is g = absurd (let no : None ≡ Some d = g in cc)

    by : (o : Option Element) → get t (project ∷ []) ≡ o → option_and_then (described_by project) o ≡ Some d → IsOpenAs t project d
    by None got g = absurd (let no : None ≡ Some d = g in cc)
    by (Some e) got g = of e (is_project e.kind && e.opened) got refl g
