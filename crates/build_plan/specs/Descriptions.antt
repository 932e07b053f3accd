-- What the projects of a tree describe.
use Rattle.std.specs.Prelude.{ℕ, ◌&&◌, if◌then◌else◌, List, [], ◌∷◌, Option, Some, None, is_none, unwrap_or, option_and_then}
use Rattle.std.specs.FinMap.{get}
use Rattle.proj_desc.specs.declared.desc.Desc.{Desc}
use Rattle.proj_desc.specs.Canonical.{described}
use Rattle.proj_desc.specs.Causes.{desc_cause}
use Rattle.ws_elem.specs.declared.element.Element.{Element}
use Rattle.ws_elem.specs.Kinds.{is_project}
use Rattle.ws_elem.specs.Trees.{Tree}
use Rattle.build_laws.specs.States.{Descs}

-- no references and no commands
abbrev pub empty_desc : Desc
empty_desc = record { references = []; commands = [] }

-- the description of the project that the text is, the empty one where it is none
abbrev pub desc_of : List ℕ → List ℕ → Desc
desc_of project text = if is_none (desc_cause project text) then unwrap_or (described text) empty_desc else empty_desc

-- the description of the project that the element is, if it is an open one
abbrev pub described_by : List ℕ → Element → Option Desc
described_by project e = if is_project e.kind && e.opened then Some (desc_of project e.attached.desc) else None

-- the description of the open project of the name, if there is one
abbrev pub desc_at : Tree → Descs
desc_at t project = option_and_then (described_by project) (get t (project ∷ []))
