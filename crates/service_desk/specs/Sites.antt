-- The commands of a tree's projects, at their places.
use Rattle.std.specs.Prelude.{ℕ, List, Option, option_and_then}
use Rattle.ws_elem.specs.Trees.{Tree}
use Rattle.build_due.specs.declared.site.Site.{Site}
use Rattle.build_due.specs.Sites.{site_at}
use Rattle.build_plan.specs.Descriptions.{desc_at}

-- the command of this number of the open project of this name, if there is one
abbrev pub site_in : Tree → List ℕ → ℕ → Option Site
site_in t project index = option_and_then (site_at project index) (desc_at t project)
