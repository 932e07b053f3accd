-- Plans of valid projects.
use Rattle.std.specs.Prelude.{◌≡◌, ◌≢◌, false, List, [], ◌∷◌, Some}
use Rattle.std.specs.List.{AllByRecursion, AllPairs, list_any, flat_map}
use Rattle.std.specs.Str.{bytes_eq}
use Rattle.res_path.specs.Paths.{Names}
use Rattle.proj_desc.specs.declared.desc.Desc.{Desc}
use Rattle.proj_desc.specs.Valid.{IsValid}
use Rattle.build_laws.specs.States.{Descs, refers}
use Rattle.build_laws.specs.Builds.{Project, knots_of}

-- the project is open, and its valid description lists these commands
pub record IsDescribed (descs : Descs) (p : Project) : Type 0 where
  pub desc : Desc
  pub described : descs p.0 ≡ Some desc
  pub valid : IsValid p.0 desc
  pub commands : desc.commands ≡ p.1

-- no project of a group refers to one of a later group
abbrev pub ArePlaced : Descs → List (List Project) → Type 0
ArePlaced descs [] = Unit {0}
ArePlaced descs (g ∷ gs) = AllByRecursion (λ p. AllByRecursion (λ q. list_any (bytes_eq q.0) (refers descs p.0) ≡ false) (flat_map (λ h. h) gs)) g × ArePlaced descs gs

-- the projects in their order, of which each is built once, and the knots, which are built in rounds
pub record IsPlanned (descs : Descs) (order : List Project) (knots : List Names) (groups : List (List Project)) : Type 0 where
  pub ordered : order ≡ flat_map (λ g. g) groups
  pub tied : knots ≡ knots_of groups
  pub full : AllByRecursion (λ g. g ≢ []) groups
  -- each project once, open and with its commands
  pub once : AllPairs (λ p q. p.0 ≢ q.0) order
  pub described : AllByRecursion (IsDescribed descs) order
  -- after all to which it refers, but for those of its knot
  pub placed : ArePlaced descs groups
