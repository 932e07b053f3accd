-- The name of a path's project.
use Rattle.std.proofs.Common.{◌≡◌, ◌≤◌, ℕ, List, [], ◌∷◌, length, sym, ap, ◌∙◌, subst, arith}
use Rattle.std.specs.Prelude.{Some}
use Rattle.res_path.specs.Names.{IsName}
use Rattle.res_path.specs.Paths.{Names, IsPath, last_name}
use Rattle.op_kind.specs.Places.{project_of, project_name}

pub last_is : (p q : Names) → 1 ≤ length p → q ≡ project_of p → last_name q ≡ Some (project_name p)
last_is [] q h is = absurd (omega arith)
last_is (n ∷ p) q h is = ap last_name is

pub is_named : (p q : Names) (text : List ℕ) → 1 ≤ length p → q ≡ project_of p → Some text ≡ last_name q → IsPath q → IsName text
is_named [] q text h is e path = absurd (omega arith)
is_named (n ∷ p) q text h is e path =
    let whole : IsPath (n ∷ []) = subst IsPath is path in
    let same : text ≡ n = let both : Some text ≡ Some n = e ∙ ap last_name is in cc in
    subst IsName (sym same) whole.names.0
