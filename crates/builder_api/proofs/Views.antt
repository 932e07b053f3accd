-- What is seen of files.
use Rattle.std.proofs.Common.{◌≡◌, ℕ, true, cond, ◌||◌, List, ◌∷◌, ◌++◌, ap, ◌∙◌, None}
use Rattle.std.specs.FinMap.{get}
use Rattle.res_path.specs.Paths.{Names}
use Rattle.builder_api.specs.Places.{is_within, is_below}
use Rattle.builder_api.specs.Files.{Files}
use Rattle.builder_api.specs.Tasks.{Task, inputs_of, view_of}
use Rattle.builder_api.proofs.Places.{below_append, or_true}
use Rattle.builder_api.proofs.Maps.{get_kept, same_inputs}

-- a view has each file within the inputs
pub view_within : (c : Task) (f : Files) (q : Names) → is_within c.inputs q ≡ true → get (view_of c f) q ≡ get f q
view_within c f q h = get_kept f (λ q. is_within c.inputs q || is_below c.output q) q ∙ ap (λ b. cond (b || is_below c.output q) (get f q) None) h

-- and each file below the output
pub view_below : (c : Task) (f : Files) (n : List ℕ) (r : Names) → get (view_of c f) (c.output ++ n ∷ r) ≡ get f (c.output ++ n ∷ r)
view_below c f n r = get_kept f (λ q. is_within c.inputs q || is_below c.output q) (c.output ++ n ∷ r)
    ∙ ap (λ b. cond (is_within c.inputs (c.output ++ n ∷ r) || b) (get f (c.output ++ n ∷ r)) None) (below_append c.output n r)
    ∙ ap (λ b. cond b (get f (c.output ++ n ∷ r)) None) (or_true (is_within c.inputs (c.output ++ n ∷ r)))

-- so its input files are all
pub view_inputs : (c : Task) (f : Files) → inputs_of c (view_of c f) ≡ inputs_of c f
view_inputs c f = same_inputs c.inputs (view_of c f) f (view_within c f)
