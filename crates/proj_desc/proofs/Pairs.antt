-- The first two commands of which one meets the other, step by step.
use Rattle.std.proofs.Common.{◌≡◌, ℕ, ◌+◌, ◌<◌, List, ◌∷◌, length, get_or, drop, Some, None, sym, ap, ◌∙◌, add-one, drop-cons}
use Rattle.std.specs.Prelude.{option_map, position}
use Rattle.std.specs.Option.{option_or}
use Rattle.std.specs.List.{list_any}
use Rattle.proj_desc.specs.declared.command.Command.{Command}
use Rattle.proj_desc.specs.declared.cause.DescCause.TheVariants.{Outputs, Inputs}
use Rattle.proj_desc.specs.Causes.{meets, outputs_from, inputs_from}
use Rattle.res_path.specs.Paths.{overlap}
use Rattle.proj_desc.proofs.Order.{reached}

-- the commands that are left, from the place i
pub left_at : (cs : List Command) (i : ℕ) (c : Command) → i < length cs → c ≡ get_or cs i c → drop i cs ≡ c ∷ drop (i + 1) cs
left_at cs i c h e = drop-cons cs i c h ∙ (λ k. sym e k ∷ drop (sym (add-one i) k) cs)

pub outputs_found : (cs : List Command) (i j : ℕ) (c : Command) → i < length cs → c ≡ get_or cs i c
    → Some j ≡ position (λ d. overlap c.output d.output) (drop (i + 1) cs) → Some (Outputs i (i + 1 + j)) ≡ outputs_from i (drop i cs)
outputs_found cs i j c h e f = reached _ _ _ (ap (option_map (λ j. Outputs i (i + 1 + j))) f) ∙ sym (ap (outputs_from i) (left_at cs i c h e))

pub outputs_passed : (cs : List Command) (i : ℕ) (c : Command) → i < length cs → c ≡ get_or cs i c
    → None ≡ position (λ d. overlap c.output d.output) (drop (i + 1) cs) → outputs_from (i + 1) (drop (i + 1) cs) ≡ outputs_from i (drop i cs)
outputs_passed cs i c h e f =
    ap (λ o. option_or (option_map (λ j. Outputs i (i + 1 + j)) o) (outputs_from (i + 1) (drop (i + 1) cs))) f ∙ sym (ap (outputs_from i) (left_at cs i c h e))

pub inputs_found : (cs : List Command) (i j : ℕ) (c : Command) → i < length cs → c ≡ get_or cs i c
    → Some j ≡ position (λ d. list_any (meets d.output) c.inputs) (drop i cs) → Some (Inputs i (i + j)) ≡ inputs_from i (drop i cs)
inputs_found cs i j c h e f =
    let left = left_at cs i c h e in
    reached _ _ _ (ap (option_map (λ j. Inputs i (i + j))) (f ∙ ap (position (λ d. list_any (meets d.output) c.inputs)) left)) ∙ sym (ap (inputs_from i) left)

pub inputs_passed : (cs : List Command) (i : ℕ) (c : Command) → i < length cs → c ≡ get_or cs i c
    → None ≡ position (λ d. list_any (meets d.output) c.inputs) (drop i cs) → inputs_from (i + 1) (drop (i + 1) cs) ≡ inputs_from i (drop i cs)
inputs_passed cs i c h e f =
    let left = left_at cs i c h e in
    ap (λ o. option_or (option_map (λ j. Inputs i (i + j)) o) (inputs_from (i + 1) (drop (i + 1) cs))) (f ∙ ap (position (λ d. list_any (meets d.output) c.inputs)) left)
    ∙ sym (ap (inputs_from i) left)
