use Rattle.std.proofs.Common.{◌≡◌, ◌≤◌, ◌∙◌, ap, sym, ℕ, List, Some, None, subst, false}
use Rattle.std.specs.Prelude.{IsUtf8}
use Rattle.std.proofs.lemmas.Result.{IfOk-weaker}
use Rattle.serde_json.specs.Data.{Data, depth}
use Rattle.serde_json.specs.Read.{read, max_depth}
use Rattle.serde_json.specs.View.{view}
use Rattle.serde_json.specs.Written.{compact_text, has_float}
use Rattle.proj_desc.specs.Canonical.{command_text, IsCommandText}
use Rattle.proj_desc.specs.Causes.{command_cause}
use Rattle.proj_desc.proofs.Alone.{command_floatless, command_shallow, command_text_back}
use Rattle.proj_desc.proofs.Back.{if_both}
use Rattle.proj_desc.proofs.command.Command.text.Goals as goal

pub returns-clause-text : goal.returns-clause-text
returns-clause-text c =
    IfOk-weaker c.to_vec.result
    (λ b. has_float (view c.in_ok-value.value) ≡ false → b.items ≡ compact_text (view c.in_ok-value.value))
    (λ b. b.items ≡ command_text c.args.self.now)
    (λ b h. h (ap has_float c.in_ok-value.ensures ∙ command_floatless c.args.self.now) ∙ ap compact_text c.in_ok-value.ensures)
    c.to_vec.ensures.text

pub returns-clause-back : goal.returns-clause-back
returns-clause-back c =
    if_both c.to_vec.result
    (λ b. (b.items ≡ command_text c.args.self.now) × IsUtf8 b.items)
    (λ b. depth (view c.in_ok-value.value) ≤ max_depth → read b.items ≡ Some (view c.in_ok-value.value))
    (λ b. (project : List ℕ) → command_cause project c.args.self.now ≡ None → IsCommandText project b.items)
    (λ b both r project none. command_text_back project b.items c.args.self.now both.0 both.1
    (r (subst (λ (d : Data). depth d ≤ max_depth) (sym c.in_ok-value.ensures) (command_shallow c.args.self.now)) ∙ ap Some c.in_ok-value.ensures) none)
    (if_both c.to_vec.result (λ b. b.items ≡ command_text c.args.self.now) (λ b. IsUtf8 b.items)
    (λ b. (b.items ≡ command_text c.args.self.now) × IsUtf8 b.items) (λ b t u. (t, u)) (returns-clause-text c) c.to_vec.ensures.utf8)
    c.to_vec.ensures.reads_back
