use Rattle.std.proofs.Common.{◌<◌, length, sym, ◌∙◌, ap, subst}
use Rattle.std.specs.Prelude.{IsUtf8}
use Rattle.res_path.specs.Parts.{path_fault, IsKept}
use Rattle.res_path.proofs.Kept.{never_refused, kept_by_text, read_again}
use Rattle.res_path.proofs.Spelled.{path_text-parts_of}
use Rattle.res_path.proofs.path.Path.parse.Goals as goal
use Rattle.res_path.proofs.path.Path.parse.Goals.{In_ok-text}

kept : (c : In_ok-text) → IsKept c.in_ok-text.text × (0 < length c.in_ok-text.text)
kept c =
    kept_by_text c.in_ok-text.text (subst IsUtf8 (sym c.in_ok-text.ensures) c.utf8.text)
    (ap path_fault (c.in_ok-text.ensures ∙ sym c.as_bytes.ensures.value) ∙ sym c.path_fault.ensures ∙ c.in_default.is)
    (λ e. c.if-text-eq1.false (sym (e ∙ ap length c.in_ok-text.ensures)))

pub returns-in-Some-clause-all : goal.returns-in-Some-clause-all
returns-in-Some-clause-all c = λ path h t.
    absurd (never_refused c.args.text.now c.in-Some.fault (ap path_fault (sym c.as_bytes.ensures.value) ∙ sym c.path_fault.ensures ∙ c.in-Some.is) path h t)

pub invariant_of-result : goal.invariant_of-result
invariant_of-result c = (kept c).0

pub returns-clause-ok : goal.returns-clause-ok
returns-clause-ok c = path_text-parts_of c.in_ok-text.text (kept c).0 (kept c).1 ∙ c.in_ok-text.ensures

pub returns-clause-all : goal.returns-clause-all
returns-clause-all c = λ path h t. read_again c.in_ok-text.text (kept c).0 (kept c).1 path h (t ∙ sym c.in_ok-text.ensures)
