use Rattle.std.proofs.Common.{◌≡◌, ◌<◌, length, Ok, Some, sym, ◌∙◌, ap, subst}
use Rattle.std.specs.Prelude.{IsUtf8}
use Rattle.res_path.specs.Parts.{path_fault, IsKept}
use Rattle.res_path.proofs.Kept.{never_refused, kept_by_text, read_again}
use Rattle.res_path.proofs.Spelled.{path_text-parts_of}
use Rattle.res_path.proofs.path.Path.from_text.Goals as goal
use Rattle.res_path.proofs.path.Path.from_text.Goals.{Joined-text, Else-len-eq1}

fault_is : (c : Joined-text) → path_fault c.args.text ≡ Some c.in-Some.fault
fault_is c = ap path_fault (sym (c.as_bytes.ensures.value ∙ c.as_str.ensures)) ∙ sym c.path_fault.ensures ∙ c.in-Some.is

kept : (c : Else-len-eq1) → IsKept c.args.text × (0 < length c.args.text)
kept c =
    let bytes = c.as_bytes.ensures.value ∙ c.as_str.ensures in
    kept_by_text c.args.text (subst IsUtf8 bytes c.as_bytes.ensures.utf8) (ap path_fault (sym bytes) ∙ sym c.path_fault.ensures ∙ c.in_default.is)
    (λ e. c.if-len-eq1.false (c.len.ensures.value ∙ sym e))

pub returns-in-Some-clause-all : goal.returns-in-Some-clause-all
returns-in-Some-clause-all c = λ path h t. absurd (never_refused c.args.text c.in-Some.fault (fault_is c) path h t)

pub invariant_of-result : goal.invariant_of-result
invariant_of-result c = (kept c).0

pub returns-clause-ok : goal.returns-clause-ok
returns-clause-ok c = path_text-parts_of c.args.text (kept c).0 (kept c).1

pub returns-clause-all : goal.returns-clause-all
returns-clause-all c = λ path h t. ap Ok (read_again c.args.text (kept c).0 (kept c).1 path h t)
