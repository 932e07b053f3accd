use Rattle.std.proofs.Common.{sym, ◌∙◌, subst}
use Rattle.proj_desc.specs.Canonical.{IsCommandText}
use Rattle.ws_lasting.proofs.Commands.{told_again}
use Rattle.ws_lasting.proofs.marks.text_of.Goals as goal

pub returns-clause-valid : goal.returns-clause-valid
returns-clause-valid c project h = subst (IsCommandText project) (sym c.in_ok-from_vec.ensures.ok) (c.in_ok-text.ensures.back project h)

pub returns-clause-back : goal.returns-clause-back
returns-clause-back c project h = told_again project c.in_ok-from_vec.field-0 c.args.command.now (c.in_ok-from_vec.ensures.ok ∙ c.in_ok-text.ensures.text) h (returns-clause-valid c project h)
