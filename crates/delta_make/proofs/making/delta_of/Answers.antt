use Rattle.std.proofs.Common.{◌≡◌, ◌↔◌, false, [], sym, subst, ◌∙◌}
use Rattle.std.proofs.lemmas.Result.{IfOk-weaker}
use Rattle.std.specs.Prelude.{IfSome}
use Rattle.std.specs.FinMap.{get}
use Rattle.res_path.specs.Paths.{Names}
use Rattle.ws_elem.specs.Stamps.{SameContents}
use Rattle.ws_elem.specs.Trees.{Tree, Whole}
use Rattle.layer_log.specs.Records.{Leads}
use Rattle.delta_kind.specs.Flags.{differs}
use Rattle.delta_kind.specs.Deltas.{delta, TellsMoves, TellsPaths, TellsContents}
use Rattle.delta_kind.specs.Rows.{delta_of_rows}
use Rattle.delta_kind.proofs.Contents.{tells_contents}
use Rattle.delta_kind.proofs.Elsewhere.{tells_moves}
use Rattle.delta_kind.proofs.Flagged.{tells_paths}
use Rattle.delta_make.specs.Inside.Changed.{changed_rows}
use Rattle.delta_make.proofs.Changed.{changes_delta, tells_nothing, equal_entries}
use Rattle.delta_make.proofs.making.delta_of.Goals as goal

pub returns-clause-delta : goal.returns-clause-delta
returns-clause-delta c = IfOk-weaker c.delta_of_changed.result (λ d. d ≡ delta_of_rows (changed_rows c.args.changes.now))
    (λ d. (a b : Tree) → Leads a c.args.changes.now b → d ≡ delta a b)
    (λ d is a b leads. is ∙ changes_delta c.args.changes.now a b leads)
    c.delta_of_changed.ensures

pub returns-clause-none : goal.returns-clause-none
returns-clause-none c = IfOk-weaker c.delta_of_changed.result (λ d. d ≡ delta_of_rows (changed_rows c.args.changes.now))
    (λ d. (d ≡ []) ↔ ((p : Names) → IfSome (get c.args.changes.now p) (λ r. differs r.before r.after ≡ false)))
    (λ d is. let all = tells_nothing c.args.changes.now in (λ h. all.0 (sym is ∙ h), λ h. is ∙ all.1 h))
    c.delta_of_changed.ensures

pub returns-clause-same : goal.returns-clause-same
returns-clause-same c = IfOk-weaker c.delta_of_changed.result (λ d. d ≡ delta_of_rows (changed_rows c.args.changes.now))
    (λ d. ((p : Names) → IfSome (get c.args.changes.now p) (λ r. r.before ≡ r.after)) → d ≡ [])
    (λ d is h. is ∙ (tells_nothing c.args.changes.now).1 (λ p. equal_entries (get c.args.changes.now p) (h p)))
    c.delta_of_changed.ensures

pub returns-clause-tells : goal.returns-clause-tells
returns-clause-tells c = IfOk-weaker c.delta_of_changed.result (λ d. d ≡ delta_of_rows (changed_rows c.args.changes.now))
    (λ d. (a b : Tree) → Leads a c.args.changes.now b → TellsPaths a b d)
    (λ d is a b leads. subst (TellsPaths a b) (sym (is ∙ changes_delta c.args.changes.now a b leads)) (tells_paths a b))
    c.delta_of_changed.ensures

pub returns-clause-contents : goal.returns-clause-contents
returns-clause-contents c = IfOk-weaker c.delta_of_changed.result (λ d. d ≡ delta_of_rows (changed_rows c.args.changes.now))
    (λ d. (a b : Tree) → Leads a c.args.changes.now b → SameContents a b → TellsContents a b d)
    (λ d is a b leads same. subst (TellsContents a b) (sym (is ∙ changes_delta c.args.changes.now a b leads)) (tells_contents a b same))
    c.delta_of_changed.ensures

pub returns-clause-moves : goal.returns-clause-moves
returns-clause-moves c = IfOk-weaker c.delta_of_changed.result (λ d. d ≡ delta_of_rows (changed_rows c.args.changes.now))
    (λ d. (a b : Tree) → Leads a c.args.changes.now b → Whole a → Whole b → TellsMoves a b d)
    (λ d is a b leads wa wb. subst (TellsMoves a b) (sym (is ∙ changes_delta c.args.changes.now a b leads)) (tells_moves a b wa wb))
    c.delta_of_changed.ensures
