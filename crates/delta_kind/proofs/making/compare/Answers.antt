use Rattle.std.proofs.Common.{◌≡◌, ◌↔◌, false, [], sym, ap, subst, ◌∙◌}
use Rattle.std.proofs.lemmas.Result.{IfOk-weaker}
use Rattle.std.specs.FinMap.{get}
use Rattle.res_path.specs.Paths.{Names, path_eq, is_prefix}
use Rattle.std.specs.List.{list_any}
use Rattle.ws_elem.specs.Stamps.{SameContents}
use Rattle.ws_elem.specs.Trees.{Whole}
use Rattle.delta_kind.specs.Flags.{differs}
use Rattle.delta_kind.specs.Deltas.{delta, changed, paths_of, TellsMoves, TellsPaths, TellsContents}
use Rattle.delta_kind.proofs.Same.{delta_has, tells_nothing, tells_no_change}
use Rattle.delta_kind.proofs.Contents.{tells_contents}
use Rattle.delta_kind.proofs.Elsewhere.{tells_moves}
use Rattle.delta_kind.proofs.Flagged.{tells_paths}
use Rattle.delta_kind.proofs.making.compare.Goals as goal

pub returns-clause-paths : goal.returns-clause-paths
returns-clause-paths c = IfOk-weaker c.delta_between.result (λ d. d ≡ delta c.args.before.now.map c.args.after.now.map)
    (λ d. (p : Names) → list_any (path_eq p) (paths_of d) ≡ list_any (is_prefix p) (changed c.args.before.now.map c.args.after.now.map))
    (λ d is p. ap (λ nodes. list_any (path_eq p) (paths_of nodes)) is ∙ delta_has c.args.before.now.map c.args.after.now.map p)
    c.delta_between.ensures

pub returns-clause-none : goal.returns-clause-none
returns-clause-none c = IfOk-weaker c.delta_between.result (λ d. d ≡ delta c.args.before.now.map c.args.after.now.map)
    (λ d. (d ≡ []) ↔ ((p : Names) → differs (get c.args.before.now.map p) (get c.args.after.now.map p) ≡ false))
    (λ d is. let all = tells_nothing c.args.before.now.map c.args.after.now.map in (λ h. all.0 (sym is ∙ h), λ h. is ∙ all.1 h))
    c.delta_between.ensures

pub returns-clause-same : goal.returns-clause-same
returns-clause-same c = IfOk-weaker c.delta_between.result (λ d. d ≡ delta c.args.before.now.map c.args.after.now.map)
    (λ d. c.args.before.now.map ≡ c.args.after.now.map → d ≡ [])
    (λ d is h. is ∙ tells_no_change c.args.before.now.map c.args.after.now.map h)
    c.delta_between.ensures

pub returns-clause-moves : goal.returns-clause-moves
returns-clause-moves c = IfOk-weaker c.delta_between.result (λ d. d ≡ delta c.args.before.now.map c.args.after.now.map)
    (λ d. Whole c.args.before.now.map → Whole c.args.after.now.map → TellsMoves c.args.before.now.map c.args.after.now.map d)
    (λ d is wa wb. subst (TellsMoves c.args.before.now.map c.args.after.now.map) (sym is) (tells_moves c.args.before.now.map c.args.after.now.map wa wb))
    c.delta_between.ensures

pub returns-clause-tells : goal.returns-clause-tells
returns-clause-tells c = IfOk-weaker c.delta_between.result (λ d. d ≡ delta c.args.before.now.map c.args.after.now.map)
    (λ d. TellsPaths c.args.before.now.map c.args.after.now.map d)
    (λ d is. subst (TellsPaths c.args.before.now.map c.args.after.now.map) (sym is) (tells_paths c.args.before.now.map c.args.after.now.map))
    c.delta_between.ensures

pub returns-clause-contents : goal.returns-clause-contents
returns-clause-contents c = IfOk-weaker c.delta_between.result (λ d. d ≡ delta c.args.before.now.map c.args.after.now.map)
    (λ d. SameContents c.args.before.now.map c.args.after.now.map → TellsContents c.args.before.now.map c.args.after.now.map d)
    (λ d is same. subst (TellsContents c.args.before.now.map c.args.after.now.map) (sym is) (tells_contents c.args.before.now.map c.args.after.now.map same))
    c.delta_between.ensures
