use Rattle.std.proofs.Common.{◌≡◌, ◌+◌, ◌≤◌, List, length, sym, ap, subst, ◌∙◌}
use Rattle.std.specs.Prelude.{IfSome}
use Rattle.ws_elem.specs.Rooms.{Room}
use Rattle.ws_elem.specs.Trees.{Tree}
use Rattle.elem_tree.specs.Layers as seen
use Rattle.elem_tree.specs.Layers.{LayeredTree, records, tree_at, tree_of_first, from_mark, without_mark}
use Rattle.elem_tree.specs.Inside.Shown.{shown_all, with_current}
use Rattle.elem_tree.proofs.Forgotten.{none_from, spared_kept, spared_shown, stays_kept}
use Rattle.elem_tree.proofs.Since.{on_ok, on_err_of, outcome}
use Rattle.elem_tree.proofs.Without.{no_more_records, one_fewer, same_without}
use Rattle.elem_tree.proofs.tree.LayerTree.forget_number.Goals as goal

abbrev seen_with : Tree → Room → List seen.Layer → LayeredTree
seen_with t room ls = record { map = t; room = room; layers = ls }

abbrev old : goal.After-forget_layer → List seen.Layer
old c = shown_all (with_current c.self.inside.layers.items c.self.inside.current)

abbrev new : goal.After-forget_layer → List seen.Layer
new c = shown_all (with_current c.forget_layer.new.layers.items c.forget_layer.new.current)

pub invariant_of-self : goal.invariant_of-self
invariant_of-self c =
    stays_kept c.self.inside.layers.items c.forget_layer.new.layers.items c.self.inside.current c.forget_layer.new.current c.self.inside.next c.self.inside.newest.map c.self.inside.newest.room
    c.self.invariant c.forget_layer.ensures.first
    (outcome c.forget_layer.result c.forget_layer.ensures.ok c.forget_layer.ensures.ok c.forget_layer.ensures.err (λ f _. f.kept)
    (λ s. spared_kept (with_current c.self.inside.layers.items c.self.inside.current) (with_current c.forget_layer.new.layers.items c.forget_layer.new.current) s c.self.invariant.rising c.self.invariant.ended))

pub returns-clause-ok : goal.returns-clause-ok
returns-clause-ok c = on_ok c.forget_layer.result c.forget_layer.ensures.ok (λ f.
    ap (λ (ls : List seen.Layer). seen_with c.self.inside.newest.map c.self.inside.newest.room ls) f.shown
    ∙ ap (λ (v : LayeredTree). seen_with v.map v.room (without_mark c.args.mark v.layers)) c.self.view_is)

pub returns-clause-gone : goal.returns-clause-gone
returns-clause-gone c = on_ok c.forget_layer.result c.forget_layer.ensures.ok (λ f.
    ap (tree_of_first c.self.inside.newest.map) (none_from c.args.mark (with_current c.forget_layer.new.layers.items c.forget_layer.new.current) f.gone))

pub returns-clause-marks : goal.returns-clause-marks
returns-clause-marks c = on_ok c.forget_layer.result c.forget_layer.ensures.ok (λ f m other.
    ap (λ ls. tree_of_first c.self.inside.newest.map (from_mark m ls)) f.shown
    ∙ same_without c.self.inside.newest.map m c.args.mark (old c) other
    ∙ ap (λ v. tree_at v m) c.self.view_is)

pub returns-clause-fewer : goal.returns-clause-fewer
returns-clause-fewer c = on_ok c.forget_layer.result c.forget_layer.ensures.ok (λ f.
    subst (λ (v : LayeredTree). IfSome (tree_at v c.args.mark) (λ _. length (new c) + 1 ≡ length v.layers)) c.self.view_is
    (subst (λ ls. IfSome (tree_of_first c.self.inside.newest.map (from_mark c.args.mark (old c))) (λ _. length ls + 1 ≡ length (old c))) (sym f.shown)
    (one_fewer c.self.inside.newest.map c.args.mark (old c))))

pub returns-clause-records : goal.returns-clause-records
returns-clause-records c = on_ok c.forget_layer.result c.forget_layer.ensures.ok (λ f.
    subst (λ (v : LayeredTree). records (new c) ≤ records v.layers) c.self.view_is
    (subst (λ ls. records ls ≤ records (old c)) (sym f.shown) (no_more_records c.args.mark (old c))))

pub returns-clause-err : goal.returns-clause-err
returns-clause-err c = on_err_of c.forget_layer.result c.forget_layer.ensures.err (λ s.
    ap (λ (ls : List seen.Layer). seen_with c.self.inside.newest.map c.self.inside.newest.room ls)
    (spared_shown (with_current c.self.inside.layers.items c.self.inside.current) (with_current c.forget_layer.new.layers.items c.forget_layer.new.current) s)
    ∙ c.self.view_is)
