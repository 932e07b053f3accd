use Rattle.std.proofs.Common.{[], ◌+◌, ◌≤◌, ap, sym, subst}
use Rattle.std.specs.FinMap.{len}
use Rattle.std.specs.Option.{option_copied}
use Rattle.elem_tree.specs.Layers.{records}
use Rattle.elem_tree.specs.Inside.Gathered.{GathersAll}
use Rattle.elem_tree.specs.Inside.Shown.{shown, shown_all, with_current}
use Rattle.elem_tree.proofs.Gathers.{gathers_none, gathers_one, one_most, same_most}
use Rattle.elem_tree.proofs.gathering.gather_current.Goals as goal

pub returns-in_ok-gather_notes-in-Some-clause-gathers : goal.returns-in_ok-gather_notes-in-Some-clause-gathers
returns-in_ok-gather_notes-in-Some-clause-gathers c =
    subst (λ k. GathersAll c.args.changes.now c.gather_notes.new.changes (shown_all (with_current [] k)) c.args.newest.now.map) (sym (ap option_copied c.in-Some.is))
    (gathers_one c.args.changes.now c.gather_notes.new.changes (shown c.in-Some.layer.now) c.args.newest.now.map c.in_ok-gather_notes-in-Some.ensures.gathers)

pub returns-in_ok-gather_notes-in-Some-clause-most : goal.returns-in_ok-gather_notes-in-Some-clause-most
returns-in_ok-gather_notes-in-Some-clause-most c =
    subst (λ k. len c.gather_notes.new.changes ≤ len c.args.changes.now + records (shown_all (with_current [] k))) (sym (ap option_copied c.in-Some.is))
    (one_most c.args.changes.now c.gather_notes.new.changes c.in-Some.layer.now c.in_ok-gather_notes-in-Some.ensures.most)

pub returns-in-None-clause-gathers : goal.returns-in-None-clause-gathers
returns-in-None-clause-gathers c =
    subst (λ k. GathersAll c.args.changes.now c.args.changes.now (shown_all (with_current [] k)) c.args.newest.now.map) (sym (ap option_copied c.in-None.is))
    (gathers_none c.args.changes.now c.args.newest.now.map)

pub returns-in-None-clause-most : goal.returns-in-None-clause-most
returns-in-None-clause-most c =
    subst (λ k. len c.args.changes.now ≤ len c.args.changes.now + records (shown_all (with_current [] k))) (sym (ap option_copied c.in-None.is)) (same_most c.args.changes.now)
