use Rattle.std.proofs.Common.{map, List, ℕ, ap, subst, OnOk, OnErr, IfOk, option_copied}
use Rattle.builder_api.specs.Told.{Told as BuilderTold}
use Rattle.build_core.specs.Histories.{book_of}
use Rattle.build_host.specs.Builds.{IsBuild}
use Rattle.build_run.specs.Commands.{IsAnswered}
use Rattle.run_order.specs.Lists.{Cut, Grew}
use Rattle.ws_core.specs.Sessions.{Session}
use Rattle.ws_saved.specs.Sound.{Space}
use Rattle.ws_saved.proofs.Sounds.{sound_built}
use Rattle.ws_saved.proofs.workspace.SavedWorkspace.build.Goals as goal

pub invariant_of-self : goal.invariant_of-self
invariant_of-self g c =
    let d = g.D.Disk in
    let w = c.self.inside in
    sound_built d.moment d.left_since d.may_leave d.faults w.core c.build.new.core w.keeper (map (λ p. g.P.Participant.tells p) w.began.value) (map (λ p. g.P.Participant.tells p) w.participants) c.build.ensures.goes c.self.invariant

pub returns-clause-made : goal.returns-clause-made
returns-clause-made g c = subst (λ (x : Session). OnOk c.build.result (Grew (IsBuild g.M.Meanings.meaning 1 c.args.kind (option_copied c.args.project)) x.history c.build.new.core.history))
    (ap (λ (s : Space g.row.D.Denot g.row.P.Denot). s.core) c.self.view_is) c.build.ensures.made

pub returns-clause-cut : goal.returns-clause-cut
returns-clause-cut g c = subst (λ (x : Session). OnErr c.build.result (Grew (Cut (IsBuild g.M.Meanings.meaning 1 c.args.kind (option_copied c.args.project))) x.history c.build.new.core.history))
    (ap (λ (s : Space g.row.D.Denot g.row.P.Denot). s.core) c.self.view_is) c.build.ensures.cut

pub returns-clause-answered : goal.returns-clause-answered
returns-clause-answered g c = subst (λ (x : Session). IfOk c.build.result (λ answer. (first : ℕ) × (began : List BuilderTold) × IsAnswered g.M.Meanings.meaning c.args.kind (option_copied c.args.project) (book_of x 1 0 (map (λ b. g.B.Builder.tells b) c.args.builders.now) (map (λ b. g.B.Builder.tells b) c.args.builders.now)) answer (book_of c.build.new.core 1 first began (map (λ b. g.B.Builder.tells b) c.build.new.builders))))
    (ap (λ (s : Space g.row.D.Denot g.row.P.Denot). s.core) c.self.view_is) c.build.ensures.answered
