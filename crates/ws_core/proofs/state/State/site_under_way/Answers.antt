use Rattle.std.proofs.Common.{◌≡◌, [], ◌∷◌, sym, ap, ◌∙◌, subst}
use Rattle.std.specs.Prelude.{Some, None, Err}
use Rattle.proj_desc.specs.FirstCause.{first_cause}
use Rattle.service_desk.specs.Judging.{Judges}
use Rattle.service_desk.specs.Refusals.{not_serving, unrooted}
use Rattle.ws_core.specs.States.{Moment}
use Rattle.ws_core.specs.Refusals.{current, no_build}
use Rattle.build_due.specs.declared.site.Site.{Site}
use Rattle.service_desk.specs.Desks.{is_building, site_of}
use Rattle.ws_core.proofs.Served.{third}
use Rattle.ws_core.proofs.state.State.site_under_way.Goals as goal

pub returns-in-Ok-clause-judged : goal.returns-in-Ok-clause-judged
returns-in-Ok-clause-judged g c =
    let i = c.self.inside in
    let k = c.args.pass in
    let now : Moment = c.args.self.now in
    let serving : not_serving now.manager.passes (is_building now.desk.serving) k ≡ None =
    sym (ap (λ (z : Moment). not_serving z.manager.passes (is_building z.desk.serving) k) c.self.view_is) ∙ ap (λ b. not_serving i.manager.passes b k) (sym c.is_building.ensures) ∙ c.in_ok-check_serving.ensures in
    let there : current now ≡ Some c.in-Some.site = sym (ap current c.self.view_is) ∙ ap (λ t. site_of t i.desk.under) (sym c.tree.ensures) ∙ sym c.in_ok-site.ensures ∙ c.in-Some.is in
    let rooted : unrooted now.manager.passes.rules k ≡ None = sym (ap (λ (z : Moment). unrooted z.manager.passes.rules k) c.self.view_is) ∙ subst (Judges (unrooted i.manager.passes.rules k)) c.in-Ok.is c.check_rooted.ensures in
    λ j. first_cause (serving j ∷ no_build (there j) ∷ rooted j ∷ [])

pub returns-in-Ok-clause-site : goal.returns-in-Ok-clause-site
returns-in-Ok-clause-site g c =
    let i = c.self.inside in
    sym (ap current c.self.view_is) ∙ ap (λ t. site_of t i.desk.under) (sym c.tree.ensures) ∙ sym c.in_ok-site.ensures ∙ c.in-Some.is

pub returns-in-Err-clause-judged : goal.returns-in-Err-clause-judged
returns-in-Err-clause-judged g c =
    let i = c.self.inside in
    let k = c.args.pass in
    let now : Moment = c.args.self.now in
    let serving : not_serving now.manager.passes (is_building now.desk.serving) k ≡ None =
    sym (ap (λ (z : Moment). not_serving z.manager.passes (is_building z.desk.serving) k) c.self.view_is) ∙ ap (λ b. not_serving i.manager.passes b k) (sym c.is_building.ensures) ∙ c.in_ok-check_serving.ensures in
    let there : current now ≡ Some c.in-Some.site = sym (ap current c.self.view_is) ∙ ap (λ t. site_of t i.desk.under) (sym c.tree.ensures) ∙ sym c.in_ok-site.ensures ∙ c.in-Some.is in
    let cause = unrooted i.manager.passes.rules k in
    let same = third (not_serving now.manager.passes (is_building now.desk.serving) k) (no_build (current now)) (unrooted now.manager.passes.rules k) serving (ap no_build there) ∙ sym (ap (λ (z : Moment). unrooted z.manager.passes.rules k) c.self.view_is) in
    subst (λ o. Judges {A = Site} o (Err c.in-Err.error)) (sym same) (subst (Judges cause) c.in-Err.is c.check_rooted.ensures)
