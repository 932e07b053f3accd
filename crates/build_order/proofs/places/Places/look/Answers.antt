use Rattle.std.proofs.Common.{◌≡◌, ◌⊎◌, true, [], get_or, set, subst, sym, ap, ◌∙◌, arith}
use Rattle.build_order.specs.Inside.Placings.{is_done}
use Rattle.build_order.proofs.Looking.{waits_behind, target_within, without_last, passed, parked_at, freed}
use Rattle.build_order.proofs.places.Places.look.Goals as goal

pub target-requires : goal.target-requires
target-requires c =
    let h = c.loop-target.invariant.holds c.requires.0 c.requires.1 c.requires.2 in
    omega (arith, (waits_behind c.requires.0 c.args.leads.now c.requires.1 c.loop-target.self c.args.lead h).within, h.long_targets)

pub lead_of-needed-requires : goal.lead_of-needed-requires
lead_of-needed-requires c =
    let h = c.loop-target.invariant.holds c.requires.0 c.requires.1 c.requires.2 in
    (target_within c.requires.0 c.args.leads.now c.requires.1 c.loop-target.self c.args.lead c.in-Some.target c.in-Some.ensures h).0

pub holds_up-requires : goal.holds_up-requires
holds_up-requires c =
    let h = c.loop-target.invariant.holds c.requires.0 c.requires.1 c.requires.2 in
    omega (arith, c.lead_of-needed.ensures, h.long_placed, (target_within c.requires.0 c.args.leads.now c.requires.1 c.loop-target.self c.args.lead c.in-Some.target c.in-Some.ensures h).1)

pub push-requires : goal.push-requires
push-requires c =
    let h = c.loop-target.invariant.holds c.requires.0 c.requires.1 c.requires.2 in
    omega (arith, c.lead_of-needed.ensures, h.long_parked, (target_within c.requires.0 c.args.leads.now c.requires.1 c.loop-target.self c.args.lead c.in-Some.target c.in-Some.ensures h).1)

pub returns-then-holds_up-clause-holds : goal.returns-then-holds_up-clause-holds
returns-then-holds_up-clause-holds c g rest old =
    let h = c.loop-target.invariant.holds g rest old in
    let inside = (target_within g c.args.leads.now rest c.loop-target.self c.args.lead c.in-Some.target c.in-Some.ensures h).1 in
    parked_at g c.args.leads.now rest c.loop-target.self c.args.lead c.in-Some.target c.in-Some.ensures.0 c.lead_of-needed.result c.push.new.self c.in-Some.ensures.1 (sym c.lead_of-needed.ensures)
    c.if-holds_up.ensures.0 c.if-holds_up.ensures.1 (omega (arith, c.lead_of-needed.ensures, inside, h.long_parked)) c.in_ok-push.ensures h

pub loop-target-preserved : goal.loop-target-preserved
loop-target-preserved c = record {
  holds = λ g rest old.
      let targets = get_or c.loop-target.self.targets c.args.lead [] in
      passed g c.args.leads.now rest c.loop-target.self c.args.lead c.in-Some.target c.in-Some.ensures.0 c.drop_last.new.self c.in-Some.ensures.1
      (c.drop_last.ensures ∙ ap (set c.loop-target.self.targets c.args.lead) (without_last targets c.in-Some.ensures.0 c.in-Some.target c.in-Some.ensures.1))
      (subst (λ m. (m ≡ c.args.lead) ⊎ (is_done c.loop-target.self.is_placed.items m ≡ true)) c.lead_of-needed.ensures c.if-holds_up.ensures) (c.loop-target.invariant.holds g rest old);
  placed = c.loop-target.invariant.placed;
}

pub returns-clause-holds : goal.returns-clause-holds
returns-clause-holds c g rest old = freed g c.args.leads.now rest c.loop-target.self c.args.lead c.add.new.self c.in_default.ensures c.in_ok-add.ensures (c.loop-target.invariant.holds g rest old)
