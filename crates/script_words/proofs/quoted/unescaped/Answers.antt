use Rattle.std.proofs.Common.{sym, subst, ◌∙◌}
use Rattle.script_words.specs.declared.quoted.State.TheVariants.{Between}
use Rattle.script_words.proofs.Unescaping.{Reads, reads_none, reads_more, reads_wrong, reads_whole, reads_open}
use Rattle.script_words.proofs.quoted.unescaped.Goals as goal

pub loop-b-init : goal.loop-b-init
loop-b-init c = subst (λ word. Reads c.args.text.now word 0 Between) (sym c.new-word.ensures.items) (reads_none c.args.text.now)

pub loop-b-preserved : goal.loop-b-preserved
loop-b-preserved c =
    reads_more c.args.text.now c.loop-b.word.items c.put.new.word.items c.loop-b.b-index c.loop-b.state c.in-Some.next c.in-Some.byte c.loop-b-test.true
    (sym c.step.ensures ∙ c.in-Some.is) c.in_ok-put.ensures c.loop-b.invariant

pub returns-in_default : goal.returns-in_default
returns-in_default c =
    reads_wrong c.args.text.now c.loop-b.word.items c.loop-b.b-index c.loop-b.state c.loop-b-test.true (sym c.step.ensures ∙ c.in_default.is) c.loop-b.invariant

pub returns-in-Between : goal.returns-in-Between
returns-in-Between c =
    reads_whole c.args.text.now c.loop-b.word.items c.loop-b.b-index c.loop-b-test.false
    (subst (λ state. Reads c.args.text.now c.loop-b.word.items c.loop-b.b-index state) c.in-Between.is c.loop-b.invariant)

pub returns-in_default-state : goal.returns-in_default-state
returns-in_default-state c = reads_open c.args.text.now c.loop-b.word.items c.loop-b.b-index c.loop-b.state c.loop-b-test.false c.in_default-state.not-Between c.loop-b.invariant
