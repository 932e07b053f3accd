use Rattle.script_words.proofs.Tokens.{ahead_bad, ahead_taken, all_taken}
use Rattle.script_words.proofs.words.words_of.Goals as goal

pub returns-in_default : goal.returns-in_default
returns-in_default c =
    ahead_bad c.args.line c.loop-rest.rest c.loop-rest.tokens.items c.loop-rest.invariant (rw c.in_default.is at c.in_ok-goes_on.ensures)

pub returns-then-not-goes_on : goal.returns-then-not-goes_on
returns-then-not-goes_on c =
    let taken = rw (c.in-Some.is, c.if-not-goes_on.true) at c.in_ok-goes_on.ensures in
    all_taken c.args.line c.loop-rest.rest c.take_token.new.line c.loop-rest.tokens.items c.take_token.new.tokens.items c.loop-rest.invariant taken

pub loop-rest-preserved : goal.loop-rest-preserved
loop-rest-preserved c =
    let taken = rw (c.in-Some.is, c.if-not-goes_on.false) at c.in_ok-goes_on.ensures in
    ahead_taken c.args.line c.loop-rest.rest c.take_token.new.line c.loop-rest.tokens.items c.take_token.new.tokens.items c.loop-rest.invariant taken
