use Rattle.script_words.proofs.Tokens.{unclosed, no_space_after, no_word, quoted_starts}
use Rattle.script_words.proofs.words.quoted_token.Goals as goal

pub returns-in_default : goal.returns-in_default
returns-in_default c = unclosed c.args.line c.requires (rw c.in_default.is at c.in_ok-inner.ensures)

pub returns-in_default-after_token : goal.returns-in_default-after_token
returns-in_default-after_token c =
    let parts = rw c.in-Some.is at c.in_ok-inner.ensures in
    no_space_after c.args.line c.in-Some.inner c.in-Some.rest c.requires parts.0 parts.1 c.in_default-after_token.ensures

pub returns-in-None : goal.returns-in-None
returns-in-None c =
    let parts = rw c.in-Some.is at c.in_ok-inner.ensures in
    no_word c.args.line c.in-Some.inner c.in-Some.rest c.requires parts.0 parts.1 (rw c.in-None.is at c.in_ok-denoted.ensures)

pub returns-in-Some-2 : goal.returns-in-Some-2
returns-in-Some-2 c =
    let parts = rw c.in-Some.is at c.in_ok-inner.ensures in
    quoted_starts c.args.line c.in-Some.inner c.in-Some.rest c.in-Some-2.word c.in-Some-after_token.more parts.1 c.in-Some-after_token.ensures (rw c.in-Some-2.is at c.in_ok-denoted.ensures)
