use Rattle.std.proofs.Common.{◌≡◌, ℕ, List, Err, subst}
use Rattle.std.specs.Prelude.{IfOk, MatchResult}
use Rattle.script_words.specs.declared.error.ScriptError.TheVariants.{BadLine, Memory}
use Rattle.script_lang.specs.declared.script.Script.{Script}
use Rattle.script_lang.specs.Scripts.{IsScript, IsFirstBad}
use Rattle.script_lang.proofs.grammar.parse.Goals as goal

-- what is said of the copy is said of the text

pub returns-clause-found : goal.returns-clause-found
returns-clause-found c = subst (λ (text : List ℕ). IfOk c.parse_shared.result (IsScript text)) c.in_ok-shared.ensures c.parse_shared.ensures.found

pub returns-clause-all : goal.returns-clause-all
returns-clause-all c =
    subst (λ (text : List ℕ). (script : Script) → IsScript text script → MatchResult c.parse_shared.result (λ found. found ≡ script) (λ e. e ≡ Memory)) c.in_ok-shared.ensures
    c.parse_shared.ensures.all

pub returns-clause-bad : goal.returns-clause-bad
returns-clause-bad c =
    subst (λ (text : List ℕ). (number : ℕ) → c.parse_shared.result ≡ Err (BadLine number) → IsFirstBad text number) c.in_ok-shared.ensures c.parse_shared.ensures.bad
