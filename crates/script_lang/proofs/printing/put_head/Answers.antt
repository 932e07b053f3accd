use Rattle.std.proofs.Common.{ℕ, List, [], ◌∷◌, ◌++◌, ◌∙◌, ap, append_assoc}
use Rattle.std.specs.Prelude.{codes}
use Rattle.script_lang.specs.declared.line.Line.TheVariants.{BeginJob}
use Rattle.script_words.specs.Words.{word_text}
use Rattle.script_parts.specs.Parts.{rule_parts}
use Rattle.script_lang.specs.Commands.{asleep_parts, priority_word}
use Rattle.script_lang.specs.Scripts.{line_text}
use Rattle.script_parts.proofs.Spaced.{three_words}
use Rattle.script_lang.proofs.printing.put_head.Goals as goal

pub returns-clause-text : goal.returns-clause-text
returns-clause-text c =
    let job = c.args.job.now in
    let line = three_words c.args.out.now.items c.put_three.new.out.items c.put_start.new.out.items (word_text (codes "job")) (word_text job.name) (priority_word job.priority)
    (asleep_parts job.asleep ++ rule_parts job.rule)
    (rw (← c.name_word.ensures.text, ← c.priority_word.ensures) c.in_ok-put_three.ensures.text) c.in_ok-put_start.ensures.text in
    c.in_ok-put_bytes.ensures.text ∙ ap (λ (text : List ℕ). text ++ 10 ∷ []) line ∙ append_assoc c.args.out.now.items (line_text (BeginJob job.name job.priority job.asleep job.rule)) (10 ∷ [])
