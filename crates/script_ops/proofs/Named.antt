-- The verb that a word is.
use Rattle.std.proofs.Common.{◌≡◌, ℕ, List, Option, Some, None}
use Rattle.std.specs.Prelude.{MatchOption}
use Rattle.script_ops.specs.declared.verb.Verb.{Verb}
use Rattle.script_ops.specs.declared.verb.Verb.TheVariants.{Phase, EndPhase, Job, EndJob, Batch, EndBatch, Checkpoint, Begin, TryBegin, End, Sleep, Wake, Cancel, Build, Save, Create, Delete, Write, Touch, Derived, Move, Copy, Open, Close, Describe, Forget, Mark, Attr, Unmark, ClearMarks, Partner, Sync, NoSync, Flush, Show, Cat, Tree, Digest}
use Rattle.script_ops.specs.Inside.Verbs.{verb_word, bounds, changes, notes, reads, IsNamed}

-- a word that is none of any kind is no verb
no_verb : (word : List ℕ) → IsNamed bounds word None → IsNamed changes word None → IsNamed notes word None → IsNamed reads word None → (verb : Verb) → word ≡ verb_word verb → ⊥
no_verb word b c n r Phase e = b.0 e
no_verb word b c n r EndPhase e = b.1.0 e
no_verb word b c n r Job e = b.1.1.0 e
no_verb word b c n r EndJob e = b.1.1.1.0 e
no_verb word b c n r Batch e = b.1.1.1.1.0 e
no_verb word b c n r EndBatch e = b.1.1.1.1.1.0 e
no_verb word b c n r Checkpoint e = b.1.1.1.1.1.1.0 e
no_verb word b c n r Begin e = b.1.1.1.1.1.1.1.0 e
no_verb word b c n r TryBegin e = b.1.1.1.1.1.1.1.1.0 e
no_verb word b c n r End e = b.1.1.1.1.1.1.1.1.1.0 e
no_verb word b c n r Sleep e = b.1.1.1.1.1.1.1.1.1.1.0 e
no_verb word b c n r Wake e = b.1.1.1.1.1.1.1.1.1.1.1.0 e
no_verb word b c n r Cancel e = b.1.1.1.1.1.1.1.1.1.1.1.1.0 e
no_verb word b c n r Build e = b.1.1.1.1.1.1.1.1.1.1.1.1.1.0 e
no_verb word b c n r Save e = b.1.1.1.1.1.1.1.1.1.1.1.1.1.1.0 e
no_verb word b c n r Create e = c.0 e
no_verb word b c n r Delete e = c.1.0 e
no_verb word b c n r Write e = c.1.1.0 e
no_verb word b c n r Touch e = c.1.1.1.0 e
no_verb word b c n r Derived e = c.1.1.1.1.0 e
no_verb word b c n r Move e = c.1.1.1.1.1.0 e
no_verb word b c n r Copy e = c.1.1.1.1.1.1.0 e
no_verb word b c n r Open e = c.1.1.1.1.1.1.1.0 e
no_verb word b c n r Close e = c.1.1.1.1.1.1.1.1.0 e
no_verb word b c n r Describe e = c.1.1.1.1.1.1.1.1.1.0 e
no_verb word b c n r Forget e = c.1.1.1.1.1.1.1.1.1.1.0 e
no_verb word b c n r Mark e = n.0 e
no_verb word b c n r Attr e = n.1.0 e
no_verb word b c n r Unmark e = n.1.1.0 e
no_verb word b c n r ClearMarks e = n.1.1.1.0 e
no_verb word b c n r Partner e = n.1.1.1.1.0 e
no_verb word b c n r Sync e = n.1.1.1.1.1.0 e
no_verb word b c n r NoSync e = n.1.1.1.1.1.1.0 e
no_verb word b c n r Flush e = n.1.1.1.1.1.1.1.0 e
no_verb word b c n r Show e = r.0 e
no_verb word b c n r Cat e = r.1.0 e
no_verb word b c n r Tree e = r.1.1.0 e
no_verb word b c n r Digest e = r.1.1.1.0 e

pub last_kind : (word : List ℕ) (found : Option Verb) → IsNamed bounds word None → IsNamed changes word None → IsNamed notes word None → IsNamed reads word found
    → MatchOption found ((verb : Verb) → word ≡ verb_word verb → ⊥) (λ (verb : Verb). word ≡ verb_word verb)
last_kind word None b c n r = no_verb word b c n r
last_kind word (Some verb) b c n r = r
