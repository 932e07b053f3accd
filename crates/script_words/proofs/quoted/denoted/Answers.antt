use Rattle.std.proofs.Common.{◌≡◌, true, false, sym, ◌∙◌, ap, subst, IsUtf8}
use Rattle.std.specs.List.{list_all}
use Rattle.script_words.specs.Words.{is_plain, SpellsQuoted}
use Rattle.script_words.specs.Inside.Quoted.{denoted}
use Rattle.script_words.specs.declared.quoted.State.TheVariants.{Between}
use Rattle.script_words.proofs.Items.{denoted_items, quoted_utf8, quoted_denoted, all_plain}
use Rattle.script_words.proofs.quoted.denoted.Goals as goal

pub returns-then-not-is_utf8 : goal.returns-then-not-is_utf8
returns-then-not-is_utf8 c = λ word s.
    let utf8 : true ≡ false = sym (c.is_utf8.ensures.1 (subst IsUtf8 (sym c.as_slice.ensures) (quoted_utf8 c.args.inner word s))) ∙ c.if-not-is_utf8.true in cc

pub returns-then-is_all_plain : goal.returns-then-is_all_plain
returns-then-is_all_plain c =
    denoted_items c.args.inner (subst IsUtf8 c.as_slice.ensures (c.is_utf8.ensures.0 c.if-not-is_utf8.false)) c.args.inner
    (all_plain c.args.inner (ap (list_all is_plain) (sym c.as_slice-2.ensures) ∙ sym c.is_all_plain.ensures ∙ c.if-is_all_plain.true))

pub returns-in-None : goal.returns-in-None
returns-in-None c = λ word s.
    let none = sym (rw c.in-None.is at c.in_ok-unescaped.ensures) ∙ ap (λ bytes. denoted bytes Between) c.as_slice-3.ensures ∙ quoted_denoted c.args.inner word s in cc

pub returns : goal.returns
returns c =
    subst (SpellsQuoted c.args.inner) (sym c.in_ok-from_vec-in-Some.ensures.ok)
    (denoted_items c.args.inner (subst IsUtf8 c.as_slice.ensures (c.is_utf8.ensures.0 c.if-not-is_utf8.false)) c.in-Some.word.items
    (ap (λ bytes. denoted bytes Between) (sym c.as_slice-3.ensures) ∙ (rw c.in-Some.is at c.in_ok-unescaped.ensures)))
