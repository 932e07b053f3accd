-- What stands between quotes, as far as it was read.
use Rattle.std.proofs.Common.{◌≡◌, ℕ, ◌<◌, ◌≤◌, List, [], ◌++◌, length, drop, get_or, Option, Some, None, refl, sym, ◌∙◌, ap, append_assoc, append-nil}
use Rattle.std.specs.Prelude.{◌+◌}
use Rattle.std.specs.Option.{option_to_list}
use Rattle.std.proofs.lemmas.List.{drop_more, drop_all}
use Rattle.script_words.specs.declared.quoted.State.{State}
use Rattle.script_words.specs.declared.quoted.State.TheVariants.{Between, Escape, FirstDigit, SecondDigit}
use Rattle.script_words.specs.Inside.Quoted.{step, at_end, then_denoted, denoted}
use Rattle.script_words.proofs.Items.{join, join_nil}

-- the bytes in front of this place denote the word, and the reading stands in this state
abbrev pub Reads : List ℕ → List ℕ → ℕ → State → Type 0
Reads text word at state = denoted text Between ≡ join word (denoted (drop at text) state)

join_twice : (front more : List ℕ) (found : Option (List ℕ)) → join front (join more found) ≡ join (front ++ more) found
join_twice front more None = refl
join_twice front more (Some word) = ap (λ (w : List ℕ). Some w) (sym (append_assoc front more word))

pub reads_none : (text : List ℕ) → Reads text [] 0 Between
reads_none text = sym (join_nil (denoted text Between))

-- one more byte may stand there
pub reads_more : (text word now : List ℕ) (at : ℕ) (state next : State) (byte : Option ℕ) → at < length text → step state (get_or text at 0) ≡ Some (next, byte)
    → now ≡ word ++ option_to_list byte → Reads text word at state → Reads text now (at + 1) next
reads_more text word now at state next byte within s n h =
    h
    ∙ ap (λ (rest : List ℕ). join word (denoted rest state)) (drop_more text at 0 within)
    ∙ ap (λ (after : Option (State × Option ℕ)). join word (then_denoted after (denoted (drop (at + 1) text)))) s
    ∙ join_twice word (option_to_list byte) (denoted (drop (at + 1) text) next)
    ∙ ap (λ (front : List ℕ). join front (denoted (drop (at + 1) text) next)) (sym n)

-- it may not
pub reads_wrong : (text word : List ℕ) (at : ℕ) (state : State) → at < length text → step state (get_or text at 0) ≡ None → Reads text word at state → denoted text Between ≡ None
reads_wrong text word at state within s h =
    h
    ∙ ap (λ (rest : List ℕ). join word (denoted rest state)) (drop_more text at 0 within)
    ∙ ap (λ (after : Option (State × Option ℕ)). join word (then_denoted after (denoted (drop (at + 1) text)))) s

at_end_is : (text word : List ℕ) (at : ℕ) (state : State) → length text ≤ at → Reads text word at state → denoted text Between ≡ join word (at_end state)
at_end_is text word at state past h = h ∙ ap (λ (rest : List ℕ). join word (denoted rest state)) (drop_all at text past)

-- each byte was read, and none is to follow
pub reads_whole : (text word : List ℕ) (at : ℕ) → length text ≤ at → Reads text word at Between → denoted text Between ≡ Some word
reads_whole text word at past h = at_end_is text word at Between past h ∙ ap (λ (w : List ℕ). Some w) (append-nil word)

-- an escape was begun
pub reads_open : (text word : List ℕ) (at : ℕ) (state : State) → length text ≤ at → (state ≡ Between → ⊥) → Reads text word at state → denoted text Between ≡ None
reads_open text word at Between past n h = absurd (n refl)
reads_open text word at Escape past n h = at_end_is text word at Escape past h
reads_open text word at FirstDigit past n h = at_end_is text word at FirstDigit past h
reads_open text word at (SecondDigit high) past n h = at_end_is text word at (SecondDigit high) past h
