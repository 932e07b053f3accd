-- What the replies of a history tell, and what its notices are.
use Rattle.std.proofs.Common.{◌≡◌, Bool, true, false, List, [], ◌∷◌, ◌++◌, map, refl, sym, ap, ◌∙◌}
use Rattle.std.specs.Prelude.{if◌then◌else◌}
use Rattle.std.specs.Option.{option_to_list}
use Rattle.ws_elem.specs.Trees.{Tree}
use Rattle.delta_kind.specs.Deltas.{delta}
use Rattle.core_event.specs.declared.event.Event.{Event}
use Rattle.core_event.specs.declared.entry.Entry.{Entry}
use Rattle.core_event.specs.declared.reply.Answer.{Answer}
use Rattle.core_event.specs.declared.reply.Reply.{Reply}
use Rattle.ws_core.specs.States.{Moment}
use Rattle.ws_core.specs.Steps.{act, tells, told}
use Rattle.ws_core.specs.Histories.{after, replies, Legal, unless_empty, notices_from, notices, told_of}
use Rattle.ws_core.proofs.Stepped.{act_keeps}

-- one entry: what its reply tells is what its place tells
one : (seen : Tree) (b : Bool) (e : Event) (d : Moment) (a : Answer) (h : List Entry) → d.remembered.told ≡ seen → tells e d ≡ b
    → told_of h ≡ notices_from (told b d a).0.remembered.told (told b d a).0 h
    → option_to_list (told b d a).1.notice ++ told_of h
    ≡ (if tells e (told b d a).0 then unless_empty (delta seen (told b d a).0.resources.tree) ++ notices_from (told b d a).0.resources.tree (told b d a).0 h else notices_from seen (told b d a).0 h)
one seen true e d a h same place rest =
    ap (λ ns. unless_empty (delta d.remembered.told d.resources.tree) ++ ns) rest
    ∙ ap (λ t. unless_empty (delta t d.resources.tree) ++ notices_from d.resources.tree (told true d a).0 h) same
    ∙ ap (λ b. if b then unless_empty (delta seen d.resources.tree) ++ notices_from d.resources.tree (told true d a).0 h else notices_from seen (told true d a).0 h) (sym place)
one seen false e d a h same place rest =
    rest ∙ ap (λ t. notices_from t d h) same
    ∙ ap (λ b. if b then unless_empty (delta seen d.resources.tree) ++ notices_from d.resources.tree d h else notices_from seen d h) (sym place)

head_is : (r q : Reply) (rs qs : List Reply) → r ∷ rs ≡ q ∷ qs → r ≡ q
head_is r q rs qs h = cc

tail_is : (r q : Reply) (rs qs : List Reply) → r ∷ rs ≡ q ∷ qs → rs ≡ qs
tail_is r q rs qs h = cc

-- where each reply is the step's, the replies tell the notices
pub told_are : (s : Moment) (h : List Entry) → map (λ (x : Entry). x.reply) h ≡ replies s h → told_of h ≡ notices_from s.remembered.told s h
told_are s [] r = refl
told_are s (x ∷ h) r =
    let done = act s x.pass x.event in
    let rest : told_of h ≡ notices_from (after s x).remembered.told (after s x) h = told_are (after s x) h (tail_is _ _ _ _ r) in
    ap (λ (y : Reply). option_to_list y.notice ++ told_of h) (head_is _ _ _ _ r)
    ∙ one s.remembered.told (tells x.event done.0) x.event done.0 done.1 h (act_keeps s x.pass x.event).1 refl rest

-- a legal history's replies tell its notices
pub told_notices : (s : Moment) (h : List Entry) → s.remembered.told ≡ s.resources.tree → Legal s h → told_of h ≡ notices s h
told_notices s h same l = told_are s h l.replies ∙ ap (λ t. notices_from t s h) same
