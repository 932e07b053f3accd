-- What is gathered of a history is what it tells, without the first notices.
use Rattle.std.proofs.Common.{◌≡◌, ℕ, zero, suc, List, [], ◌∷◌, ◌++◌, ◌≤◌, length, drop, refl, sym, ap, ◌∙◌, append_assoc, append-nil, arith}
use Rattle.std.specs.Prelude.{Option, Some, None}
use Rattle.std.specs.Option.{option_to_list}
use Rattle.core_event.specs.declared.entry.Entry.{Entry}
use Rattle.delta_kind.specs.declared.node.DeltaNode.{DeltaNode}
use Rattle.ws_core.specs.Histories.{told_of}
use Rattle.ws_locked.specs.Inside.Gathering.{told_on}

-- what is gathered from these entries on
abbrev pub gathered : List (List DeltaNode) × ℕ → List Entry → List (List DeltaNode)
gathered p [] = p.0
gathered p (x ∷ h) = gathered (told_on x.reply.notice p.0 p.1) h

abbrev nothing : List (List DeltaNode)
nothing = []

drop_none : (k : ℕ) → drop k nothing ≡ nothing
drop_none zero = refl
drop_none (suc k) = refl

pub drop_past : (n : ℕ) (xs : List Entry) → length xs ≤ n → drop n xs ≡ []
drop_past zero [] le = refl
drop_past (suc n) [] le = refl
drop_past zero (x ∷ xs) le = absurd (omega (arith, le))
drop_past (suc n) (x ∷ xs) le = drop_past n xs (omega (arith, le))

gathered_by : (o : Option (List DeltaNode)) (told : List (List DeltaNode)) (k : ℕ) (h : List Entry) → ((l : List (List DeltaNode)) (j : ℕ) → gathered (l, j) h ≡ l ++ drop j (told_of h))
    → gathered (told_on o told k) h ≡ told ++ drop k (option_to_list o ++ told_of h)
gathered_by None told k h is = is told k
gathered_by (Some nodes) told zero h is = is (told ++ nodes ∷ []) zero ∙ append_assoc told (nodes ∷ []) (told_of h)
gathered_by (Some nodes) told (suc k) h is = is told k

pub gathered_is : (told : List (List DeltaNode)) (skip : ℕ) (h : List Entry) → gathered (told, skip) h ≡ told ++ drop skip (told_of h)
gathered_is told skip [] = sym (append-nil told) ∙ ap (λ l. told ++ l) (sym (drop_none skip))
gathered_is told skip (x ∷ h) = gathered_by x.reply.notice told skip h (λ l j. gathered_is l j h)
