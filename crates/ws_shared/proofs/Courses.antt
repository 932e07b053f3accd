-- How far a save has come, by what was done for it.
use Rattle.std.proofs.Common.{◌≡◌, ◌⊎◌, inl, inr, ℕ, Bool, true, false, List, [], ◌∷◌, ◌++◌, Option, Some, None, Result, refl, sym, ap, ◌∙◌, subst}
use Rattle.save_kind.specs.declared.answer.SaveAnswer.{SaveAnswer}
use Rattle.save_kind.specs.declared.kind.SaveKind.{SaveKind}
use Rattle.save_round.specs.Told.{Told as PartTold}
use Rattle.save_run.specs.Books.{Deed, Start, Keep, Write, Finish, MayEnd, WereKept, outcome_of}
use Rattle.save_run.specs.Books as books
use Rattle.save_run.specs.declared.host.WriteFault.{WriteFault}
use Rattle.save_run.specs.Saves.{CameTo, HasEnded}
use Rattle.save_history.specs.Rounds.{kept_in}
use Rattle.save_host.proofs.Answered.{ending_with, ends_so, kept_before_end}
use Rattle.ws_shared.specs.declared.saving.Try.{Try}
use Rattle.ws_shared.specs.Inside.Hosts.{EndsSo, IsFresh, States, book_of, then_end, then_keep, then_write}

-- a list with an item isn't empty
longer_than : (d : Deed) (ds : List Deed) → d ∷ ds ≡ [] → ⊥
longer_than d ds e = let e : d ∷ ds ≡ [] = e in cc

tail_is : (c d : Deed) (cs ds : List Deed) → c ∷ cs ≡ d ∷ ds → cs ≡ ds
tail_is c d cs ds e = let e : c ∷ cs ≡ d ∷ ds = e in cc

pub record IsOnlyBegun (b : Bool) (k : Option States) (w : Option Try) (e : Option SaveAnswer) : Type 0 where
  pub noted : b ≡ true
  pub kept : k ≡ None
  pub written : w ≡ None
  pub ended : e ≡ None

nothing_then : (kept : Option States) (written : Option Try) (ended : Option SaveAnswer) → then_keep kept (then_write written (then_end ended)) ≡ [] → IsOnlyBegun true kept written ended
nothing_then None None None is = record { noted = refl; kept = refl; written = refl; ended = refl }
nothing_then None None (Some a) is = absurd (longer_than _ _ is)
nothing_then None (Some t) ended is = absurd (longer_than _ _ is)
nothing_then (Some s) written ended is = absurd (longer_than _ _ is)

never_noted : {T : Type 0} (d : Deed) (ds : List Deed) → [] ≡ d ∷ ds → T
never_noted d ds e = absurd (longer_than d ds (sym e))

-- nothing was done since it began
pub only_begun : (b : Bool) (kind other : SaveKind) (kept : Option States) (written : Option Try) (ended : Option SaveAnswer) → books.HasBegun (book_of b kind kept written ended) other → IsOnlyBegun b kept written ended
only_begun true kind other kept written ended is = nothing_then kept written ended (tail_is _ _ _ _ is)
only_begun false kind other kept written ended is = never_noted _ _ is

-- it isn't noted
pub never_fresh : (b : Bool) (kind : SaveKind) (kept : Option States) (written : Option Try) (ended : Option SaveAnswer) → book_of b kind kept written ended ≡ [] → b ≡ false
never_fresh true kind kept written ended is = absurd (longer_than _ _ is)
never_fresh false kind kept written ended is = refl

-- where nothing was done since
pub now_noted : (b : Bool) (kind : SaveKind) (kept : Option States) (written : Option Try) (ended : Option SaveAnswer) → b ≡ false → IsFresh b kept written ended → book_of true kind kept written ended ≡ Start kind None ∷ []
now_noted true kind kept written ended is fresh = let e : true ≡ false = is in cc
now_noted false kind kept written ended is fresh = λ i. Start kind None ∷ then_keep (fresh.0 i) (then_write (fresh.1 i) (then_end (fresh.2 i)))

pub record AreOnlyKept (b : Bool) (k : Option States) (w : Option Try) (e : Option SaveAnswer) : Type 0 where
  pub noted : b ≡ true
  pub states : States
  pub kept : k ≡ Some states
  pub written : w ≡ None
  pub ended : e ≡ None

-- states were kept, and nothing was done since
pub only_kept : (b : Bool) (kind other : SaveKind) (kept : Option States) (written : Option Try) (ended : Option SaveAnswer) → WereKept (book_of b kind kept written ended) other → AreOnlyKept b kept written ended
only_kept false kind other kept written ended (states, is) = never_noted _ _ is
only_kept true kind other kept written ended (states, is) = by kept (tail_is _ _ _ _ is)
  where
    by : (o : Option States) → then_keep o (then_write written (then_end ended)) ≡ Keep states ∷ [] → AreOnlyKept true o written ended
    by (Some s) e = let n = nothing_then None written ended (tail_is _ _ _ _ e) in record { noted = refl; states = s; kept = refl; written = n.written; ended = n.ended }
    by None e = wrong written e
      where
        wrong : (w : Option Try) → then_write w (then_end ended) ≡ Keep states ∷ [] → AreOnlyKept true None written ended
        wrong (Some t) e = let no : Write t.kind t.result ∷ then_end ended ≡ Keep states ∷ [] = e in cc
        wrong None e = never ended e
          where
            never : (a : Option SaveAnswer) → then_end a ≡ Keep states ∷ [] → AreOnlyKept true None written ended
            never None e = let no : [] ≡ Keep states ∷ [] = e in cc
            never (Some a) e = let no : Finish a ∷ [] ≡ Keep states ∷ [] = e in cc

-- ---- it ends

same_result : (k l : SaveKind) (r s : Result (Unit {0}) WriteFault) → Write k r ≡ Write l s → r ≡ s
same_result k l r s e = let e : Write k r ≡ Write l s = e in cc

head_is : (c d : Deed) (cs ds : List Deed) → c ∷ cs ≡ d ∷ ds → c ≡ d
head_is c d cs ds e = let e : c ∷ cs ≡ d ∷ ds = e in cc

-- as it may, where it hasn't
pub may_so : (b : Bool) (kind : SaveKind) (kept : Option States) (written : Option Try) (ended : Option SaveAnswer) (a : SaveAnswer) → MayEnd (book_of b kind kept written ended) a → (ended ≡ None) × EndsSo kept written a
may_so false kind kept written ended a (other, inl (begun, unkept)) = never_noted _ _ begun
may_so false kind kept written ended a (other, inr (result, (states, is), so)) = never_noted _ _ is
may_so true kind kept written ended a (other, inl (begun, unkept)) =
    let n = only_begun true kind other kept written ended begun in
    (n.ended, subst (λ w. EndsSo kept w a) (sym n.written) (subst (λ s. EndsSo s None a) (sym n.kept) unkept))
may_so true kind kept written ended a (other, inr (result, (states, is), so)) = by kept (tail_is _ _ _ _ is)
  where
    by : (o : Option States) → then_keep o (then_write written (then_end ended)) ≡ Keep states ∷ Write other result ∷ [] → (ended ≡ None) × EndsSo o written a
    by (Some s) e = wrote written (tail_is _ _ _ _ e)
      where
        wrote : (w : Option Try) → then_write w (then_end ended) ≡ Write other result ∷ [] → (ended ≡ None) × EndsSo (Some s) w a
        wrote (Some t) e = let n = nothing_then None None ended (tail_is _ _ _ _ e) in (n.ended, so ∙ ap outcome_of (sym (same_result t.kind other t.result result (head_is _ _ _ _ e))))
        wrote None e = never ended e
          where
            never : (b : Option SaveAnswer) → then_end b ≡ Write other result ∷ [] → (ended ≡ None) × EndsSo (Some s) None a
            never None e = let no : [] ≡ Write other result ∷ [] = e in cc
            never (Some b) e = let no : Finish b ∷ [] ≡ Write other result ∷ [] = e in cc
    by None e = wrong written e
      where
        wrong : (w : Option Try) → then_write w (then_end ended) ≡ Keep states ∷ Write other result ∷ [] → (ended ≡ None) × EndsSo None w a
        wrong (Some t) e = let no : Write t.kind t.result ∷ then_end ended ≡ Keep states ∷ Write other result ∷ [] = e in cc
        wrong None e = never ended e
          where
            never : (b : Option SaveAnswer) → then_end b ≡ Keep states ∷ Write other result ∷ [] → (ended ≡ None) × EndsSo None None a
            never None e = let no : [] ≡ Keep states ∷ Write other result ∷ [] = e in cc
            never (Some b) e = let no : Finish b ∷ [] ≡ Keep states ∷ Write other result ∷ [] = e in cc

-- what was done when it had come to its end
pub record CameThrough (kind : SaveKind) (a : SaveAnswer) (kept : Option States) (old new : List PartTold) : Type 0 where
  pub deeds : List Deed
  pub keeps : kept_in deeds ≡ kept
  pub came : CameTo kind a deeds old new

ends_book : (kept : Option States) (written : Option Try) (ended : Option SaveAnswer) → ending_with None (then_keep kept (then_write written (then_end ended))) ≡ ended
ends_book None None None = refl
ends_book None None (Some a) = refl
ends_book None (Some t) None = refl
ends_book None (Some t) (Some a) = refl
ends_book (Some s) None None = refl
ends_book (Some s) None (Some a) = refl
ends_book (Some s) (Some t) None = refl
ends_book (Some s) (Some t) (Some a) = refl

keeps_book : (kept : Option States) (written : Option Try) (ended : Option SaveAnswer) → kept_in (then_keep kept (then_write written (then_end ended))) ≡ kept
keeps_book (Some s) written ended = refl
keeps_book None None None = refl
keeps_book None None (Some a) = refl
keeps_book None (Some t) None = refl
keeps_book None (Some t) (Some a) = refl

pub ended_is : (b : Bool) (kind : SaveKind) (kept : Option States) (written : Option Try) (ended : Option SaveAnswer) (a : SaveAnswer) (old new : List PartTold) → HasEnded kind a (book_of b kind kept written ended) old new → ended ≡ Some a
ended_is false kind kept written ended a old new h = never_noted _ _ h.book
ended_is true kind kept written ended a old new h = sym (ends_book kept written ended) ∙ (ap (ending_with None) (tail_is _ _ _ _ h.book) ∙ ends_so None h.deeds a)

pub came_to : (b : Bool) (kind : SaveKind) (kept : Option States) (written : Option Try) (ended : Option SaveAnswer) (a : SaveAnswer) (old new : List PartTold) → HasEnded kind a (book_of b kind kept written ended) old new → CameThrough kind a kept old new
came_to false kind kept written ended a old new h = never_noted _ _ h.book
came_to true kind kept written ended a old new h = record {
  deeds = h.deeds;
  keeps = sym (kept_before_end h.deeds a) ∙ (ap kept_in (sym (tail_is _ _ _ _ h.book)) ∙ keeps_book kept written ended);
  came = h.came;
}

-- ---- what a host notes

-- how it is to end
pub finished : (b : Bool) (kind : SaveKind) (kept : Option States) (written : Option Try) (ended : Option SaveAnswer) (a : SaveAnswer) → MayEnd (book_of b kind kept written ended) a
    → book_of b kind kept written (Some a) ≡ books.noted (book_of b kind kept written ended) (Finish a)
finished false kind kept written ended a (other, inl (begun, unkept)) = never_noted _ _ begun
finished false kind kept written ended a (other, inr (result, (states, is), so)) = never_noted _ _ is
finished true kind kept written ended a may = by kept written ended (may_so true kind kept written ended a may).0
  where
    by : (kept : Option States) (written : Option Try) (ended : Option SaveAnswer) → ended ≡ None → book_of true kind kept written (Some a) ≡ books.noted (book_of true kind kept written ended) (Finish a)
    by None None None none = refl
    by None (Some t) None none = refl
    by (Some s) None None none = refl
    by (Some s) (Some t) None none = refl
    by kept written (Some b) none = let no : Some b ≡ None = none in cc

-- that it was written
pub wrote : (b : Bool) (kind : SaveKind) (kept : Option States) (written : Option Try) (ended : Option SaveAnswer) (t : Try) → AreOnlyKept b kept written ended
    → book_of b kind kept (Some t) ended ≡ books.noted (book_of b kind kept written ended) (Write t.kind t.result)
wrote b kind kept written ended t only =
    subst (λ z. book_of z kind kept (Some t) ended ≡ books.noted (book_of z kind kept written ended) (Write t.kind t.result)) (sym only.noted)
    (subst (λ k. book_of true kind k (Some t) ended ≡ books.noted (book_of true kind k written ended) (Write t.kind t.result)) (sym only.kept)
    (subst (λ w. book_of true kind (Some only.states) (Some t) ended ≡ books.noted (book_of true kind (Some only.states) w ended) (Write t.kind t.result)) (sym only.written)
    (subst (λ e. book_of true kind (Some only.states) (Some t) e ≡ books.noted (book_of true kind (Some only.states) None e) (Write t.kind t.result)) (sym only.ended) refl)))

-- that states were kept
pub kept_then : (b : Bool) (kind : SaveKind) (kept : Option States) (written : Option Try) (ended : Option SaveAnswer) (states : States) → IsOnlyBegun b kept written ended
    → book_of b kind (Some states) written ended ≡ books.noted (book_of b kind kept written ended) (Keep states)
kept_then b kind kept written ended states only =
    subst (λ z. book_of z kind (Some states) written ended ≡ books.noted (book_of z kind kept written ended) (Keep states)) (sym only.noted)
    (subst (λ k. book_of true kind (Some states) written ended ≡ books.noted (book_of true kind k written ended) (Keep states)) (sym only.kept)
    (subst (λ w. book_of true kind (Some states) w ended ≡ books.noted (book_of true kind None w ended) (Keep states)) (sym only.written)
    (subst (λ e. book_of true kind (Some states) None e ≡ books.noted (book_of true kind None None e) (Keep states)) (sym only.ended) refl)))

-- ---- what is noted stays so

noted_fresh : (b : Bool) → b ≡ true → (k : Option States) (w : Option Try) (e : Option SaveAnswer) → IsFresh b k w e
noted_fresh b is k w e = subst (λ z. IsFresh z k w e) (sym is) tt

pub begun_noted : (k' : Option States) (w' : Option Try) (e' : Option SaveAnswer) (b : Bool) (k : Option States) (w : Option Try) (e : Option SaveAnswer) → IsOnlyBegun b k w e → IsFresh b k' w' e'
begun_noted k' w' e' b k w e only = noted_fresh b only.noted k' w' e'

pub kept_noted : (k' : Option States) (w' : Option Try) (e' : Option SaveAnswer) (b : Bool) (k : Option States) (w : Option Try) (e : Option SaveAnswer) → AreOnlyKept b k w e → IsFresh b k' w' e'
kept_noted k' w' e' b k w e only = noted_fresh b only.noted k' w' e'

pub still_noted : (k' : Option States) (w' : Option Try) (e' : Option SaveAnswer) (b : Bool) (kind : SaveKind) (k : Option States) (w : Option Try) (e : Option SaveAnswer) (a : SaveAnswer) → MayEnd (book_of b kind k w e) a → IsFresh b k' w' e'
still_noted k' w' e' true kind k w e a may = tt
still_noted k' w' e' false kind k w e a (other, inl (begun, unkept)) = never_noted _ _ begun
still_noted k' w' e' false kind k w e a (other, inr (result, (states, is), so)) = never_noted _ _ is
