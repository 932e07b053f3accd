-- What a pass has done for a save at each of its stages.
use Rattle.std.proofs.Common.{◌≡◌, ℕ, List, [], ◌∷◌, ◌++◌, length, drop, Option, Some, None, refl, sym, ap, ◌∙◌, append-nil}
use Rattle.std.specs.Option.{option_map, option_to_list}
use Rattle.save_kind.specs.declared.answer.SaveAnswer.{SaveAnswer}
use Rattle.save_kind.specs.declared.kind.SaveKind.{SaveKind}
use Rattle.save_kind.specs.declared.state.PartState.{PartState}
use Rattle.save_run.specs.Books.{Start, Keep, Write, Finish}
use Rattle.core_event.specs.declared.entry.Entry.{Entry}
use Rattle.core_event.specs.declared.reply.Answer.{Answer}
use Rattle.core_event.specs.declared.service.ServiceEvent.{ServiceEvent}
use Rattle.ws_core.specs.Sessions.{Session}
use Rattle.save_history.specs.Steps.{step_asked, step_in}
use Rattle.save_history.specs.Saves.{IsAnswered}
use Rattle.save_history.specs.Stages.{HasBegun, HasEnded, HasKept, WasRefused}
use Rattle.save_history.proofs.Walks.{then_one}
use Rattle.save_host.specs.declared.host.Try.{Try}
use Rattle.save_host.specs.Inside.Hosts.{book_of, deed_by, deeds_of, with_write}

drop_front : {A : Type 0} (h l : List A) → drop (length h) (h ++ l) ≡ l
drop_front [] l = refl
drop_front (x ∷ h) l = drop_front h l

-- the book of a session that went on by these entries
pub book_grown : (x y : Session) (l : List Entry) (w : Option Try) → y.history ≡ x.history ++ l → book_of x y w ≡ with_write w (deeds_of l)
book_grown x y l w grew = ap (λ h. with_write w (deeds_of (drop (length x.history) h))) grew ∙ ap (λ h. with_write w (deeds_of h)) (drop_front x.history l)

-- what an entry is
one_deed : (k : ℕ) (event : ServiceEvent) (a : Answer) (x : Entry) → IsAnswered k event a x → option_map (deed_by x.reply.answer) (step_in x.event) ≡ option_map (deed_by a) (step_asked event)
one_deed k event a x is = λ i. option_map (deed_by (is.answer_is i)) (step_in (is.event_is i))

pub book_fresh : (x y : Session) (w : Option Try) → y ≡ x → w ≡ None → book_of x y w ≡ []
book_fresh x y w same none = ap (book_of x y) none ∙ ap (λ z. book_of x z None) same ∙ book_grown x x [] None (sym (append-nil x.history))

pub book_stopped : (k : ℕ) (kind : SaveKind) (n : ℕ) (x y : Session) (w : Option Try) → WasRefused k kind n x y → w ≡ None → book_of x y w ≡ Start kind (Some n) ∷ []
book_stopped k kind n x y w r none =
    book_grown x y (r.went.entry ∷ []) w r.went.history
    ∙ ap (λ t. with_write t (deeds_of (r.went.entry ∷ []))) none
    ∙ ap (λ o. option_to_list o ++ []) (one_deed k _ _ r.went.entry r.went.is)
    ∙ ap (λ m. Start kind (Some m) ∷ []) (sym r.number)

pub book_begun : (k : ℕ) (kind : SaveKind) (x y : Session) (w : Option Try) → HasBegun k kind x y → w ≡ None → book_of x y w ≡ Start kind None ∷ []
book_begun k kind x y w b none =
    book_grown x y (b.went.entry ∷ []) w b.went.history
    ∙ ap (λ t. with_write t (deeds_of (b.went.entry ∷ []))) none
    ∙ ap (λ o. option_to_list o ++ []) (one_deed k _ _ b.went.entry b.went.is)

book_keeps : (k : ℕ) (kind : SaveKind) (states : List (List ℕ × PartState)) (x a y : Session) (w : Option Try) → HasBegun k kind x a → HasKept k states a y → book_of x y w ≡ with_write w (Start kind None ∷ Keep states ∷ [])
book_keeps k kind states x a y w b h =
    book_grown x y (b.went.entry ∷ h.went.entry ∷ []) w (then_one x.history a.history y.history (b.went.entry ∷ []) h.went.entry b.went.history h.went.history)
    ∙ (λ i. with_write w (option_to_list (one_deed k _ _ b.went.entry b.went.is i) ++ (option_to_list (one_deed k _ _ h.went.entry h.went.is i) ++ [])))

pub book_kept : (k : ℕ) (kind : SaveKind) (states : List (List ℕ × PartState)) (x a y : Session) (w : Option Try) → HasBegun k kind x a → HasKept k states a y → w ≡ None → book_of x y w ≡ Start kind None ∷ Keep states ∷ []
book_kept k kind states x a y w b h none = book_keeps k kind states x a y w b h ∙ ap (λ z. with_write z (Start kind None ∷ Keep states ∷ [])) none

pub book_over : (k : ℕ) (kind : SaveKind) (o : SaveAnswer) (x a y : Session) (w : Option Try) → HasBegun k kind x a → HasEnded k o a y → w ≡ None → book_of x y w ≡ Start kind None ∷ Finish o ∷ []
book_over k kind o x a y w b e none =
    book_grown x y (b.went.entry ∷ e.went.entry ∷ []) w (then_one x.history a.history y.history (b.went.entry ∷ []) e.went.entry b.went.history e.went.history)
    ∙ ap (λ t. with_write t (deeds_of (b.went.entry ∷ e.went.entry ∷ []))) none
    ∙ (λ i. option_to_list (one_deed k _ _ b.went.entry b.went.is i) ++ (option_to_list (one_deed k _ _ e.went.entry e.went.is i) ++ []))

book_done : (k : ℕ) (kind : SaveKind) (states : List (List ℕ × PartState)) (o : SaveAnswer) (x a c y : Session) (w : Option Try) → HasBegun k kind x a → HasKept k states a c → HasEnded k o c y
    → book_of x y w ≡ with_write w (Start kind None ∷ Keep states ∷ Finish o ∷ [])
book_done k kind states o x a c y w b h e =
    book_grown x y (b.went.entry ∷ h.went.entry ∷ e.went.entry ∷ []) w
    (then_one x.history c.history y.history (b.went.entry ∷ h.went.entry ∷ []) e.went.entry (then_one x.history a.history c.history (b.went.entry ∷ []) h.went.entry b.went.history h.went.history) e.went.history)
    ∙ (λ i. with_write w (option_to_list (one_deed k _ _ b.went.entry b.went.is i) ++ (option_to_list (one_deed k _ _ h.went.entry h.went.is i) ++ (option_to_list (one_deed k _ _ e.went.entry e.went.is i) ++ []))))

pub book_tried : (k : ℕ) (kind : SaveKind) (states : List (List ℕ × PartState)) (x a y : Session) (w : Option Try) (t : Try) → HasBegun k kind x a → HasKept k states a y → w ≡ Some t
    → book_of x y w ≡ Start kind None ∷ Keep states ∷ Write t.kind t.result ∷ []
book_tried k kind states x a y w t b h some = book_keeps k kind states x a y w b h ∙ ap (λ z. with_write z (Start kind None ∷ Keep states ∷ [])) some

pub book_written : (k : ℕ) (kind : SaveKind) (states : List (List ℕ × PartState)) (o : SaveAnswer) (x a c y : Session) (w : Option Try) (t : Try) → HasBegun k kind x a → HasKept k states a c → HasEnded k o c y → w ≡ Some t
    → book_of x y w ≡ Start kind None ∷ Keep states ∷ Write t.kind t.result ∷ Finish o ∷ []
book_written k kind states o x a c y w t b h e some = book_done k kind states o x a c y w b h e ∙ ap (λ z. with_write z (Start kind None ∷ Keep states ∷ Finish o ∷ [])) some
