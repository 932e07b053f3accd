-- Lists of entries, one after another.
use Rattle.std.proofs.Common.{◌≡◌, ◌≢◌, ℕ, List, [], ◌∷◌, ◌++◌, true, false, Bool, refl, ap, sym, ◌∙◌, subst, arith, nat_eq, if◌then◌else◌, eq-eqb, append_assoc, append-nil}
use Rattle.core_event.specs.declared.entry.Entry.{Entry}
use Rattle.core_event.specs.declared.event.Event.{Event}
use Rattle.core_event.specs.declared.reply.Answer.TheVariants.{Done}
use Rattle.core_event.specs.declared.reply.Reply.{Reply}
use Rattle.std.specs.Prelude.{None}
use Rattle.run_order.specs.Lists.{entry, own, acts, Cut, Grew, Begins, InTurn}

-- ---- the entries of one pass

pub own_yes : (k : ℕ) (x : Entry) (h : List Entry) → x.pass ≡ k → own k (x ∷ h) ≡ x ∷ own k h
own_yes k x h e = ap (λ (b : Bool). if b then x ∷ own k h else own k h) (eq-eqb x.pass k e)

pub own_no : (k : ℕ) (x : Entry) (h : List Entry) → x.pass ≢ k → own k (x ∷ h) ≡ own k h
own_no k x h e = let f : nat_eq x.pass k ≡ false = grind (arith, e) in ap (λ (b : Bool). if b then x ∷ own k h else own k h) f

pub own_append : (k : ℕ) (a b : List Entry) → own k (a ++ b) ≡ own k a ++ own k b
own_append k [] b = refl
own_append k (x ∷ a) b = elim (nat_eq x.pass k) as (λ c. (if c then x ∷ own k (a ++ b) else own k (a ++ b)) ≡ (if c then x ∷ own k a else own k a) ++ own k b) [
  | true ↦ ap (λ l. x ∷ l) (own_append k a b)
  | false ↦ own_append k a b
]

pub same_tail : (a b c : List Entry) → a ++ b ≡ a ++ c → b ≡ c
same_tail [] b c e = e
same_tail (x ∷ a) b c e = same_tail a b c (ap tail_of e)
  where
    tail_of : List Entry → List Entry
    tail_of [] = []
    tail_of (z ∷ zs) = zs

-- what a pass made, where its own entries grew by these
pub own_more : (k : ℕ) (h m l : List Entry) → own k (h ++ m) ≡ own k h ++ l → own k m ≡ l
own_more k h m l e = same_tail (own k h) (own k m) l (sym (own_append k h m) ∙ e)

-- ---- who did what

pub acts_append : (a b : List Entry) → acts (a ++ b) ≡ acts a ++ acts b
acts_append [] b = refl
acts_append (x ∷ a) b = ap (λ l. (x.pass, x.event) ∷ l) (acts_append a b)

-- a reply of no meaning, for entries that are still to come
abbrev pub some_reply : Reply
some_reply = record { answer = Done; notice = None }

-- there are entries of any acts
pub some_acts : (xs : List (ℕ × Event)) → (l : List Entry) × (acts l ≡ xs)
some_acts [] = ([], refl)
some_acts (x ∷ xs) = let r = some_acts xs in (entry x.0 x.1 some_reply ∷ r.0, ap (λ l. (x.0, x.1) ∷ l) r.1)

-- some first acts are the beginning of all
pub acts_cut : (xs ys : List (ℕ × Event)) (l : List Entry) → acts l ≡ xs → Cut (λ l. acts l ≡ xs ++ ys) l
acts_cut xs ys l e = let r = some_acts ys in (r.0, acts_append l r.0 ∙ (ap (λ z. z ++ acts r.0) e ∙ ap (λ z. xs ++ z) r.1))

-- ---- whole lists and cut ones

pub cut_whole : (P : List Entry → Type 0) (h : List Entry) → P h → Cut P h
cut_whole P h p = ([], subst P (sym (append-nil h)) p)

-- nothing is the beginning of any such list
pub cut_none : (P : List Entry → Type 0) → (l : List Entry) × P l → Cut P []
cut_none P some = some

-- a cut list after a whole one
pub cut_on : (P Q R : List Entry → Type 0) → ((a b : List Entry) → P a → Q b → R (a ++ b)) → (a b : List Entry) → P a → Cut Q b → Cut R (a ++ b)
cut_on P Q R f a b p q = (q.0, subst R (sym (append_assoc a b q.0)) (f a (b ++ q.0) p q.1))

-- ---- lists that grew

pub grew_on : (P Q R : List Entry → Type 0) (m m' m'' : List Entry) → ((a b : List Entry) → P a → Q b → R (a ++ b)) → Grew P m m' → Grew Q m' m'' → Grew R m m''
grew_on P Q R m m' m'' f a b = (a.0 ++ b.0, b.1 ∙ (ap (λ l. l ++ b.0) a.1 ∙ append_assoc m a.0 b.0), f a.0 b.0 a.2 b.2)

pub grew_cut : (P Q R : List Entry → Type 0) (m m' m'' : List Entry) → ((a b : List Entry) → P a → Q b → R (a ++ b)) → Grew P m m' → Grew (Cut Q) m' m'' → Grew (Cut R) m m''
grew_cut P Q R m m' m'' f a b = grew_on P (Cut Q) (Cut R) m m' m'' (cut_on P Q R f) a b

-- nothing new is the beginning of any such list
pub grew_none : (P : List Entry → Type 0) (m m' : List Entry) → (l : List Entry) × P l → m' ≡ m → Grew (Cut P) m m'
grew_none P m m' some e = ([], e ∙ sym (append-nil m), some)

pub begins_on : (a b c : List Entry) → Begins a b → Begins b c → Begins a c
begins_on a b c p q = (p.0 ++ q.0, q.1 ∙ (ap (λ (m : List Entry). m ++ q.0) p.1 ∙ append_assoc a p.0 q.0))

pub begins_same : (a : List Entry) → Begins a a
begins_same a = ([], sym (append-nil a))

-- ---- one such list after another

module _ {A : Type 0} (P : A → List Entry → Type 0) where
  pub turn_append : (xs ys : List A) (a b : List Entry) → InTurn P xs a → InTurn P ys b → InTurn P (xs ++ ys) (a ++ b)
  turn_append [] ys a b p q = subst (λ l. InTurn P ys (l ++ b)) (sym p) q
  turn_append (x ∷ xs) ys a b p q = (p.0, p.1 ++ b, ap (λ l. l ++ b) p.2 ∙ append_assoc p.0 p.1 b, p.3, turn_append xs ys p.1 b p.4 q)

  pub turn_one : (x : A) (a : List Entry) → P x a → InTurn P (x ∷ []) a
  turn_one x a p = (a, [], sym (append-nil a), p, refl)

  pub turn_more : (xs : List A) (x : A) (a b : List Entry) → InTurn P xs a → P x b → InTurn P (xs ++ x ∷ []) (a ++ b)
  turn_more xs x a b p q = turn_append xs (x ∷ []) a b p (turn_one x b q)

  -- where there is such a list for each
  pub turns_some : ((x : A) → (l : List Entry) × P x l) → (xs : List A) → (l : List Entry) × InTurn P xs l
  turns_some some [] = ([], refl)
  turns_some some (x ∷ xs) = let a = some x in let b = turns_some some xs in (a.0 ++ b.0, (a.0, b.0, refl, a.1, b.1))

  -- some first ones are the beginning of all
  pub turn_begun : ((x : A) → (l : List Entry) × P x l) → (xs ys : List A) (a : List Entry) → InTurn P xs a → Cut (InTurn P (xs ++ ys)) a
  turn_begun some xs ys a p = let z = turns_some some ys in (z.0, turn_append xs ys a z.0 p z.1)

  -- and so they are with a cut one after them
  pub turn_cut : ((x : A) → (l : List Entry) × P x l) → (xs : List A) (x : A) (ys : List A) (a b : List Entry) → InTurn P xs a → Cut (P x) b → Cut (InTurn P (xs ++ x ∷ ys)) (a ++ b)
  turn_cut some xs x ys a b p q =
      let z = turns_some some ys in (
        q.0 ++ z.0,
        subst (InTurn P (xs ++ x ∷ ys)) (sym (append_assoc a b (q.0 ++ z.0)))
            (turn_append xs (x ∷ ys) a (b ++ (q.0 ++ z.0)) p (b ++ q.0, z.0, sym (append_assoc b q.0 z.0), q.1, z.1)),
      )
