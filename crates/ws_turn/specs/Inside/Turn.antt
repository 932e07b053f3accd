-- The rule of the lock.
-- Word 0 is the next ticket, word 1 the ticket that is served, word 2 the length of the history. Slot 0 is the place of the value.
-- The words from 3 on are the bells that waiters sleep on, of which the rule says nothing.
-- Tickets are counted here without an end. The words show them up to wrapping.
use Rattle.std.specs.Prelude.{Bool, true, false, ◌≡◌, ◌≢◌, ◌⊎◌, ◌%◌, ◌^◌, ◌<◌, ◌≤◌, ℕ, List, [], length, slice_index, eqb, Option, Some}
use Rattle.std.specs.List.{IsDistinct}
use mathlib.Core.Option.{some}
use lib.ListN.{get_elem?}
use Rattle.atomic_table.specs.Table.{State}
use Rattle.ws_turn.specs.declared.view.View.{View}
use Rattle.ws_turn.specs.Lists.{StartsWith, of, has, numbers, given}

-- what has become of a number
pub data Fate : Type 0 where
  -- no entry gave it
  unused : Fate
  -- an entry gave it, and the holder of the value may make its pass
  pending : Fate
  -- the pass with this seat has it
  living : ℕ → Fate
  -- the pass that had it was joined to another
  joined : Fate
  -- an entry gave it, and no pass has had it or will
  lost : Fate

-- a pass has the number, or has had it
abbrev pub is_had : Fate → Bool
is_had (living j) = true
is_had joined = true
is_had _ = false

abbrev pub is_used : Fate → Bool
is_used unused = false
is_used _ = true

-- the history so far, how many tickets were drawn and served, what became of each number, and the number of the pass that drew each ticket
pub record Now (E : Type 0) : Type 0 where
  pub history : List E
  pub drawn : ℕ
  pub served : ℕ
  pub fate : ℕ → Fate
  pub named : ℕ → ℕ

-- the view v of the seat j isn't spent
abbrev pub Lives : {S E B : Type 0} → List (View S E B) → ℕ → View S E B → Type 0
Lives views j v = (get_elem? views j ≡ some v) × (v.spent ≡ false)

module _ {S E B : Type 0} (list : S → List E) (base : S → B) (by : E → ℕ) (gives : E → Option ℕ) where
  -- what holds of the view v of the seat j, which isn't spent
  pub record Knows (key : B) (t : Now E) (j : ℕ) (v : View S E B) : Type 0 where
    pub base_is : v.base ≡ Some key
    pub seen : StartsWith t.history v.seen
    pub told : StartsWith t.history v.told
    pub number : (n : ℕ) → v.number ≡ Some n → (n < 2 ^ 64) × (t.fate n ≡ living j)
    pub mine : (n : ℕ) → v.number ≡ Some n → (of by n t.history ≡ v.mine) × (of by n v.seen ≡ v.mine)
    pub pending_is : (n : ℕ) → has n v.pending ≡ true → (t.fate n ≡ pending) × (v.ticket ≡ Some t.served)
    pub joined_is : (n : ℕ) → has n v.joined ≡ true → t.fate n ≡ joined
    pub lost_is : (n : ℕ) → has n v.lost ≡ true → t.fate n ≡ lost
    pub ticket : (k : ℕ) → v.ticket ≡ Some k → (t.served ≤ k) × (k < t.drawn) × (v.number ≡ Some (t.named k))
    pub held : (x : S) → v.held ≡ Some x → (v.ticket ≡ Some t.served) × (v.seen ≡ t.history) × (list x ≡ t.history) × (base x ≡ key)

  -- the value is in the slot, or in the hands of a view
  abbrev pub Lies : State (Option S) (View S E B) → S → Type 0
  Lies s x = (get_elem? s.homes 0 ≡ some (some (Some x))) ⊎ ((j : ℕ) × (v : View S E B) × Lives s.views j v × (v.held ≡ Some x))

  pub record Turn (key : B) (s : State (Option S) (View S E B)) : Type 0 where
    pub now : Now E
    pub wide : length s.words ≡ 67
    pub next_ticket : slice_index s.words 0 ≡ now.drawn % 2 ^ 64
    pub serving : slice_index s.words 1 ≡ now.served % 2 ^ 64
    pub count : slice_index s.words 2 ≡ length now.history
    -- the value, its list and its base
    pub value : (x : S) × (list x ≡ now.history) × (base x ≡ key) × Lies s x
    -- what each view knows that isn't spent
    pub views : (j : ℕ) (v : View S E B) → Lives s.views j v → Knows key now j v
    -- each ticket that was drawn and isn't served yet is a view's
    pub behind : now.served ≤ now.drawn
    pub queue : (k : ℕ) → now.served ≤ k → k < now.drawn → (j : ℕ) × (v : View S E B) × Lives s.views j v × (v.ticket ≡ Some k)
    -- the first pass has the number 0, and every other number that is used was given by one entry
    pub first : is_had (now.fate 0) ≡ true
    pub given_is : (n : ℕ) → n ≢ 0 → given gives n now.history ≡ is_used (now.fate n)
    pub given_once : IsDistinct eqb (numbers gives now.history)
    -- a number that no pass has had has no entry
    pub silent : (n : ℕ) → is_had (now.fate n) ≡ false → of by n now.history ≡ []
