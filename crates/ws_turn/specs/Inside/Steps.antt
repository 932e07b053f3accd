-- What each step tells the pass that makes it, and what it makes of the views.
use Rattle.std.specs.Prelude.{true, false, ◌≡◌, ◌≢◌, ◌%◌, ◌^◌, ℕ, List, [], ◌∷◌, ◌++◌, eqb, is_some, Option, Some, None}
use Rattle.std.specs.List.{IsDistinct}
use Rattle.atomic_table.specs.Table.{Me, Step}
use Rattle.ws_turn.specs.declared.view.View.{View}
use Rattle.ws_turn.specs.Lists.{put_before, StartsWith, longer, of, has, numbers, given, HasNoneOf}

abbrev pub first_of : List ℕ → Option ℕ
first_of [] = None
first_of (n ∷ ns) = Some n

abbrev pub rest_of : List ℕ → List ℕ
rest_of [] = []
rest_of (n ∷ ns) = ns

module _ {S E B : Type 0} where
  abbrev pub first_view : B → View S E B
  first_view b = record { number = Some 0; seen = []; told = []; mine = []; lost = []; pending = []; joined = []; ticket = None; held = None; base = Some b; spent = false }

  -- a view that tells another pass what was seen
  abbrev pub note : View S E B → View S E B
  note v = record { number = None; seen = v.seen; told = []; mine = []; lost = []; pending = []; joined = []; ticket = None; held = None; base = v.base; spent = false }

  abbrev pub over : View S E B
  over = record { number = None; seen = []; told = []; mine = []; lost = []; pending = []; joined = []; ticket = None; held = None; base = None; spent = true }

  -- v was told what w saw
  abbrev pub told_of : View S E B → View S E B → View S E B
  told_of v w = record v { told = w.seen }

  -- the new pass has the number that the last entry gave, and has seen as much
  abbrev pub fork : View S E B → View S E B
  fork v = record { number = first_of v.pending; seen = v.seen; told = []; mine = []; lost = []; pending = []; joined = []; ticket = None; held = None; base = v.base; spent = false }

  abbrev pub forked : View S E B → View S E B
  forked v = record v { pending = rest_of v.pending }

  -- The pass of w goes on in the seat of v: it has the ticket and the value of v, and the number of v was joined to it
  abbrev pub merged : View S E B → View S E B → View S E B
  merged v w = record v { number = w.number; mine = w.mine; lost = w.lost ++ v.lost; joined = put_before v.number v.joined }

module _ {S E B : Type 0} (list : S → List E) (base : S → B) (by : E → ℕ) (gives : E → Option ℕ) where
  abbrev pub Sits : Type 0
  Sits = Me (Option S) (View S E B)

  -- the entries of the view's own number
  abbrev pub own : Option ℕ → List E → List E
  own None h = []
  own (Some n) h = of by n h

  -- what was seen has the entries of the view's own number that it knows, and none of a lost number, and no joined number is its own
  abbrev pub Agrees : View S E B → Type 0
  Agrees v = ((n : ℕ) → v.number ≡ Some n → (of by n v.seen ≡ v.mine) × (has n v.joined ≡ false)) × HasNoneOf by v.lost v.seen

  -- the view with the ticket k
  abbrev pub queued : View S E B → ℕ → View S E B
  queued v k = record v { ticket = Some k }

  -- a ticket was drawn
  abbrev pub Draws : Step (Option S) → Sits → ℕ → Sits → Type 0
  Draws st m r m' = (k : ℕ) × (r ≡ k % 2 ^ 64) × (m' ≡ (queued m.0 k, m.1))

  -- the view with the value in hand
  abbrev pub holding : View S E B → S → View S E B
  holding v x = record v { held = Some x; seen = list x; joined = [] }

  -- The slot is in hand. The value stands for a list that begins with what was seen
  abbrev pub IsHanded : Sits → Sits → Type 0
  IsHanded m m' = (x : S) × (m' ≡ (holding m.0 x, (0, Some x) ∷ m.1)) × StartsWith (list x) m.0.seen × (Some (base x) ≡ m.0.base) × Agrees m'.0

  -- the turn has come, and the slot is in hand, or nothing changed
  abbrev pub Looks : Step (Option S) → Sits → ℕ → Sits → Type 0
  Looks st m r m' = (k : ℕ) → m.0.ticket ≡ Some k
      → (r ≡ k % 2 ^ 64 → IsHanded m m')
      × (r ≢ k % 2 ^ 64 → m' ≡ m)

  -- The value may have become y, which stands for what was seen and these entries.
  -- They are of the pass's own number or of a joined one, and give new numbers, each once
  pub record MayRaise (y : S) (more : List E) (v : View S E B) : Type 0 where
    pub base_is : Some (base y) ≡ v.base
    pub list_is : list y ≡ v.seen ++ more
    pub held : (x : S) × (v.held ≡ Some x)
    pub number : (n : ℕ) × (v.number ≡ Some n) × ((m : ℕ) → m ≢ n → has m v.joined ≡ false → of by m more ≡ [])
    pub new : (m : ℕ) → has m (numbers gives more) ≡ true → (m ≢ 0) × (given gives m v.seen ≡ false)
    pub once : IsDistinct eqb (numbers gives more)

  -- the view after these entries were raised
  abbrev pub raised : View S E B → S → List E → View S E B
  raised v y more = record v { held = Some y; seen = list y; mine = v.mine ++ own v.number more; pending = numbers gives more }

  abbrev pub Raises : Option S → Step (Option S) → Sits → ℕ → Sits → Type 0
  Raises told st m r m' = (y : S) → told ≡ Some y
      → ((more : List E) → list y ≡ m.0.seen ++ more → m' ≡ (raised m.0 y more, m.1))
      × Agrees m'.0 × HasNoneOf by m'.0.pending m'.0.seen

  -- The value is in the slot again, and the next ticket is served. The numbers that are still pending are lost
  abbrev pub handed_on : View S E B → View S E B
  handed_on v = record v { held = None; ticket = None; joined = []; pending = []; lost = v.lost ++ v.pending }

  abbrev pub HandsOn : Step (Option S) → Sits → ℕ → Sits → Type 0
  HandsOn st m r m' = m' ≡ (handed_on m.0, [])

  -- a bell was rung, which tells nothing and changes no view
  abbrev pub Rings : Step (Option S) → Sits → ℕ → Sits → Type 0
  Rings st m r m' = m' ≡ m

  -- what was told is seen
  abbrev pub informed : View S E B → View S E B
  informed v = record v { seen = longer v.seen v.told; told = [] }

  -- The view has seen the longer of two beginnings of one history, which the holder of the value had seen before
  abbrev pub Learns : Step (Option S) → Sits → ℕ → Sits → Type 0
  Learns st m r m' = (m' ≡ (informed m.0, m.1)) × StartsWith m'.0.seen m.0.seen × StartsWith m'.0.seen m.0.told × Agrees m'.0 × (is_some m.0.held ≡ true → m'.0.seen ≡ m.0.seen)

-- the slot in hand while the value is out with the caller
abbrev pub in_hand : {S : Type 0} → Option S → List (ℕ × Option S)
in_hand None = []
in_hand (Some x) = (0, None) ∷ []
