-- How a record of calls goes on.
use Rattle.std.proofs.Common.{◌≡◌, ◌⊎◌, inl, inr, ⊎_elim, ℕ, ◌+◌, ◌-◌, ◌≤◌, List, [], ◌∷◌, ◌++◌, length, drop, refl, sym, ◌∙◌, ap, subst, arith, length-append}
use Rattle.std.specs.Prelude.{if◌then◌else◌, nat_le, Bool, true, false, Option, None, Some, Result, Ok, Err, OnOk, OnErr}
use Rattle.std.specs.Option.{MatchOption, option_map_or}
use Rattle.std.proofs.lemmas.Bool.{cases_lt}
use Rattle.std.proofs.lemmas.Bool.Decides.{nat_tests}
use Rattle.std.proofs.lemmas.List.{take_all, take-append-le, drop-drop}
use Rattle.ws_outside.specs.declared.call.Call.{Call}
use Rattle.ws_outside.specs.declared.call.Request.{Request}
use Rattle.ws_outside.specs.declared.call.Request.TheVariants.{Len, Read, Write, Cut, Sync}
use Rattle.ws_outside.specs.declared.contents.Contents.{Contents}
use Rattle.ws_outside.specs.declared.contents.Which.{Which}
use Rattle.ws_outside.specs.declared.contents.Which.TheVariants.{Left, Right}
use Rattle.ws_outside.specs.Disk.{held, beside, holding, Torn, InArea, Came, Elapses}
use Rattle.ws_outside.specs.Replay.{Device, done, reads_after, reads_as, reads, Leaves, LeavesIn, LeftBy, MayLeave, LeftSince, called}
use Rattle.ws_outside.specs.Inside.Laws.{torn_same, left_itself}
use Rattle.ws_outside.specs.Inside.Stepping.{Stepped}

-- one call more
pub reads_push : (area : Which) (calls : List Call) (call : Call) (bytes : List ℕ) → reads_as area (calls ++ call ∷ []) bytes ≡ reads_after area call (reads_as area calls bytes)
reads_push area [] call bytes = refl
reads_push area (x ∷ calls) call bytes = reads_push area calls call (reads_after area x bytes)

left_push : (area : Which) (calls : List Call) (call : Call) (bytes old new : List ℕ) → LeftBy area (calls ++ call ∷ []) bytes old new
    → (mid : List ℕ) × LeftBy area calls bytes old mid × LeavesIn area call (reads_as area calls bytes) mid new
left_push area [] call bytes old new left = (old, refl, subst (λ n. LeavesIn area call bytes old n) (sym left.2) left.1)
left_push area (x ∷ calls) call bytes old new left =
    let rest = left_push area calls call (reads_after area x bytes) left.0 new left.2 in
    (rest.0, (left.0, left.1, rest.1), rest.2)

came_push : (area : Which) (request : Request) (ok : Bool) (first : Contents) (calls : List Call) (c : Contents)
    → MayLeave first (calls ++ record { area = area; request = request; done = ok } ∷ []) c
    → Came (MayLeave first calls) (InArea area (Leaves request ok (held area (reads first calls)))) c
came_push Left request ok first calls c left =
    let call : Call = record { area = Left; request = request; done = ok } in
    let here = left_push Left calls call first.left first.left c.left left.left in
    let there = left_push Right calls call first.right first.right c.right left.right in (
      record c { left = here.0 },
      record { left = here.1; right = subst (LeftBy Right calls first.right first.right) (sym there.2) there.1 },
      record { here = here.2; there = refl },
    )
came_push Right request ok first calls c left =
    let call : Call = record { area = Right; request = request; done = ok } in
    let here = left_push Right calls call first.right first.right c.right left.right in
    let there = left_push Left calls call first.left first.left c.left left.left in (
      record c { right = here.0 },
      record { left = subst (LeftBy Left calls first.left first.left) (sym there.2) there.1; right = here.1 },
      record { here = here.2; there = refl },
    )

pub seen_push : (area : Which) (request : Request) (ok : Bool) (first : Contents) (calls : List Call)
    → reads first (calls ++ record { area = area; request = request; done = ok } ∷ [])
    ≡ (if ok then holding area (done request (held area (reads first calls))) (reads first calls) else reads first calls)
seen_push Left request true first calls = λ i. record { left = reads_push Left calls (record { area = Left; request = request; done = true }) first.left i; right = reads_push Right calls (record { area = Left; request = request; done = true }) first.right i }
seen_push Left request false first calls = λ i. record { left = reads_push Left calls (record { area = Left; request = request; done = false }) first.left i; right = reads_push Right calls (record { area = Left; request = request; done = false }) first.right i }
seen_push Right request true first calls = λ i. record { left = reads_push Left calls (record { area = Right; request = request; done = true }) first.left i; right = reads_push Right calls (record { area = Right; request = request; done = true }) first.right i }
seen_push Right request false first calls = λ i. record { left = reads_push Left calls (record { area = Right; request = request; done = false }) first.left i; right = reads_push Right calls (record { area = Right; request = request; done = false }) first.right i }

-- the clock
elapses_push : (first : Contents) (calls : List Call) (call : Call)
    → Elapses (length calls) (length (calls ++ call ∷ [])) (LeftSince first calls) (LeftSince first (calls ++ call ∷ [])) (MayLeave first (calls ++ call ∷ []))
elapses_push first calls call = record {
  later = omega (arith, size);
  nothing_else = λ t c le left. ⊎_elim
      (λ before. let short : left.0 ≤ length calls = before in
      inl (left.0, left.1, short, subst (λ l. MayLeave first l c) (take-append-le left.0 calls (call ∷ []) short) left.3))
      (λ now. inr (subst (λ l. MayLeave first l c) (take_all left.0 (calls ++ call ∷ []) now) left.3))
      (at_most left.0 left.2);
  keeps = λ t c le left.
      (left.0, left.1, longer left.0 left.2, subst (λ l. MayLeave first l c) (sym (take-append-le left.0 calls (call ∷ []) left.2)) left.3);
}
  where
    size : length (calls ++ call ∷ []) ≡ length calls + 1
    size = omega (arith, length-append calls (call ∷ []))

    longer : (k : ℕ) → k ≤ length calls → k ≤ length (calls ++ call ∷ [])
    longer k le = omega (arith, le, size)

    at_most : (k : ℕ) → k ≤ length (calls ++ call ∷ []) → (k ≤ length calls) ⊎ (length (calls ++ call ∷ []) ≤ k)
    at_most k le = ⊎_elim (λ more. inr (omega (arith, more, size))) (λ less. inl less) (cases_lt (length calls) k)

elapses_same : (first : Contents) (calls : List Call) → Elapses (length calls) (length calls) (LeftSince first calls) (LeftSince first calls) (MayLeave first calls)
elapses_same first calls = record { later = omega arith; nothing_else = λ t c le left. inl left; keeps = λ t c le left. left }

-- a call that was made
pub stepped : (area : Which) (request : Request) (ok : Bool) (room : ℕ) (old new : Device) → new ≡ called area request ok room old → Stepped area request ok old new
stepped area request ok room old new is = subst (Stepped area request ok old) (sym is) record {
  seen = seen_push area request ok old.first old.calls;
  crash = came_push area request ok old.first old.calls;
  time = elapses_push old.first old.calls record { area = area; request = request; done = ok };
}

-- one that wasn't even remembered
leaves_same : (request : Request) (reads bytes : List ℕ) → Leaves request false reads bytes bytes
leaves_same Len reads bytes = refl
leaves_same (Read at len) reads bytes = refl
leaves_same (Write at piece) reads bytes = torn_same at (length piece) bytes
leaves_same (Cut len) reads bytes = inl refl
leaves_same Sync reads bytes = refl

pub unstepped : (area : Which) (request : Request) (old new : Device) (n : ℕ) → new ≡ record old { faults = n } → Stepped area request false old new
unstepped area request old new n is = subst (Stepped area request false old) (sym is) record {
  seen = refl;
  crash = λ c left. (c, left, record { here = leaves_same request (held area (reads old.first old.calls)) (held area c); there = refl });
  time = elapses_same old.first old.calls;
}

-- a write of which fewer bytes may have come through
torn_more : (at few n : ℕ) (old new : List ℕ) → few ≤ n → Torn at few old new → Torn at n old new
torn_more at few n old new le torn = record {
  before = torn.before;
  after = ap (λ (k : ℕ). drop k new) there
      ∙ sym (drop-drop (n - few) (at + few) new)
      ∙ ap (drop (n - few)) torn.after
      ∙ drop-drop (n - few) (at + few) old
      ∙ ap (λ (k : ℕ). drop k old) (sym there);
  no_shorter = torn.no_shorter;
  no_longer = omega (arith, torn.no_longer, le);
}
  where
    there : at + n ≡ at + few + (n - few)
    there = omega (arith, le)

pub came_more : (area : Which) (at few n : ℕ) (from : Contents → Type 0) (c : Contents) → few ≤ n → Came from (InArea area (Torn at few)) c → Came from (InArea area (Torn at n)) c
came_more area at few n from c le came =
    (came.0, came.1, record { here = torn_more at few n (held area came.0) (held area c) le came.2.here; there = came.2.there })

-- what the trait's clauses ask of a call
pub either : {T E A B P : Type 0} (r : Result T E) → OnOk r A → OnErr r B → (A → P) → (B → P) → P
either (Ok x) a b f g = f a
either (Err e) a b f g = g b

pub le_true : (m n : ℕ) → m ≤ n → nat_le m n ≡ true
le_true m n le = grind (arith, nat_tests)

pub holding_held : (area : Which) (both : Contents) → holding area (held area both) both ≡ both
holding_held Left both = refl
holding_held Right both = refl

pub held_holding : (area : Which) (bytes : List ℕ) (both : Contents) → held area (holding area bytes both) ≡ bytes
held_holding Left bytes both = refl
held_holding Right bytes both = refl

pub beside_holding : (area : Which) (bytes : List ℕ) (both : Contents) → beside area (holding area bytes both) ≡ beside area both
beside_holding Left bytes both = refl
beside_holding Right bytes both = refl

-- contents of which both areas are as these
same_contents : (area : Which) (c d : Contents) → held area c ≡ held area d → beside area c ≡ beside area d → c ≡ d
same_contents Left c d here there = λ i. record { left = here i; right = there i }
same_contents Right c d here there = λ i. record { left = there i; right = here i }

pub came_same : (area : Which) (from : Contents → Type 0) (c : Contents) → Came from (InArea area (λ old new. new ≡ old)) c → from c
came_same area from c came = subst from (sym (same_contents area c came.0 came.2.here came.2.there)) came.1

-- after a sync that was done
pub came_synced : (area : Which) (first : Contents) (calls : List Call) (c : Contents)
    → Came (MayLeave first calls) (InArea area (λ old new. new ≡ held area (reads first calls))) c → MayLeave first calls c
came_synced Left first calls c came = record {
  left = subst (LeftBy Left calls first.left first.left) (sym came.2.here) (left_itself Left calls first.left);
  right = subst (LeftBy Right calls first.right first.right) (sym came.2.there) came.1.right;
}
came_synced Right first calls c came = record {
  left = subst (LeftBy Left calls first.left first.left) (sym came.2.there) came.1.left;
  right = subst (LeftBy Right calls first.right first.right) (sym came.2.here) (left_itself Right calls first.right);
}

-- an area into which what a call makes of it was put
pub placed : (ok : Bool) (area : Which) (request : Request) (next : Option (List ℕ)) (both : Contents)
    → MatchOption next (done request (held area both) ≡ held area both) (λ bytes. bytes ≡ done request (held area both))
    → (if ok then option_map_or (λ bytes. holding area bytes both) next both else both) ≡ (if ok then holding area (done request (held area both)) both else both)
placed true area request None both same = sym (ap (λ bytes. holding area bytes both) same ∙ holding_held area both)
placed true area request (Some bytes) both is = ap (λ l. holding area l both) is
placed false area request next both is = refl
