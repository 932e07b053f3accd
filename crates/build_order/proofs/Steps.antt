-- The steps of a search.
use Rattle.std.proofs.Common.{◌≡◌, ◌≢◌, ◌⊎◌, inl, inr, ℕ, ◌+◌, ◌-◌, ◌<◌, ◌≤◌, List, [], ◌∷◌, ◌++◌, length, get_or, set, take, drop, replicate, refl, sym, ap, ◌∙◌, subst, arith, length-append, append_assoc, append-nil}
use Rattle.std.specs.List.{Contains, All}
use Rattle.std.proofs.lemmas.Bool.{cases_eq, cases_lt}
use Rattle.std.proofs.lemmas.List.{same_from_push, take_at, drop_at, nil_from_length, get_or_past, get_or-replicate, length-replicate, length-drop, get_or-drop, take_more, take_rest}
use Rattle.std.proofs.lemmas.List.Elements.{Contains-append_left, Contains-push_cases, Contains-push, Contains-get_or}
use Rattle.build_order.specs.declared.search.Mark.{Mark}
use Rattle.build_order.specs.declared.search.Mark.TheVariants.{New, Open, Closed}
use Rattle.build_order.specs.declared.search.Frame.{Frame}
use Rattle.build_order.specs.declared.search.Search.{Search}
use Rattle.build_order.specs.Orders.{Leads}
use Rattle.build_order.specs.Inside.Graphs.{Graph, Refers, IsWithin}
use Rattle.build_order.specs.Inside.Searches.{Part, members_of, todo_of, frames_of, mark_at, IsKnown, IsPast, IsUnderWay, Stands, Meets, IsTop, GoesOn, IsFresh, AreMarked, cost_of, work}
use Rattle.build_order.proofs.Members.{none}
use Rattle.build_order.proofs.Parts.{start_of, popped, popped_leads, met, opened}
use Rattle.build_order.proofs.Opening.{opening, marked_here, marked_other, past_here}
use Rattle.build_order.proofs.Joining.{joined, joined_members, joined_todo, joining}
use Rattle.build_order.proofs.Closing.{closing, new_not_closed}
use Rattle.build_order.proofs.Costs.{cost_opened, cost_kept}

-- a list that ends with one element isn't empty
push_some : {X : Type 0} (front : List X) (x : X) → [] ≡ front ++ x ∷ [] → ⊥
push_some [] x e = cc
push_some (y ∷ front) x e = cc

-- the last element, where there is one
pub last_split : {X : Type 0} (xs : List X) → 0 < length xs → (front : List X) × (x : X) × (xs ≡ front ++ x ∷ [])
last_split [] lt = absurd (omega arith)
last_split (x ∷ []) lt = ([], x, refl)
last_split (x ∷ y ∷ xs) lt = let more = last_split (y ∷ xs) (omega arith) in (x ∷ more.0, more.1, ap (λ ys. x ∷ ys) more.2)

-- what is popped from a list that ends with x
pub popped_front : {X : Type 0} (xs front : List X) (x : X) (n : ℕ) → xs ≡ front ++ x ∷ [] → n ≡ length xs → take (n - 1) xs ≡ front
popped_front xs front x n e is =
    subst (λ ys. take (n - 1) ys ≡ front) (sym e) (take_at front (x ∷ []) (n - 1) (omega (arith, is, ap length e, length-append front (x ∷ []))))

-- a number with a mark is a number of the list
pub marked_within : (marks : List Mark) (n p : ℕ) → mark_at marks n ≡ Open p → n < length marks
marked_within marks n p is = elim (cases_lt n (length marks)) [
  | inl lt ↦ lt
  | inr le ↦ absurd (apart (sym (get_or_past marks n New le) ∙ is))
]
  where
    apart : New ≡ Open p → ⊥
    apart e = cc

pub fresh_stands : (g : Graph) (s : Search) → IsFresh (length g) s → Stands g [] s
fresh_stands g s f = record {
  parts = [];
  members = f.members;
  todo = f.todo;
  frames = f.frames;
  under_way = record {
    as_long = ap length f.marks ∙ length-replicate (length g) New;
    within = λ n i. absurd (none n i);
    are_open = record { here = λ p lt. absurd (omega arith); there = λ n p is. absurd (open_not (mark_at s.marks.items n) p (all_new n) is) };
    are_parts = tt;
    are_closed = record {
      rank = λ n. n;
      top = 0;
      least = λ a l is. absurd (new_not_closed (mark_at s.marks.items a) l (all_new a) is);
      lead = λ a l is. absurd (new_not_closed (mark_at s.marks.items a) l (all_new a) is);
      below = λ a l is. absurd (new_not_closed (mark_at s.marks.items a) l (all_new a) is);
      together = λ a b l is other. absurd (new_not_closed (mark_at s.marks.items a) l (all_new a) is);
      down = λ a b l is r. absurd (new_not_closed (mark_at s.marks.items a) l (all_new a) is);
    };
  };
}
  where
    open_not : (m : Mark) (p : ℕ) → m ≡ New → m ≡ Open p → ⊥
    open_not m p e f = let x : New ≡ Open p = sym e ∙ f in cc

    all_new : (n : ℕ) → mark_at s.marks.items n ≡ New
    all_new n = ap (λ ms. mark_at ms n) f.marks ∙ elim (cases_lt n (length g)) [
      | inl lt ↦ get_or-replicate (length g) n New New lt
      | inr le ↦ get_or_past (replicate (length g) New) n New (omega (arith, le, length-replicate (length g) New))
    ]

-- with no frame, no number is open
pub no_parts : (parts : List Part) → [] ≡ frames_of parts → parts ≡ []
no_parts [] e = refl
no_parts (p ∷ below) e = absurd (push_some (frames_of below) (record { members = length (members_of below); todo = length (todo_of below) }) e)

pub rests_meets : (g : Graph) (s : Search) (n : ℕ) → Stands g [] s → s.frames.items ≡ [] → Meets g n s
rests_meets g s n h e = by h.parts h.members h.todo h.frames h.under_way
  where
    by : (parts : List Part) → s.members.items ≡ members_of parts → s.todo.items ≡ todo_of parts → s.frames.items ≡ frames_of parts → IsUnderWay g s.marks.items [] parts → Meets g n s
    by [] m t f u = record {
      stands = record { parts = []; members = m; todo = t; frames = f; under_way = record { as_long = u.as_long; within = u.within; are_open = u.are_open; are_parts = tt; are_closed = u.are_closed } };
      leads = λ a i. absurd (none a (subst (λ xs. Contains xs a) m i));
    }
    by (p ∷ below) m t f u = absurd (push_some (frames_of below) (record { members = length (members_of below); todo = length (todo_of below) }) (sym e ∙ f))

-- opening

pub opened_on : (g : Graph) (n : ℕ) (old new : Search) → IsWithin g → n < length g → mark_at old.marks.items n ≡ New → Meets g n old
    → new.marks.items ≡ set old.marks.items n (Open (length old.members.items)) → new.members.items ≡ old.members.items ++ n ∷ []
    → new.todo.items ≡ old.todo.items ++ get_or g n [] → new.frames.items ≡ old.frames.items ++ record { members = length old.members.items; todo = length old.todo.items } ∷ []
    → GoesOn g old new × IsKnown new.marks.items n × (work g new ≤ work g old)
opened_on g n old new inside lt is m em ee et ef = (
  record {
    stands = record {
      parts = record { members = n ∷ []; todo = get_or g n [] } ∷ m.stands.parts;
      members = ee ∙ ap (λ xs. xs ++ n ∷ []) m.stands.members;
      todo = et ∙ ap (λ xs. xs ++ get_or g n []) m.stands.todo;
      frames = ef ∙ (λ i. m.stands.frames i ++ record { members = length (m.stands.members i); todo = length (m.stands.todo i) } ∷ []);
      under_way = subst (λ ms. IsUnderWay g ms [] (record { members = n ∷ []; todo = get_or g n [] } ∷ m.stands.parts)) (sym (em ∙ ap (λ xs. set old.marks.items n (Open (length xs))) m.stands.members))
          (opening g old.marks.items n m.stands.parts inside lt is (λ a i. m.leads a (subst (λ xs. Contains xs a) (sym m.stands.members) i)) m.stands.under_way);
    };
    kept = λ a known. subst (λ ms. IsKnown ms a) (sym em) (elim (cases_eq a n) [
      | inl e ↦ absurd (known (ap (mark_at old.marks.items) e ∙ is))
      | inr ne ↦ λ e. known (sym (marked_other old.marks.items n a (Open (length old.members.items)) ne) ∙ e)
    ]);
  },
  subst (λ ms. IsKnown ms n) (sym em) (past_here old.marks.items n 0 (length old.members.items) (omega (arith, lt, m.stands.under_way.as_long)) (omega arith)).known,
  (let c : cost_of new.marks.items g + (length (get_or g n []) + 2) ≡ cost_of old.marks.items g =
      subst (λ ms. cost_of ms g + (length (get_or g n []) + 2) ≡ cost_of old.marks.items g) (sym em) (cost_opened old.marks.items g n (length old.members.items) m.stands.under_way.as_long lt is) in
      omega (arith, c, ap length et, length-append old.todo.items (get_or g n []), ap length ef, length-append old.frames.items (record { members = length old.members.items; todo = length old.todo.items } ∷ []))),
)

-- what the top frame says

top_is : (g : Graph) (owed : List ℕ) (s : Search) (f : Frame) (h : Stands g owed s) → IsTop s.frames.items f
    → (p : Part) × (below : List Part) × (h.parts ≡ p ∷ below) × (f ≡ record { members = length (members_of below); todo = length (todo_of below) })
top_is g owed s f h top = by h.parts refl (sym h.frames ∙ top.1)
  where
    by : (parts : List Part) → h.parts ≡ parts → frames_of h.parts ≡ top.0 ++ f ∷ [] → (p : Part) × (below : List Part) × (h.parts ≡ p ∷ below) × (f ≡ record { members = length (members_of below); todo = length (todo_of below) })
    by [] e is = absurd (push_some top.0 f (sym (ap frames_of e) ∙ is))
    by (p ∷ below) e is = (p, below, e, sym (same_from_push (frames_of below) top.0 (record { members = length (members_of below); todo = length (todo_of below) }) f (sym (ap frames_of e) ∙ is)).1)

pub top_within : (g : Graph) (s : Search) (f : Frame) → Stands g [] s → IsTop s.frames.items f → (f.members ≤ length s.members.items) × (f.todo ≤ length s.todo.items)
top_within g s f h top =
    let at = top_is g [] s f h top in (
      omega (arith, ap (λ (x : Frame). x.members) at.3, ap length h.members, ap (λ ps. length (members_of ps)) at.2, length-append (members_of at.1) at.0.members),
      omega (arith, ap (λ (x : Frame). x.todo) at.3, ap length h.todo, ap (λ ps. length (todo_of ps)) at.2, length-append (todo_of at.1) at.0.todo),
    )

-- meeting what the top frame has still to meet

last_of : (front own new : List ℕ) (n : ℕ) → front ++ own ≡ new ++ n ∷ [] → 0 < length own → (rest : List ℕ) × (own ≡ rest ++ n ∷ []) × (new ≡ front ++ rest)
last_of front own new n e lt =
    let s = last_split own lt in
    let both = same_from_push (front ++ s.0) new s.1 n (append_assoc front s.0 (s.1 ∷ []) ∙ ap (λ xs. front ++ xs) (sym s.2) ∙ e) in
    (s.0, s.2 ∙ ap (λ x. s.0 ++ x ∷ []) both.1, sym both.0)

pub next_meets : (g : Graph) (old new : Search) (f : Frame) (n : ℕ) → Stands g [] old → IsTop old.frames.items f → length old.todo.items ≢ f.todo
    → new.marks.items ≡ old.marks.items → new.members.items ≡ old.members.items → old.todo.items ≡ new.todo.items ++ n ∷ [] → new.frames.items ≡ old.frames.items
    → Meets g n new × (n < length g)
next_meets g old new f n h top more em ee et ef = (
  record {
    stands = record {
      parts = record { members = p.members; todo = rest } ∷ below;
      members = ee ∙ h.members ∙ ap members_of is;
      todo = split.2;
      frames = ef ∙ h.frames ∙ ap frames_of is;
      under_way = subst (λ ms. IsUnderWay g ms (n ∷ []) (record { members = p.members; todo = rest } ∷ below)) (sym em) (popped g old.marks.items p.members rest n below way);
    };
    leads = λ a i. popped_leads g old.marks.items p.members rest n below way a (subst (λ xs. Contains xs a) (ee ∙ h.members ∙ ap members_of is) i);
  },
  h.under_way.within n (subst (λ xs. Contains xs n) (sym et ∙ h.todo) (Contains-push new.todo.items n)),
)
  where
    at : (p : Part) × (below : List Part) × (h.parts ≡ p ∷ below) × (f ≡ record { members = length (members_of below); todo = length (todo_of below) })
    at = top_is g [] old f h top

    p : Part
    p = at.0

    below : List Part
    below = at.1

    is : h.parts ≡ p ∷ below
    is = at.2

    some : 0 < length p.todo
    some = elim (cases_eq (length p.todo) 0) [
      | inl e ↦ absurd (more (ap length (h.todo ∙ ap todo_of is) ∙ length-append (todo_of below) p.todo ∙ (omega (arith, e)) ∙ sym (ap (λ (x : Frame). x.todo) at.3)))
      | inr ne ↦ omega (arith, ne)
    ]

    split : (rest : List ℕ) × (p.todo ≡ rest ++ n ∷ []) × (new.todo.items ≡ todo_of below ++ rest)
    split = last_of (todo_of below) p.todo new.todo.items n (sym (ap todo_of is) ∙ sym h.todo ∙ et) some

    rest : List ℕ
    rest = split.0

    way : IsUnderWay g old.marks.items [] (record { members = p.members; todo = rest ++ n ∷ [] } ∷ below)
    way = subst (λ t. IsUnderWay g old.marks.items [] (record { members = p.members; todo = t } ∷ below)) split.1 (subst (IsUnderWay g old.marks.items []) is h.under_way)

-- a number that is met and was known

pub met_known : (g : Graph) (s : Search) (n : ℕ) → ((parts : List Part) → s.frames.items ≡ frames_of parts → IsPast s.marks.items (start_of parts) n) → Stands g (n ∷ []) s → Stands g [] s
met_known g s n past h = record {
  parts = h.parts;
  members = h.members;
  todo = h.todo;
  frames = h.frames;
  under_way = met g s.marks.items n h.parts (past h.parts h.frames) h.under_way;
}

pub closed_past : (marks : List Mark) (start n l : ℕ) → mark_at marks n ≡ Closed l → IsPast marks start n
closed_past marks start n l is = record { known = λ e. new_not_closed (mark_at marks n) l e is; from = λ p e. absurd (apart p (sym e ∙ is)) }
  where
    apart : (p : ℕ) → Open p ≡ Closed l → ⊥
    apart p e = cc

-- joining

pub joined_on : (g : Graph) (n at : ℕ) (old new : Search) (f : Frame) (front : List Frame) → mark_at old.marks.items n ≡ Open at
    → ((a : ℕ) → Contains old.members.items a → Leads (Refers g) a n)
    → old.frames.items ≡ front ++ f ∷ [] → at < f.members
    → new.marks.items ≡ old.marks.items → new.members.items ≡ old.members.items → new.todo.items ≡ old.todo.items → new.frames.items ≡ front
    → Stands g (n ∷ []) old → Stands g (n ∷ []) new
joined_on g n at old new f front is leads top lt em ee et ef h = by h.parts h.members h.todo h.frames h.under_way
  where
    by : (parts : List Part) → old.members.items ≡ members_of parts → old.todo.items ≡ todo_of parts → old.frames.items ≡ frames_of parts → IsUnderWay g old.marks.items (n ∷ []) parts → Stands g (n ∷ []) new
    by [] m t fs u = absurd (push_some front f (sym fs ∙ top))
    by (p ∷ []) m t fs u = absurd (omega (arith, lt, ap (λ (x : Frame). x.members) (same_from_push [] front (record { members = 0; todo = 0 }) f (sym fs ∙ top)).1))
    by (upper ∷ lower ∷ below) m t fs u =
        let both = same_from_push (frames_of (lower ∷ below)) front (record { members = length (members_of (lower ∷ below)); todo = length (todo_of (lower ∷ below)) }) f (sym fs ∙ top) in record {
          parts = joined lower upper ∷ below;
          members = ee ∙ m ∙ joined_members upper lower below;
          todo = et ∙ t ∙ joined_todo upper lower below;
          frames = ef ∙ sym both.0;
          under_way = subst (λ ms. IsUnderWay g ms (n ∷ []) (joined lower upper ∷ below)) (sym em)
              (joining g old.marks.items n at upper lower below is (omega (arith, lt, ap (λ (x : Frame). x.members) both.1)) (λ a i. leads a (subst (λ xs. Contains xs a) (sym m) i)) u);
        }

pub open_past : (g : Graph) (n at : ℕ) (s : Search) (f : Frame) → mark_at s.marks.items n ≡ Open at → IsTop s.frames.items f → f.members ≤ at → Stands g (n ∷ []) s → Stands g [] s
open_past g n at s f is top le h = met_known g s n past h
  where
    same : (p : ℕ) → mark_at s.marks.items n ≡ Open p → at ≡ p
    same p e = let x : Open at ≡ Open p = sym is ∙ e in cc

    known : IsKnown s.marks.items n
    known e = let x : New ≡ Open at = sym e ∙ is in cc

    past : (parts : List Part) → s.frames.items ≡ frames_of parts → IsPast s.marks.items (start_of parts) n
    past [] e = record { known = known; from = λ p x. omega arith }
    past (p ∷ below) e = record {
      known = known;
      from = λ q x. omega (arith, le, same q x, ap (λ (y : Frame). y.members) (same_from_push (frames_of below) top.0 (record { members = length (members_of below); todo = length (todo_of below) }) f (sym e ∙ top.1)).1);
    }

pub none_past : (g : Graph) (n at : ℕ) (s : Search) → mark_at s.marks.items n ≡ Open at → s.frames.items ≡ [] → Stands g (n ∷ []) s → Stands g [] s
none_past g n at s is none h = met_known g s n past h
  where
    known : IsKnown s.marks.items n
    known e = let x : New ≡ Open at = sym e ∙ is in cc

    past : (parts : List Part) → s.frames.items ≡ frames_of parts → IsPast s.marks.items (start_of parts) n
    past [] e = record { known = known; from = λ p x. omega arith }
    past (p ∷ below) e = absurd (push_some (frames_of below) (record { members = length (members_of below); todo = length (todo_of below) }) (sym none ∙ e))

-- closing

pub members_within : (g : Graph) (s : Search) (start : ℕ) → Stands g [] s → All (λ n. n < length s.marks.items) (drop start s.members.items)
members_within g s start h k d lt =
    let i : Contains s.members.items (get_or (drop start s.members.items) k d) = dropped s.members.items start (get_or (drop start s.members.items) k d) (Contains-get_or (drop start s.members.items) k d lt) in
    let j : Contains (members_of h.parts) (get_or (drop start s.members.items) k d) = subst (λ xs. Contains xs (get_or (drop start s.members.items) k d)) h.members i in
    marked_within s.marks.items (get_or (drop start s.members.items) k d) j.0 (opened s.marks.items (members_of h.parts) (get_or (drop start s.members.items) k d) h.under_way.are_open j)
  where
    dropped : (xs : List ℕ) (m n : ℕ) → Contains (drop m xs) n → Contains xs n
    dropped xs m n i = (m + i.0, omega (arith, i.1, length-drop m xs), sym (get_or-drop m xs i.0 n) ∙ i.2)

pub closed_on : (g : Graph) (old new : Search) (f : Frame) (front : List Frame) (l : ℕ) → old.frames.items ≡ front ++ f ∷ [] → length old.todo.items ≡ f.todo
    → ((n : ℕ) → Contains (drop f.members old.members.items) n → (l ≤ n) × Contains (drop f.members old.members.items) l)
    → length new.marks.items ≡ length old.marks.items → AreMarked (drop f.members old.members.items) (Closed l) old.marks.items new.marks.items
    → new.members.items ≡ take f.members old.members.items → new.todo.items ≡ old.todo.items → new.frames.items ≡ front
    → Stands g [] old → GoesOn g old new × (work g new < work g old)
closed_on g old new f front l top done least long marked ee et ef h = (
  record {
    stands = record {
      parts = below;
      members = ee ∙ ap (λ n. take n old.members.items) first ∙ ap (take (length (members_of below))) members ∙ take_at (members_of below) p.members (length (members_of below)) refl;
      todo = et ∙ h.todo ∙ ap todo_of is ∙ ap (λ xs. todo_of below ++ xs) no_todo ∙ append_nil_of (todo_of below);
      frames = ef ∙ sym (same_from_push (frames_of below) front (record { members = length (members_of below); todo = length (todo_of below) }) f (sym (ap frames_of is) ∙ sym h.frames ∙ top)).0;
      under_way = closing g old.marks.items new.marks.items p below l no_todo (low way.are_parts.0.some.0 way.are_parts.0.some.1).1 (λ a i. (low a i).0) long (subst (λ xs. AreMarked xs (Closed l) old.marks.items new.marks.items) own marked) way;
    };
    kept = λ n known e. known (back n e);
  },
  omega (arith, cost_kept old.marks.items new.marks.items g long back, ap length et, ap length ef, ap length top, length-append front (f ∷ [])),
)
  where
    at : (p : Part) × (below : List Part) × (h.parts ≡ p ∷ below) × (f ≡ record { members = length (members_of below); todo = length (todo_of below) })
    at = top_is g [] old f h (front, top)

    p : Part
    p = at.0

    below : List Part
    below = at.1

    is : h.parts ≡ p ∷ below
    is = at.2

    way : IsUnderWay g old.marks.items [] (p ∷ below)
    way = subst (IsUnderWay g old.marks.items []) is h.under_way

    first : f.members ≡ length (members_of below)
    first = ap (λ (x : Frame). x.members) at.3

    members : old.members.items ≡ members_of below ++ p.members
    members = h.members ∙ ap members_of is

    own : drop f.members old.members.items ≡ p.members
    own = ap (λ n. drop n old.members.items) first ∙ ap (drop (length (members_of below))) members ∙ drop_at (members_of below) p.members (length (members_of below)) refl

    append_nil_of : (xs : List ℕ) → xs ++ [] ≡ xs
    append_nil_of xs = append-nil xs

    no_todo : p.todo ≡ []
    no_todo = nil_from_length p.todo (omega (arith, done, ap (λ (x : Frame). x.todo) at.3, ap length h.todo, ap (λ ps. length (todo_of ps)) is, length-append (todo_of below) p.todo))

    low : (n : ℕ) → Contains p.members n → (l ≤ n) × Contains p.members l
    low n i = subst (λ xs. (l ≤ n) × Contains xs l) own (least n (subst (λ xs. Contains xs n) (sym own) i))

    back : (n : ℕ) → mark_at new.marks.items n ≡ New → mark_at old.marks.items n ≡ New
    back n e = elim (marked n) [ inl m ↦ absurd (new_not_closed (mark_at new.marks.items n) l e m.1) | inr o ↦ sym o.1 ∙ e ]

-- the members of the top frame, as a part of the open numbers

part_is : (xs : List ℕ) (start : ℕ) → take (length xs - start) (drop start xs) ≡ drop start xs
part_is xs start = take_rest xs start

pub part_within : (g : Graph) (s : Search) (xs : List ℕ) (marks : List Mark) (start : ℕ) → xs ≡ s.members.items → marks ≡ s.marks.items → Stands g [] s
    → All (λ n. n < length marks) (take (length xs - start) (drop start xs))
part_within g s xs marks start ex em h =
    subst (λ ys. All (λ n. n < length marks) ys) (sym (part_is xs start)) (subst (λ ys. All (λ n. n < length marks) (drop start ys)) (sym ex) (subst (λ ms. All (λ n. n < length ms) (drop start s.members.items)) (sym em) (members_within g s start h)))

pub closed_part : (g : Graph) (old new : Search) (f : Frame) (xs : List ℕ) (marks : List Mark) (l n : ℕ) (top : IsTop old.frames.items f) → length old.todo.items ≡ f.todo
    → xs ≡ old.members.items → marks ≡ old.marks.items
    → ((n : ℕ) → Contains (take (length xs - f.members) (drop f.members xs)) n → (l ≤ n) × Contains (take (length xs - f.members) (drop f.members xs)) l)
    → length new.marks.items ≡ length old.marks.items → AreMarked (take (length xs - f.members) (drop f.members xs)) (Closed l) marks new.marks.items
    → new.members.items ≡ take f.members old.members.items → new.todo.items ≡ old.todo.items → new.frames.items ≡ take (n - 1) old.frames.items → n ≡ length old.frames.items
    → Stands g [] old → GoesOn g old new × (work g new < work g old)
closed_part g old new f xs marks l n top done ex em least long marked ee et ef len h =
    let own : take (length xs - f.members) (drop f.members xs) ≡ drop f.members old.members.items = part_is xs f.members ∙ ap (drop f.members) ex in
    closed_on g old new f top.0 l top.1 done (subst (λ ys. (n : ℕ) → Contains ys n → (l ≤ n) × Contains ys l) own least) long
    (subst (λ ms. AreMarked (drop f.members old.members.items) (Closed l) ms new.marks.items) em (subst (λ ys. AreMarked ys (Closed l) marks new.marks.items) own marked))
    ee et (ef ∙ popped_front old.frames.items top.0 f n top.1 len) h

-- marks, one after another

pub marked_more : (marks new : List Mark) (members : List ℕ) (i n : ℕ) (m : Mark) → i < length members → n ≡ get_or members i 0 → n < length new
    → AreMarked (take i members) m marks new → AreMarked (take (i + 1) members) m marks (set new n m)
marked_more marks new members i n m lt is inside h k =
    subst (λ xs. (Contains xs k × (mark_at (set new n m) k ≡ m)) ⊎ ((Contains xs k → ⊥) × (mark_at (set new n m) k ≡ mark_at marks k))) (sym (take_more members i 0 lt ∙ ap (λ x. take i members ++ x ∷ []) (sym is))) (elim (cases_eq k n) [
      | inl e ↦ inl (subst (Contains (take i members ++ n ∷ [])) (sym e) (Contains-push (take i members) n), ap (mark_at (set new n m)) e ∙ marked_here new n m inside)
      | inr ne ↦ elim (h k) [
        | inl a ↦ inl (Contains-append_left (take i members) (n ∷ []) k a.0, marked_other new n k m ne ∙ a.1)
        | inr b ↦ inr (λ j. elim (Contains-push_cases (take i members) n k j) [ inl x ↦ b.0 x | inr x ↦ ne (sym x) ], marked_other new n k m ne ∙ b.1)
      ]
    ])

pub marked_none : (marks : List Mark) (m : Mark) → AreMarked [] m marks marks
marked_none marks m n = inr (λ i. none n i, refl)
