-- Rules that are read atom by atom, and rules that are printed.
use Rattle.std.proofs.Common.{◌≡◌, Bool, true, false, not, ◌&&◌, ◌||◌, List, [], ◌∷◌, ◌++◌, inl, inr, refl, sym, ◌∙◌, ap, subst, append_assoc, append-nil, arith}
use Rattle.std.specs.Prelude.{IsTrue}
use Rattle.std.specs.declared.cmp.Ordering.{Ordering}
use Rattle.std.specs.declared.cmp.Ordering.TheVariants.{Greater}
use Rattle.std.specs.Ordering.{ordering_reverse}
use Rattle.std.specs.List.{AllByRecursion, filter, flat_map}
use Rattle.std.specs.Cmp.{IsTotalOrder}
use Rattle.std.specs.FinMap.{IsAntisymmetric}
use Rattle.std.proofs.lemmas.Bool.Decides.{nat_tests}
use Rattle.res_path.proofs.Spelled.{both}
use Rattle.sched_rules.specs.declared.ws_atom.WsAtom.{WsAtom}
use Rattle.sched_rules.specs.declared.ws_atom.WsAtom.TheVariants.{Path, Mutex, Lines}
use Rattle.sched_rules.specs.Laws.{IsLawful}
use Rattle.sched_rules.specs.Rules.{StandsBefore, IsRule, has_wider, placed, all_placed, rule_of, covers, rule_contains}
use Rattle.sched_rules.specs.Atoms.{atom_contains, atom_cmp}
use Rattle.sched_rules.specs.AtomLaws.{atoms_lawful, atom_cmp_total, atom_cmp_exact}
use Rattle.sched_rules.proofs.Members.{IsIn, any_from, any_at, all_from, all_at, each_at, each_from}
use Rattle.sched_rules.proofs.RuleLaws.{rule_contains_both}
use Rattle.sched_rules.proofs.Placing.{placed_between}
use Rattle.sched_rules.proofs.Combining.{in_left, in_right, in_both, IsKeptOf, kept, in_rule_of, combined_in_turn, rule_of_is_rule, combined_contains_left, combined_contains_right, combined_least}
use Rattle.script_words.specs.declared.words.Token.{Token}
use Rattle.script_parts.specs.Parts.{atom_parts, rule_read}
use Rattle.script_parts.specs.Inside.Found.{FitsFront}
use Rattle.script_parts.specs.RuleLines.{has_lines, HasLines, can_be_named}

module _ {A : Type 0} {cmp : A → A → Ordering} {contains conflicts : A → A → Bool} (laws : IsLawful contains conflicts) (order : IsTotalOrder cmp) (exact : IsAntisymmetric cmp) where
  -- ---- a rule is the rule of its atoms

  all_below : (done xs : List A) (x : A) → IsRule cmp contains (done ++ x ∷ xs) → AllByRecursion (λ y. cmp x y ≡ Greater) done
  all_below [] xs x f = tt
  all_below (y ∷ done) xs x f =
      let stands = each_at (StandsBefore cmp contains y) x (done ++ x ∷ xs) f.0 (in_right x done (x ∷ xs) (inl refl)) in
      (order.antisymm x y ∙ ap ordering_reverse stands.below, all_below done xs x f.1)

  placed_last : (done xs : List A) (x : A) → IsRule cmp contains (done ++ x ∷ xs) → placed cmp x done ≡ done ++ x ∷ []
  placed_last done xs x f = ap (placed cmp x) (sym (append-nil done)) ∙ placed_between cmp x done [] (all_below done xs x f) tt

  placed_on : (done xs : List A) → IsRule cmp contains (done ++ xs) → all_placed cmp xs done ≡ done ++ xs
  placed_on done [] f = sym (append-nil done)
  placed_on done (x ∷ xs) f =
      ap (all_placed cmp xs) (placed_last done xs x f)
      ∙ placed_on (done ++ x ∷ []) xs (subst (IsRule cmp contains) (sym (append_assoc done (x ∷ []) xs)) f)
      ∙ append_assoc done (x ∷ []) xs

  all_left : (xs : List A) → filter (λ x. not (has_wider contains [] x)) xs ≡ xs
  all_left [] = refl
  all_left (x ∷ xs) = ap (λ (more : List A). x ∷ more) (all_left xs)

  pub rule_of_itself : (r : List A) → IsRule cmp contains r → rule_of cmp contains r ≡ r
  rule_of_itself r f =
      ap (rule_of cmp contains) (sym (append-nil r)) ∙ combined_in_turn laws order exact r [] f tt
      ∙ ap (λ (xs : List A). all_placed cmp xs []) (all_left r) ∙ placed_on [] r f

  -- ---- what is among its atoms already

  no : true ≡ false → ⊥
  no e = cc

  wider : A → A → Bool
  wider x outer = contains outer x && not (contains x outer)

  none_beyond : (ys : List A) (y z : A) → contains y z ≡ true → contains z y ≡ false → has_wider contains ys z ≡ false → (b : Bool) → has_wider contains ys y ≡ b → b ≡ false
  none_beyond ys y z h g n false e = refl
  none_beyond ys y z h g n true e =
      let w = any_at (λ outer. contains outer y && not (contains y outer)) ys e in
      let parts = both (contains w.0 y) (not (contains y w.0)) w.2 in
      let over = laws.contains_through w.0 y z parts.0 h in
      let under = not_under w.0 (contains z w.0) refl parts.0 in
      absurd (no (sym (any_from (λ outer. contains outer z && not (contains z outer)) w.0 ys w.1 ((λ i. over i && not (under i)))) ∙ n))
    where
      not_under : (w : A) (t : Bool) → contains z w ≡ t → contains w y ≡ true → contains z w ≡ false
      not_under w true s k = absurd (no (sym (laws.contains_through z w y s k) ∙ g))
      not_under w false s k = s

  pub record IsTop (all ys : List A) (x : A) : Type 0 where
    pub atom : A
    pub there : IsIn atom all
    pub over : contains atom x ≡ true
    pub outermost : has_wider contains ys atom ≡ false

  top : (all ys : List A) (x : A) → IsIn x all → ((y : A) → IsIn y ys → IsIn y all) → IsTop all ys x
  top all [] x i s = record { atom = x; there = i; over = laws.contains_itself x; outermost = refl }
  top all (y ∷ ys) x i s = by (top all ys x i (λ z j. s z (inr j)))
    where
      by : IsTop all ys x → IsTop all (y ∷ ys) x
      by t = at (contains y t.atom) refl (contains t.atom y) refl
        where
          kept_one : (contains y t.atom && not (contains t.atom y)) ≡ false → IsTop all (y ∷ ys) x
          kept_one e = record { atom = t.atom; there = t.there; over = t.over; outermost = (λ i. e i || t.outermost i) }

          at : (b : Bool) → contains y t.atom ≡ b → (c : Bool) → contains t.atom y ≡ c → IsTop all (y ∷ ys) x
          at false e c f = kept_one (λ i. e i && not (contains t.atom y))
          at true e true f = kept_one (λ i. e i && not (f i))
          at true e false f = record {
            atom = y;
            there = s y (inl refl);
            over = laws.contains_through y t.atom x e t.over;
            outermost = λ i. (laws.contains_itself y i && not (laws.contains_itself y i)) || none_beyond ys y t.atom e f t.outermost (has_wider contains ys y) refl i;
          }

  -- each of some atoms is in an atom of their rule
  covered : (all : List A) (x : A) → IsIn x all → covers contains (rule_of cmp contains all) x ≡ true
  covered all x i =
      let t = top all all x i (λ y j. j) in
      any_from (λ outer. contains outer x) t.atom (rule_of cmp contains all) (in_rule_of laws order exact all t.atom t.there t.outermost) t.over

  from_all : (all : List A) (z : A) → IsIn z (rule_of cmp contains all) → IsIn z all
  from_all all z i = (each_at (IsKeptOf laws order exact all) z (rule_of cmp contains all) (kept laws order exact all) i).there

  covered_through : (r s : List A) (x : A) → rule_contains contains r s ≡ true → covers contains s x ≡ true → covers contains r x ≡ true
  covered_through r s x h g =
      let y = any_at (λ outer. contains outer x) s g in
      let z = any_at (λ outer. contains outer y.0) r (all_at (covers contains r) y.0 s h y.1) in
      any_from (λ outer. contains outer x) z.0 r z.1 (laws.contains_through z.0 y.0 x z.2 y.2)

  -- the rule of some atoms and more is that of them all
  pub rule_of_more : (xs ys : List A) → IsRule cmp contains ys → rule_of cmp contains (rule_of cmp contains xs ++ ys) ≡ rule_of cmp contains (xs ++ ys)
  rule_of_more xs ys g =
      let f = rule_of_is_rule laws order exact xs in
      let front = rule_of cmp contains xs in
      let one = rule_of cmp contains (front ++ ys) in
      let all = rule_of cmp contains (xs ++ ys) in
      rule_contains_both laws order one all (rule_of_is_rule laws order exact (front ++ ys)) (rule_of_is_rule laws order exact (xs ++ ys))
      (all_from (covers contains one) all (λ z i.
      in_both (λ x. covers contains one x ≡ true) xs ys
      (λ x j. covered_through one front x (combined_contains_left laws order exact front ys f g) (covered xs x j))
      (λ x j. all_at (covers contains one) x ys (combined_contains_right laws order exact front ys f g) j) z (from_all (xs ++ ys) z i)))
      (combined_least laws order exact front ys all
      (all_from (covers contains all) front (λ z i. covered (xs ++ ys) z (in_left z xs ys (from_all xs z i))))
      (all_from (covers contains all) ys (λ z i. covered (xs ++ ys) z (in_right z xs ys i))))

pub read_itself : (rule : List WsAtom) → IsRule atom_cmp atom_contains rule → rule_read rule ≡ rule
read_itself rule f = rule_of_itself atoms_lawful atom_cmp_total atom_cmp_exact rule f

pub read_more : (atoms : List WsAtom) (atom : WsAtom) → rule_read (rule_read atoms ++ atom ∷ []) ≡ rule_read (atoms ++ atom ∷ [])
read_more atoms atom = rule_of_more atoms_lawful atom_cmp_total atom_cmp_exact atoms (atom ∷ []) (tt, tt)

-- ---- ranges of lines

-- a range that is read has a line
each_has_lines : (tokens rest : List Token) (atoms : List WsAtom) → FitsFront tokens (flat_map atom_parts atoms) rest → AllByRecursion HasLines atoms
each_has_lines tokens rest [] h = tt
each_has_lines [] rest (Path path ∷ atoms) h = absurd h
each_has_lines [] rest (Mutex name ∷ atoms) h = absurd h
each_has_lines [] rest (Lines file from to ∷ atoms) h = absurd h
each_has_lines (kind ∷ []) rest (Path path ∷ atoms) h = absurd h.1
each_has_lines (kind ∷ []) rest (Mutex name ∷ atoms) h = absurd h.1
each_has_lines (kind ∷ []) rest (Lines file from to ∷ atoms) h = absurd h.1
each_has_lines (kind ∷ place ∷ tokens) rest (Path path ∷ atoms) h = (refl, each_has_lines tokens rest atoms h.1.1)
each_has_lines (kind ∷ place ∷ tokens) rest (Mutex name ∷ atoms) h = (refl, each_has_lines tokens rest atoms h.1.1)
each_has_lines (kind ∷ place ∷ []) rest (Lines file from to ∷ atoms) h = absurd h.1.1
each_has_lines (kind ∷ place ∷ first ∷ []) rest (Lines file from to ∷ atoms) h = absurd h.1.1.1
each_has_lines (kind ∷ place ∷ first ∷ last ∷ tokens) rest (Lines file from to ∷ atoms) h =
    let reaches = h.1.1.1.0.0.reaches in
    (grind (arith, nat_tests, reaches), each_has_lines tokens rest atoms h.1.1.1.1)

-- a rule that is read can be named
pub read_lines : (tokens rest : List Token) (atoms rule : List WsAtom) → FitsFront tokens (flat_map atom_parts atoms) rest → rule_read atoms ≡ rule → IsTrue (can_be_named rule)
read_lines tokens rest atoms rule h e =
    subst (λ (rule : List WsAtom). IsTrue (can_be_named rule)) e
    (all_from has_lines (rule_read atoms) (λ atom i. each_at HasLines atom atoms (each_has_lines tokens rest atoms h) (from_all atoms_lawful atom_cmp_total atom_cmp_exact atoms atom i)))

pub named_lines : (rule : List WsAtom) → IsTrue (can_be_named rule) → AllByRecursion HasLines rule
named_lines rule h = each_from HasLines rule (λ atom i. all_at has_lines atom rule h i)
